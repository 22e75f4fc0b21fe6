-- What was carried out on a bus since it stood where it was kept, after one command more.
use Rattle.fw_explore.proofs.Common.{◌≡◌, ℕ, List, [], Bool, Option, Some, ap, sym, subst, ◌∙◌, refl, Machine, Since}
use Rattle.std.proofs.Common.{IsTrue}
use Rattle.fw_bus.specs.Changes.{IsChanged, WhereHalf, WhereNothing, counted_in}
use Rattle.fw_bus.specs.declared.change.Changed.{Changed}
use Rattle.fw_bus.specs.declared.change.Changed.TheVariants as Changes
use Rattle.fw_explore.specs.KeptBuses.{Follows, IsSince}
use Rattle.fw_explore.specs.declared.since.Since.TheVariants.{Nothing, Counted, Half, Any}

pub since_then : {P : Type 0} (Kept : P → List ℕ → Machine → Type 0) (places : P) (at : List ℕ) (old new : Machine) (since r : Since) (changed : Changed) (silent : Bool) (held after : Option (List ℕ))
    → IsSince Kept places at since old → Follows since changed silent r → IsChanged changed old new → WhereHalf changed (WhereNothing held after (new ≡ counted_in old))
    → held ≡ Some [] → (IsTrue silent → after ≡ Some []) → IsSince Kept places at r new
since_then Kept places at old new since Nothing changed silent held after was follows is counts before none = absurd follows
since_then Kept places at old new since Counted changed silent held after was follows is counts before none =
    let half = follows.2 in
    let count = subst (λ (c : Changed). WhereHalf c (WhereNothing held after (new ≡ counted_in old))) half.2 counts in
    (old, subst (λ (s : Since). IsSince Kept places at s old) follows.0 was, count [] before (none follows.1))
since_then Kept places at old new since (Half device asks) changed silent held after was follows is counts before none =
    (old, subst (λ (s : Since). IsSince Kept places at s old) follows.0 was, subst (λ (c : Changed). IsChanged c old new) follows.1 is)
since_then Kept places at old new since Any changed silent held after was follows is counts before none = tt
