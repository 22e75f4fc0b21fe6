-- No swap leaves more units than there are.
use Rattle.fw_watch_laws.proofs.Common.{◌≡◌, refl, ap, ◌∙◌, subst, ℕ, ◌-◌, ◌≤◌, nat_lt, Bool, true, false, List, Option, Some, None, arith, ⊤, nat_tests, Swap, ResetEntry, Timed, Account, total}
use Rattle.fw_watch_laws.proofs.Common.{
  Place,
  word_of,
  place_at,
  WatchedRegister,
  Bandwidth,
  ChannelsHigh,
  ChannelsLow,
  Output,
  Input,
  is_managed,
  Said,
  Answer,
  State,
  Made,
  made,
  IsOrderly,
  offset_of,
}
use Rattle.fw_watch_laws.proofs.Common.{HasNone}
use Rattle.fw_model_account.specs.Moves.{after}
use Rattle.fw_watch.specs.Swaps.{many_remarks}
use Rattle.fw_watch_laws.specs.Orderly.{is_too_many}
use Rattle.fw_watch_laws.proofs.Offsets.{managed_of, managed_place}
use Rattle.fw_watch_laws.proofs.Remarked.{Kind, OfReset, OfWord, OfSwap, OfUnits, OfNew, OfSeveral, OfMore, OfChannel, IsFree}
use Rattle.fw_watch_laws.proofs.Tests.{is_of_many, is_too_many_by}
use Rattle.fw_watch_laws.proofs.Passing.{IsNone}
use Rattle.fw_watch_laws.proofs.Quiet.{NoneOdd, units_free, new_free, several_free, more_free}
use Rattle.fw_watch_laws.proofs.Silent.{IsOfSwaps}
use Rattle.fw_watch_laws.proofs.Swaps.{IsAccountSwap}
use Rattle.fw_watch_laws.proofs.AtManager.{silent}

-- the register of the account is the one that it is told as
pub managed_in : (o : Option ResetEntry) (n : ℕ) (r : WatchedRegister) (v : Place) → is_managed r ≡ true → place_at o n (offset_of r) ≡ Some v → v ≡ managed_of r
managed_in None n r v m e = cc
managed_in (Some q) n r v m e = (managed_place r q n v m e).1

pub managed_is : (l m : Account) (a : Answer) (swap : Swap) (r : WatchedRegister) (i : IsAccountSwap l m a swap) → a.at.register ≡ r → is_managed r ≡ true → i.register ≡ managed_of r
managed_is l m a swap r i e h =
    let P : WatchedRegister → Type 0 = λ x. place_at l.latest a.at.node (offset_of x) ≡ Some i.register in
    managed_in l.latest a.at.node r i.register h (subst P e i.place)

few_none : (q : Said → Bool) (m : Made) → m.new ≤ 4915 → IsNone q (many_remarks m)
unfolding many_remarks
few_none q m h = let no : nat_lt 4915 m.new ≡ false = grind (arith, nat_tests) in rw no refl

free : (k : Kind) → is_of_many k ≡ false → IsFree (λ (s : Said). is_too_many s.remark) k
free k n x e = is_too_many_by x.remark ∙ ap is_of_many e ∙ n

of_swaps : IsOfSwaps (λ (s : Said). is_too_many s.remark)
of_swaps = record { reset = free OfReset refl; word = free OfWord refl; swap = free OfSwap refl; channel = free OfChannel refl }

-- the units that are left after a move
left_after : (l m : Account) (a : Answer) (swap : Swap) → IsAccountSwap l m a swap → a.at.register ≡ Bandwidth → swap.new ≤ 4915
left_after l m a swap i e =
    let x = i.move in
    let P : Place → Type 0 = λ v. word_of (after i.controller x.plug x.move l) v ≡ swap.new in
    let w : 4915 - total (after i.controller x.plug x.move l).allocations ≡ swap.new = subst P (managed_is l m a swap Bandwidth i e refl) x.is.later in
    omega (arith, w)

none_odd : (r : WatchedRegister) (l m : Account) (a : Answer) (swap : Swap) (cycle : ℕ) (u : State) → IsAccountSwap l m a swap → a.at.register ≡ r
    → NoneOdd (λ (s : Said). is_too_many s.remark) r u (made cycle a swap)
none_odd Bandwidth l m a swap cycle u i e =
    (few_none (λ (s : Said). is_too_many s.remark) (made cycle a swap) (left_after l m a swap i e), units_free _ u (made cycle a swap) (free OfUnits refl))
none_odd ChannelsHigh l m a swap cycle u i e = (new_free _ u (made cycle a swap) 0 (free OfNew refl), several_free _ (made cycle a swap) (free OfSeveral refl))
none_odd ChannelsLow l m a swap cycle u i e = (new_free _ u (made cycle a swap) 32 (free OfNew refl), several_free _ (made cycle a swap) (free OfSeveral refl))
none_odd (Output k) l m a swap cycle u i e = more_free _ (made cycle a swap) (free OfMore refl)
none_odd (Input k) l m a swap cycle u i e = more_free _ (made cycle a swap) (free OfMore refl)

pub none_too_many : (entries : List Timed) → IsOrderly entries → HasNone is_too_many entries
none_too_many entries o =
    silent (λ (s : Said). is_too_many s.remark) entries (λ prefix l. ⊤) o of_swaps (λ prefix rest t l m y p. tt) tt
    (λ prefix rest t l m a swap u y p i e. none_odd a.at.register l m a swap t.cycle u i refl)
