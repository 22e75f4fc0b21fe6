use Rattle.std.proofs.Common.{◌≡◌, Bool, true, false, Decides, refl}
use Rattle.std.proofs.lemmas.Slice.Eq.{slice_eq-Decides}
use mathlib.Core.Bool.{beq}
use Rattle.fw_explore_told.proofs.past.same_done.Goals as goal

same_marks : (a b : Bool) → Decides (beq a b) (a ≡ b)
same_marks true true = (λ same. refl, λ same. refl)
same_marks true false = (λ same. absurd (cc same), λ same. absurd (cc same))
same_marks false true = (λ same. absurd (cc same), λ same. absurd (cc same))
same_marks false false = (λ same. refl, λ same. refl)

pub returns : goal.returns
returns c = λ same. (slice_eq-Decides same_marks c.args.done.now c.args.other.now c.eq.result c.eq.ensures).0 same
