use Rattle.std.proofs.Common.{rules, ◌≡◌, Decides}
use Rattle.std.proofs.lemmas.Slice.Eq.{slice_eq-Decides}
use Rattle.fw_avc.specs.declared.notify.Kept.{Kept}
use Rattle.fw_avc.specs.contracts.notify.KeptPartialEq.TheImpl.{eq-value}
use Rattle.fw_avc.proofs.copies.same_kept.Goals as goal

eq_kept : (a b : Kept) → Decides (eq-value.it a b) (a ≡ b)
eq_kept a b = search rules

pub returns : goal.returns
returns c = λ same. (slice_eq-Decides {E = eq-value.it} eq_kept c.args.kept.now c.args.other.now c.eq.result c.eq.ensures).0 same
