use Rattle.std.proofs.Common.{List, ℕ, ◌∷◌, ◌∙◌, ap, sym}
use Rattle.fw_text.proofs.HexLaws.{four_digits}
use Rattle.fw_log_text.proofs.HexLaws.{three_digits}
use Rattle.fw_log_text.proofs.quadlets.offset_of.Goals as goal

pub returns : goal.returns
returns c = rw (c.four.ensures ∙ four_digits c.args.offset) (ap (λ (x : List ℕ). 32 ∷ x) (sym (three_digits c.args.offset)))
