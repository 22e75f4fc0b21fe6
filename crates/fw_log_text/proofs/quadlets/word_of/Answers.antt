use Rattle.std.proofs.Common.{List, ℕ, ◌∷◌, ◌∙◌, ap, sym}
use Rattle.fw_text.proofs.HexLaws.{eight_digits}
use Rattle.fw_log_text.proofs.quadlets.word_of.Goals as goal

pub returns : goal.returns
returns c = rw (c.eight.ensures ∙ eight_digits c.args.q) (ap (λ (x : List ℕ). 32 ∷ x) (sym (eight_digits c.args.q)))
