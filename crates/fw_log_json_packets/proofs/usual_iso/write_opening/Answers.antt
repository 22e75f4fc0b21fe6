use Rattle.std.proofs.Common.{◌++◌, ◌∙◌, Option, List, ℕ, codes, decimal, take, ap, sym}
use Rattle.fw_cip.specs.Iso.{data_length}
use Rattle.fw_log_json_packets.specs.Values.{field}
use Rattle.fw_log_json_packets.proofs.IsoTexts.{long_opening, short_opening}
use Rattle.fw_log_json_packets.proofs.usual_iso.write_opening.Goals as goal

-- what is due of a block
abbrev due : Option (List ℕ) → List ℕ
due b = field (codes ",\"data_length\":") (decimal (data_length b)) ++ field (codes ",\"tag\":") (decimal 1)

pub returns-in-Some-clause-text : goal.returns-in-Some-clause-text
returns-in-Some-clause-text c =
    c.write_row.ensures.text ∙ ap (λ (t : List ℕ). take c.args.at c.args.out.now ++ t) (long_opening ∙ ap due (sym c.in-Some.is))

pub returns-in-None-clause-text : goal.returns-in-None-clause-text
returns-in-None-clause-text c =
    c.write_row-in-None.ensures.text ∙ ap (λ (t : List ℕ). take c.args.at c.args.out.now ++ t) (short_opening ∙ ap due (sym c.in-None.is))
