use Rattle.std.proofs.Common.{◌≡◌, ◌≤◌, ◌++◌, ◌∙◌, List, ℕ, codes, decimal, take, arith, ap, sym}
use Rattle.fw_log_json_packets.proofs.IsoTexts.{three_digits}
use Rattle.fw_log_json_packets.proofs.Joins.{keyed}
use Rattle.fw_log_json_packets.proofs.blocks.write_length.Goals as goal

pub returns-then-n-lt100-clause-text : goal.returns-then-n-lt100-clause-text
returns-then-n-lt100-clause-text c =
    keyed (take c.args.at c.args.out.now) _ _ (codes ",\"data_length\":") (decimal c.args.n) c.write_row-at.ensures.text c.write_number.ensures.text

pub returns-clause-text : goal.returns-clause-text
returns-clause-text c =
    let long : 100 ≤ c.args.n = omega (arith, c.if-n-lt100.false) in
    let digits = sym (three_digits c.args.n long c.requires.few) in
    keyed (take c.args.at c.args.out.now) _ _ (codes ",\"data_length\":") (decimal c.args.n) c.write_row-at.ensures.text
    (c.write_row.ensures.text ∙ ap (λ (t : List ℕ). take c.write_row-at.result c.write_row-at.new.out ++ t) digits)
