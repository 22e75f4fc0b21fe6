use Rattle.std.proofs.Common.{◌++◌, ◌∙◌, List, ℕ, take, ap}
use Rattle.fw_log_json_packets.proofs.HeadTexts.{head_written}
use Rattle.fw_log_json_packets.proofs.fields.write_head.Goals as goal

pub returns-clause-text : goal.returns-clause-text
returns-clause-text c =
    let first = c.write_row-at.ensures.text ∙ ap (λ (t : List ℕ). take c.args.at c.args.out.now ++ t) c.addressee.ensures in
    let last = c.write_row.ensures.text ∙ ap (λ (t : List ℕ). take c.write_number-at.result c.write_number-at.new.out ++ t) c.usual_sender.ensures in
    head_written (take c.args.at c.args.out.now) _ _ _ c.args.h.now c.requires.usual first c.write_number-at.ensures.text last
