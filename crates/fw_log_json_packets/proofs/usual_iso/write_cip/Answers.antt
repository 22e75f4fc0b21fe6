use Rattle.std.proofs.Common.{◌++◌, ◌∙◌, List, ℕ, take, ap}
use Rattle.fw_log_json_packets.proofs.CipTexts.{cip_written}
use Rattle.fw_log_json_packets.proofs.usual_iso.write_cip.Goals as goal

pub returns-clause-text : goal.returns-clause-text
returns-clause-text c =
    let sizes = c.write_row-at.ensures.text ∙ ap (λ (t : List ℕ). take c.write_count-at.result c.write_count-at.new.out ++ t) c.sizes.ensures in
    cip_written (take c.args.at c.args.out.now) _ _ _ _ c.args.c.now c.requires.usual c.write_count-at.ensures.text sizes c.write_count-at-2.ensures.text c.write_format.ensures.text
