use Rattle.std.proofs.Common.{◌++◌, ◌∙◌, List, ℕ, take, ap}
use Rattle.fw_log_json_packets.proofs.SwapTexts.{lock_written}
use Rattle.fw_log_json_packets.proofs.swaps.write_swap.Goals as goal

pub returns-clause-text : goal.returns-clause-text
returns-clause-text c =
    let prefix = c.write_row-at.ensures.text ∙ ap (λ (t : List ℕ). take c.args.at c.args.out.now ++ t) c.swap_prefix.ensures in
    lock_written (take c.args.at c.args.out.now) _ _ _ c.args.bytes.now 8 c.requires.eight prefix c.write_eight-at.ensures.text c.write_row.ensures.text
