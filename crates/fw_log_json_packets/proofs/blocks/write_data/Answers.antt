use Rattle.std.proofs.Common.{take}
use Rattle.fw_log_json_packets.proofs.SwapTexts.{data_written}
use Rattle.fw_log_json_packets.proofs.blocks.write_data.Goals as goal

pub returns-clause-text : goal.returns-clause-text
returns-clause-text c =
    data_written (take c.args.at c.args.out.now) _ _ _ c.args.bytes.now c.write_row-at.ensures.text c.write_digits-at.ensures.text c.write_row.ensures.text
