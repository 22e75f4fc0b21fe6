use Rattle.fw_log_json_packets.proofs.SwapTexts.{old_text}
use Rattle.fw_log_json_packets.proofs.swaps.old_prefix.Goals as goal

pub returns : goal.returns
returns c = old_text
