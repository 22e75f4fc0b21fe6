use Rattle.fw_log_json_packets.proofs.SwapTexts.{swap_text}
use Rattle.fw_log_json_packets.proofs.swaps.swap_prefix.Goals as goal

pub returns : goal.returns
returns c = swap_text
