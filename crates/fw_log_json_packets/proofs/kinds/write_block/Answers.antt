use Rattle.std.proofs.Common.{[], codes, arith, refl}
use Rattle.fw_log_json_packets.proofs.Joins.{one_text}
use Rattle.fw_log_json_packets.proofs.kinds.write_block.Goals as goal

pub returns : goal.returns
returns c = one_text [] _ (codes ",\"tcode\":") 1 (codes ",\"tcode_name\":") (codes "write_block_request") (omega arith) refl
