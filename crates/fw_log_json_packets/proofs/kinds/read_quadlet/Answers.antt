use Rattle.std.proofs.Common.{[], codes, arith, refl}
use Rattle.fw_log_json_packets.proofs.Joins.{one_text}
use Rattle.fw_log_json_packets.proofs.kinds.read_quadlet.Goals as goal

pub returns : goal.returns
returns c = one_text [] _ (codes ",\"tcode\":") 4 (codes ",\"tcode_name\":") (codes "read_quadlet_request") (omega arith) refl
