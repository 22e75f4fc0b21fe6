use Rattle.std.proofs.Common.{[], codes, arith, refl}
use Rattle.fw_log_json_packets.proofs.Joins.{longer_text}
use Rattle.fw_log_json_packets.proofs.kinds.lock_reply.Goals as goal

pub returns : goal.returns
returns c = longer_text [] _ (codes ",\"tcode\":") 11 (codes ",\"tcode_name\":") (codes "lock_response") (omega arith) (omega arith) refl
