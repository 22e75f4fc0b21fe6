use Rattle.std.proofs.Common.{[], codes, arith, refl}
use Rattle.fw_log_json_packets.proofs.Joins.{one_text}
use Rattle.fw_log_json_packets.proofs.fields.complete.Goals as goal

pub returns : goal.returns
returns c = one_text [] _ (codes ",\"rcode\":") 0 (codes ",\"rcode_name\":") (codes "complete") (omega arith) refl
