use Rattle.fw_log_json.proofs.Common.{on_ok_weaker, then, moved}
use Rattle.fw_log_json_packets.specs.Packets.{head_fields}
use Rattle.fw_log_json.proofs.packet.put_packet.Goals as goal

pub returns : goal.returns
returns c =
    let t2 = then _ _ _ _ _ c.in_ok-put_tcode.ensures (moved (head_fields) _ _ _ _ c.head_of.ensures c.in_ok-put_head.ensures) in
    let t3 = then _ _ _ _ _ t2 c.in_ok-put_target.ensures in
    on_ok_weaker c.put_contents.result (λ piece. then _ _ _ _ _ t3 piece) c.put_contents.ensures
