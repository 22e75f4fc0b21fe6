use Rattle.fw_log_json.proofs.Common.{on_ok_weaker, then}
use Rattle.fw_log_json_packets.proofs.Joins.{keyed}
use Rattle.fw_log_json.proofs.ids.put_ports.Goals as goal

pub returns : goal.returns
returns c =
    let numbers = keyed _ _ _ _ _ c.in_ok-put_word.ensures c.in_ok-put_port_numbers.ensures in
    on_ok_weaker c.put_port_names.result (λ piece. then _ _ _ _ _ numbers (keyed _ _ _ _ _ c.in_ok-put_word-2.ensures piece)) c.put_port_names.ensures
