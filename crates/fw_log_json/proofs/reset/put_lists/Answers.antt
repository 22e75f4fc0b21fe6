use Rattle.fw_log_json.proofs.Common.{List, map, on_ok_weaker, PhyPacket, NodeRow, array, id_object, node_objects, then, moved}
use Rattle.fw_log_json_packets.proofs.Joins.{keyed}
use Rattle.fw_log_json.proofs.reset.put_lists.Goals as goal

pub returns : goal.returns
returns c =
    let nodes = moved (λ (r : List NodeRow). array (node_objects 0 r)) _ _ _ _ c.as_slice.ensures.value c.in_ok-put_nodes.ensures in
    let keyed_nodes = keyed _ _ _ _ _ c.in_ok-put_word.ensures nodes in
    on_ok_weaker c.put_ids.result
    (λ piece. then _ _ _ _ _ keyed_nodes
    (keyed _ _ _ _ _ c.in_ok-put_word-2.ensures (moved (λ (p : List PhyPacket). array (map id_object p)) _ _ _ _ c.as_slice-2.ensures.value piece)))
    c.put_ids.ensures
