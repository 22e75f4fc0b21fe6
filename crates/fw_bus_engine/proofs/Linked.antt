-- Devices with a link: what a call on one asks for.
use Rattle.fw_bus_engine.proofs.Common.{ℕ, length, is_some, subst, IsTrue, has_link, Network, is_node, kind_at, kinds_of, node_at, is_linked_in}
use Rattle.std.proofs.Common.{nat_lt}
use Rattle.std.proofs.lemmas.Bool.{and_parts, ltb-true}
use Rattle.fw_devices.proofs.NetworkLaws.{kind_of_node}
use Rattle.fw_bus_engine.proofs.FrameCalls.{Reaches}

-- it is a node
pub linked_node : (n : Network) (d : ℕ) → IsTrue (is_linked_in n d) → IsTrue (is_node n.nodes d)
linked_node n d linked = (and_parts (is_node n.nodes d) (has_link (kind_at (kinds_of n.nodes) d)) linked).0

-- which answers
pub linked_reaches : (n : Network) (d : ℕ) → IsTrue (is_linked_in n d) → Reaches n d
linked_reaches n d linked =
    let parts = and_parts (is_node n.nodes d) (has_link (kind_at (kinds_of n.nodes) d)) linked in
    let on = and_parts (nat_lt d (length n.nodes)) (is_some (node_at n.nodes d).number) parts.0 in
    record {
      declared = ltb-true d (length n.nodes) on.0;
      number = on.1;
      link = subst (λ k. IsTrue (has_link k)) (kind_of_node n.nodes d) parts.1;
    }
