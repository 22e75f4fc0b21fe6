-- The request packet of a transaction of the script, by the nodes' numbers.
use Rattle.std.specs.Prelude.{ℕ, ◌≡◌, List, Some}
use Rattle.fw_async.specs.declared.packet.Packet.{Packet}
use Rattle.fw_node.specs.Packets.{packet_of}
use Rattle.fw_node.specs.State.{NodeState}
use Rattle.fw_devices.specs.Network.{node_at}
use Rattle.fw_order.specs.declared.order.Transaction.{Transaction}
use Rattle.fw_model_run.specs.Spaces.{access_request, script_head}

-- the packet is the request of a transaction of the script, between the nodes of its devices
pub record IsRequest (nodes : List NodeState) (x : Transaction) (request : Packet) : Type 0 where
  pub to : ℕ
  pub from : ℕ
  pub to_is : (node_at nodes x.to).number ≡ Some to
  pub from_is : (node_at nodes x.from).number ≡ Some from
  pub request_is : request ≡ packet_of (script_head to from) (access_request x.access)
