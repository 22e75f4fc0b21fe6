-- The standing request of a controller is carried out.
use Rattle.std.specs.Prelude.{ℕ, ◌≡◌, List, Some, slice_set}
use Rattle.fw_async.specs.Reader.{Spells}
use Rattle.fw_async.specs.Wire.{without}
use Rattle.fw_async.specs.declared.packet.Packet.{Packet}
use Rattle.fw_terms.specs.declared.label.Label.TheVariants.{Procedure}
use Rattle.fw_csr.specs.declared.reply.Reply.{Reply}
use Rattle.fw_cmp_jobs.specs.declared.request.Access.{Access}
use Rattle.fw_cmp.specs.Works.{standing_in}
use Rattle.fw_cmp_jobs.specs.Requests.{addressee_of, request_of}
use Rattle.fw_node.specs.Packets.{packet_of, request_head, request_in, response_of, reply_in}
use Rattle.fw_node.specs.State.{NodeState, space_of, after_request}
use Rattle.fw_devices.specs.Network.{node_at}
use Rattle.fw_devices.specs.Entries.{node_device}
use Rattle.fw_bus_state.specs.declared.machine.Machine.{Machine}
use Rattle.fw_bus_state.specs.Streaming.{looked_at}
use Rattle.fw_bus_state.specs.Tables.{states_of}

-- what the machine did: the packet of the outstanding request went to the node of its addressee, which answered
pub record Sent (m : Machine) (d : ℕ) (a : Access) (to device own : ℕ) (packet response : Packet) : Type 0 where
  pub asks : Some a ≡ standing_in (states_of m.controllers d).state.current
  pub goes : Some to ≡ addressee_of m.directory a.target
  pub at : Some device ≡ node_device m.devices.latest.nodes to
  pub own_is : (node_at m.devices.nodes d).number ≡ Some own
  pub packet_is : packet ≡ packet_of (request_head own to Procedure) (request_of a)
  pub answered : (n : ℕ) → (node_at m.devices.nodes device).number ≡ Some n
      → response_of (space_of n m.cycle (node_at m.devices.nodes device)) packet ≡ Some response

-- the nodes once the target has carried the request out
abbrev pub nodes_after : List NodeState → ℕ → Packet → List NodeState
nodes_after nodes device packet = slice_set nodes device (after_request (request_in packet) (node_at nodes device))

-- The outstanding request of device d is carried out and off the wire; these are the bytes of the response, and the reply in it. The
-- controller has not heard it yet.
pub record Serves (m now : Machine) (d : ℕ) (bytes : List ℕ) (reply : Reply) : Type 0 where
  pub access : Access
  pub to : ℕ
  pub device : ℕ
  pub own : ℕ
  pub packet : Packet
  pub response : Packet
  pub sent : Sent m d access to device own packet response
  pub spells : Spells response bytes
  pub carries : reply_in response ≡ Some reply
  pub after : now ≡ record m {
    devices = record m.devices { nodes = nodes_after m.devices.nodes device packet };
    wire = without own m.wire;
    streams = looked_at device (nodes_after m.devices.nodes device packet) m.streams;
  }
