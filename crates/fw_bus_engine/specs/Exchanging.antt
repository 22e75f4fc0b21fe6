-- Requests that are outstanding on a wire, and what is written of an exchange.
use Rattle.std.specs.Prelude.{ℕ, ◌≡◌, ◌<◌, ◌%◌, List, length, Option, Some, Ok, IsErr, IsSome, IsTrue}
use Rattle.std.specs.declared.result.Result.{Result}
use Rattle.fw_async.specs.Async.{Fits, spelling}
use Rattle.fw_async.specs.Heads.{head_of}
use Rattle.fw_async.specs.Wire.{Pairs, bytes_from, without}
use Rattle.fw_async.specs.declared.packet.Packet.{Packet}
use Rattle.fw_terms.specs.Devices.{has_link}
use Rattle.fw_csr.specs.declared.reply.Reply.{Reply}
use Rattle.fw_log_entry.specs.declared.entry.Entry.{Entry}
use Rattle.fw_node.specs.Packets.{IsServed, request_in}
use Rattle.fw_node.specs.State.{space_of}
use Rattle.fw_devices.specs.Entries.{node_device}
use Rattle.fw_devices.specs.Network.{Network, node_at}
use Rattle.fw_bus_state.specs.Giving.{Gives, Sides, between}
use Rattle.fw_bus_state.specs.declared.machine.Machine.{Machine}
use Rattle.fw_bus_engine.specs.Serving.{nodes_after}

-- A request of the node with this number stands on the wire, to the node of a device that may answer.
pub record IsOutstanding (n : Network) (wire : Pairs) (from device : ℕ) (packet : Packet) : Type 0 where
  pub stands : bytes_from from wire ≡ Some (spelling packet)
  pub fits : Fits packet
  pub asks : IsSome (request_in packet)
  pub goes : node_device n.latest.nodes ((head_of packet).destination % 64) ≡ Some device
  pub declared : device < length n.nodes
  pub number : IsSome (node_at n.nodes device).number
  pub link : IsTrue (has_link (node_at n.nodes device).kind)

-- It is carried out and off the wire; these are the bytes of the response, the device that answered, and the reply in the response.
pub record IsCarriedOut (n now : Network) (wire left : Pairs) (cycle from device : ℕ) (packet : Packet) (bytes : List ℕ) (result : ℕ × Reply) : Type 0 where
  pub target : result.0 ≡ device
  pub response : (number : ℕ) → (node_at n.nodes device).number ≡ Some number
      → IsServed (space_of number cycle (node_at n.nodes device)) packet bytes result.1
  pub registers : now ≡ record n { nodes = nodes_after n.nodes device packet }
  pub rest : left ≡ without from wire

-- Of two entries one after the other both were written, or a prefix of the first, or the first and a prefix of the second.
pub data GivesBoth {T E : Type 0} (m : Machine) (e f : Entry) (sides : Sides) (result : Result T E) : Type 0 where
  CutOff : (first : Result T E) → IsErr first → IsErr result → Gives m e sides first → GivesBoth m e f sides result
  Second : (mid : Option (List ℕ)) (faults : ℕ) (done : T) → Gives {T = T} {E = E} m e (between sides.held mid sides.count faults) (Ok done)
      → Gives m f (between mid sides.after faults sides.counts) result → GivesBoth m e f sides result
