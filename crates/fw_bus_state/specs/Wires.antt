-- What lies on the bus between two half steps, against a state of a run: the outstanding requests, as bytes.
use Rattle.std.specs.Prelude.{ℕ, ◌≡◌, Option, Some, None}
use Rattle.std.specs.Option.{option_and_then, option_map}
use Rattle.fw_async.specs.declared.packet.Packet.{Packet}
use Rattle.fw_async.specs.Async.{spelling}
use Rattle.fw_async.specs.Wire.{Pairs, bytes_from}
use Rattle.fw_cmp_jobs.specs.declared.directory.Directory.{Directory}
use Rattle.fw_cmp_jobs.specs.declared.request.Access.{Access}
use Rattle.fw_cmp_jobs.specs.Requests.{addressee_of, request_of}
use Rattle.fw_cmp.specs.Works.{standing_in}
use Rattle.fw_log_entry.specs.declared.entry.ResetEntry.{ResetEntry}
use Rattle.fw_model_account.specs.Words.{node_of}
use Rattle.fw_node.specs.Packets.{packet_of}
use Rattle.fw_model_controllers.specs.Requests.{procedure_head}
use Rattle.fw_model_run.specs.State.{State, device_in, directory_of}

-- ---- by the latest bus reset, what controllers are told, and what they are at

-- the packet of a request of the controller of device d
abbrev pub packet_for : Option ResetEntry → Directory → ℕ → Option Access → Option Packet
packet_for latest told d None = None
packet_for latest told d (Some a) = option_map (λ to. packet_of (procedure_head to (node_of latest d)) (request_of a)) (addressee_of told a.target)

-- ---- by the state

-- the packet of the request that stands of the controller of a device
abbrev pub controller_asks : State → ℕ → Option Packet
controller_asks s d = packet_for s.account.latest (directory_of s) d (standing_in (s.controllers d).current)

-- Each node has a pair with its number exactly if a request of its device stands, with that request's spelling, and there is no other pair.
pub record HasRequests (pairs : Pairs) (latest : Option ResetEntry) (asked : ℕ → Option Packet) : Type 0 where
  pub each : (node : ℕ) → bytes_from node pairs ≡ option_map spelling (option_and_then asked (device_in latest node))

-- the pairs are the requests of controllers that are outstanding
abbrev pub HasWire : Pairs → State → Type 0
HasWire pairs s = HasRequests pairs s.account.latest (controller_asks s)
