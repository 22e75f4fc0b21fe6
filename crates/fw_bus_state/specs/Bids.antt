-- What lies on the bus between two half steps of candidates: their outstanding requests, as bytes.
use Rattle.std.specs.Prelude.{ℕ, Option, Some, None, if◌then◌else◌}
use Rattle.std.specs.Option.{option_map}
use Rattle.fw_async.specs.declared.packet.Packet.{Packet}
use Rattle.fw_async.specs.Wire.{Pairs}
use Rattle.fw_log_entry.specs.declared.entry.ResetEntry.{ResetEntry}
use Rattle.fw_model_account.specs.Words.{node_of}
use Rattle.fw_manager.specs.Bids.{CandidateState, is_standing_in, bid_request}
use Rattle.fw_node.specs.Packets.{packet_of}
use Rattle.fw_model_run.specs.Bidding.{bid_head}
use Rattle.fw_model_run.specs.Elections.{Election}
use Rattle.fw_model_run.specs.State.{State, epoch_of, manager_in}
use Rattle.fw_bus_state.specs.Wires.{HasRequests}

-- the packet of the outstanding request of a device's candidate
abbrev pub packet_of_bid : Option ResetEntry → ℕ → Option CandidateState → Option Packet
packet_of_bid r d None = None
packet_of_bid r d (Some c) =
    if is_standing_in (epoch_of r) c then option_map (λ to. packet_of (bid_head to (node_of r d)) (bid_request (node_of r d))) (manager_in r) else None

-- the packet of the request that stands of the candidate that a device is, if it is one
abbrev pub candidate_asks : Option ResetEntry → Election → ℕ → Option Packet
candidate_asks r e d = packet_of_bid r d (e.candidates d)

-- the pairs are the requests of candidates that are outstanding
abbrev pub HasBids : Pairs → State → Type 0
HasBids pairs s = HasRequests pairs s.account.latest (candidate_asks s.account.latest s.election)
