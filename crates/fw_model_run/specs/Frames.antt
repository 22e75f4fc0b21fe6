-- Frames between nodes (IEC 61883-1, 9): a frame is written, the write is answered, and a unit carries a command out.
use Rattle.std.specs.Prelude.{ℕ, ◌≡◌, ◌==◌, List, length, Option, Some, None, if◌then◌else◌, IsTrue}
use Rattle.std.specs.Int.{from_be_bytes, w32}
use Rattle.fw_terms.specs.Tables.{update}
use Rattle.fw_async.specs.declared.packet.Head.{Head}
use Rattle.fw_async.specs.declared.packet.Packet.{Packet}
use Rattle.fw_csr.specs.declared.offset.TheConstants.{FCP_COMMAND, FCP_RESPONSE}
use Rattle.fw_csr.specs.declared.request.Request.{Request}
use Rattle.fw_csr.specs.declared.request.Request.TheVariants as Asks
use Rattle.fw_fcp.specs.declared.frame.Frame.{Frame}
use Rattle.fw_fcp.specs.Frames.{spelling}
use Rattle.fw_avc.specs.Replies.{IsResponse, ruling}
use Rattle.fw_model_account.specs.Words.{node_of}
use Rattle.fw_node.specs.Fcp.{IsCommand, IsSendable}
use Rattle.fw_node.specs.Packets.{packet_of}
use Rattle.fw_model_run.specs.Decks.{DeckState, Obeyed, FrameWrite, next_frame, after_command}
use Rattle.fw_model_run.specs.Desks.{AnyVendor}
use Rattle.fw_model_run.specs.State.{State, has_deck}
use Rattle.fw_model_run.specs.Spaces.{script_head}

-- ---- the write of a frame

-- four bytes go by a quadlet write, all else by a block write
abbrev pub write_request : ℕ → List ℕ → Request
write_request offset bytes = if length bytes == 4 then Asks.Write offset (from_be_bytes w32 bytes) else Asks.WriteBlock offset bytes

-- the write request that carries a frame
abbrev pub request_of : FrameWrite → Request
request_of w = write_request w.offset w.bytes

-- the packets have the script's transaction label (own)
abbrev pub frame_head : State → FrameWrite → Head
frame_head s w = script_head (node_of s.account.latest w.to) (node_of s.account.latest w.from)

-- the packet that carries a frame
abbrev pub frame_packet : State → FrameWrite → Packet
frame_packet s w = packet_of (frame_head s w) (request_of w)

-- to FCP_COMMAND of a device
abbrev pub command_write : ℕ → ℕ → List ℕ → FrameWrite
command_write from to bytes = record { from = from; to = to; offset = FCP_COMMAND; bytes = bytes }

-- to FCP_RESPONSE of a device
abbrev pub response_write : ℕ → ℕ → Frame → FrameWrite
response_write from to response = record { from = from; to = to; offset = FCP_RESPONSE; bytes = spelling response }

-- ---- a frame that a deck sends

-- the next one, and the number of the node that it goes to
abbrev pub next_told : State → ℕ → Option (ℕ × Frame)
next_told s d = if has_deck s d then next_frame (s.decks d) else None

-- ---- the answer

-- What follows from a write beside its answer. If it is a command to a device with a unit, the unit carries it out; any byte
-- of a vendor is allowed here. Else nothing does.
abbrev pub IsFollowedBy : State → FrameWrite → Option Obeyed → Type 0
IsFollowedBy s w None = IsTrue (has_deck s w.to) → (f : Frame) → IsCommand (Some (request_of w)) f → ⊥
IsFollowedBy s w (Some x) =
    IsTrue (has_deck s w.to) × IsCommand (Some (request_of w)) x.command × (x.unit ≡ (s.decks w.to).unit)
    × IsResponse AnyVendor x.unit x.command (ruling x.unit x.command) x.response × IsSendable x.response

-- the decks after a frame was received: a unit that was commanded keeps its response to send
abbrev pub decks_after : State → FrameWrite → Option Obeyed → ℕ → DeckState
decks_after s w None = s.decks
decks_after s w (Some x) = update s.decks w.to (after_command (node_of s.account.latest w.from) x.command x.response (s.decks w.to))
