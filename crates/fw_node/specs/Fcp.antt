-- FCP (IEC 61883-1, 9): command frames to the unit of a node, and the frames that the node sends.
use Rattle.std.specs.Prelude.{◌≡◌, ℕ, ◌+◌, ◌%◌, ◌<◌, ◌≤◌, ◌==◌, List, length, Option, Some, None, if◌then◌else◌}
use Rattle.std.specs.Int.{to_be_bytes, from_be_bytes, w32}
use Rattle.std.specs.Option.{option_map, option_and_then}
use Rattle.fw_terms.specs.declared.label.Label.TheVariants.{Script}
use Rattle.fw_terms.specs.Labels.{label_code}
use Rattle.fw_async_fields.specs.Data.{AreBytes}
use Rattle.fw_async.specs.declared.packet.Head.{Head}
use Rattle.fw_async.specs.declared.packet.Packet.{Packet}
use Rattle.fw_async.specs.declared.packet.Packet.TheVariants.{WriteQuadlet, WriteBlock}
use Rattle.fw_csr.specs.declared.offset.TheConstants.{FCP_COMMAND, FCP_RESPONSE}
use Rattle.fw_csr.specs.declared.request.Request.{Request}
use Rattle.fw_csr.specs.declared.request.Request.TheVariants as Asks
use Rattle.fw_fcp.specs.declared.frame.Frame.{Frame}
use Rattle.fw_fcp.specs.Frames.{Fits, spelling}
use Rattle.fw_tape.specs.Desks.{VendorRelation}
use Rattle.fw_avc.specs.State.{UnitState}
use Rattle.fw_avc.specs.Replies.{IsResponse, ruling, unit_after}
use Rattle.fw_avc.specs.Notices.{notice_of, after_notice}
use Rattle.fw_node.specs.State.{NodeState}

-- the bytes that a request writes to FCP_COMMAND
abbrev pub command_bytes : Request → Option (List ℕ)
command_bytes (Asks.Write offset value) = if offset == FCP_COMMAND then Some (to_be_bytes w32 value) else None
command_bytes (Asks.WriteBlock offset bytes) = if offset == FCP_COMMAND then Some bytes else None
command_bytes _ = None

-- a request writes a frame to FCP_COMMAND that is a command; a frame has no more bytes than a block
pub record IsCommand (r : Option Request) (f : Frame) : Type 0 where
  pub written : option_and_then command_bytes r ≡ Some (spelling f)
  pub fits : Fits f
  pub size : length f.operands ≤ 509
  pub command : f.code < 8

-- a frame can be sent: its numbers fit, and its operands are bytes, no more than a block has
pub record IsSendable (f : Frame) : Type 0 where
  pub fits : Fits f
  pub opcode : f.opcode < 256
  pub bytes : AreBytes f.operands
  pub size : length f.operands ≤ 509

-- the unit of a node carried a command from another node out, and its response waits
pub record Follows (V : VendorRelation) (from : ℕ) (f : Frame) (u : UnitState) (before after : NodeState) : Type 0 where
  pub response : Frame
  pub answers : IsResponse V u f (ruling u f) response
  pub sendable : IsSendable response
  pub node : after ≡ record before { unit = Some (unit_after u from f); waiting = Some (from, response) }

-- what follows from a request, beside what it does at the registers: nothing if it is no command or the node has no unit;
-- a command to a unit is carried out
pub record HasFollowed (V : VendorRelation) (from : ℕ) (r : Option Request) (before after : NodeState) : Type 0 where
  pub rest : after ≡ record before { unit = after.unit; waiting = after.waiting }
  pub ignored : ((f : Frame) → IsCommand r f → ⊥) → after ≡ before
  pub no_unit : before.unit ≡ None → after ≡ before
  pub command : (f : Frame) (u : UnitState) → IsCommand r f → before.unit ≡ Some u → Follows V from f u before after

-- a node ID of the local bus, by a node's number, of which six bits count; 63 is no node's
abbrev pub local_id : ℕ → ℕ
local_id number = 0xFFC0 + number % 64

-- a node that no bus reset has numbered has number 63 (IEEE 1394-1995, NODE_IDS)
abbrev pub number_of : Option ℕ → ℕ
number_of None = 63
number_of (Some number) = number

-- the head of the packets that carry a frame, from one node to another
abbrev pub frame_head : ℕ → ℕ → Head
frame_head from to = record { destination = local_id to; tl = label_code Script; rt = 1; pri = 0; source = local_id from }

-- the packet by which a node writes a frame to FCP_RESPONSE of another: four bytes by a quadlet write, all else by a block
abbrev pub frame_packet : ℕ → ℕ × Frame → Packet
frame_packet from told =
    let bytes = spelling told.1 in
    if length bytes == 4 then WriteQuadlet (frame_head from told.0) FCP_RESPONSE (from_be_bytes w32 bytes)
    else WriteBlock (frame_head from told.0) FCP_RESPONSE bytes

-- the frame that is sent next: a response that waits, and then the notices of changes
abbrev pub next_frame : NodeState → Option (ℕ × Frame)
next_frame n = elim n.waiting [ Some told ↦ Some told | None ↦ option_and_then notice_of n.unit ]

-- the node after it sent its next frame
abbrev pub after_frame : NodeState → NodeState
after_frame n = elim n.waiting [ Some told ↦ record n { waiting = None } | None ↦ record n { unit = option_map after_notice n.unit } ]
