-- What a run keeps of the AV/C unit of a device: power, transport, tape and kept requests, and the response that it is to send.
use Rattle.std.specs.Prelude.{ℕ, ◌≡◌, ◌+◌, true, List, [], length, Option, Some, None, is_some, if◌then◌else◌}
use Rattle.std.specs.Option.{option_map}
use Rattle.fw_terms.specs.declared.device.DeviceKind.TheVariants.{Deck}
use Rattle.fw_terms.specs.Devices.{output_plugs_of, input_plugs_of}
use Rattle.fw_fcp.specs.declared.frame.Frame.{Frame}
use Rattle.fw_tape.specs.declared.cassette.Cassette.{Cassette}
use Rattle.fw_tape.specs.declared.transport.Transport.TheVariants.{Stop}
use Rattle.fw_tape.specs.Motion.{passed_on, transport_of}
use Rattle.fw_avc.specs.State as Units
use Rattle.fw_avc.specs.State.{UnitState}
use Rattle.fw_avc.specs.Replies.{unit_after}
use Rattle.fw_avc.specs.Notices.{notice_of, after_notice}

-- the AV/C unit of a device, and the response that it is to send
pub record DeckState : Type 0 where
  pub unit : UnitState
  -- the response to the latest command frame, and the number of the node that it goes to
  pub waiting : Option (ℕ × Frame)

-- power on, no tape and nothing kept; a camcorder has the plugs of a deck
abbrev pub first_deck : DeckState
first_deck = record { unit = Units.first_state (output_plugs_of Deck) (input_plugs_of Deck); waiting = None }

-- ---- frames

-- the frame that is sent next, and the number of the node that it goes to: the response that waits, and then the notices of changes
abbrev pub next_frame : DeckState → Option (ℕ × Frame)
next_frame k = elim k.waiting [ Some told ↦ Some told | None ↦ notice_of k.unit ]

-- the deck after it sent its next frame
abbrev pub after_frame : DeckState → DeckState
after_frame k = elim k.waiting [ Some told ↦ record k { waiting = None } | None ↦ record k { unit = after_notice k.unit } ]

-- how many frames it may have to send: each one that is sent is one less
abbrev pub most_frames : DeckState → ℕ
most_frames k = length k.unit.kept + (if is_some k.waiting then 1 else 0)

-- a command from a node was carried out, and its response waits
abbrev pub after_command : ℕ → Frame → Frame → DeckState → DeckState
after_command from command response k = record { unit = unit_after k.unit from command; waiting = Some (from, response) }

-- A command that a unit carried out: the unit as it was, the command, and the response.
pub record Obeyed : Type 0 where
  pub unit : UnitState
  pub command : Frame
  pub response : Frame

-- a frame that one device writes to another, at FCP_COMMAND or FCP_RESPONSE
pub record FrameWrite : Type 0 where
  pub from : ℕ
  pub to : ℕ
  pub offset : ℕ
  pub bytes : List ℕ

-- ---- bus resets, tapes and time

-- a bus reset discards the kept requests, and what was to be sent
abbrev pub after_reset : DeckState → DeckState
after_reset k = record { unit = Units.after_reset k.unit; waiting = None }

-- this tape is in, or none
abbrev pub with_tape : Option Cassette → DeckState → DeckState
with_tape tape k = record k { unit = record k.unit { tape = tape } }

-- cycles go by
abbrev pub passed : ℕ → DeckState → DeckState
passed cycles k = with_tape (option_map (passed_on cycles) k.unit.tape) k

-- as a device is that comes onto the bus: the power is on, the transport is stopped, nothing is kept and nothing is to be sent
pub record IsAtRest (k : DeckState) : Type 0 where
  pub power : k.unit.power ≡ true
  pub stopped : transport_of k.unit.tape ≡ Stop
  pub kept : k.unit.kept ≡ []
  pub waiting : k.waiting ≡ None
