-- The frame that waits to be sent, and what may take its place.
use Rattle.std.specs.Prelude.{◌≡◌, ℕ, Option, Some, None}
use Rattle.fw_fcp.specs.declared.frame.Frame.{Frame}
use Rattle.fw_tape.specs.Desks.{VendorRelation}
use Rattle.fw_avc.specs.State.{UnitState}
use Rattle.fw_avc.specs.Replies.{IsResponse, ruling}
use Rattle.fw_avc.specs.Notices.{notice_of, after_notice}
use Rattle.fw_node.specs.Fcp.{IsSendable}

-- the response of a unit to a command from a node waits
pub record HoldsResponse (V : VendorRelation) (u : UnitState) (from : ℕ) (f : Frame) (waiting : Option (ℕ × Frame)) : Type 0 where
  pub response : Frame
  pub answers : IsResponse V u f (ruling u f) response
  pub sendable : IsSendable response
  pub held : waiting ≡ Some (from, response)

-- if no frame waits, the next notice of a unit does
abbrev pub filled : Option (ℕ × Frame) → UnitState → Option (ℕ × Frame)
filled None u = notice_of u
filled (Some told) u = Some told

-- the unit whose notice was asked for if no frame waited
abbrev pub unit_left : Option (ℕ × Frame) → UnitState → UnitState
unit_left None u = after_notice u
unit_left (Some told) u = u
