-- What a desk gives in the course of actions.
use Rattle.std.specs.Prelude.{List, [], ◌∷◌, Some, ⊤}
use Rattle.fw_avc.specs.Replies.{IsResponse, ruling}
use Rattle.fw_order.specs.declared.order.Order.{Order}
use Rattle.fw_order.specs.declared.order.Order.TheVariants.{Command, Cycles}
use Rattle.fw_model_run.specs.Desks.{DeskRelations}
use Rattle.fw_model_run.specs.Actions.{Action, Receive, SendPacket}

-- the desk's vendor relation allows each byte of a vendor's response for the one in its place, and its block relation the bytes of a block
abbrev pub IsGiven : DeskRelations → Action → Type 0
IsGiven D (Receive (Some x)) = IsResponse D.vendor x.unit x.command (ruling x.unit x.command) x.response
IsGiven D (SendPacket p (Some b)) = D.blocks b.place.tape b.place.frame b.place.block b.bytes
IsGiven D _ = ⊤

-- the desk gives what these actions took from it
abbrev pub AreGiven : DeskRelations → List Action → Type 0
AreGiven D [] = ⊤
AreGiven D (a ∷ actions) = IsGiven D a × AreGiven D actions

-- a desk is asked in the course of a command and of cycles that are written
abbrev pub AsksNoDesk : Order → Type 0
AsksNoDesk (Command from to bytes) = ⊥
AsksNoDesk (Cycles count) = ⊥
AsksNoDesk _ = ⊤
