-- The lines of isochronous packets: whose they are, and what is wrong with that.
use Rattle.std.specs.Prelude.{ℕ, ◌==◌, Bool, List, [], ◌∷◌, ◌++◌, Option, Some, None, if◌then◌else◌}
use Rattle.fw_watch_remarks.specs.declared.remark.Remark.TheVariants.{Sends, TwoSenders, NotTaken, OtherPlug}
use Rattle.fw_watch_known.specs.declared.state.State.{State}
use Rattle.fw_watch_known.specs.declared.hear.Heard.{Heard}
use Rattle.fw_watch_known.specs.declared.hear.Packet.{Packet}
use Rattle.fw_watch_remarks.specs.Remarks.{Said, said}
use Rattle.fw_watch_known.specs.Channels.{channel_at}
use Rattle.fw_watch_known.specs.Heard.{heard}

-- a node began to send
unfoldable pub start_remarks : Option ℕ → Packet → List Said
start_remarks None p = said p.cycle (Sends p.sid p.channel) ∷ []
start_remarks (Some sender) p = []

-- the channel has two senders
unfoldable pub two_remarks : Option ℕ → Packet → List Said
two_remarks None p = []
two_remarks (Some first) p = said p.cycle (TwoSenders p.channel first p.sid) ∷ []

-- the channel is free
unfoldable pub free_remarks : Bool → Packet → List Said
free_remarks free p = if free then said p.cycle (NotTaken p.channel p.sid) ∷ [] else []

-- the plugs on the channel are of other nodes
unfoldable pub owners_remarks : ℕ → Packet → List Said
owners_remarks owners p = if owners == 0 then [] else said p.cycle (OtherPlug p.channel p.sid owners) ∷ []

-- what is wrong
unfoldable pub wrong_remarks : Heard → Packet → List Said
wrong_remarks h p = two_remarks h.first p ++ (free_remarks h.free p ++ owners_remarks h.owners p)

-- what a packet tells
unfoldable pub heard_remarks : State → Packet → List Said
heard_remarks s p = start_remarks (channel_at s.channels p.channel).sender p ++ wrong_remarks (heard s p) p
