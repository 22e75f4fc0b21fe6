-- One entry: what it tells, and what is known after it.
use Rattle.std.specs.Prelude.{◌≡◌, ℕ, ◌+◌, ◌==◌, ◌&&◌, not, List, [], ◌∷◌, ◌++◌, length, Option, Some, None, if◌then◌else◌}
use Rattle.fw_csr.specs.declared.offset.TheConstants.{REGISTER_SPACE}
use Rattle.fw_cip.specs.declared.packet.IsoPacket.{IsoPacket}
use Rattle.fw_log_entry.specs.declared.codes.event.TheConstants as Events
use Rattle.fw_log_entry.specs.declared.entry.ResetEntry.{ResetEntry}
use Rattle.fw_log_entry.specs.declared.entry.EventEntry.{EventEntry}
use Rattle.fw_log_entry.specs.declared.entry.ShownEntry.{ShownEntry}
use Rattle.fw_log_entry.specs.declared.entry.Entry.{Entry}
use Rattle.fw_log_entry.specs.declared.entry.Entry.TheVariants.{Reset as ResetOf, Async, Iso, Event, Outcome, Shown, End}
use Rattle.fw_log_entry.specs.declared.entry.Timed.{Timed}
use Rattle.fw_watch_remarks.specs.declared.register.WatchedRegister.{WatchedRegister}
use Rattle.fw_watch_remarks.specs.declared.register.At.{At}
use Rattle.fw_watch_remarks.specs.declared.remark.Remark.TheVariants.{Reset}
use Rattle.fw_watch_remarks.specs.Registers.{register_at, is_managed}
use Rattle.fw_watch_remarks.specs.Remarks.{Said, said}
use Rattle.fw_watch_known.specs.declared.hear.Packet.{Packet}
use Rattle.fw_watch_known.specs.declared.state.State.{State}
use Rattle.fw_watch_known.specs.States.{is_manager, node_of_device, reset_state, after_death, ended_second, ticked_second}
use Rattle.fw_watch_known.specs.Judging.{judged}
use Rattle.fw_watch_known.specs.Heard.{after_heard}
use Rattle.fw_watch.specs.Judging.{judge_remarks}
use Rattle.fw_watch.specs.Hearing.{heard_remarks}
use Rattle.fw_watch.specs.Holding.{held_remarks, after_held}
use Rattle.fw_watch.specs.Answering.{packet_remarks, after_packet}

-- a bus reset
unfoldable pub reset_remarks : ℕ → ResetEntry → List Said
reset_remarks cycle r = said cycle (Reset r.epoch (length r.nodes) r.manager) ∷ []

-- an event: the log says that the second is over, or a controller died
unfoldable pub after_event : EventEntry → State → State
after_event e s =
    if e.code == Events.SECOND_OVER then record s { second = ended_second s.second }
    else if e.code == Events.DIED then after_death e.device s else s

-- a register of a node, but of the resource manager's at that alone
abbrev pub shown_at_node : State → Option ℕ → Option WatchedRegister → Option At
shown_at_node s None register = None
shown_at_node s (Some node) None = None
shown_at_node s (Some node) (Some register) =
    if is_managed register && not (is_manager node s.manager) then None else Some (record { node = node; register = register })

-- the watched register that a word is shown of, if it is followed
unfoldable pub shown_at : State → ShownEntry → Option At
shown_at s w = shown_at_node s (node_of_device w.device s.nodes) (register_at (REGISTER_SPACE + w.offset))

-- a word that is shown of it is judged
abbrev pub word_remarks : Option At → ℕ → ℕ → State → List Said
word_remarks None cycle word s = []
word_remarks (Some at) cycle word s = judge_remarks s cycle at word

-- what is known then
abbrev pub after_word : Option At → ℕ → State → State
after_word None word s = s
after_word (Some at) word s = judged s at word

-- a shown word
unfoldable pub shown_remarks : ℕ → ShownEntry → State → List Said
shown_remarks cycle w s = word_remarks (shown_at s w) cycle w.word s

-- what is known then
unfoldable pub after_shown : ShownEntry → State → State
after_shown w s = after_word (shown_at s w) w.word s

-- an isochronous packet of a cycle
abbrev pub packet_of : ℕ → IsoPacket → Packet
packet_of cycle p = record { cycle = cycle; channel = p.channel; sid = p.cip.sid }

-- what an entry records
unfoldable pub what_remarks : ℕ → Entry → State → List Said
what_remarks cycle (ResetOf r) s = reset_remarks cycle r
what_remarks cycle (Async p) s = packet_remarks cycle p s
what_remarks cycle (Iso p) s = heard_remarks s (packet_of cycle p)
what_remarks cycle (Event e) s = []
what_remarks cycle (Outcome o) s = []
what_remarks cycle (Shown w) s = shown_remarks cycle w s
what_remarks cycle End s = []

-- what is known then
unfoldable pub after_what : ℕ → Entry → State → State
after_what cycle (ResetOf r) s = reset_state cycle r s
after_what cycle (Async p) s = after_packet cycle p s
after_what cycle (Iso p) s = after_heard s (packet_of cycle p)
after_what cycle (Event e) s = after_event e s
after_what cycle (Outcome o) s = s
after_what cycle (Shown w) s = after_shown w s
after_what cycle End s = s

-- what has become of a second and of the channels when the time is this cycle
unfoldable pub ticked : ℕ → State → State
ticked cycle s = record (after_held 64 cycle s) { second = ticked_second cycle (after_held 64 cycle s).second }

-- an entry of a cycle
abbrev pub at_cycle : ℕ → Entry → Timed
at_cycle cycle what = record { cycle = cycle; what = what }

-- an entry: first the channels that nobody has used for a second, and then what it records
unfoldable pub remarks : State → Timed → List Said
remarks s t = held_remarks 64 t.cycle s ++ what_remarks t.cycle t.what (ticked t.cycle s)

-- what is known then
unfoldable pub after : State → Timed → State
after s t = after_what t.cycle t.what (ticked t.cycle s)
