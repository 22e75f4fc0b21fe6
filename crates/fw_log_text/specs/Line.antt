-- The line of text that an entry is (own): its cycle and what it records, the parts separated by one space.
use Rattle.std.specs.Prelude.{ℕ, ◌==◌, List, [], ◌∷◌, ◌++◌, flat_map, codes, decimal, Option, Some, None, if◌then◌else◌}
use Rattle.fw_words.specs.Quadlet.{quadlet_at}
use Rattle.fw_phy.specs.Phy as Phy
use Rattle.fw_phy.specs.declared.packet.PhyPacket.{PhyPacket}
use Rattle.fw_async.specs.Async as Async
use Rattle.fw_async.specs.declared.packet.Packet.{Packet}
use Rattle.fw_cip.specs.Iso.{data_length}
use Rattle.fw_cip.specs.declared.packet.IsoPacket.{IsoPacket}
use Rattle.fw_log_entry.specs.declared.entry.ResetEntry.{ResetEntry}
use Rattle.fw_log_entry.specs.declared.entry.EventEntry.{EventEntry}
use Rattle.fw_log_entry.specs.declared.entry.OutcomeEntry.{OutcomeEntry}
use Rattle.fw_log_entry.specs.declared.entry.ShownEntry.{ShownEntry}
use Rattle.fw_log_entry.specs.declared.entry.Entry.{Entry}
use Rattle.fw_log_entry.specs.declared.entry.Entry.TheVariants.{Reset, Async as AsyncEntry, Iso as IsoEntry, Event, Outcome, Shown, End}
use Rattle.fw_log_entry.specs.declared.entry.Timed.{Timed}
use Rattle.fw_log_entry.specs.declared.codes.TheConstants.{NO_DEVICE}
use Rattle.fw_log_entry.specs.Rows.{event_form, has_tape}
use Rattle.fw_log_names.specs.Names.{event_name, outcome_name}
unfoldable pub use Rattle.fw_text.specs.Texts.{hex}
pub use Rattle.fw_text.specs.Texts.{quadlet_text, first_quadlets, quadlets_text}
use Rattle.fw_log_text.specs.Names.{packet_name}

-- the first quadlet of a self-ID packet
abbrev pub id_text : PhyPacket → List ℕ
id_text p = quadlet_text (quadlet_at (Phy.spelling p) 0)

-- the node that is manager, or that there is none
abbrev pub manager_text : Option ℕ → List ℕ
manager_text None = codes "none"
manager_text (Some node) = decimal node

-- a reset: its number, its root, its manager and its initiator, then the self-ID packets
abbrev pub reset_text : ResetEntry → List ℕ
reset_text r = codes "reset " ++ decimal r.epoch ++ codes " root " ++ decimal r.root ++ codes " manager " ++ manager_text r.manager
    ++ codes " by " ++ decimal r.initiator ++ codes ":" ++ flat_map id_text r.ids

-- an asynchronous packet: its name, and all its quadlets
abbrev pub packet_text : Packet → List ℕ
packet_text p = codes "async " ++ packet_name p ++ quadlets_text (Async.spelling p)

-- an isochronous packet: its channel, data_length and DBC
abbrev pub iso_text : IsoPacket → List ℕ
iso_text p = codes "iso " ++ decimal p.channel ++ codes " " ++ decimal (data_length p.block) ++ codes " " ++ decimal p.cip.dbc

-- the name that a table has, or nothing if it has none
abbrev pub name_text : Option (List ℕ) → List ℕ
name_text None = []
name_text (Some name) = name

-- the device of an event, if it has one
abbrev pub device_text : ℕ → List ℕ
device_text device = if device == NO_DEVICE then [] else codes " " ++ decimal device

-- the tape and the system that are inserted
abbrev pub tape_text : EventEntry → List ℕ
tape_text e = if has_tape (event_form e.code) then codes " " ++ decimal e.tape ++ codes " " ++ decimal e.system else []

-- an event: its name, device and tape
abbrev pub event_text : EventEntry → List ℕ
event_text e = codes "event " ++ name_text (event_name e.code) ++ device_text e.device ++ tape_text e

-- an outcome: its name, device, slot and value
abbrev pub outcome_text : OutcomeEntry → List ℕ
outcome_text o = codes "outcome " ++ name_text (outcome_name o.code) ++ codes " " ++ decimal o.device ++ codes " " ++ decimal o.slot ++ quadlet_text o.value

-- the offset of a shown word: a space, and its three digits
abbrev pub offset_text : ℕ → List ℕ
offset_text offset = codes " " ++ hex 3 offset

-- a shown word: its device, offset and value
abbrev pub shown_text : ShownEntry → List ℕ
shown_text s = codes "shown " ++ decimal s.device ++ offset_text s.offset ++ quadlet_text s.word

-- what an entry records
abbrev pub what_text : Entry → List ℕ
what_text (Reset r) = reset_text r
what_text (AsyncEntry p) = packet_text p
what_text (IsoEntry p) = iso_text p
what_text (Event e) = event_text e
what_text (Outcome o) = outcome_text o
what_text (Shown s) = shown_text s
what_text End = codes "end"

-- the line of an entry: its cycle, what it records, and a line feed
abbrev pub entry_line : Timed → List ℕ
entry_line t = decimal t.cycle ++ codes " " ++ what_text t.what ++ 10 ∷ []
