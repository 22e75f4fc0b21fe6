-- The line of an entry (own): one JSON object with each of its fields, in this order, and a line feed.
use Rattle.std.specs.Prelude.{ℕ, ◌+◌, ◌==◌, List, [], ◌++◌, map, codes, decimal, Option, Some, None, if◌then◌else◌}
use Rattle.fw_csr.specs.declared.offset.TheConstants.{REGISTER_SPACE}
use Rattle.fw_log_entry.specs.Log.{kind_of}
use Rattle.fw_log_entry.specs.Rows.{event_form, has_tape}
use Rattle.fw_log_entry.specs.declared.codes.TheConstants.{NO_DEVICE}
use Rattle.fw_log_entry.specs.declared.entry.ResetEntry.{ResetEntry}
use Rattle.fw_log_entry.specs.declared.entry.EventEntry.{EventEntry}
use Rattle.fw_log_entry.specs.declared.entry.OutcomeEntry.{OutcomeEntry}
use Rattle.fw_log_entry.specs.declared.entry.ShownEntry.{ShownEntry}
use Rattle.fw_log_entry.specs.declared.entry.Entry.{Entry}
use Rattle.fw_log_entry.specs.declared.entry.Entry.TheVariants.{Reset, Async as AsyncEntry, Iso as IsoEntry, Event, Outcome, Shown, End}
use Rattle.fw_log_entry.specs.declared.entry.Timed.{Timed}
use Rattle.fw_text.specs.Texts.{hex}
use Rattle.fw_log_names.specs.Names.{kind_name, system_name, event_name, outcome_name}
use Rattle.fw_log_json_packets.specs.Values.{field, quoted, array, code, number_value, cycle_value}
use Rattle.fw_log_json.specs.Ids.{id_object, node_objects}
use Rattle.fw_log_json_packets.specs.Packets.{packet_fields, iso_fields}

-- the nodes and the self-ID packets of a reset
abbrev pub list_fields : ResetEntry → List ℕ
list_fields r = field (codes ",\"nodes\":") (array (node_objects 0 r.nodes)) ++ field (codes ",\"self_ids\":") (array (map id_object r.ids))

-- a reset
abbrev pub reset_fields : ResetEntry → List ℕ
reset_fields r =
    field (codes ",\"epoch\":") (decimal r.epoch) ++ field (codes ",\"root\":") (decimal r.root)
    ++ field (codes ",\"manager\":") (number_value r.manager) ++ field (codes ",\"initiator\":") (decimal r.initiator)
    ++ list_fields r

-- a reset after its epoch
abbrev pub later_fields : ResetEntry → List ℕ
later_fields r =
    field (codes ",\"root\":") (decimal r.root) ++ field (codes ",\"manager\":") (number_value r.manager)
    ++ field (codes ",\"initiator\":") (decimal r.initiator) ++ list_fields r

-- the device of an event, if it has one
abbrev pub device_of : ℕ → Option ℕ
device_of device = if device == NO_DEVICE then None else Some device

-- the tape and the system that are inserted
abbrev pub inserted_fields : EventEntry → List ℕ
inserted_fields e =
    field (codes ",\"tape\":") (decimal e.tape) ++ code (codes ",\"system\":") e.system (codes ",\"system_name\":") (system_name e.system)

-- the fields of an event beside its device: those of a tape that is inserted
abbrev pub tape_fields : EventEntry → List ℕ
tape_fields e = if has_tape (event_form e.code) then inserted_fields e else []

-- an event
abbrev pub event_fields : EventEntry → List ℕ
event_fields e =
    code (codes ",\"code\":") e.code (codes ",\"code_name\":") (event_name e.code)
    ++ field (codes ",\"device\":") (number_value (device_of e.device)) ++ tape_fields e

-- an outcome
abbrev pub outcome_fields : OutcomeEntry → List ℕ
outcome_fields o =
    code (codes ",\"code\":") o.code (codes ",\"code_name\":") (outcome_name o.code)
    ++ field (codes ",\"device\":") (decimal o.device) ++ field (codes ",\"slot\":") (decimal o.slot) ++ field (codes ",\"value\":") (quoted (hex 8 o.value))

-- a shown word: its device, its offset in the address space of the node, its value
abbrev pub shown_fields : ShownEntry → List ℕ
shown_fields s =
    field (codes ",\"device\":") (decimal s.device) ++ field (codes ",\"offset\":") (quoted (hex 12 (REGISTER_SPACE + s.offset)))
    ++ field (codes ",\"word\":") (quoted (hex 8 s.word))

-- what an entry records
abbrev pub what_fields : Entry → List ℕ
what_fields (Reset r) = reset_fields r
what_fields (AsyncEntry p) = packet_fields p
what_fields (IsoEntry p) = iso_fields p
what_fields (Event e) = event_fields e
what_fields (Outcome o) = outcome_fields o
what_fields (Shown s) = shown_fields s
what_fields End = []

-- what an object begins with: its cycle and its kind
unfoldable pub prefix_fields : ℕ → ℕ → List ℕ
prefix_fields cycle kind =
    field (codes "{\"cycle\":") (cycle_value cycle) ++ code (codes ",\"kind\":") kind (codes ",\"kind_name\":") (kind_name kind)

-- the line of an entry
abbrev pub object : Timed → List ℕ
object t = prefix_fields t.cycle (kind_of t.what) ++ what_fields t.what ++ codes "}\n"
