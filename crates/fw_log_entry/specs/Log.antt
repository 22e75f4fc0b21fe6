-- The log (own): a header, and entries, each with one spelling.
use Rattle.std.specs.Prelude.{◌≡◌, ℕ, ◌+◌, ◌/◌, ◌^◌, ◌≤◌, ◌<◌, ◌==◌, ◌||◌, ◌&&◌, List, [], ◌∷◌}
use Rattle.std.specs.Prelude.{◌++◌, Bool, false, slice_index, IfSome, length, Option, Some, None, if◌then◌else◌, flat_map, map, IsTrue}
use Rattle.std.specs.Int.{to_be_bytes, w16, w32, w64}
use Rattle.fw_words.specs.Layout.{packed}
use Rattle.fw_phy.specs.Phy as Phy
use Rattle.fw_phy.specs.declared.packet.PhyPacket.{PhyPacket}
use Rattle.fw_phy.specs.declared.packet.PhyPacket.TheVariants.{SelfId, SelfIdMore, Config, LinkOn}
use Rattle.std.specs.List.{All}
use Rattle.fw_async.specs.Async as Async
use Rattle.fw_cip.specs.Iso as Iso
use Rattle.fw_log_entry.specs.declared.codes.TheConstants.{LOG_MAGIC, NO_NODE, LINES_525, LINES_625}
use Rattle.fw_log_entry.specs.declared.codes.kind.TheConstants as Kinds
use Rattle.fw_log_entry.specs.declared.nodes.NodeRow.{NodeRow}
use Rattle.fw_log_entry.specs.declared.entry.ResetEntry.{ResetEntry}
use Rattle.fw_log_entry.specs.declared.entry.EventEntry.{EventEntry}
use Rattle.fw_log_entry.specs.declared.entry.OutcomeEntry.{OutcomeEntry}
use Rattle.fw_log_entry.specs.declared.entry.ShownEntry.{ShownEntry}
use Rattle.fw_log_entry.specs.declared.entry.Entry.{Entry}
use Rattle.fw_log_entry.specs.declared.entry.Entry.TheVariants.{Reset, Async as AsyncEntry, Iso as IsoEntry, Event, Outcome, Shown, End}
use Rattle.fw_log_entry.specs.declared.entry.Timed.{Timed}
use Rattle.fw_log_entry.specs.declared.version.Version.{Version}
use Rattle.fw_log_entry.specs.declared.version.Version.TheVariants.{One, Two}
use Rattle.fw_log_entry.specs.Rows.{event_form, has_tape, may_have, outcome_form, may_bring}

-- the bytes of quadlets
abbrev pub quads : List ℕ → List ℕ
quads qs = flat_map (to_be_bytes w32) qs

-- the number by which a header names a version
abbrev pub number_of : Version → ℕ
number_of One = 1
number_of Two = 2

-- the version with a number in a header
abbrev pub version_of : ℕ → Option Version
version_of n = if n == 1 then Some One else if n == 2 then Some Two else None

-- what each log of a version begins with
abbrev pub header_bytes : Version → List ℕ
header_bytes v = quads (LOG_MAGIC ∷ number_of v ∷ 0 ∷ 0 ∷ [])

-- the quadlet of a node: device, output plugs, input plugs and kind code, 8 bits each
abbrev pub node_quad : NodeRow → ℕ
node_quad r = packed ((8, r.device) ∷ (8, r.outs) ∷ (8, r.ins) ∷ (8, r.kind) ∷ []) 0

-- the manager's number, or the one for no node
abbrev pub manager_byte : Option ℕ → ℕ
manager_byte None = NO_NODE
manager_byte (Some m) = m

-- the quadlets of a reset before its self-ID packets: epoch, then root, manager, initiator and the number of nodes, then the nodes
abbrev pub reset_quads : ResetEntry → List ℕ
reset_quads r = r.epoch ∷ packed ((8, r.root) ∷ (8, manager_byte r.manager) ∷ (8, r.initiator) ∷ (8, length r.nodes) ∷ []) 0 ∷ map node_quad r.nodes

-- a tape that is inserted has a second quadlet
abbrev pub event_quads : EventEntry → List ℕ
event_quads e = packed ((8, e.code) ∷ (8, e.device) ∷ (16, 0) ∷ []) 0 ∷ (if has_tape (event_form e.code) then packed ((16, e.tape) ∷ (16, e.system) ∷ []) 0 ∷ [] else [])

-- code, device, slot and zero, then the value
abbrev pub outcome_quads : OutcomeEntry → List ℕ
outcome_quads o = packed ((8, o.code) ∷ (8, o.device) ∷ (8, o.slot) ∷ (8, 0) ∷ []) 0 ∷ o.value ∷ []

-- device, zeros and offset, then the word
abbrev pub shown_quads : ShownEntry → List ℕ
shown_quads s = packed ((8, s.device) ∷ (8, 0) ∷ (16, s.offset) ∷ []) 0 ∷ s.word ∷ []

-- the kind of an entry
abbrev pub kind_of : Entry → ℕ
kind_of (Reset r) = Kinds.RESET
kind_of (AsyncEntry p) = Kinds.ASYNC
kind_of (IsoEntry p) = Kinds.ISO
kind_of (Event e) = Kinds.EVENT
kind_of (Outcome o) = Kinds.OUTCOME
kind_of (Shown s) = Kinds.SHOWN
kind_of End = Kinds.END

-- the body of an entry
abbrev pub body : Entry → List ℕ
body (Reset r) = quads (reset_quads r) ++ flat_map Phy.spelling r.ids
body (AsyncEntry p) = Async.spelling p
body (IsoEntry p) = Iso.spelling p
body (Event e) = quads (event_quads e)
body (Outcome o) = quads (outcome_quads o)
body (Shown s) = quads (shown_quads s)
body End = []

-- how many bytes the epoch takes in an entry's head
abbrev pub epoch_size : Version → ℕ
epoch_size One = 0
epoch_size Two = 4

-- how many bytes the head of an entry takes: kind, length, in version 2 the epoch, and the cycle
abbrev pub head_size : Version → ℕ
head_size v = 12 + epoch_size v

-- the epoch in an entry's head, which version 1 does not have
abbrev pub epoch_bytes : Version → ℕ → List ℕ
epoch_bytes One epoch = []
epoch_bytes Two epoch = to_be_bytes w32 epoch

-- kind, zero, the body's length in quadlets, the epoch if there is one, and the cycle
abbrev pub entry_head : Version → ℕ → ℕ → ℕ → ℕ → List ℕ
entry_head v epoch kind len cycle = kind ∷ 0 ∷ (to_be_bytes w16 len ++ (epoch_bytes v epoch ++ to_be_bytes w64 cycle))

-- the one list of bytes that the entry is, if this is the epoch of the latest reset up to and including it
abbrev pub entry_bytes : Version → ℕ → Timed → List ℕ
entry_bytes v epoch t = entry_head v epoch (kind_of t.what) (length (body t.what) / 4) t.cycle ++ body t.what

-- the epoch of the latest reset up to and including an entry, if this is that of the latest before it, or 0 if there is none
abbrev pub epoch_after : ℕ → Entry → ℕ
epoch_after epoch (Reset r) = r.epoch
epoch_after epoch (AsyncEntry p) = epoch
epoch_after epoch (IsoEntry p) = epoch
epoch_after epoch (Event e) = epoch
epoch_after epoch (Outcome o) = epoch
epoch_after epoch (Shown s) = epoch
epoch_after epoch End = epoch

-- the epoch of the latest reset after entries
abbrev pub latest_epoch : ℕ → List Timed → ℕ
latest_epoch epoch [] = epoch
latest_epoch epoch (t ∷ ts) = latest_epoch (epoch_after epoch t.what) ts

-- the bytes of entries, one after the other, if this is the epoch of the latest reset before them
abbrev pub entries_bytes : Version → ℕ → List Timed → List ℕ
entries_bytes v epoch [] = []
entries_bytes v epoch (t ∷ ts) = entry_bytes v (epoch_after epoch t.what) t ++ entries_bytes v (epoch_after epoch t.what) ts

-- code, device, tape and system of an event
abbrev pub is_event : ℕ → ℕ → ℕ → ℕ → Bool
is_event code device tape system =
    may_have (event_form code) device
    && (if has_tape (event_form code) then (system == LINES_525) || (system == LINES_625) else (tape == 0) && (system == 0))

-- The event may be written: its code is in the table, it has a device and a tape as the table says, and the tape is of one of two systems.
pub record EventFits (e : EventEntry) : Type 0 where
  pub device : e.device < 2 ^ 8
  pub tape : e.tape < 2 ^ 16
  pub shape : IsTrue (is_event e.code e.device e.tape e.system)

-- code and value of an outcome
abbrev pub is_outcome : ℕ → ℕ → Bool
is_outcome code value = may_bring (outcome_form code) value

-- The outcome may be written: its code is in the table, and it brings a value as the table says.
pub record OutcomeFits (o : OutcomeEntry) : Type 0 where
  pub device : o.device < 2 ^ 8
  pub slot : o.slot < 2 ^ 8
  pub value : o.value < 2 ^ 32
  pub shape : IsTrue (is_outcome o.code o.value)

-- The shown word may be written: its offset is below hexadecimal 1000.
pub record ShownFits (s : ShownEntry) : Type 0 where
  pub device : s.device < 2 ^ 8
  pub offset : s.offset < 2 ^ 12
  pub word : s.word < 2 ^ 32

-- The node may be written.
pub record RowFits (r : NodeRow) : Type 0 where
  pub device : r.device < 63
  pub outs : r.outs ≤ 31
  pub ins : r.ins ≤ 31
  pub kind : r.kind ≤ 3

-- Each node from the k-th on has its packet zero, and then as many further packets as their bits say, numbered from 0:
-- next is the number of the one that is to come.
abbrev pub are_ids : ℕ → Option ℕ → List PhyPacket → ℕ → Bool
are_ids k None [] n = k == n
are_ids k (Some next) [] n = false
are_ids k None (SelfId s ∷ ps) n = (s.phy == k) && (if s.more then are_ids k (Some 0) ps n else are_ids (k + 1) None ps n)
are_ids k None (SelfIdMore m ∷ ps) n = false
are_ids k None (Config a b c d ∷ ps) n = false
are_ids k None (LinkOn a ∷ ps) n = false
are_ids k (Some next) (SelfId s ∷ ps) n = false
are_ids k (Some next) (SelfIdMore m ∷ ps) n = (m.phy == k) && (m.number == next) && (if m.more then are_ids k (Some (next + 1)) ps n else are_ids (k + 1) None ps n)
are_ids k (Some next) (Config a b c d ∷ ps) n = false
are_ids k (Some next) (LinkOn a ∷ ps) n = false

-- the devices of the nodes
abbrev pub devices : List NodeRow → List ℕ
devices rows = map (λ r. r.device) rows

-- no two nodes are one device
abbrev pub AreApart : List NodeRow → Type 0
AreApart rows = (i j : ℕ) → i < j → j < length rows → slice_index (devices rows) i ≡ slice_index (devices rows) j → ⊥

-- The reset may be written: its numbers are those of nodes, its devices are distinct, and its packets are those of its nodes.
pub record ResetFits (r : ResetEntry) : Type 0 where
  pub epoch : r.epoch < 2 ^ 32
  pub some : 1 ≤ length r.nodes
  pub few : length r.nodes ≤ 63
  pub root : r.root < length r.nodes
  pub manager : IfSome r.manager (λ m. m < length r.nodes)
  pub initiator : r.initiator < length r.nodes
  pub rows : All RowFits r.nodes
  pub apart : AreApart r.nodes
  pub packets : All Phy.Fits r.ids
  pub few_packets : length r.ids ≤ 252
  pub ids : IsTrue (are_ids 0 None r.ids (length r.nodes))

-- The entry is in the grammar.
abbrev pub Fits : Entry → Type 0
Fits (Reset r) = ResetFits r
Fits (AsyncEntry p) = Async.Fits p
Fits (IsoEntry p) = Iso.Fits p
Fits (Event e) = EventFits e
Fits (Outcome o) = OutcomeFits o
Fits (Shown s) = ShownFits s
Fits End = Unit {0}

-- The entry may be written, with its cycle.
pub record TimedFits (t : Timed) : Type 0 where
  pub cycle : t.cycle < 2 ^ 64
  pub entry : Fits t.what

-- nothing follows the end
abbrev pub EndsAt : Entry → List Timed → Type 0
EndsAt (Reset r) more = Unit {0}
EndsAt (AsyncEntry p) more = Unit {0}
EndsAt (IsoEntry p) more = Unit {0}
EndsAt (Event e) more = Unit {0}
EndsAt (Outcome o) more = Unit {0}
EndsAt (Shown s) more = Unit {0}
EndsAt End more = more ≡ []

-- Each entry may be written, from this cycle on cycles never fall, and nothing follows the end.
abbrev pub InOrder : ℕ → List Timed → Type 0
InOrder last [] = Unit {0}
InOrder last (t ∷ ts) = (last ≤ t.cycle) × TimedFits t × EndsAt t.what ts × InOrder t.cycle ts

-- the entry is the end
abbrev pub is_end : Entry → Bool
is_end e = kind_of e == Kinds.END

-- the last entry is the end
abbrev pub HasEnd : List Timed → Type 0
HasEnd [] = ⊥
HasEnd (t ∷ []) = IsTrue (is_end t.what)
HasEnd (t ∷ u ∷ us) = HasEnd (u ∷ us)

-- the bytes of a log of this version whose end may be missing
pub record LogOpens (entries : List Timed) (version : Version) (bytes : List ℕ) : Type 0 where
  pub order : InOrder 0 entries
  pub same : header_bytes version ++ entries_bytes version 0 entries ≡ bytes

-- the bytes of a whole log
pub record LogSpells (entries : List Timed) (version : Version) (bytes : List ℕ) : Type 0 where
  pub opens : LogOpens entries version bytes
  pub ends : HasEnd entries
