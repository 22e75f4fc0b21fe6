-- What the bytes of a log show before an entry is whole: a fault, or how many bytes the entry takes.
use Rattle.std.specs.Prelude.{◌≡◌, ℕ, ◌+◌, ◌*◌, ◌^◌, ◌≤◌, ◌<◌, ◌==◌, ◌||◌, ◌&&◌, nat_le, nat_lt, List, []}
use Rattle.std.specs.Prelude.{◌++◌, Bool, true, false, Option, Some, None, length, slice_index, take, drop, if◌then◌else◌, ◌⊎◌}
use Rattle.std.specs.Int.{from_be_bytes, w64}
use Rattle.fw_words.specs.Quadlet.{quadlet_at}
use Rattle.fw_log_entry.specs.declared.codes.TheConstants.{LOG_MAGIC}
use Rattle.fw_log_entry.specs.Log.{header_bytes, version_of, head_size, epoch_size, epoch_after, entry_bytes, TimedFits}
use Rattle.fw_log_entry.specs.declared.version.Version.{Version}
use Rattle.fw_log_entry.specs.declared.version.Version.TheVariants.{One, Two}
use Rattle.fw_log_entry.specs.declared.entry.Entry.{Entry}
use Rattle.fw_log_entry.specs.declared.entry.Entry.TheVariants.{Reset, Async, Iso, Event, Outcome, Shown, End}
use Rattle.fw_log_entry.specs.declared.codes.kind.TheConstants as Kinds
use Rattle.fw_log_entry.specs.declared.entry.Timed.{Timed}
use Rattle.fw_log.specs.declared.BodyFault.{BodyFault}
use Rattle.fw_log.specs.declared.BodyFault.TheVariants.{Fields}
use Rattle.fw_log.specs.Bodies.{IsBody, BodyRefused}
use Rattle.std.specs.Option.{is_some}
use Rattle.fw_log.specs.declared.LogWhy.{LogWhy}
use Rattle.fw_log.specs.declared.LogWhy.TheVariants.{AfterEnd, BadHeader, BadKind, BadLength, TimeBack, BadBody, BadEpoch}
use Rattle.fw_log.specs.declared.LogFault.{LogFault}
use Rattle.fw_log.specs.Stands.{Position}

-- a fault and its place
abbrev pub fault_at : ℕ → LogWhy → LogFault
fault_at place why = record { place = place; why = why }

-- Where the parts of an entry stand: each ends where the next begins. Version 1 has no epoch.
abbrev pub length_at : ℕ
length_at = 2

-- where the epoch stands in an entry of version 2
abbrev pub epoch_at : ℕ
epoch_at = 4

-- where the cycle stands in an entry
abbrev pub cycle_at : Version → ℕ
cycle_at v = 4 + epoch_size v

-- how many bytes the header has
abbrev pub header_size : ℕ
header_size = 16

-- A part is judged when its last byte was taken. Then come the parts after it.
abbrev pub tested : ℕ → ℕ → Bool → LogFault → Option LogFault → Option LogFault
tested n end ok f rest = if nat_lt n end then None else if ok then rest else Some f

-- the number of quadlets of a body
abbrev pub length_of : List ℕ → ℕ
length_of e = 256 * slice_index e length_at + slice_index e (length_at + 1)

-- the cycle of an entry
abbrev pub cycle_of : Version → List ℕ → ℕ
cycle_of v e = from_be_bytes w64 (take 8 (drop (cycle_at v) e))

-- a kind, and the zero byte after it
abbrev pub is_kind : ℕ → ℕ → Bool
is_kind kind low = nat_le Kinds.RESET kind && nat_le kind Kinds.END && (low == 0)

-- which numbers of quadlets a body of this kind has
abbrev pub is_length : ℕ → ℕ → Bool
is_length kind len =
    if kind == Kinds.RESET then nat_le 5 len && nat_le len 569
    else if kind == Kinds.ASYNC then nat_le 3 len && nat_le len 132
    else if kind == Kinds.ISO then (len == 3) || (len == 123)
    else if kind == Kinds.EVENT then (len == 1) || (len == 2)
    else if kind == Kinds.END then len == 0
    else len == 2

-- the epoch in the head is that of the latest reset; that of a reset is judged with its body
abbrev pub is_epoch : ℕ → List ℕ → Bool
is_epoch epoch e = (slice_index e 0 == Kinds.RESET) || (quadlet_at e epoch_at == epoch)

-- the same, of a whole head
abbrev pub has_epoch : Version → ℕ → List ℕ → Bool
has_epoch One epoch e = true
has_epoch Two epoch e = is_epoch epoch e

-- the epoch that is there and is refused, or what follows
abbrev pub epoch_fault : Version → ℕ → ℕ → List ℕ → Option LogFault → Option LogFault
epoch_fault One epoch place e rest = rest
epoch_fault Two epoch place e rest = tested (length e) 8 (is_epoch epoch e) (fault_at (place + epoch_at) (BadEpoch (quadlet_at e epoch_at))) rest

-- the cycle that is there and is refused
abbrev pub cycle_fault : Version → ℕ → ℕ → List ℕ → Option LogFault
cycle_fault v place last e = tested (length e) (head_size v) (nat_le last (cycle_of v e)) (fault_at (place + cycle_at v) TimeBack) None

-- the first part of an entry before its body that is there and is refused
abbrev pub entry_fault : Version → ℕ → ℕ → ℕ → List ℕ → Option LogFault
entry_fault v epoch place last e =
    tested (length e) length_at (is_kind (slice_index e 0) (slice_index e 1)) (fault_at place BadKind)
    (tested (length e) epoch_at (is_length (slice_index e 0) (length_of e)) (fault_at (place + length_at) BadLength)
    (epoch_fault v epoch place e (cycle_fault v place last e)))

-- the first quadlet of the header that is there and is refused, or what follows
abbrev pub header_fault : List ℕ → Option LogFault → Option LogFault
header_fault bytes rest =
    tested (length bytes) 4 (quadlet_at bytes 0 == LOG_MAGIC) (fault_at 0 BadHeader)
    (tested (length bytes) 8 (is_some (version_of (quadlet_at bytes 4))) (fault_at 4 BadHeader)
    (tested (length bytes) 12 (quadlet_at bytes 8 == 0) (fault_at 8 BadHeader)
    (tested (length bytes) 16 (quadlet_at bytes 12 == 0) (fault_at 12 BadHeader) rest)))

-- The bytes since the last entry: the first of them stand after the header.
abbrev pub skip : ℕ → ℕ
skip start = if start == 0 then header_size else 0

-- the version that a header names, as far as it is there
abbrev pub version_in : List ℕ → Version
version_in bytes = if nat_le 8 (length bytes) && (quadlet_at bytes 4 == 2) then Two else One

-- the version of the log, as far as it is known
abbrev pub version_at : Position → List ℕ → Version
version_at s bytes = if s.start == 0 then version_in bytes else s.version

-- the first fault that parts before the body show
abbrev pub head_fault : Position → List ℕ → Option LogFault
head_fault s bytes =
    if s.ended then (if length bytes == 0 then None else Some (fault_at s.start AfterEnd))
    else if s.start == 0 then header_fault bytes (entry_fault (version_in bytes) s.epoch header_size s.last (drop header_size bytes))
    else entry_fault s.version s.epoch s.start s.last bytes

-- how many bytes an entry takes at least, by what is there of it
abbrev pub entry_need : Version → List ℕ → ℕ
entry_need v e = if nat_lt (length e) epoch_at then head_size v else head_size v + 4 * length_of e

-- how many bytes the header and the entry take at least
abbrev pub need : Position → List ℕ → ℕ
need s bytes = skip s.start + entry_need (version_at s bytes) (drop (skip s.start) bytes)

-- no part that was taken whole is refused, and the bytes end no entry
pub record IsPending (s : Position) (bytes : List ℕ) : Type 0 where
  pub no_fault : head_fault s bytes ≡ None
  pub not_complete : length bytes < need s bytes

-- the header, before the first entry
abbrev pub header_at : Version → ℕ → List ℕ
header_at v start = if start == 0 then header_bytes v else []

-- the epoch fits if the version writes it
abbrev pub EpochFits : Version → ℕ → Type 0
EpochFits One epoch = Unit {0}
EpochFits Two epoch = epoch < 2 ^ 32

-- The bytes are the entry, with the epoch of the latest reset in its head, after the header if it is the first, and it may
-- stand there.
pub record Spells (s : Position) (t : Timed) (bytes : List ℕ) : Type 0 where
  pub going_on : s.ended ≡ false
  pub fits : TimedFits t
  pub later : s.last ≤ t.cycle
  pub version : Version
  pub here : version_at s bytes ≡ version
  pub epoch : EpochFits version (epoch_after s.epoch t.what)
  pub same : header_at version s.start ++ entry_bytes version (epoch_after s.epoch t.what) t ≡ bytes

-- what an entry's head without a fault has
pub record HeadFits (v : Version) (epoch last : ℕ) (e : List ℕ) : Type 0 where
  pub kind : is_kind (slice_index e 0) (slice_index e 1) ≡ true
  pub size : is_length (slice_index e 0) (length_of e) ≡ true
  pub latest : has_epoch v epoch e ≡ true
  pub later : nat_le last (cycle_of v e) ≡ true

-- The parts before the body are right in this version, and the bytes are as many as the entry takes.
pub record IsComplete (v : Version) (s : Position) (bytes : List ℕ) : Type 0 where
  pub here : version_at s bytes ≡ v
  pub going_on : s.ended ≡ false
  pub head : HeadFits v s.epoch s.last (drop (skip s.start) bytes)
  pub before : header_at v s.start ++ drop (skip s.start) bytes ≡ bytes
  pub size : length (drop (skip s.start) bytes) ≡ head_size v + 4 * length_of (drop (skip s.start) bytes)

-- the epoch in an entry's head is this one, if the version has one
abbrev pub HasEpoch : Version → ℕ → List ℕ → Type 0
HasEpoch One epoch e = Unit {0}
HasEpoch Two epoch e = quadlet_at e epoch_at ≡ epoch

-- a test of that
abbrev pub is_written : Version → ℕ → List ℕ → Bool
is_written One epoch e = true
is_written Two epoch e = quadlet_at e epoch_at == epoch

-- the epoch in a reset's head is its own
abbrev pub is_own_epoch : Version → Entry → List ℕ → Bool
is_own_epoch v (Reset r) e = is_written v r.epoch e
is_own_epoch v (Async p) e = true
is_own_epoch v (Iso p) e = true
is_own_epoch v (Event x) e = true
is_own_epoch v (Outcome o) e = true
is_own_epoch v (Shown s) e = true
is_own_epoch v End e = true

-- The body is of an entry, but the epoch in the head is not that of the latest reset up to and including it.
pub record OtherEpoch (v : Version) (epoch : ℕ) (e : List ℕ) : Type 0 where
  pub entry : Entry
  pub body : IsBody (slice_index e 0) (drop (head_size v) e) entry
  pub other : HasEpoch v (epoch_after epoch entry) e → ⊥

-- The body is refused, or the epoch in the head of a reset is not its own.
abbrev pub EntryRefused : Version → ℕ → List ℕ → BodyFault → Type 0
EntryRefused v epoch e why = BodyRefused (slice_index e 0) (drop (head_size v) e) why ⊎ ((why ≡ Fields) × OtherEpoch v epoch e)

-- The body is refused, with its reason and place.
pub record WrongBody (s : Position) (bytes : List ℕ) (f : LogFault) : Type 0 where
  pub why : BodyFault
  pub version : Version
  pub here : version_at s bytes ≡ version
  pub is : f ≡ fault_at (s.start + (skip s.start + head_size version)) (BadBody why)
  pub refused : EntryRefused version s.epoch (drop (skip s.start) bytes) why

-- The parts before the body are right, the body is there, and it is refused.
pub record BodyFaulty (s : Position) (bytes : List ℕ) (f : LogFault) : Type 0 where
  pub no_fault : head_fault s bytes ≡ None
  pub complete : length bytes ≡ need s bytes
  pub wrong : WrongBody s bytes f

-- A part is refused: one before the body, or the body.
abbrev pub Faulty : Position → List ℕ → LogFault → Type 0
Faulty s bytes f = (head_fault s bytes ≡ Some f) ⊎ BodyFaulty s bytes f
