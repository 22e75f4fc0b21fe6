-- What a reader of logs keeps, and what it makes of the bytes that come.
use Rattle.std.specs.Prelude.{◌≡◌, ℕ, ◌+◌, ◌==◌, ◌≤◌, ◌<◌, ◌&&◌, ◌⊎◌, nat_le, List, [], ◌++◌, length, take, Option, Some, None, Result, Ok, Err, if◌then◌else◌}
use Rattle.fw_words.specs.Quadlet.{quadlet_at}
use Rattle.fw_log_entry.specs.declared.codes.TheConstants.{LOG_MAGIC}
use Rattle.fw_log_entry.specs.Log.{version_of, is_end, body, epoch_after}
use Rattle.fw_log_entry.specs.declared.version.Version.{Version}
use Rattle.fw_log.specs.Reading.{IsPending, Spells, Faulty, WrongBody, skip, version_at, fault_at, head_fault, need}
use Rattle.fw_log_entry.specs.declared.entry.Timed.{Timed}
use Rattle.fw_log.specs.declared.LogFault.{LogFault}
use Rattle.fw_log.specs.declared.LogWhy.TheVariants.{Cut, NoEnd}
use Rattle.fw_log.specs.Stands.{Position}
use Rattle.fw_log.specs.declared.read.LogFed.{LogFed}
use Rattle.fw_log.specs.declared.first.Found.{Found}

-- where the reader stands, the bytes since the last entry, and the fault that was answered
pub record State : Type 0 where
  pub stand : Position
  pub taken : List ℕ
  pub fault : Option LogFault

-- how many bytes were taken since the reader began
abbrev pub total : State → ℕ
total r = r.stand.start + length r.taken

-- the version that the header names, if its first two quadlets were taken and neither is refused
abbrev pub version_read : List ℕ → Option Version
version_read bytes = if nat_le 8 (length bytes) && (quadlet_at bytes 0 == LOG_MAGIC) then version_of (quadlet_at bytes 4) else None

-- the version of the log, as far as it is known
abbrev pub known : State → Option Version
known r = if r.stand.start == 0 then version_read r.taken else Some r.stand.version

-- A reader that has answered no fault holds a part of an entry.
abbrev pub HoldsPending : Position → List ℕ → Option LogFault → Type 0
HoldsPending s taken None = IsPending s taken
HoldsPending s taken (Some f) = Unit {0}

-- the state with these bytes and no fault
abbrev pub with_bytes : Position → List ℕ → State
with_bytes s taken = record { stand = s; taken = taken; fault = None }

-- the state after an entry that the bytes are
abbrev pub after : Position → List ℕ → Timed → State
after s taken t = record {
  stand = record { start = s.start + length taken; last = t.cycle; ended = is_end t.what; version = version_at s taken; epoch = epoch_after s.epoch t.what };
  taken = [];
  fault = None;
}

-- a whole entry: it, or why its body is none
abbrev pub EntryJudges : Position → List ℕ → Result Timed LogFault → Type 0
EntryJudges s bytes (Ok t) = Spells s t bytes
EntryJudges s bytes (Err f) = WrongBody s bytes f

-- the first k bytes of a piece end an entry
pub record EndsEntry (s : Position) (old piece : List ℕ) (k : ℕ) (t : Timed) : Type 0 where
  pub within : k ≤ length piece
  pub spells : Spells s t (old ++ take k piece)

-- A byte of a piece, that at index k, is the last of a part that is refused, and none is refused before.
pub record ShowsFault (s : Position) (old piece : List ℕ) (k : ℕ) (f : LogFault) : Type 0 where
  pub within : k < length piece
  pub before : IsPending s (old ++ take k piece)
  pub shown : Faulty s (old ++ take (k + 1) piece) f

-- where the entry ends that bytes begin with, none if they are a part of it, or a fault before its body
abbrev pub Ends : Position → List ℕ → Result (Option ℕ) LogFault → Type 0
Ends s bytes (Ok None) = IsPending s bytes
Ends s bytes (Ok (Some n)) = (head_fault s bytes ≡ None) × (n ≡ need s bytes) × (n ≤ length bytes)
Ends s bytes (Err f) = head_fault s bytes ≡ Some f

-- the entry that bytes begin with, none if they are a part of it, or the first fault
abbrev pub Finds : Position → List ℕ → Result (Option Found) LogFault → Type 0
Finds s bytes (Ok None) = IsPending s bytes
Finds s bytes (Ok (Some found)) =
    (found.end ≤ length bytes) × Spells s found.entry (take found.end bytes) × (found.body ≡ body found.entry.what)
    × (found.version ≡ version_at s (take found.end bytes))
Finds s bytes (Err f) = (k : ℕ) × ShowsFault s [] bytes k f

-- The bytes are what was kept and a prefix of the piece, which is all of it, or has room for the longest entry, or has all of this one.
pub record Joins (s : Position) (old piece bytes : List ℕ) : Type 0 where
  pub count : ℕ
  pub within : count ≤ length piece
  pub enough : count < length piece → (2308 ≤ length old + count) ⊎ (need s bytes ≤ length bytes)
  pub same : bytes ≡ old ++ take count piece

-- It was found in what was kept and a prefix of the piece, which is all of it, or has room for the longest entry, or has all of this one.
pub record FindsIn (s : Position) (old piece : List ℕ) (found : Result (Option Found) LogFault) : Type 0 where
  pub count : ℕ
  pub within : count ≤ length piece
  pub enough : count < length piece → (2308 ≤ length old + count) ⊎ (need s (old ++ take count piece) ≤ length (old ++ take count piece))
  pub finds : Finds s (old ++ take count piece) found

-- no part that was taken whole is refused, and the bytes end no entry
pub record EndsNothing (s : Position) (old piece : List ℕ) : Type 0 where
  pub no_fault : (k : ℕ) (f : LogFault) → k ≤ length piece → Faulty s (old ++ take k piece) f → ⊥
  pub no_entry : (k : ℕ) (t : Timed) → k ≤ length piece → Spells s t (old ++ take k piece) → ⊥

-- all bytes of a piece without an entry's end, or those up to it
abbrev pub FeedsTo : Position → List ℕ → List ℕ → ℕ → Option Timed → State → Type 0
FeedsTo s old piece used None new = (used ≡ length piece) × (new ≡ with_bytes s (old ++ piece)) × IsPending s (old ++ piece)
FeedsTo s old piece used (Some t) new = EndsEntry s old piece used t × (new ≡ after s (old ++ take used piece) t)

-- the body of an entry that is given, and no bytes without one
abbrev pub body_given : Option Timed → List ℕ
body_given None = []
body_given (Some t) = body t.what

-- A piece: the bytes up to an entry's end, all of them, or up to the one that completes a refused part.
abbrev pub Feeds : Position → List ℕ → List ℕ → Result LogFed LogFault → State → Type 0
Feeds s old piece (Ok fed) new = FeedsTo s old piece fed.used fed.entry new × (fed.body ≡ body_given fed.entry)
Feeds s old piece (Err f) new = ((k : ℕ) × ShowsFault s old piece k f) × (new.fault ≡ Some f)

-- At a fault as many bytes of a header are kept as name the version, as far as the piece has them.
pub record Keeps (start : ℕ) (old piece new : List ℕ) : Type 0 where
  pub count : ℕ
  pub taken : new ≡ old ++ take count piece
  pub enough : start ≡ 0 → (length piece ≤ count) ⊎ (8 ≤ length (old ++ take count piece))

-- the reader stays at its entry, and keeps what it took of the piece
pub record Remembers (s : Position) (old piece : List ℕ) (new : State) : Type 0 where
  pub stand : new.stand ≡ s
  pub kept : Keeps s.start old piece new.taken

-- the bytes that were taken are counted, and some are if there are any
abbrev pub Counts : State → List ℕ → Result LogFed LogFault → State → Type 0
Counts old piece (Ok fed) new = (total new ≡ total old + fed.used) × (fed.used ≤ length piece) × (0 < length piece → 0 < fed.used)
Counts old piece (Err f) new = Unit {0}

-- what the input's end makes of it
abbrev pub finish_by : Option LogFault → Position → List ℕ → Option LogFault
finish_by (Some f) s taken = Some f
finish_by None s taken =
    if s.ended then None
    else if length taken == skip s.start then Some (fault_at (s.start + length taken) NoEnd)
    else Some (fault_at (s.start + length taken) Cut)

-- what the input's end makes of a state
abbrev pub finish_of : State → Option LogFault
finish_of r = finish_by r.fault r.stand r.taken
