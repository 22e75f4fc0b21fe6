-- Whole logs, and how much of one a reader has read.
use Rattle.std.specs.Prelude.{◌≡◌, ℕ, ◌+◌, ◌<◌, List, [], ◌∷◌, ◌++◌, length, take, Bool, false, Option, Some, None, Result, Ok, Err, OnOk, IfErr}
use Rattle.fw_log_entry.specs.Log.{header_bytes, entries_bytes, latest_epoch, is_end, InOrder, LogOpens, LogSpells}
use Rattle.fw_log_entry.specs.declared.version.Version.{Version}
use Rattle.fw_log_entry.specs.declared.version.Version.TheVariants.{One}
use Rattle.fw_log.specs.Reading.{IsPending}
use Rattle.fw_log.specs.Stands.{Position}
use Rattle.fw_log.specs.Reader.{State, version_read, known}
use Rattle.fw_log_entry.specs.declared.entry.Timed.{Timed}
use Rattle.fw_log.specs.declared.read.LogFed.{LogFed}
use Rattle.fw_log.specs.declared.LogFault.{LogFault}

-- the bytes of entries, and of the header before the first
abbrev pub bytes_of : Version → List Timed → List ℕ
bytes_of v [] = []
bytes_of v (t ∷ ts) = header_bytes v ++ entries_bytes v 0 (t ∷ ts)

-- the version that is known after entries of a log
abbrev pub version_after : Version → List Timed → Version
version_after v [] = One
version_after v (t ∷ ts) = v

-- the cycle of the last entry, or this one if there is none
abbrev pub last_cycle : ℕ → List Timed → ℕ
last_cycle c [] = c
last_cycle c (t ∷ ts) = last_cycle t.cycle ts

-- whether the last entry is the end, or this if there is none
abbrev pub ended_by : Bool → List Timed → Bool
ended_by b [] = b
ended_by b (t ∷ ts) = ended_by (is_end t.what) ts

-- where a reader stands after these entries of a log of this version
abbrev pub stand_after : Version → List Timed → Position
stand_after v entries = record {
  start = length (bytes_of v entries);
  last = last_cycle 0 entries;
  ended = ended_by false entries;
  version = version_after v entries;
  epoch = latest_epoch 0 entries;
}

-- A reader that has answered no fault was fed these bytes, and gave these entries: the bytes are those of the entries, and then a part of one.
pub record HasRead (entries : List Timed) (bytes : List ℕ) (r : State) : Type 0 where
  pub version : Version
  pub order : InOrder 0 entries
  pub same : bytes_of version entries ++ r.taken ≡ bytes
  pub stand : r.stand ≡ stand_after version entries
  pub no_fault : r.fault ≡ None
  pub pending : IsPending r.stand r.taken

-- no log of either version begins with these bytes
abbrev pub BeginsNoLog : List ℕ → Type 0
BeginsNoLog bytes = (all : List Timed) (v : Version) (more : List ℕ) → LogOpens all v (bytes ++ more) → ⊥

-- All of a piece was read, or the piece up to the end of one more entry.
abbrev pub ReadsTo : List Timed → List ℕ → List ℕ → ℕ → Option Timed → State → Type 0
ReadsTo entries bytes piece used None new = HasRead entries (bytes ++ piece) new
ReadsTo entries bytes piece used (Some t) new = HasRead (entries ++ t ∷ []) (bytes ++ take used piece) new

-- A fault comes only if no log goes on.
abbrev pub ReadsOn : List Timed → List ℕ → List ℕ → Result LogFed LogFault → State → Type 0
ReadsOn entries bytes piece (Ok fed) new = ReadsTo entries bytes piece fed.used fed.entry new
ReadsOn entries bytes piece (Err f) new = (k : ℕ) × (k < length piece) × BeginsNoLog (bytes ++ take (k + 1) piece)

-- At a fault the version is that of the bytes up to the end of the refused part.
abbrev pub Names : List ℕ → List ℕ → Result LogFed LogFault → State → Type 0
Names bytes piece (Ok fed) new = Unit {0}
Names bytes piece (Err f) new = (k : ℕ) × (k < length piece) × BeginsNoLog (bytes ++ take (k + 1) piece) × (known new ≡ version_read (bytes ++ take (k + 1) piece))

-- the entry is the one that follows in the log
abbrev pub IsNext : List Timed → List Timed → Option Timed → Type 0
IsNext all entries None = Unit {0}
IsNext all entries (Some t) = (rest : List Timed) × (all ≡ (entries ++ t ∷ []) ++ rest)

-- In a log there is no fault, and each entry that is given is the next of the log.
abbrev pub GivesNext : List Timed → List Timed → Result LogFed LogFault → Type 0
GivesNext all entries (Ok fed) = IsNext all entries fed.entry
GivesNext all entries (Err f) = ⊥

-- the bytes are a whole log of one of the versions
pub record IsLog (entries : List Timed) (bytes : List ℕ) : Type 0 where
  pub version : Version
  pub spells : LogSpells entries version bytes

-- The input has ended: the entries are those of the log that the bytes are, if they are one, whole or without its end.
pub record Finishes (entries : List Timed) (bytes : List ℕ) (result : Result (Unit {0}) LogFault) : Type 0 where
  pub complete : OnOk result (IsLog entries bytes)
  pub only : (all : List Timed) (v : Version) → LogOpens all v bytes → all ≡ entries
  pub spelled : IsLog entries bytes → result ≡ Ok tt
  pub place : IfErr result (λ f. f.place ≡ length bytes)
