-- What writing an entry, or none, does to a sink.
use Rattle.std.specs.Prelude.{ℕ, List, [], ◌∷◌, None, Some, Ok, Err}
use Rattle.std.specs.declared.option.Option.{Option}
use Rattle.std.specs.declared.result.Result.{Result}
use Rattle.fw_outside.specs.Outside.{Grows, Writes}
use Rattle.fw_log_entry.specs.declared.entry.Entry.{Entry}
use Rattle.fw_log_entry.specs.declared.entry.Timed.{Timed}
use Rattle.fw_log_entry.specs.Log.{epoch_after, entry_bytes, entries_bytes}
use Rattle.fw_log_entry.specs.declared.version.Version.TheVariants.{Two}

-- an entry with its cycle
abbrev pub at_cycle : ℕ → Entry → Timed
at_cycle cycle e = record { cycle = cycle; what = e }

-- the entry at this cycle, or none
abbrev pub at_most : ℕ → Option Entry → List Timed
at_most cycle None = []
at_most cycle (Some e) = at_cycle cycle e ∷ []

-- the bytes of entries, one after another, if this is the epoch of the latest reset before them: a run writes version 2
abbrev pub log_bytes : ℕ → List Timed → List ℕ
log_bytes epoch entries = entries_bytes Two epoch entries

-- the entry was written, or nothing if there is none, or a prefix of the entry
abbrev pub GivesNothing : {T E : Type 0} → Option (List ℕ) → Option (List ℕ) → Result T E → Type 0
GivesNothing held after (Ok _) = Grows held after []
GivesNothing held after (Err _) = ⊥

-- at this cycle, if this is the epoch of the latest reset before the entry, or up to and including it
abbrev pub GivesEntry : {T E : Type 0} → Option (List ℕ) → Option (List ℕ) → Result T E → ℕ → ℕ → Option Entry → Type 0
GivesEntry held after r cycle epoch None = GivesNothing held after r
GivesEntry held after r cycle epoch (Some e) = Writes held after r (entry_bytes Two (epoch_after epoch e) (at_cycle cycle e))
