-- The last bus reset of a log, and what is kept of it.
use Rattle.std.specs.Prelude.{◌≡◌, ℕ, Bool, true, false, List, [], ◌∷◌, Option, Some, None}
use Rattle.fw_log_entry.specs.declared.entry.Entry.{Entry}
use Rattle.fw_log_entry.specs.declared.entry.Entry.TheVariants.{Reset}
use Rattle.fw_log_entry.specs.declared.entry.ResetEntry.{ResetEntry}
use Rattle.fw_log_entry.specs.declared.entry.Timed.{Timed}
use Rattle.fw_log_entry.specs.Log.{ResetFits, body}

-- the reset that an entry is, or the one before
abbrev pub reset_or : Entry → Option ResetEntry → Option ResetEntry
reset_or (Reset r) before = Some r
reset_or _ before = before

-- the last reset of entries after one
abbrev pub last_from : Option ResetEntry → List Timed → Option ResetEntry
last_from before [] = before
last_from before (t ∷ ts) = last_from (reset_or t.what before) ts

-- the last reset of a log's entries
abbrev pub last_reset : List Timed → Option ResetEntry
last_reset entries = last_from None entries

-- The body of the last reset is kept, if there is one.
abbrev pub KeepsLast : List Timed → Bool → List ℕ → Type 0
KeepsLast entries false kept = last_reset entries ≡ None
KeepsLast entries true kept = (e : ResetEntry) × (last_reset entries ≡ Some e) × ResetFits e × (body (Reset e) ≡ kept)
