-- The summary of a run's log (own), and the counts that stand for it.
use Rattle.std.specs.Prelude.{◌≡◌, ℕ, List, [], ◌∷◌, ◌++◌, codes, decimal, if◌then◌else◌}
use Rattle.fw_log_entry.specs.declared.entry.Entry.{Entry}
use Rattle.fw_log_entry.specs.declared.entry.Entry.TheVariants as Entries
use Rattle.fw_log_entry.specs.declared.entry.Timed.{Timed}
use Rattle.fw_script_gen.specs.declared.tally.Counted.{Counted}
use Rattle.fw_script_gen.specs.declared.tally.Counted.TheVariants.{Reset, Connected, Restored, Refused, Shown, Nothing}
use Rattle.fw_script_gen.specs.declared.tally.Tally.{Tally}
use Rattle.fw_script_gen.specs.Counted.{is_reset, is_outcome, is_connected, is_restored, is_other, count_of, word_shown}

-- a line: what is counted, and the number
abbrev pub number_line : List ℕ → ℕ → List ℕ
number_line name n = name ++ codes " " ++ decimal n ++ 10 ∷ []

-- Six lines: the devices of each script that a seed makes; the bus resets of the log; its outcomes, of connections that were
-- made, of those that were restored, and all others; and the word that was shown last.
abbrev pub summary_of : List Timed → List ℕ
summary_of log =
    number_line (codes "devices") 60
    ++ number_line (codes "resets") (count_of is_reset log)
    ++ number_line (codes "connected") (count_of (is_outcome is_connected) log)
    ++ number_line (codes "restored") (count_of (is_outcome is_restored) log)
    ++ number_line (codes "refused") (count_of (is_outcome is_other) log)
    ++ number_line (codes "remainder") (word_shown log)

-- the counts are those of a log
pub record Counts (log : List Timed) (t : Tally) : Type 0 where
  pub resets : t.resets ≡ count_of is_reset log
  pub connected : t.connected ≡ count_of (is_outcome is_connected) log
  pub restored : t.restored ≡ count_of (is_outcome is_restored) log
  pub refused : t.refused ≡ count_of (is_outcome is_other) log
  pub remainder : t.remainder ≡ word_shown log

-- ---- what an entry is to the counts

-- what an outcome counts as
abbrev pub counted_outcome : ℕ → Counted
counted_outcome code = if is_connected code then Connected else if is_restored code then Restored else Refused

-- what an entry counts as
abbrev pub counted_in : Entry → Counted
counted_in (Entries.Reset r) = Reset
counted_in (Entries.Async p) = Nothing
counted_in (Entries.Iso p) = Nothing
counted_in (Entries.Event e) = Nothing
counted_in (Entries.Outcome o) = counted_outcome o.code
counted_in (Entries.Shown s) = Shown s.word
counted_in Entries.End = Nothing
