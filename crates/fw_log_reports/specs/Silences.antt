-- Words that refuse no log.
use Rattle.std.specs.Prelude.{◌≡◌, ℕ, List, ⊤}
use Rattle.fw_log_entry.specs.declared.entry.Timed.{Timed}
use Rattle.fw_log_loop.specs.Readings.{Rules, IsAccepted}
use Rattle.fw_log_reports.specs.declared.refusal.LogRefusal.{LogRefusal}

-- no log is refused, and this is written at its end
abbrev pub never_refused : (List Timed → List ℕ) → Rules LogRefusal
never_refused last = record { accepts = λ entries. ⊤; rejects = λ entries refusal. ⊥; closes = λ entries text. text ≡ last entries; refuses = λ entries refusal. ⊥; completes = λ entries. ⊤ }

-- so none is
pub none_unrefused : (last : List Timed → List ℕ) (entries : List Timed) → IsAccepted (never_refused last) entries
none_unrefused last entries = record { entry = λ prefix rest refusal is r. r; end = λ refusal r. r }
