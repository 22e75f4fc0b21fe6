-- Where `holders` stops.
use Rattle.std.specs.Prelude.{ℕ, List, [], ◌∷◌, ◌++◌, length, Option, Some, None}
use Rattle.fw_log_entry.specs.declared.entry.Entry.{Entry}
use Rattle.fw_log_entry.specs.declared.entry.Timed.{Timed}
use Rattle.fw_model_account.specs.Account.{Account}
use Rattle.fw_model_account.specs.Fold.{account_of, entries_of}
use Rattle.fw_model_audit.specs.Judged.{verdict}
use Rattle.fw_model_audit.specs.declared.fault.AuditFault.{AuditFault}
use Rattle.fw_audit.specs.Unjudged.{unjudged}
use Rattle.fw_log_reports.specs.declared.refusal.Unsound.{Unsound}

-- the fault of an entry, over the account of the entries before it
abbrev pub fault_over : Option Account → Entry → Option AuditFault
fault_over None e = None
fault_over (Some l) e = verdict l e

-- what is refused at an entry after others that has this fault, or none
abbrev pub refused_at : List Timed → Timed → Option AuditFault → Option Unsound
refused_at before t None = None
refused_at before t (Some fault) = Some (record { entry = length before; fault = fault; unjudged = unjudged (before ++ t ∷ []) })

-- the first of two stops
abbrev pub first_of : Option Unsound → Option Unsound → Option Unsound
first_of None later = later
first_of (Some u) later = Some u

-- the first entry that has a fault, of entries after others that have none
abbrev pub stop_from : List Timed → List Timed → Option Unsound
stop_from before [] = None
stop_from before (t ∷ ts) = first_of (refused_at before t (fault_over (account_of (entries_of before)) t.what)) (stop_from (before ++ t ∷ []) ts)

-- the first entry that has a fault, and the first fault that it has
abbrev pub stop_of : List Timed → Option Unsound
stop_of entries = stop_from [] entries
