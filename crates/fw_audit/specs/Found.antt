-- What an audit has found of the entries that it took.
use Rattle.fw_log_entry.specs.declared.entry.Entry.{Entry}
use Rattle.fw_log_entry.specs.declared.entry.Entry.TheVariants.{Reset}
use Rattle.fw_log_entry.specs.declared.entry.ResetEntry.{ResetEntry}
use Rattle.std.specs.Prelude.{◌≡◌, Option, Some, None, List, Result, Ok, Err}
use Rattle.fw_model_account.specs.Account.{Account}
use Rattle.fw_model_account.specs.Fold.{next_account, account_of}
use Rattle.fw_ledger.specs.Refused.{ShowsAnswer}
use Rattle.fw_account_tables.specs.Stands.{StandsFor}
use Rattle.fw_ledger.specs.declared.answer.Answer.{Answer}
use Rattle.fw_account_tables.specs.declared.tables.Tables.{Tables}
use Rattle.fw_model_audit.specs.Looked.{looked}
use Rattle.fw_model_audit.specs.Faults.{HasNoFault, IsVerdict}
use Rattle.fw_model_audit.specs.Audited.{IsAudited, EndsFaulty}
use Rattle.fw_model_audit.specs.declared.fault.AuditFault.{AuditFault}
use Rattle.fw_audit.specs.declared.audit.Audit.{Audit}

-- the tables stand for the account with one entry more
abbrev pub StandsAfter : Tables → Account → Entry → Type 0
StandsAfter t l e = (m : Account) × (next_account l e ≡ Some m) × StandsFor t m

-- the entry has no fault, the tables go on with it, and this is the response that it is, if it is one; or this is its first fault
abbrev pub Judges : Tables → Account → Entry → Result (Option Answer) AuditFault → Type 0
Judges new l e (Ok a) = HasNoFault l (looked e) × StandsAfter new l e × ShowsAnswer l (looked e) a
Judges new l e (Err f) = IsVerdict l (looked e) (Some f)

-- the entry changes no account, and has no fault over any
abbrev pub IsPassedOver : Entry → Type 0
IsPassedOver e = (l : Account) → (next_account l e ≡ Some l) × HasNoFault l (looked e)

-- the entry is a reset
abbrev pub IsReset : Entry → Type 0
IsReset e = (r : ResetEntry) × (e ≡ Reset r)

-- these entries were taken, and none had a fault
pub record Follows (entries : List Entry) (a : Audit) : Type 0 where
  pub account : Account
  pub is : account_of entries ≡ Some account
  pub stands : StandsFor a.ledger account
  pub audited : IsAudited entries

-- the fault so far, and the entries up to the one that has it, or all
abbrev pub Found : List Entry → Audit → Option AuditFault → Type 0
Found entries a None = Follows entries a
Found entries a (Some f) = EndsFaulty entries f
