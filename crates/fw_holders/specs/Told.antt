-- The lines of a log's entries: each is a function of its entry and of the account of the entries before it.
use Rattle.std.specs.Prelude.{◌≡◌, ◌+◌, ◌<◌, ◌^◌, ℕ, List, [], ◌∷◌, ◌++◌, length, codes, decimal, Option, Some, None}
use Rattle.fw_log_entry.specs.declared.entry.Entry.{Entry}
use Rattle.fw_log_entry.specs.declared.entry.Timed.{Timed}
use Rattle.fw_model_account.specs.Account.{Account, remainder}
use Rattle.fw_model_account.specs.Fold.{account_of, entries_of, next_account, next_of}
use Rattle.fw_model_audit.specs.Audited.{IsAudited}
use Rattle.fw_model_audit.specs.Faults.{HasNoFault, IsVerdict}
use Rattle.fw_model_audit.specs.Looked.{looked}
use Rattle.fw_model_audit.specs.declared.fault.AuditFault.{AuditFault}
use Rattle.fw_audit.specs.Found.{IsPassedOver}
use Rattle.fw_audit.specs.Unjudged.{unjudged}
use Rattle.fw_account_tables.specs.Stands.{StandsFor}
use Rattle.fw_account_tables.specs.declared.tables.Tables.{Tables}
use Rattle.fw_holders.specs.declared.judged.Judged.{Judged}
use Rattle.fw_holders.specs.Counts.{entry_judged, judged_of, IsWithin}
use Rattle.fw_holders.specs.Table.{table_text}
use Rattle.fw_holders_text.specs.Names.{left, right}
use Rattle.fw_holders.specs.Held.{held_text}
use Rattle.fw_holders.specs.Deeds.{told}

-- what is told, and what is left and held after it
unfoldable pub rest_of_line : List ℕ → Account → List ℕ
rest_of_line what l = left 40 what ++ codes " " ++ right 4 (decimal (remainder l)) ++ codes " left" ++ held_text l ++ codes "\n"

-- the line of what is told: when, and what is left and held after it
unfoldable pub line : ℕ → List ℕ → Account → List ℕ
line cycle what l = right 8 (decimal cycle) ++ codes " " ++ rest_of_line what l

-- the line of an entry, by what is told of it and the account after it
abbrev pub line_of : ℕ → Option (List ℕ) → Option Account → List ℕ
line_of cycle (Some what) (Some l) = line cycle what l
line_of cycle _ _ = []

-- by the account before it
abbrev pub entry_line : Option Account → Timed → List ℕ
entry_line None t = []
entry_line (Some l) t = line_of t.cycle (told l t.what) (next_of (Some l) t.what)

-- the lines of entries after others
abbrev pub holders : List Timed → List Timed → List ℕ
holders before [] = []
holders before (t ∷ rest) = entry_line (account_of (entries_of before)) t ++ holders (before ++ t ∷ []) rest

-- what a room for lines holds: the lines that were appended, the tables of the entries that were taken, and how much was judged
pub record HolderState : Type 0 where
  pub text : List ℕ
  pub tables : Tables
  pub judged : Judged

-- the entries that were taken have no fault, and the room stands for what they are
pub record Holds (entries : List Timed) (r : HolderState) : Type 0 where
  pub audited : IsAudited (entries_of entries)
  pub account : Account
  pub is_account : account_of (entries_of entries) ≡ Some account
  pub stands : StandsFor r.tables account
  pub judged : r.judged ≡ judged_of entries
  pub within : IsWithin (length entries) r.judged

-- an entry more was taken, which has no fault over the account before it, and its line was appended, if it has one
pub record TakesMore (l : Account) (t : Timed) (old new : HolderState) : Type 0 where
  pub clear : HasNoFault l (looked t.what)
  pub account : Account
  pub follows : next_account l t.what ≡ Some account
  pub stands : StandsFor new.tables account
  pub judged : (n : ℕ) → n + 1 < 2 ^ 64 → IsWithin n old.judged → new.judged ≡ entry_judged l t.what old.judged
  pub text : new.text ≡ old.text ++ line_of t.cycle (told l t.what) (Some account)

-- it was; or it has this fault first, and nothing was appended
abbrev pub Takes : Account → Timed → HolderState → HolderState → Option AuditFault → Type 0
Takes l t old new None = TakesMore l t old new
Takes l t old new (Some f) = IsVerdict l (looked t.what) (Some f) × (new.text ≡ old.text)

-- an entry that changes no account, and has no fault over any, no line, and nothing that is counted
pub record IsQuiet (e : Entry) : Type 0 where
  pub passed : IsPassedOver e
  pub untold : (l : Account) → told l e ≡ None
  pub uncounted : (l : Account) (j : Judged) → entry_judged l e j ≡ j

-- the table after entries, by their account
abbrev pub table_by : Option Account → Judged → ℕ → List ℕ
table_by None j unjudged = []
table_by (Some l) j unjudged = table_text l j unjudged

-- what is written at the end of these entries
abbrev pub table_of : List Timed → List ℕ
table_of entries = table_by (account_of (entries_of entries)) (judged_of entries) (unjudged entries)
