-- What an audit says of the entries of a log.
use Rattle.fw_log_entry.specs.declared.entry.Entry.{Entry}
use Rattle.std.specs.Prelude.{◌≡◌, Some, List, [], ◌∷◌, ◌++◌}
use Rattle.fw_model_account.specs.Account.{Account}
use Rattle.fw_model_account.specs.Fold.{account_of}
use Rattle.fw_model_account.specs.Sound.{IsSound, IsConflictFree}
use Rattle.fw_model_audit.specs.Looked.{looked, ShowsWords}
use Rattle.fw_model_audit.specs.Faults.{HasNoFault, IsVerdict}
use Rattle.fw_model_audit.specs.declared.fault.AuditFault.{AuditFault}

-- no entry has a fault, over the account of the entries before it
abbrev pub IsAudited : List Entry → Type 0
IsAudited entries = (prefix rest : List Entry) (e : Entry) → entries ≡ prefix ++ e ∷ rest → (l : Account) × (account_of prefix ≡ Some l) × HasNoFault l (looked e)

-- the last entry is the first that has a fault, and this is the first that it has
pub record EndsFaulty (entries : List Entry) (f : AuditFault) : Type 0 where
  pub prefix : List Entry
  pub entry : Entry
  pub parts : entries ≡ prefix ++ entry ∷ []
  pub audited : IsAudited prefix
  pub account : Account
  pub before : account_of prefix ≡ Some account
  pub verdict : IsVerdict account (looked entry) (Some f)

-- At every prefix of the entries the account is defined and sound, no channel has two talkers and they take at most 4915 units;
-- and each complete answer to a controller at a watched offset, and each shown word of a watched register, is the account's
-- word, which is there.
pub record IsVouched (entries : List Entry) : Type 0 where
  pub accounts : (prefix rest : List Entry) → entries ≡ prefix ++ rest → (l : Account) × (account_of prefix ≡ Some l) × IsSound l × IsConflictFree l
  pub words : (prefix rest : List Entry) (e : Entry) → entries ≡ prefix ++ e ∷ rest → (l : Account) × (account_of prefix ≡ Some l) × ShowsWords l (looked e)
