-- What a page has taken of a log.
use Rattle.std.specs.Prelude.{◌≡◌, List, [], ◌∷◌, ◌++◌, Some, None, is_some, IsTrue}
use Rattle.fw_model_account.specs.Account.{Account}
use Rattle.fw_model_account.specs.Fold.{account_of, entries_of}
use Rattle.fw_model_account.specs.Sound.{IsSound}
use Rattle.fw_holders.specs.Told.{holders}
use Rattle.fw_log_entry.specs.declared.entry.Timed.{Timed}
use Rattle.fw_log_requests.specs.Requests.{standing}
use Rattle.fw_watch.specs.Watched.{Watches}
use Rattle.fw_log_reports.specs.Holdings.{Takes}
use Rattle.fw_log_words.specs.Stops.{stop_of}
use Rattle.fw_log_words.specs.declared.held.Held.{Held}
use Rattle.fw_log_words.specs.declared.paging.Paging.{Paging}

-- `holders` took these entries, or stopped at one of them; its lines were taken away
pub record Follows (h : Held) (entries : List Timed) : Type 0 where
  pub stopped : h.stopped ≡ is_some (stop_of entries)
  pub holds : stop_of entries ≡ None → Takes h.holding entries
  pub empty : h.holding.holders.text ≡ []

-- `holders` passed the entry after these, and its line was not yet taken away; or it had stopped
pub record Passed (entries : List Timed) (t : Timed) (h : Held) : Type 0 where
  pub stopped : h.stopped ≡ is_some (stop_of entries)
  pub holds : stop_of entries ≡ None → Takes h.holding (entries ++ t ∷ []) × (h.holding.holders.text ≡ holders entries (t ∷ []))
  pub empty : IsTrue h.stopped → h.holding.holders.text ≡ []
  pub before : stop_of entries ≡ None → (l : Account) × (account_of (entries_of entries) ≡ Some l) × IsSound l

-- each word took these entries, and its lines were taken away
pub record Pages (p : Paging) (entries : List Timed) : Type 0 where
  pub objects : p.objects.room ≡ []
  pub explained : p.explanation.explainer.text ≡ []
  pub requests : p.explanation.explainer.requests ≡ standing entries
  pub follows : Follows p.held entries
  pub watched : p.watching.watch.told.text ≡ []
  pub watches : Watches p.watching.watch entries

-- each word took these entries, and `holders` passed the next
pub record Begun (entries : List Timed) (t : Timed) (p : Paging) : Type 0 where
  pub objects : p.objects.room ≡ []
  pub explained : p.explanation.explainer.text ≡ []
  pub requests : p.explanation.explainer.requests ≡ standing entries
  pub passed : Passed entries t p.held
  pub watched : p.watching.watch.told.text ≡ []
  pub watches : Watches p.watching.watch entries
