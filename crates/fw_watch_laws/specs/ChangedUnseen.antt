-- Which words are to be told as changed unseen.
use Rattle.std.specs.Prelude.{ℕ, ◌==◌, Bool, true, false, List, [], ◌∷◌, Option, Some, None, if◌then◌else◌}
use Rattle.fw_log_entry.specs.declared.entry.Timed.{Timed}
use Rattle.fw_watch_remarks.specs.declared.register.At.{At}
use Rattle.fw_watch_remarks.specs.declared.remark.Remark.{Remark}
use Rattle.fw_watch_remarks.specs.declared.remark.Remark.TheVariants.{Unseen}
use Rattle.fw_watch_remarks.specs.Knowing.{differing}
use Rattle.fw_watch_remarks.specs.Remarks.{Said, said}
use Rattle.fw_watch.specs.Watched.{known}
use Rattle.fw_watch_laws.specs.LastKnown.{Glimpse, glimpse, last_known}

-- it tells that a word changed unseen
abbrev pub tells_unseen : Remark → Bool
tells_unseen (Unseen at known found) = true
tells_unseen _ = false

-- what is said is that
abbrev pub is_unseen : Said → Bool
is_unseen s = tells_unseen s.remark

-- a word that is found changed unseen if it differs, in a bit that is known, from what was last known of its register
abbrev pub found_due : List Timed → ℕ → At → Option ℕ → List Said
found_due prefix cycle at None = []
found_due prefix cycle at (Some found) =
    if differing (last_known prefix at) found == 0 then [] else said cycle (Unseen at (last_known prefix at) found) ∷ []

-- of what an entry shows
abbrev pub glimpse_due : List Timed → ℕ → Option Glimpse → List Said
glimpse_due prefix cycle None = []
glimpse_due prefix cycle (Some g) = found_due prefix cycle g.at g.found

-- what is to be told of an entry after others: the word that it shows of a register, if that changed unseen
unfoldable pub unseen_due : List Timed → Timed → List Said
unseen_due prefix t = glimpse_due prefix t.cycle (glimpse (known prefix) t.what)
