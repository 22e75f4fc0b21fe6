-- The locks of a log that no audit judges, how many they are, and how words say it.
use Rattle.std.specs.Prelude.{◌≡◌, ℕ, ◌==◌, Bool, false, not, ◌&&◌, List, [], ◌++◌, length, count_by, codes, decimal, is_some, if◌then◌else◌}
use Rattle.fw_terms.specs.declared.label.Label.TheVariants.{Procedure}
use Rattle.fw_terms.specs.Labels.{label_code}
use Rattle.fw_async.specs.declared.packet.Head.{Head}
use Rattle.fw_async.specs.declared.packet.Packet.{Packet}
use Rattle.fw_async.specs.declared.packet.Packet.TheVariants.{Lock}
use Rattle.fw_log_entry.specs.declared.entry.Entry.{Entry}
use Rattle.fw_log_entry.specs.declared.entry.Entry.TheVariants.{Async}
use Rattle.fw_log_entry.specs.declared.entry.Timed.{Timed}
use Rattle.fw_model_audit.specs.Judged.{watched_offset}
use Rattle.fw_audit.specs.declared.tally.Tally.{Tally}

-- the label is another than that of procedures, and the address that of a watched register
abbrev pub is_unjudged_lock : Head → ℕ → Bool
is_unjudged_lock h address = not (h.tl == label_code Procedure) && is_some (watched_offset address)

-- a lock request is such: it changes what an account is of, and no audit looks at it
abbrev pub is_unjudged_packet : Packet → Bool
is_unjudged_packet (Lock h offset function bytes) = is_unjudged_lock h offset
is_unjudged_packet _ = false

-- of an entry
abbrev pub is_unjudged : Entry → Bool
is_unjudged (Async p) = is_unjudged_packet p
is_unjudged _ = false

-- how many locks of these entries no audit judges
abbrev pub unjudged : List Timed → ℕ
unjudged entries = count_by (λ (t : Timed). is_unjudged t.what) entries

-- a tally has the numbers of these entries
pub record Tallies (t : Tally) (taken : List Timed) : Type 0 where
  pub entries : t.entries ≡ length taken
  pub locks : t.unjudged ≡ unjudged taken

-- one lock, or more
abbrev pub lock_noun : ℕ → List ℕ
lock_noun n = if n == 1 then codes " lock" else codes " locks"

-- what was not judged, if it is anything
unfoldable pub unjudged_text : ℕ → List ℕ
unjudged_text n = if n == 0 then [] else codes ", not judged " ++ decimal n ++ lock_noun n ++ codes " with labels other than 0"
