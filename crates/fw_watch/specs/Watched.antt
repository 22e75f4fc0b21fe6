-- What a log tells: the remarks of its entries, a line each, and at its end how much was judged.
use Rattle.std.specs.Prelude.{◌≡◌, ℕ, List, [], ◌∷◌, ◌++◌, codes, decimal}
use Rattle.fw_log_entry.specs.declared.entry.Timed.{Timed}
use Rattle.fw_watch_remarks.specs.Remarks.{Said, WatchOutput, told, line}
use Rattle.fw_watch_known.specs.declared.counts.Counts.{Counts}
use Rattle.fw_watch_known.specs.declared.state.State.{State}
use Rattle.fw_watch_known.specs.States.{no_state}
use Rattle.fw_watch.specs.Steps.{remarks, after}

-- what is known after entries that follow
abbrev pub known_from : State → List Timed → State
known_from s [] = s
known_from s (t ∷ ts) = known_from (after s t) ts

-- what is known of a bus after the entries of a log
abbrev pub known : List Timed → State
known entries = known_from no_state entries

-- the remarks of entries that follow
abbrev pub remarks_from : State → List Timed → List Said
remarks_from s [] = []
remarks_from s (t ∷ ts) = remarks s t ++ remarks_from (after s t) ts

-- the remarks of the entries of a log
abbrev pub all_remarks : List Timed → List Said
all_remarks entries = remarks_from no_state entries

-- the lines of remarks
abbrev pub lines : List Said → List ℕ
lines [] = []
lines (s ∷ rest) = line s ++ lines rest

-- the lines of entries after others
abbrev pub watched : List Timed → List Timed → List ℕ
watched before more = lines (remarks_from (known before) more)

-- how many of some remarks are findings, after others of which so many are
abbrev pub findings_from : ℕ → List Said → ℕ
findings_from n rest = (told (record { text = []; findings = n }) rest).findings

-- how many bus resets there were, and how many answers were judged
unfoldable pub resets_text : ℕ → ℕ → List ℕ
resets_text resets judged = codes "resets " ++ (decimal resets ++ (codes ", answers judged " ++ decimal judged))

-- of how many nothing was known, and how many words changed unseen
unfoldable pub unseen_text : ℕ → ℕ → List ℕ
unseen_text not_known unseen = codes ", not known before " ++ decimal not_known ++ (codes ", changed unseen " ++ decimal unseen)

-- how many bus resets there were, and how much was judged
unfoldable pub judged_text : Counts → List ℕ
judged_text c = resets_text c.resets c.judged ++ unseen_text c.not_known c.unseen

-- how many isochronous packets and findings there were
unfoldable pub last_text : ℕ → ℕ → List ℕ
last_text packets findings = codes ", isochronous packets " ++ decimal packets ++ (codes ", findings " ++ decimal findings ++ 10 ∷ [])

-- the last line
abbrev pub summary : Counts → ℕ → List ℕ
summary c findings = judged_text c ++ last_text c.packets findings

-- the last line of a log
unfoldable pub watched_end : List Timed → List ℕ
watched_end entries = summary (known entries).counts (findings_from 0 (all_remarks entries))

-- what a watch holds: what it told, and what it knows
pub record WatchState : Type 0 where
  pub told : WatchOutput
  pub state : State

-- it took these entries
pub record Watches (w : WatchState) (entries : List Timed) : Type 0 where
  pub known : w.state ≡ known entries
  pub findings : w.told.findings ≡ findings_from 0 (all_remarks entries)
