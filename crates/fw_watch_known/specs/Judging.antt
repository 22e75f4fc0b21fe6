-- Words that answers and shown words have, held against what was known: what is counted, and what is known then.
use Rattle.std.specs.Prelude.{ℕ, ◌==◌, if◌then◌else◌}
use Rattle.fw_watch_remarks.specs.declared.register.At.{At}
use Rattle.fw_watch_remarks.specs.declared.known.Known.{Known}
use Rattle.fw_watch_known.specs.declared.counts.Counts.{Counts}
use Rattle.fw_watch_known.specs.declared.state.State.{State}
use Rattle.fw_watch_remarks.specs.Knowing.{all_known, differing}
use Rattle.fw_watch_remarks.specs.Remarks.{counted}
use Rattle.fw_watch_known.specs.States.{known_of, with_known}

-- an answer or shown word is judged, unless nothing was known
abbrev pub weighed : Known → Counts → Counts
weighed known c = if known.mask == 0 then record c { not_known = counted c.not_known } else record c { judged = counted c.judged }

-- it is counted, and that it changed unseen
unfoldable pub judged_counts : Known → ℕ → Counts → Counts
judged_counts known found c =
    if differing known found == 0 then weighed known c else record (weighed known c) { unseen = counted (weighed known c).unseen }

-- from then on all of the word is known
unfoldable pub judged : State → At → ℕ → State
judged s at found = with_known (record s { counts = judged_counts (known_of s at) found s.counts }) at (all_known found)
