-- Words that answers and shown words have, held against what was known: what is told.
use Rattle.std.specs.Prelude.{ℕ, ◌==◌, List, [], ◌∷◌, if◌then◌else◌}
use Rattle.fw_watch_remarks.specs.declared.register.At.{At}
use Rattle.fw_watch_remarks.specs.declared.remark.Remark.TheVariants.{Unseen}
use Rattle.fw_watch_known.specs.declared.state.State.{State}
use Rattle.fw_watch_remarks.specs.Knowing.{differing}
use Rattle.fw_watch_remarks.specs.Remarks.{Said, said}
use Rattle.fw_watch_known.specs.States.{known_of}

-- a word that differs in a bit that is known has changed unseen
unfoldable pub judge_remarks : State → ℕ → At → ℕ → List Said
judge_remarks s cycle at found =
    if differing (known_of s at) found == 0 then [] else said cycle (Unseen at (known_of s at) found) ∷ []
