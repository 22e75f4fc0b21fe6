-- What a script alone decides, if the desk is a function.
use Rattle.std.specs.Prelude.{◌≡◌, ℕ, List, Option, Some}
use Rattle.fw_script_gen.specs.Summary.{summary_of}
use Rattle.fw_model_run.specs.Desks.{DeskRelations}
use Rattle.fw_script_words.specs.Dubs.{WasRecorded, reel_of}
use Rattle.fw_script_words.specs.Ending.{Logged}
use Rattle.fw_script_words.specs.Sums.{WasRun, log_of}

-- A script has one log, one reel and one summary.
pub record HasOneRun (D : DeskRelations) : Type 0 where
  -- two runs of it to its end, whatever their sinks, write one log and lead to one state
  pub log : (script : List ℕ) (left left' held held' other other' : Option (List ℕ)) (x : Logged D (Some script) left held held') (y : Logged D (Some script) left' other other')
      → (x.logged.log ≡ y.logged.log) × (x.logged.state ≡ y.logged.state)
  -- two recordings of it have one reel
  pub reel : (script : List ℕ) (left left' : Option (List ℕ)) (x : WasRecorded D (Some script) left) (y : WasRecorded D (Some script) left') → reel_of x ≡ reel_of y
  -- two runs of it in memory have one summary
  pub summary : (script : List ℕ) (x y : WasRun D script) → summary_of (log_of x) ≡ summary_of (log_of y)
