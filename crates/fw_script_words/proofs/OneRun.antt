-- What a run writes is said by the script alone, if the desk is a function.
use Rattle.fw_script_words.proofs.Common.{◌≡◌, ℕ, List, [], ◌++◌, Option, Some, None, ap, sym, subst, ◌∙◌, append-nil, Command, DeskRelations}
use Rattle.fw_log_entry.specs.declared.entry.Timed.{Timed}
use Rattle.fw_dub.specs.Reels.{bytes_of}
use Rattle.fw_script_gen.specs.Summary.{summary_of}
use Rattle.fw_outside.specs.Outside.{IsAtEnd, Takes}
use Rattle.fw_script.proofs.ScriptLaws.{says_once}
use Rattle.fw_script.specs.Script.{IsScript}
use Rattle.fw_model_run.proofs.OneLog.{one_run}
use Rattle.fw_model_run.specs.Desks.{IsFunction}
use Rattle.fw_model_run.specs.Runs.{Run}
use Rattle.fw_model_run.specs.State.{State}
use Rattle.fw_script_words.specs.Ending.{Logged, LogsRun}
use Rattle.fw_script_words.specs.OneRun.{HasOneRun}

-- what was taken to the end is all that was told
all_taken : (script taken : List ℕ) (left : Option (List ℕ)) → Takes (Some script) left taken → IsAtEnd left → taken ≡ script
all_taken script taken None t e = absurd t
all_taken script taken (Some ys) t e = sym (t ∙ (ap (λ (z : List ℕ). taken ++ z) e ∙ append-nil taken))

-- the commands of the script
says_all : {D : DeskRelations} (script : List ℕ) (left held held' : Option (List ℕ)) → (x : Logged D (Some script) left held held') → IsScript script x.commands None
says_all script left held held' x = subst (λ (bytes : List ℕ). IsScript bytes x.commands None) (all_taken script x.script left x.taken x.end) x.says

-- two runs of the same commands
same_logged : {D : DeskRelations} (held held' other other' : Option (List ℕ)) (commands others : List Command) → IsFunction D → commands ≡ others
    → (x : LogsRun D held held' commands) → (y : LogsRun D other other' others) → (x.log ≡ y.log) × (x.state ≡ y.state)
same_logged {D} held held' other other' commands others only same x y =
    one_run D only commands x.actions y.actions x.log y.log x.state y.state x.run (subst (λ (cs : List Command). Run cs y.actions y.log y.state) (sym same) y.run) x.given y.given

one_log : (D : DeskRelations) → IsFunction D → (script : List ℕ) (left left' held held' other other' : Option (List ℕ)) (x : Logged D (Some script) left held held')
    (y : Logged D (Some script) left' other other')
    → (x.logged.log ≡ y.logged.log) × (x.logged.state ≡ y.logged.state)
one_log D only script left left' held held' other other' x y =
    let said = says_once (says_all script left held held' x) (says_all script left' other other' y) in
    same_logged held held' other other' x.commands y.commands only said.0 x.logged y.logged

-- what was written to memory, both times
one_in_memory : (D : DeskRelations) → IsFunction D → (script : List ℕ) (left left' : Option (List ℕ)) (written written' : List ℕ)
    (x : Logged D (Some script) left (Some []) (Some written)) (y : Logged D (Some script) left' (Some []) (Some written'))
    → (x.logged.log ≡ y.logged.log) × (x.logged.state ≡ y.logged.state)
one_in_memory D only script left left' written written' x y = one_log D only script left left' (Some []) (Some written) (Some []) (Some written') x y

pub has_one_run : (D : DeskRelations) → IsFunction D → HasOneRun D
has_one_run D only = record {
  log = one_log D only;
  reel = λ script left left' x y. ap (λ (s : State). bytes_of s.dub.reel) (one_in_memory D only script left left' x.written y.written x.ran y.ran).1;
  summary = λ script x y. ap (λ (log : List Timed). summary_of log) (one_in_memory D only script (Some x.left) (Some y.left) x.written y.written x.ran y.ran).0;
}
