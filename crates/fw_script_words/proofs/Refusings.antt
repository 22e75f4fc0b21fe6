-- Why a line is refused, told by what the reader and the bus show of it.
use Rattle.fw_script_words.proofs.Common.{◌≡◌, ◌≢◌, ℕ, List, [], Option, Some, Ok, refl, ap, sym, ◌∙◌}
use Rattle.fw_script_words.proofs.Common.{subst, Command, End, Reading, GivesFirst, DeskRelations, StandsFor, BusView, Rule, RunEnding, Done}
use Rattle.fw_script_words.proofs.Common.{Refused, Stopped}
use Rattle.fw_outside.specs.declared.stop.Stop.{Stop}
use Rattle.fw_script_command.specs.Form.{HasForm}
use Rattle.fw_script.specs.Reading.GivesFirst.{skipped, command, end_line, end_of_input}
use Rattle.fw_check.specs.Goods.{good_text}
use Rattle.fw_check.specs.Refusals.{bad_line_text, long_line_text}
use Rattle.fw_bus_state.specs.Stands.{IsReady}
use Rattle.fw_bus.proofs.Runs.{ready_of, run_good}
use Rattle.fw_check_causes.specs.Causes.{cause}
use Rattle.fw_script_words.specs.Checks.{counts_of, refusal_text, told_of}
use Rattle.fw_script_words.specs.Telling.{IsChecked, IsTold, IsWhy, checked_text}
use Rattle.fw_script_words.specs.Course.{ShowsLine, refused_course}
use Rattle.fw_script_words.specs.Ending.{RefusesBy}
use Rattle.fw_script_words.specs.declared.ending.Refusal.{Refusal}
use Rattle.fw_script_words.specs.declared.ending.Refusal.TheVariants.{BadLine, LineTooLong, NoEnd}
use Rattle.fw_script_words.proofs.Completions.{other_than_end}

-- ---- the bus is ready

refused_ready : (D : DeskRelations) (left left' held held' : Option (List ℕ)) (bus : BusView) (why : Refusal) (line : ℕ) (x : RefusesBy D left left' held held' why line)
    → StandsFor bus.machine (refused_course D left left' held held' why line x).state → IsReady bus.machine
refused_ready D left left' held held' bus BadLine line x s =
    ready_of (record { commands = x.commands; actions = x.logged.actions; log = x.logged.log; state = x.logged.state; run = x.logged.run; stands = s })
refused_ready D left left' held held' bus LineTooLong line x s =
    ready_of (record { commands = x.commands; actions = x.logged.actions; log = x.logged.log; state = x.logged.state; run = x.logged.run; stands = s })
refused_ready D left left' held held' bus NoEnd line x s =
    ready_of (record { commands = x.commands; actions = x.logged.actions; log = x.logged.log; state = x.logged.state; run = x.logged.run; stands = s })
refused_ready D left left' held held' bus (Rule rule) line x s =
    ready_of (record { commands = x.commands; actions = x.logged.actions; log = x.logged.log; state = x.logged.state; run = x.logged.run; stands = s })

-- if a run did not stop early
pub checked_ready : (D : DeskRelations) (left left' : Option (List ℕ)) (reader : Reading) (bus : BusView) (count : ℕ) (e : RunEnding) → ((stop : Stop) → e ≢ Stopped stop)
    → IsChecked D left left' reader bus count e → IsReady bus.machine
checked_ready D left left' reader bus count Done other x =
    let w = x.0.1 in ready_of (record { commands = w.commands; actions = w.logged.actions; log = w.logged.log; state = w.logged.state; run = w.logged.run; stands = x.2 })
checked_ready D left left' reader bus count (Refused r) other x = refused_ready D left left' (Some []) (Some x.written) bus r.why r.line x.runs x.stands
checked_ready D left left' reader bus count (Stopped stop) other x = absurd (other stop refl)

-- ---- the texts

-- a command that was given, but for the end, is that of the line that was read last
given_text : {p q : Reading} {r : Option Command} (c : Command) → GivesFirst p (Ok r) q → r ≡ Some c → c ≢ End → HasForm c q.text
given_text c (skipped text size line skip g) e other = given_text c g e other
given_text c (command d text size line skip stage form o) e other = let h : d ≡ c = cc in subst (λ (x : Command). HasForm x text) h form
given_text c (end_line text size line skip stage form g) e other = given_text c g e other
given_text c (end_of_input a i) e other = let h : End ≡ c = cc in absurd (other (sym h))

why_told : (D : DeskRelations) (left left' held held' : Option (List ℕ)) (reader : Reading) (bus : BusView) (why : Refusal) (line : ℕ) (x : RefusesBy D left left' held held' why line)
    → ShowsLine D left left' held held' why line x reader → StandsFor bus.machine (refused_course D left left' held held' why line x).state
    → IsWhy why line reader bus (refusal_text D left left' held held' why line x)
why_told D left left' held held' reader bus BadLine line x s stands =
    ap (λ (text : List ℕ). bad_line_text line text x.at.after.end) s.0 ∙ ap (λ (n : ℕ). bad_line_text line reader.text n) s.1
why_told D left left' held held' reader bus LineTooLong line x s stands = ap (λ (text : List ℕ). long_line_text line text) s
why_told D left left' held held' reader bus NoEnd line x s stands = refl
why_told D left left' held held' reader bus (Rule rule) line x s stands = record {
  state = x.logged.state;
  broken = x.command;
  good = run_good x.logged.run;
  stands = stands;
  form = subst (λ (text : List ℕ). HasForm x.command text) s (given_text x.command x.on_line.gives refl (other_than_end x.logged.state x.command rule x.decided));
  decided = x.decided;
  told = ap (λ (text : List ℕ). told_of line text (cause x.logged.state x.command rule)) s;
}

-- what is told of a run is told by what the reader and the bus show
pub checked_told : (D : DeskRelations) (left left' : Option (List ℕ)) (reader : Reading) (bus : BusView) (count : ℕ) (e : RunEnding) (x : IsChecked D left left' reader bus count e)
    → IsTold e count reader bus (checked_text D left left' reader bus count e x)
checked_told D left left' reader bus count Done x = (x.0.1.logged.state, x.2, ap (λ (n : ℕ). good_text (counts_of n x.0.1.logged.state)) x.1)
checked_told D left left' reader bus count (Refused r) x = why_told D left left' (Some []) (Some x.written) reader bus r.why r.line x.runs x.shown x.stands
checked_told D left left' reader bus count (Stopped stop) x = refl
