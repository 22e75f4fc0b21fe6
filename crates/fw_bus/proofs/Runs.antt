-- What a call of the bus did, over the runs for whose states it stands.
use Rattle.std.proofs.Common.{ℕ, Bool, List, [], ◌∷◌, ◌++◌, Option, sym, subst, append-nil, IsTrue, IsFalse}
use Rattle.std.specs.Prelude.{Ok, Err}
use Rattle.fw_log_entry.specs.declared.entry.Timed.{Timed}
use Rattle.fw_script_command.specs.declared.command.Command.{Command}
use Rattle.fw_order.specs.declared.order.Order.{Order}
use Rattle.fw_model_run.specs.State.{State, first_state}
use Rattle.fw_model_run.specs.Actions.{Action}
use Rattle.fw_model_run.specs.Carrying.{Carries}
use Rattle.fw_model_run.specs.Desks.{DeskRelations}
use Rattle.fw_model_run.specs.Runs.{Run, and_then}
use Rattle.fw_model_run.specs.Good.{IsGood}
use Rattle.fw_model_run.proofs.Avoids.{withholds}
use Rattle.fw_model_run.proofs.ComesBack.{comes_back}
use Rattle.fw_model_run.proofs.Elected.{elects_one}
use Rattle.fw_model_run.proofs.Kept.{first_numbers}
use Rattle.fw_model_run.proofs.Recovery.{recovers}
use Rattle.fw_model_run.proofs.Runs.{run_steps, steps_then}
use Rattle.fw_model_run.proofs.Sounds.{sound_throughout}
use Rattle.fw_model_run.proofs.Logs.{cut_opens, run_spells}
use Rattle.fw_model_run.proofs.EnoughRounds.{enough}
use Rattle.fw_model_run.proofs.Steps.{steps_good}
use Rattle.fw_model_run.proofs.Times.{first_good}
use Rattle.fw_bus_state.specs.declared.machine.Machine.{Machine}
use Rattle.fw_bus_state.specs.Giving.{between}
use Rattle.fw_bus_state.specs.Stands.{IsReady, StandsFor}
use Rattle.fw_bus_engine.specs.Framing.{PerformedWithDesk, IsQuiet}
use Rattle.fw_bus_rules.specs.Decisions.{Decided}
use Rattle.fw_bus.specs.Buses.{IsReached, ContinuesRun, CutsRunOff}
use Rattle.fw_bus_engine.proofs.Doings.{steps_numbers}
use Rattle.fw_bus.proofs.Quiet.{run_quiet, quiet_of}

-- the state of a run is good, so a machine that stands for one is ready
pub run_good : {commands : List Command} {actions : List Action} {log : List Timed} {s : State} → Run commands actions log s → IsGood s
run_good {commands = cs} {actions = xs} {log = log} {s = s} r = steps_good first_state s xs log first_good (run_steps cs xs log s r)

pub ready_of : {m : Machine} → IsReached m → IsReady m
ready_of h = record {
  state = h.state;
  good = run_good h.run;
  numbers = steps_numbers first_state h.state h.actions h.log first_good first_numbers (run_steps h.commands h.actions h.log h.state h.run);
  stands = h.stands;
}

-- no response waits in it
pub quiet_reached : {m : Machine} → IsReached m → IsQuiet m.devices
quiet_reached {m} h = quiet_of m h.state h.stands (run_quiet h.run)

-- a command more
pub reached_more : {T E : Type 0} {D : DeskRelations} {m now : Machine} {a b : Option (List ℕ)} {k l : ℕ} {u : T} (c : Command) (o : Order) → IsReached m → Decided m c (Ok o)
    → PerformedWithDesk {T = T} {E = E} D (λ s. Carries s o) m now (between a b k l) (Ok u) → IsReached now
reached_more c o r decided d =
    let good = run_good r.run in
    let x = d.shown r.state good r.stands in
    record {
      commands = r.commands ++ c ∷ [];
      actions = r.actions ++ x.actions;
      log = r.log ++ x.out;
      state = x.state;
      run = and_then r.run c o x.actions x.out x.state (decided r.state good r.stands) x.whole.0;
      stands = x.stands;
    }

pub goes : {T E : Type 0} {D : DeskRelations} {m now : Machine} {a b : Option (List ℕ)} {k l : ℕ} {u : T} (c : Command) (o : Order) (spent : Bool) → IsFalse spent → Decided m c (Ok o)
    → PerformedWithDesk {T = T} {E = E} D (λ s. Carries s o) m now (between a b k l) (Ok u) → (commands : List Command) (actions : List Action) (log : List Timed) (s : State)
    → Run commands actions log s
    → StandsFor m s → ContinuesRun D commands actions log s c (record { machine = now; spent = spent }) a b
goes c o spent un decided d commands actions log s r st =
    let good = run_good r in
    let x = d.shown s good st in
    let is = decided s good st in
    let more = and_then r c o x.actions x.out x.state is x.whole.0 in
    record {
      order = o;
      decided = is;
      more = x.actions;
      out = x.out;
      state = x.state;
      carries = x.whole.0;
      given = x.whole.1;
      run = more;
      stands = x.stands;
      grew = x.grew;
      sound = sound_throughout (actions ++ x.actions) (log ++ x.out) x.state (run_steps (commands ++ c ∷ []) (actions ++ x.actions) (log ++ x.out) x.state more);
      restored = comes_back (actions ++ x.actions) (log ++ x.out) x.state (run_steps (commands ++ c ∷ []) (actions ++ x.actions) (log ++ x.out) x.state more);
      elected = elects_one (actions ++ x.actions) (log ++ x.out) x.state (run_steps (commands ++ c ∷ []) (actions ++ x.actions) (log ++ x.out) x.state more);
      recovers = recovers (actions ++ x.actions) (log ++ x.out) x.state (run_steps (commands ++ c ∷ []) (actions ++ x.actions) (log ++ x.out) x.state more);
      withholds = withholds (actions ++ x.actions) (log ++ x.out) x.state (run_steps (commands ++ c ∷ []) (actions ++ x.actions) (log ++ x.out) x.state more);
      settles = λ begins rounds ordered many. enough s x.state rounds x.actions x.out begins many (subst (λ z. Carries s z x.actions x.out x.state) ordered x.whole.0);
      opens = λ none. cut_opens commands actions x.actions [] log x.out x.out s x.state x.state o r none (subst (λ z. Carries s o z x.out x.state) (sym (append-nil x.actions)) x.whole.0) x.steps;
      whole = λ none end. run_spells commands (actions ++ x.actions) (log ++ x.out) x.state (subst (λ z. Run (commands ++ z ∷ []) (actions ++ x.actions) (log ++ x.out) x.state) end more) none;
      fresh = un;
    }

pub stops : {T E : Type 0} {D : DeskRelations} {m now mid : Machine} {a b : Option (List ℕ)} {k l : ℕ} {e : E} (c : Command) (o : Order) (spent : Bool) → IsTrue spent → Decided m c (Ok o)
    → PerformedWithDesk {T = T} {E = E} D (λ s. Carries s o) m mid (between a b k l) (Err e) → (commands : List Command) (actions : List Action) (log : List Timed) (s : State)
    → Run commands actions log s
    → StandsFor m s → CutsRunOff D commands actions log s c (record { machine = now; spent = spent }) a b
stops c o spent is decided d commands actions log s r st =
    let good = run_good r in
    let cut = d.shown s good st in
    let x = cut.0 in
    let given = x.given ++ x.next ∷ [] in
    record {
      order = o;
      decided = decided s good st;
      cut = x;
      given = cut.1;
      sound = sound_throughout (actions ++ x.done) (log ++ given) x.state (steps_then first_state s x.state actions x.done log given (run_steps commands actions log s r) x.steps);
      restored = comes_back (actions ++ x.done) (log ++ given) x.state (steps_then first_state s x.state actions x.done log given (run_steps commands actions log s r) x.steps);
      elected = elects_one (actions ++ x.done) (log ++ given) x.state (steps_then first_state s x.state actions x.done log given (run_steps commands actions log s r) x.steps);
      recovers = recovers (actions ++ x.done) (log ++ given) x.state (steps_then first_state s x.state actions x.done log given (run_steps commands actions log s r) x.steps);
      withholds = withholds (actions ++ x.done) (log ++ given) x.state (steps_then first_state s x.state actions x.done log given (run_steps commands actions log s r) x.steps);
      opens = λ none. cut_opens commands actions x.done x.later log given x.all s x.state x.last o r none x.whole x.steps;
      spent = is;
    }
