-- How a run ends that a fault ends.
use Rattle.fw_script_words.proofs.Common.{◌≡◌, ℕ, List, [], ◌∷◌, ◌++◌, Option, Some, None, Ok, Err, refl}
use Rattle.fw_script_words.proofs.Common.{ap, sym, ◌∙◌, subst, append_assoc, append-nil, header_bytes, latest_epoch, Two, Reading, Advances}
use Rattle.fw_script_words.proofs.Common.{ScriptFault, Command, log_bytes, first_state, BusView, DeskRelations, Course, Going, Ended, course_of, RunEnding, WriteFault}
use Rattle.fw_outside.specs.Outside.{AppendsPrefix, Grows}
use Rattle.fw_outside.proofs.Parts.{Grows-Grows}
use Rattle.fw_log_entry.specs.Log.{epoch_after, entry_bytes}
use Rattle.fw_log_entry.proofs.LogLaws.{entries_push}
use Rattle.fw_model_run.proofs.Epochs.{run_epoch}
use Rattle.fw_script.specs.Reading.{IsHeld}
use Rattle.fw_script.specs.declared.ScriptFault.TheVariants as Fault
use Rattle.fw_script.proofs.ScriptLaws.{script_limit}
use Rattle.fw_script.proofs.CallLaws.{read_failed}
use Rattle.fw_model_run.specs.Runs.{begun}
use Rattle.fw_model_run.proofs.Runs.{log_append, run_steps}
use Rattle.fw_model_run.proofs.Audits.{run_audited, sound_audited}
use Rattle.fw_model_run.proofs.Avoids.{withholds}
use Rattle.fw_model_run.proofs.ComesBack.{comes_back}
use Rattle.fw_model_run.proofs.Elected.{elects_one}
use Rattle.fw_model_run.proofs.Recovery.{recovers}
use Rattle.fw_model_run.proofs.Sounds.{sound_throughout}
use Rattle.fw_model_run.proofs.Suffice.{rounds_suffice}
use Rattle.fw_model_run.proofs.Logs.{run_opens}
use Rattle.fw_bus.specs.Buses.{CutOff, CutsRunOff}
use Rattle.fw_model_run.specs.Carrying.{Carries}
use Rattle.fw_model_run.proofs.Given.{given_then}
use Rattle.fw_script_words.specs.Course.{course_at, StandsAt}
use Rattle.fw_script_words.specs.declared.ending.RunEnding.TheVariants as Endings
use Rattle.fw_script_words.specs.Ending.{Interrupted, PartLogged, ending_by}
use Rattle.fw_script_words.proofs.Calls.{given_before, given_no_end, some_command, some_fault, begins_nothing, takes_nothing}
use Rattle.fw_script_words.proofs.Endings.{Given, given_on, line_refused, logs_open}

-- ---- the run was cut off

-- not even the header was written
pub part_header : {D : DeskRelations} (left held held' : Option (List ℕ)) → AppendsPrefix held held' (header_bytes Two) → PartLogged D left left held held'
part_header left held held' wrote =
    let t = takes_nothing left in
    record {
      script = t.0;
      takes = t.1;
      commands = [];
      begun = None;
      says = begins_nothing t.0;
      actions = [];
      log = [];
      state = first_state;
      run = begun;
      done = [];
      began = refl;
      given = tt;
      out = [];
      after = first_state;
      steps = (refl, refl);
      sound = sound_throughout [] [] first_state (run_steps [] [] [] first_state begun);
      audited = run_audited [] [] first_state (run_steps [] [] [] first_state begun);
      restored = comes_back [] [] first_state (run_steps [] [] [] first_state begun);
      elected = elects_one [] [] first_state (run_steps [] [] [] first_state begun);
      recovers = recovers [] [] first_state (run_steps [] [] [] first_state begun);
      withholds = withholds [] [] first_state (run_steps [] [] [] first_state begun);
      rounds = rounds_suffice [] [] [] first_state begun;
      opens = run_opens [] [] [] first_state begun tt;
      grew = subst (λ (bytes : List ℕ). AppendsPrefix held held' bytes) (sym (append-nil (header_bytes Two))) wrote;
    }

-- the source failed
pub interrupted : {D : DeskRelations} {left mid held held1 : Option (List ℕ)} {old : Reading} {bus : BusView} (left' : Option (List ℕ)) (new : Reading) (g : Going D left mid held held1 old bus)
    → Advances old new mid left' (Err Fault.ReadFault) → IsHeld (Err Fault.ReadFault) new → Interrupted D left left' held held1
interrupted {D} {left} {mid} {held} {held1} {old} left' new g a cut =
    let b = given_before left' new (Err Fault.ReadFault) (some_fault Fault.ReadFault) g.read a in
    let f = read_failed left mid left' g.commands b.old new b.so b.call cut in
    record { taken = f.0; takes = f.1; commands = g.commands; lines = f.2; logged = logs_open g b.so }

-- the sink failed within a command
pub part_stopped : {D : DeskRelations} {left mid held held1 : Option (List ℕ)} {old : Reading} {bus : BusView}
    (left' held2 : Option (List ℕ)) (new : Reading) (bus' : BusView) (c : Command) (g : Going D left mid held held1 old bus)
    → Advances old new mid left' (Ok (Some c)) → CutsRunOff D g.commands g.actions g.log g.state c bus' held1 held2 → PartLogged D left left' held held2
part_stopped {D} {left} {mid} {held} {held1} {old} left' held2 new bus' c g a d = record {
  script = o.script;
  takes = o.takes;
  commands = g.commands;
  begun = Some c;
  says = (new.line, o.on_line);
  actions = g.actions;
  log = g.log;
  state = g.state;
  run = g.run;
  done = x.done;
  began = (d.order, x.later, x.all, x.last, d.decided, x.whole);
  given = given_then D g.actions x.done g.given d.given;
  out = x.given ++ x.next ∷ [];
  after = x.state;
  steps = x.steps;
  sound = d.sound;
  audited = sound_audited (g.actions ++ x.done) (g.log ++ (x.given ++ x.next ∷ [])) d.sound;
  restored = d.restored;
  elected = d.elected;
  recovers = d.recovers;
  withholds = d.withholds;
  rounds = rounds_suffice g.commands g.actions g.log g.state g.run;
  opens = d.opens (given_no_end (given_before left' new (Ok (Some c)) (some_command c) g.read a).so);
  grew = record {
    prefix = (header_bytes Two ++ log_bytes 0 g.log) ++ (log_bytes n x.given ++ x.prefix);
    rest = x.rest;
    parts = ap (λ (z : List ℕ). header_bytes Two ++ z) (log_append 0 g.log (x.given ++ x.next ∷ []) ∙ ap (λ (z : List ℕ). log_bytes 0 g.log ++ z)
        (entries_push Two n x.given x.next ∙ ap (λ (z : List ℕ). log_bytes n x.given ++ z)
        (ap (λ (k : ℕ). entry_bytes Two (epoch_after (latest_epoch k x.given) x.next.what) x.next) (sym (run_epoch g.commands g.actions g.log g.state g.run)) ∙ x.parts)))
        ∙ regroup (header_bytes Two) (log_bytes 0 g.log) (log_bytes n x.given) x.prefix x.rest;
    appended = Grows-Grows held held1 held2 (header_bytes Two ++ log_bytes 0 g.log) (log_bytes n x.given ++ x.prefix) g.grew
        (subst (λ (k : ℕ). Grows held1 held2 (log_bytes k x.given ++ x.prefix)) (run_epoch g.commands g.actions g.log g.state g.run) x.appended);
  };
}
  where
    o : Given left left' g.commands c new
    o = given_on left' new c g a

    x : CutOff (Carries g.state d.order) g.state held1 held2
    x = d.cut

    n : ℕ
    n = latest_epoch 0 g.log

    regroup : (a b c d e : List ℕ) → a ++ (b ++ (c ++ (d ++ e))) ≡ ((a ++ b) ++ (c ++ d)) ++ e
    regroup a b c d e = simp append_assoc

-- ---- any ending

-- the reader answered a fault, and has the text of its line
pub faulted : {D : DeskRelations} {left mid held held1 : Option (List ℕ)} {old : Reading} {bus : BusView}
    (left' : Option (List ℕ)) (new : Reading) (f : ScriptFault) (g : Going D left mid held held1 old bus)
    → Advances old new mid left' (Err f) → IsHeld (Err f) new → Ended D left mid left' held held1 (course_of g) old new bus (ending_by f new.line)
unfolding line_refused interrupted
faulted left' new Fault.BadLine g a few =
    record { runs = line_refused left' new Fault.BadLine g a few (λ e. cc); same = refl; reads = a; stands = (g.stands, g.fresh); shown = (refl, refl); stops = refl }
faulted left' new Fault.LineTooLong g a few =
    record { runs = line_refused left' new Fault.LineTooLong g a few (λ e. cc); same = refl; reads = a; stands = (g.stands, g.fresh); shown = refl; stops = refl }
faulted left' new Fault.NoEnd g a few = record { runs = line_refused left' new Fault.NoEnd g a few (λ e. cc); same = refl; reads = a; stands = (g.stands, g.fresh); shown = tt; stops = refl }
faulted left' new Fault.ReadFault g a few = record { runs = interrupted left' new g a few; same = refl; reads = a; stands = (g.stands, g.fresh); shown = tt; stops = few }
faulted left' new Fault.TooLong g a few =
    let r = line_refused left' new Fault.TooLong g a few (λ e. cc) in
    record { runs = record { line = new.line; refused = r; long = (script_limit r.script r.commands _ r.says).0 refl }; same = refl; reads = a; stands = (g.stands, g.fresh); shown = tt; stops = tt }

-- the sink failed, and the bus is spent
pub stopped : {D : DeskRelations} {left mid held held1 : Option (List ℕ)} {old : Reading} {bus : BusView}
    (left' held2 : Option (List ℕ)) (new : Reading) (bus' : BusView) (c : Command) (g : Going D left mid held held1 old bus)
    → Advances old new mid left' (Ok (Some c)) → CutsRunOff D g.commands g.actions g.log g.state c bus' held1 held2
    → Ended D left mid left' held held2 (course_of g) old new bus' (Endings.Stopped WriteFault)
unfolding part_stopped
stopped left' held2 new bus' c g a d = record { runs = part_stopped left' held2 new bus' c g a d; same = refl; reads = a; stands = tt; shown = tt; stops = tt }

-- the bus stands for the state of the run
pub ended_stands : {D : DeskRelations} {left now now' held held' : Option (List ℕ)} {course : Course} {reader reader' : Reading} {bus : BusView} (e : RunEnding)
    → (d : Ended D left now now' held held' course reader reader' bus e) → StandsAt e bus (course_at D left now' held held' e d.runs).state
ended_stands {bus = bus} e d = subst (λ (k : Course). StandsAt e bus k.state) (sym d.same) d.stands
