-- What was logged, by the ending.
use Rattle.fw_script_words.proofs.Common.{◌≢◌, ℕ, ◌+◌, ◌≤◌, List, [], ◌++◌, length, true, Option, Some, None, Ok, Err, refl, ap, subst, append-nil, arith, header_bytes, Two, Reading, Advances}
use Rattle.fw_script_words.proofs.Common.{ScriptFault, Command, log_bytes, BusView, DeskRelations, Going, Ended, course_of, Rule}
use Rattle.fw_log_entry.specs.Log.{LogOpens}
use Rattle.fw_script.specs.Reading.{IsHeld, with_taken}
use Rattle.fw_script.specs.Script.{IsScript}
use Rattle.fw_script.specs.Script.Says.{refuses}
use Rattle.fw_script.specs.Leading.{HasRead, IsOnLine, TakesFrom}
use Rattle.fw_script.specs.declared.ScriptFault.TheVariants as Fault
use Rattle.fw_script.proofs.ScriptLaws.{says_from}
use Rattle.fw_order.specs.declared.rule.RuleFault.{RuleFault}
use Rattle.fw_model_run.specs.Rules.{Decides}
use Rattle.fw_model_run.specs.Runs.{Run}
use Rattle.fw_model_run.proofs.Runs.{run_steps}
use Rattle.fw_model_run.proofs.Audits.{run_audited}
use Rattle.fw_model_run.proofs.Avoids.{withholds}
use Rattle.fw_model_run.proofs.ComesBack.{comes_back}
use Rattle.fw_model_run.proofs.Elected.{elects_one}
use Rattle.fw_model_run.proofs.Recovery.{recovers}
use Rattle.fw_model_run.proofs.Sounds.{sound_throughout}
use Rattle.fw_model_run.proofs.Suffice.{rounds_suffice}
use Rattle.fw_model_run.proofs.Logs.{run_opens, run_spells}
use Rattle.fw_script_words.specs.declared.ending.RunEnding.TheVariants as Endings
use Rattle.fw_script_words.specs.Scripts.{beyond}
use Rattle.fw_script_words.specs.Ending.{LogsRun, Logged, RefusesLine, RefusesCommand}
use Rattle.fw_script_words.proofs.Calls.{given_before, given_no_end, ended_before, still_ended, some_command, some_fault, all, whole_script, whole_takes, the_lines, taken_held, following}

-- what was carried out so far
abbrev logs_run : {D : DeskRelations} {left now held after : Option (List ℕ)} {reader : Reading} {bus : BusView} (g : Going D left now held after reader bus)
    → LogOpens g.log Two (header_bytes Two ++ log_bytes 0 g.log) → LogsRun D held after g.commands
logs_run g opens = record {
  actions = g.actions;
  log = g.log;
  state = g.state;
  run = g.run;
  given = g.given;
  sound = sound_throughout g.actions g.log g.state (run_steps g.commands g.actions g.log g.state g.run);
  audited = run_audited g.actions g.log g.state (run_steps g.commands g.actions g.log g.state g.run);
  restored = comes_back g.actions g.log g.state (run_steps g.commands g.actions g.log g.state g.run);
  elected = elects_one g.actions g.log g.state (run_steps g.commands g.actions g.log g.state g.run);
  recovers = recovers g.actions g.log g.state (run_steps g.commands g.actions g.log g.state g.run);
  withholds = withholds g.actions g.log g.state (run_steps g.commands g.actions g.log g.state g.run);
  rounds = rounds_suffice g.commands g.actions g.log g.state g.run;
  opens = opens;
  grew = g.grew;
}

-- before the end
abbrev pub logs_open : {D : DeskRelations} {left now held after : Option (List ℕ)} {reader known : Reading} {bus : BusView} (g : Going D left now held after reader bus)
    → HasRead left now g.commands known → LogsRun D held after g.commands
logs_open g so = logs_run g (run_opens g.commands g.actions g.log g.state g.run (given_no_end so))

-- ---- the input was read to its end

pub logged_all : {D : DeskRelations} {left mid held held1 : Option (List ℕ)} {old : Reading} {bus : BusView} (left' : Option (List ℕ)) (new : Reading) (g : Going D left mid held held1 old bus)
    → Advances old new mid left' (Ok None) → Logged D left left' held held1
logged_all {D} {left} {mid} {held} {held1} {old} left' new g a =
    let h = ended_before a.known new g.read a.gives in
    let t = still_ended left mid left' g.commands old new h a in
    let whole = run_spells h.earlier g.actions g.log g.state (subst (λ (cs : List Command). Run cs g.actions g.log g.state) h.last g.run) h.no_end in
    record {
      script = h.script;
      taken = t.0;
      end = t.1;
      commands = g.commands;
      says = h.says;
      logged = logs_run g whole.opens;
      whole = whole;
    }

-- and the bus stands for the state of its run
pub logged_with : {D : DeskRelations} {left mid held held1 : Option (List ℕ)} {old : Reading} {bus : BusView} (left' : Option (List ℕ)) (new : Reading) (g : Going D left mid held held1 old bus)
    → Advances old new mid left' (Ok None) → Ended D left mid left' held held1 (course_of g) old new bus Endings.Done
unfolding logged_all
logged_with left' new g a = record { runs = logged_all left' new g a; same = refl; reads = a; stands = (g.stands, g.fresh); shown = tt; stops = tt }

-- ---- a line is refused

-- what is held after a fault
pub held_following : (f : ScriptFault) (q : Reading) → IsHeld (Err f) q → length q.rest ≤ beyond f
held_following Fault.BadLine q h = h
held_following Fault.LineTooLong q h = h
held_following Fault.NoEnd q h = omega (arith, ap (λ (l : List ℕ). length l) h)
held_following Fault.ReadFault q h = h.1
held_following Fault.TooLong q h = h

unfoldable pub line_refused : {D : DeskRelations} {left mid held held1 : Option (List ℕ)} {old : Reading} {bus : BusView} (left' : Option (List ℕ)) (new : Reading) (f : ScriptFault)
    (g : Going D left mid held held1 old bus)
    → Advances old new mid left' (Err f) → IsHeld (Err f) new → f ≢ Fault.ReadFault → RefusesLine D left left' held held1 f new.line
line_refused {D} {left} {mid} {held} {held1} {old} left' new f g a few told =
    let b = given_before left' new (Err f) (some_fault f) g.read a in
    let l = the_lines left mid left' g.commands b.old new (Err f) (some_fault f) b.so b.call in
    let script = whole_script left mid left' g.commands b.old new (Err f) (some_fault f) b.so b.call in
    let after = with_taken new (following left mid left' g.commands b.old new (Err f) (some_fault f) b.so b.call).0 true in
    let held : length (all left mid left' g.commands b.old new (Err f) (some_fault f) b.so b.call) ≤ new.before + length new.rest =
    taken_held left mid left' g.commands b.old new (Err f) (some_fault f) b.so b.call in
    let near : length (all left mid left' g.commands b.old new (Err f) (some_fault f) b.so b.call) ≤ new.before + beyond f = omega (arith, held, held_following f new few) in
    record {
      script = script;
      takes = whole_takes left mid left' g.commands b.old new (Err f) (some_fault f) b.so b.call;
      commands = g.commands;
      says = subst (λ (cs : List Command). IsScript script cs (Some (record { fault = f; line = new.line }))) (append-nil g.commands)
          (says_from l.1 [] (Some (record { fault = f; line = new.line })) (refuses l.2 told));
      at = record { before = l.0; after = after; leads = l.1; gives = l.2 };
      near = near;
      logged = logs_open g b.so;
    }

-- a command that was given is on the line that the reader has read last
pub record Given (left left' : Option (List ℕ)) (commands : List Command) (c : Command) (new : Reading) : Type 0 where
  pub script : List ℕ
  pub takes : TakesFrom left left' script
  pub on_line : IsOnLine script commands c new.line
  pub held : length takes.taken ≤ on_line.after.before + length new.rest

pub given_on : {D : DeskRelations} {left mid held held1 : Option (List ℕ)} {old : Reading} {bus : BusView} (left' : Option (List ℕ)) (new : Reading) (c : Command)
    (g : Going D left mid held held1 old bus) (a : Advances old new mid left' (Ok (Some c))) → Given left left' g.commands c new
given_on {D} {left} {mid} {held} {held1} {old} left' new c g a =
    let b = given_before left' new (Ok (Some c)) (some_command c) g.read a in
    let l = the_lines left mid left' g.commands b.old new (Ok (Some c)) (some_command c) b.so b.call in
    record {
      script = whole_script left mid left' g.commands b.old new (Ok (Some c)) (some_command c) b.so b.call;
      takes = whole_takes left mid left' g.commands b.old new (Ok (Some c)) (some_command c) b.so b.call;
      on_line = record
          { before = l.0; after = with_taken new (following left mid left' g.commands b.old new (Ok (Some c)) (some_command c) b.so b.call).0 true; leads = l.1; gives = l.2; number = refl };
      held = taken_held left mid left' g.commands b.old new (Ok (Some c)) (some_command c) b.so b.call;
    }

-- a command breaks a rule
pub command_refused : {D : DeskRelations} {left mid held held1 : Option (List ℕ)} {old : Reading} {bus : BusView} (left' : Option (List ℕ)) (new : Reading) (c : Command) (f : RuleFault)
    (g : Going D left mid held held1 old bus)
    → Advances old new mid left' (Ok (Some c)) → IsHeld (Ok (Some c)) new → Decides g.state c (Err f) → RefusesCommand D left left' held held1 f new.line
command_refused {D} {left} {mid} {held} {held1} {old} left' new c f g a few d =
    let o = given_on left' new c g a in
    let b = given_before left' new (Ok (Some c)) (some_command c) g.read a in
    record { script = o.script; takes = o.takes; commands = g.commands; command = c; on_line = o.on_line; near = omega (arith, o.held, few); logged = logs_open g b.so; decided = d }

-- the bus stands for the state before it, and the reader has the text of its line
pub rule_ends : {D : DeskRelations} {left mid held held1 : Option (List ℕ)} {old : Reading} {bus : BusView} (left' : Option (List ℕ)) (new : Reading) (c : Command) (f : RuleFault)
    (g : Going D left mid held held1 old bus)
    → Advances old new mid left' (Ok (Some c)) → IsHeld (Ok (Some c)) new → Decides g.state c (Err f)
    → Ended D left mid left' held held1 (course_of g) old new bus (Endings.Refused (record { line = new.line; why = Rule f }))
unfolding command_refused given_on
rule_ends left' new c f g a few d = record { runs = command_refused left' new c f g a few d; same = refl; reads = a; stands = (g.stands, g.fresh); shown = refl; stops = refl }
