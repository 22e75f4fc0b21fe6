-- What a step did, wherever the log is kept.
use Rattle.fw_script_words.proofs.Common.{◌≡◌, ℕ, List, [], ◌∷◌, ◌++◌, Option, Some, None, Ok, refl, ap}
use Rattle.fw_script_words.proofs.Common.{sym, subst, ◌∙◌, append-nil, append_assoc, arith, log_bytes, Reading, Advances, Command, RunEnding}
use Rattle.fw_script_words.proofs.Common.{DeskRelations, BusView, Course, Going, Ended, course_of}
use Rattle.std.proofs.lemmas.List.Elements.{All-cons}
use Rattle.std.specs.List.{All}
use Rattle.fw_outside.specs.Outside.{Grows}
use Rattle.fw_model_run.proofs.Epochs.{run_epoch}
use Rattle.fw_log_entry.specs.Log.{TimedFits}
use Rattle.fw_log_entry.specs.declared.entry.Timed.{Timed}
use Rattle.fw_model_run.specs.State.{State, epoch_of}
use Rattle.fw_model_run.specs.Actions.{Action}
use Rattle.fw_bus.specs.Buses.{ContinuesRun, CutsRunOff, CutOff}
use Rattle.fw_script_words.specs.Going.{Carried}
use Rattle.fw_script_words.proofs.Goings.{going_more, call_shorter}

-- a place grows by all that a sink grows by
abbrev pub Mirrors : Option (List ℕ) → Option (List ℕ) → Option (List ℕ) → Option (List ℕ) → Type 0
Mirrors written written' after after' = (bytes : List ℕ) → Grows written written' bytes → Grows after after' bytes

-- a place that grows by nothing stays
pub grown_by_none : (after after' : Option (List ℕ)) → Grows after after' [] → after' ≡ after
grown_by_none None None h = refl
grown_by_none None (Some ys) h = absurd h
grown_by_none (Some xs) None h = absurd h
grown_by_none (Some xs) (Some ys) h = ap (λ (l : List ℕ). Some l) (h ∙ append-nil xs)

-- how the run ends with a log at a place, if nothing more was written
pub ends_there : {D : DeskRelations} {left now now' held after after' : Option (List ℕ)} {course : Course} {reader reader' : Reading} {bus : BusView} (e : RunEnding)
    → after' ≡ after → Ended D left now now' held after course reader reader' bus e → Ended D left now now' held after' course reader reader' bus e
ends_there {D} {left} {now} {now'} {held} {course = course} {reader = reader} {reader' = reader'} {bus = bus} e same h =
    subst (λ (x : Option (List ℕ)). Ended D left now now' held x course reader reader' bus e) (sym same) h

-- the same of another place
pub goes_there : {D : DeskRelations} {commands : List Command} {actions : List Action} {log : List Timed} {s : State} {c : Command} {now : BusView} {written written' : Option (List ℕ)}
    (after after' : Option (List ℕ))
    → (d : ContinuesRun D commands actions log s c now written written') → Grows after after' (log_bytes (epoch_of s.account.latest) d.out) → ContinuesRun D commands actions log s c now after after'
goes_there after after' d grew = record {
  order = d.order;
  decided = d.decided;
  more = d.more;
  out = d.out;
  state = d.state;
  carries = d.carries;
  given = d.given;
  run = d.run;
  stands = d.stands;
  grew = grew;
  sound = d.sound;
  restored = d.restored;
  elected = d.elected;
  recovers = d.recovers;
  withholds = d.withholds;
  settles = d.settles;
  opens = d.opens;
  whole = d.whole;
  fresh = d.fresh;
}

cut_there : {P : List Action → List Timed → State → Type 0} {s : State} {written written' : Option (List ℕ)} (after after' : Option (List ℕ)) → (x : CutOff P s written written')
    → Grows after after' (log_bytes (epoch_of s.account.latest) x.given ++ x.prefix) → CutOff P s after after'
cut_there after after' x appended = record {
  done = x.done;
  later = x.later;
  all = x.all;
  last = x.last;
  whole = x.whole;
  goes = x.goes;
  given = x.given;
  next = x.next;
  state = x.state;
  steps = x.steps;
  prefix = x.prefix;
  rest = x.rest;
  parts = x.parts;
  appended = appended;
}

pub stops_there : {D : DeskRelations} {commands : List Command} {actions : List Action} {log : List Timed} {s : State} {c : Command} {now : BusView} {written written' : Option (List ℕ)}
    (after after' : Option (List ℕ))
    → (d : CutsRunOff D commands actions log s c now written written') → Grows after after' (log_bytes (epoch_of s.account.latest) d.cut.given ++ d.cut.prefix)
    → CutsRunOff D commands actions log s c now after after'
unfolding cut_there
stops_there after after' d appended = record {
  order = d.order;
  decided = d.decided;
  cut = cut_there after after' d.cut appended;
  given = d.given;
  sound = d.sound;
  restored = d.restored;
  elected = d.elected;
  recovers = d.recovers;
  withholds = d.withholds;
  opens = d.opens;
  spent = d.spent;
}

-- the entries after others fit
fit_following : (log out : List Timed) → ((prefix rest : List Timed) (t : Timed) → log ++ out ≡ prefix ++ t ∷ rest → TimedFits t) → All TimedFits out
fit_following log [] h = λ k d l. absurd (omega (arith, l))
fit_following log (t ∷ ts) h = All-cons TimedFits t ts (h log ts t refl) (fit_following (log ++ t ∷ []) ts (λ prefix rest u e. h prefix rest u (sym (append_assoc log (t ∷ []) ts) ∙ e)))

-- a command more was carried out
pub carried : {D : DeskRelations} {left mid held after written written' : Option (List ℕ)} {old : Reading} {bus : BusView} (left' after' : Option (List ℕ)) (new : Reading) (bus' : BusView)
    (c : Command) (g : Going D left mid held after old bus)
    → Advances old new mid left' (Ok (Some c)) → (d : ContinuesRun D g.commands g.actions g.log g.state c bus' written written')
    → Grows after after' (log_bytes (epoch_of g.state.account.latest) d.out) → Carried D left mid left' held after' written written' (course_of g) old new bus'
unfolding going_more goes_there
carried {mid = mid} {after = after} {written = written} {written' = written'} {old = old} left' after' new bus' c g a d grew = record {
  going = going_more left' after' new bus' c g a (goes_there after after' d grew);
  command = c;
  reads = a;
  order = d.order;
  decided = d.decided;
  more = d.more;
  out = d.out;
  carries = d.carries;
  commands = refl;
  actions = refl;
  longer = refl;
  fit = fit_following g.log d.out d.sound.fits;
  wrote = subst (λ (n : ℕ). Grows written written' (log_bytes n d.out)) (run_epoch g.commands g.actions g.log g.state g.run) d.grew;
  shorter = call_shorter mid left' old new c a;
}
