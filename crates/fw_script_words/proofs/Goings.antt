-- Command after command of the bus.
use Rattle.fw_script_words.proofs.Common.{◌≡◌, ◌≢◌, inl, inr, ℕ, List, [], ◌∷◌, ◌++◌, Option, Some, Ok, refl, ap, sym, ◌∙◌, subst, append_assoc, append-nil, arith, IsFalse, header_bytes, latest_epoch}
use Rattle.fw_script_words.proofs.Common.{Two, Reading, Answer, GivesFirst, Advances, unread, Command, End, log_bytes, first_state, DeskRelations, StandsFor, BusView, to_read, Going}
use Rattle.std.proofs.Common.{◌⊎◌, ◌<◌}
use Rattle.fw_outside.specs.Outside.{Grows}
use Rattle.fw_outside.proofs.Parts.{Grows-Grows}
use Rattle.fw_model_run.proofs.Epochs.{run_epoch}
use Rattle.fw_script.specs.Reader.PassesOver.{nowhere}
use Rattle.fw_script.specs.Reading.{GivesNext}
use Rattle.fw_script.specs.declared.stage.ReaderStage.{ReaderStage}
use Rattle.fw_script.specs.declared.stage.ReaderStage.TheVariants.{Commands, AfterEnd, Done, Failed}
use Rattle.fw_script.proofs.CallLaws.{next_open, read_nothing}
use Rattle.fw_model_run.specs.Runs.{begun}
use Rattle.fw_model_run.proofs.Given.{given_then}
use Rattle.fw_model_run.proofs.Runs.{log_append}
use Rattle.fw_bus.specs.Buses.{ContinuesRun, IsCommand}
use Rattle.fw_script_words.specs.Going.{HasReadTo, open_of}
use Rattle.fw_script_words.proofs.Givings.{is_end, given_form, following_command, over_end}
use Rattle.fw_script_words.proofs.Calls.{IsSomething, given_before, some_command, reads_on}

unfoldable pub going_first : {D : DeskRelations} (left held after : Option (List ℕ)) (reader : Reading) (bus : BusView) → reader ≡ unread → StandsFor bus.machine first_state → IsFalse bus.spent
    → Grows held after (header_bytes Two) → Going D left left held after reader bus
going_first left held after reader bus new stands fresh header = record {
  commands = [];
  actions = [];
  log = [];
  state = first_state;
  run = begun;
  given = tt;
  stands = stands;
  fresh = fresh;
  grew = subst (λ (bytes : List ℕ). Grows held after bytes) (sym (append-nil (header_bytes Two))) header;
  read = record { known = reader; read = subst (λ (p : Reading). HasReadTo p.stage left left [] p) (sym new) (read_nothing left); passed = nowhere };
}

-- a command was given and carried out
unfoldable pub going_more : {D : DeskRelations} {left mid held held1 : Option (List ℕ)} {old : Reading} {bus : BusView} (left' held2 : Option (List ℕ)) (new : Reading) (bus' : BusView) (c : Command)
    (g : Going D left mid held held1 old bus)
    → Advances old new mid left' (Ok (Some c)) → ContinuesRun D g.commands g.actions g.log g.state c bus' held1 held2 → Going D left left' held held2 new bus'
going_more {D} {left} {mid} {held} {held1} {old} {bus} left' held2 new bus' c g a d =
    let b = given_before left' new (Ok (Some c)) (some_command c) g.read a in
    record {
      commands = g.commands ++ c ∷ [];
      actions = g.actions ++ d.more;
      log = g.log ++ d.out;
      state = d.state;
      run = d.run;
      given = given_then D g.actions d.more g.given d.given;
      stands = d.stands;
      fresh = d.fresh;
      grew = subst (λ (bytes : List ℕ). Grows held held2 bytes)
          (append_assoc (header_bytes Two) (log_bytes 0 g.log) (log_bytes (latest_epoch 0 g.log) d.out) ∙ ap (λ (bytes : List ℕ). header_bytes Two ++ bytes) (sym (log_append 0 g.log d.out)))
          (Grows-Grows held held1 held2 (header_bytes Two ++ log_bytes 0 g.log) (log_bytes (latest_epoch 0 g.log) d.out) g.grew
          (subst (λ (n : ℕ). Grows held1 held2 (log_bytes n d.out)) (run_epoch g.commands g.actions g.log g.state g.run) d.grew));
      read = record { known = new; read = reads_on left mid left' g.commands b.old new c b.so b.call b.gives; passed = nowhere };
    }

-- a command that was given is that of a line
pub going_form : {D : DeskRelations} {left mid held held1 : Option (List ℕ)} {old : Reading} {bus : BusView} (left' : Option (List ℕ)) (new : Reading) (c : Command)
    (g : Going D left mid held held1 old bus)
    → Advances old new mid left' (Ok (Some c)) → IsCommand c
going_form left' new c g a = given_form (given_before left' new (Ok (Some c)) (some_command c) g.read a).gives c refl

-- if a call gives something the end was not given before
open_before : (s : ReaderStage) (p q : Reading) (r : Answer) → IsSomething r → GivesNext s p r q → open_of s ≡ 1
open_before Commands p q r some g = refl
open_before AfterEnd p q r some g = refl
open_before Done p q r some g = absurd (some g.0)
open_before Failed p q r some g = refl

-- each call that gives a command leaves less to read
pub call_shorter : (mid left' : Option (List ℕ)) (old new : Reading) (c : Command) → Advances old new mid left' (Ok (Some c)) → to_read new < to_read old
call_shorter mid left' old new c a = by_end (is_end c)
  where
    gave : GivesFirst a.known (Ok (Some c)) new
    gave = next_open old.stage a.known new (Ok (Some c)) (some_command c) a.gives

    same : a.known.before ≡ old.before
    same = ap (λ (p : Reading). p.before) a.takes.now

    one : open_of old.stage ≡ 1
    one = open_before old.stage a.known new (Ok (Some c)) (some_command c) a.gives

    by_end : (c ≡ End) ⊎ (c ≢ End) → to_read new < to_read old
    by_end (inl e) =
        let o = over_end (subst (λ (x : Command). GivesFirst a.known (Ok (Some x)) new) e gave) refl in
        let none : open_of new.stage ≡ 0 = ap (λ (s : ReaderStage). open_of s) o.stage in
        omega (arith, same, one, none, o.further)
    by_end (inr n) =
        let b = following_command gave c refl n in
        let more : open_of new.stage ≡ 1 = ap (λ (s : ReaderStage). open_of s) b.stage in
        omega (arith, same, one, more, b.further, b.within)
