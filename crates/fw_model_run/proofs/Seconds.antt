-- Each end of a second in a log is one of a second of the run.
use Rattle.fw_model_run.proofs.Common.{◌≡◌, ◌⊎◌, inl, inr, ℕ, ◌==◌, List, [], ◌∷◌, ◌++◌, Bool, true, false, Option, Some, None, refl, ap, sym, subst, ◌∙◌, Entry, Reset, Async, Iso, Event, Outcome}
use Rattle.fw_model_run.proofs.Common.{Shown, EndEntry, Timed, at_cycle, at_most, second_over, State, first_state, Action, EndSecond, Transition, Transitions, IsGood}
use Rattle.fw_log_entry.specs.declared.codes.event.TheConstants.{SECOND_OVER}
use Rattle.fw_model_run.specs.Reclaiming.{GoesOn, IsSecond, EndsAreSeconds}
use Rattle.fw_model_run.proofs.Along.{step_led}
use Rattle.fw_model_run.proofs.Led.{Led}
use Rattle.fw_model_run.proofs.Steps.{step_good}
use Rattle.fw_model_run.proofs.Times.{first_good}
use Rattle.fw_model_run.proofs.Alterations.{marked, told_by}
use Rattle.fw_model_run.proofs.Effects.{Effect, altering, effect, resetting}
use Rattle.fw_model_run.proofs.Marks.{Ends, Marks, Neither, closes, ends, event_mark, mark, nothing}
use Rattle.fw_model_run.proofs.OpenedSeconds.{begins, Opened, Runs, opened_of}

-- ---- which action ends one

abbrev pub is_over : Entry → Bool
is_over (Event e) = e.code == SECOND_OVER
is_over (Reset r) = false
is_over (Async p) = false
is_over (Iso p) = false
is_over (Outcome o) = false
is_over (Shown s) = false
is_over EndEntry = false

-- the first entry ends a second
abbrev pub opens_over : List Timed → Bool
opens_over [] = false
opens_over (e ∷ es) = is_over e.what

-- an entry that ends none
no_over : (c : ℕ) (o : Option Entry) → mark o ≡ Neither → opens_over (at_most c o) ≡ false
no_over c (Some (Event e)) is = go (e.code == SECOND_OVER) is
  where
    go : (b : Bool) → event_mark b ≡ Neither → b ≡ false
    go true f = let clash : Ends ≡ Neither = f in absurd (cc clash)
    go false f = refl
no_over c _ is = refl

never : (out others : List Timed) → opens_over out ≡ true → out ≡ others → opens_over others ≡ false → ⊥
never out others over is f = let clash : true ≡ false = sym over ∙ (ap opens_over is ∙ f) in cc clash

-- it is the end of the second
ends_it : (s : State) (a : Action) (out : List Timed) (t : State) → Transition s a out t → opens_over out ≡ true → Transition s EndSecond out t
ends_it s a out t x over = go (effect s a out t x)
  where
    by : (c : ℕ) (o : Option Entry) → out ≡ at_most c o → Marks a o → Transition s EndSecond out t
    by c o is (nothing f) = absurd (never out (at_most c o) over is (no_over c o f))
    by c o is (ends e f) = subst (λ b. Transition s b out t) e x
    by c (Some EndEntry) is (closes e f) = absurd (never out (at_most c (Some EndEntry)) over is refl)
    by c _ is (closes e f) = absurd (cc f)

    go : Effect s a out t → Transition s EndSecond out t
    go (resetting resets half_steps n initiator free begins may r) = absurd (never out (at_most s.clock.cycle (Some (Reset r.entry))) over r.out_is refl)
    go (altering y waits out_is is ok) = by _ (told_by s y) out_is (marked s a y ok)

-- ---- if a log has the end of a second

record Ended (s : State) (xs : List Action) (prefix : List Timed) : Type 0 where
  done : List Action
  after : State
  run : Transitions s done prefix after
  last : List Timed
  end : State
  ends : Transition after EndSecond last end
  later : List Action
  all : xs ≡ done ++ later

-- the action that writes the first entry is the end of the second, or writes nothing
ended_of : (s t : State) (xs : List Action) (out prefix rest : List Timed) (e : Timed) → IsGood s → Transitions s xs out t → out ≡ prefix ++ e ∷ rest → e.what ≡ second_over → Ended s xs prefix
ended_of s t [] out prefix rest e g f is over = absurd (none prefix (sym f.0 ∙ is))
  where
    none : (prefix : List Timed) → [] ≡ prefix ++ e ∷ rest → ⊥
    none [] x = cc x
    none (y ∷ prefix) x = cc x
ended_of s t (a ∷ xs) out prefix rest e g f is over = go prefix (λ prefix same. ended_of f.2 t xs f.1 prefix rest e (step_good s a f.0 f.2 g f.3) f.5 same over) led.entry led.is (sym f.4 ∙ is)
  where
    led : Led s f.0 f.2
    led = step_led s f.2 a f.0 g f.3

    after : (prefix : List Timed) → Ended f.2 xs prefix → (all : List Timed) → all ≡ f.0 ++ prefix → Ended s (a ∷ xs) all
    after prefix h all same = record {
      done = a ∷ h.done;
      after = h.after;
      run = (f.0, prefix, f.2, f.3, same, h.run);
      last = h.last;
      end = h.end;
      ends = h.ends;
      later = h.later;
      all = ap (λ z. a ∷ z) h.all;
    }

    go : (prefix : List Timed) → ((prefix : List Timed) → f.1 ≡ prefix ++ e ∷ rest → Ended f.2 xs prefix)
        → (o : Option Entry) → f.0 ≡ at_most f.2.clock.cycle o → f.0 ++ f.1 ≡ prefix ++ e ∷ rest → Ended s (a ∷ xs) prefix
    go prefix later None empty same = after prefix (later prefix (sym (ap (λ z. z ++ f.1) empty) ∙ same)) prefix (sym (ap (λ z. z ++ prefix) empty))
    go [] later (Some y) one same =
        let both : at_cycle f.2.clock.cycle y ∷ f.1 ≡ e ∷ rest = sym (ap (λ z. z ++ f.1) one) ∙ same in
        let first : at_cycle f.2.clock.cycle y ≡ e = cc in
        let what : y ≡ second_over = ap (λ (z : Timed). z.what) first ∙ over in
        let is_it : opens_over f.0 ≡ true = ap opens_over one ∙ ap is_over what in
        record {
          done = [];
          after = s;
          run = (refl, refl);
          last = f.0;
          end = f.2;
          ends = ends_it s a f.0 f.2 f.3 is_it;
          later = a ∷ xs;
          all = refl;
        }
    go (x ∷ prefix) later (Some y) one same =
        let both : at_cycle f.2.clock.cycle y ∷ f.1 ≡ x ∷ (prefix ++ e ∷ rest) = sym (ap (λ z. z ++ f.1) one) ∙ same in
        let first : at_cycle f.2.clock.cycle y ≡ x = cc in
        let tail : f.1 ≡ prefix ++ e ∷ rest = cc in
        after prefix (later prefix tail) (x ∷ prefix) (sym (ap (λ z. z ++ prefix) one ∙ ap (λ z. z ∷ prefix) first))

-- The second that ends after a prefix of a log, and the actions up to its end: those up to the bus reset that opened it, that reset,
-- and those since, in which no second ends.
pub record EndsAt (actions : List Action) (prefix : List Timed) : Type 0 where
  pub before : State
  pub during : List Action
  pub after : State
  pub second : IsSecond before during after
  pub done : List Action
  pub run : Transitions first_state done prefix after
  pub all : done ≡ second.actions ++ second.reset ∷ during
  pub on : GoesOn during
  pub later : List Action
  pub first : actions ≡ done ++ later

-- each end of a second in a log has its second
pub second_at : (actions : List Action) (log prefix rest : List Timed) (s : State) (t : Timed) → Transitions first_state actions log s
    → log ≡ prefix ++ t ∷ rest → t.what ≡ second_over → EndsAt actions prefix
second_at actions log prefix rest s t f is over = go (opened_of first_state w.after w.done prefix first_good w.run)
  where
    w : Ended first_state actions prefix
    w = ended_of first_state s actions log prefix rest t first_good f is over

    go : Opened first_state w.after w.done ⊎ Runs first_state w.after w.done → EndsAt actions prefix
    go (inl o) = record {
      before = o.before;
      during = o.during;
      after = w.after;
      second = record {
        actions = o.early;
        log = o.prefix;
        run = o.run;
        reset = o.reset;
        opened = o.opened;
        opens = o.opens;
        out = o.out;
        steps = o.steps;
        last = w.last;
        end = w.end;
        ends = w.ends;
      };
      done = w.done;
      run = w.run;
      all = o.all;
      on = o.on w.ends.may.runs;
      later = w.later;
      first = w.all;
    }
    go (inr none) = absurd (let wrong : false ≡ true = (none w.ends.may.runs).0 in cc wrong)

pub ends_are_seconds : EndsAreSeconds
ends_are_seconds actions log prefix rest s t f is over =
    let x = second_at actions log prefix rest s t f is over in
    (x.before, x.during, x.after, x.second, (x.done, x.run), x.all, x.on, (x.later, x.first))
