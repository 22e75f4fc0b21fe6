-- Enough rounds, over a run: after them no connection is to be restored.
use Rattle.fw_model_run.proofs.Common.{◌≡◌, ◌≢◌, ◌⊎◌, inl, inr, ℕ, zero, suc, ◌+◌, ◌<◌, ◌≤◌, List, [], ◌∷◌, ◌++◌, length, cond, Bool, true, false, None, refl, ap, sym, subst, ◌∙◌, arith, IsTrue}
use Rattle.fw_model_run.proofs.Common.{Nothing}
use Rattle.fw_model_run.proofs.Common.{IsFalse, cases_lt, cases_eq, nat_tests, Reset, Timed, Account, Current, Asking, Hearing, Overtaken, Job, Stage, ControllerState, slot_at, at_cycle, State}
use Rattle.fw_model_run.proofs.Common.{first_state, is_living, living, directory_of, is_deaf, Action, Unsettled, Transitions, half_steps_of, Rounds, IsGood}
use Rattle.std.proofs.Common.{position}
use Rattle.std.proofs.lemmas.List.{get_or_past}
use Rattle.fw_cmp_jobs.specs.declared.connection.Slot.TheVariants.{Free, Gone}
use Rattle.fw_cmp_jobs.specs.declared.job.Purpose.{Purpose}
use Rattle.fw_cmp_jobs.specs.declared.job.Purpose.TheVariants.{Make, Restore, Break}
use Rattle.fw_cmp_jobs.specs.declared.outcome.Outcome.TheVariants as outcome
use Rattle.fw_cmp_jobs.specs.declared.stage.Stage.TheVariants.{Begin, Made, Ended}
use Rattle.fw_cmp.specs.Controllers.{with_slot}
use Rattle.fw_cmp_jobs.specs.Slots.{is_restoring}
use Rattle.fw_cmp.specs.Resets.{state_reset as controller_reset, current_reset, lost_reset, overtaken, interrupted, decided}
use Rattle.fw_cmp.specs.Jobs.{waiting_break, is_break}
use Rattle.fw_model_rounds.specs.Accounts.{situation_of}
use Rattle.fw_model_rounds.specs.Rounds.{rounds, times, IsRound, NoneToRestore, AllReset}
use Rattle.fw_model_rounds.specs.Settling.{Settles, CanSettle, InputsThere}
use Rattle.fw_model_rounds.specs.Settling as Rounding
use Rattle.fw_model_rounds.specs.HalfSteps.{to_come}
use Rattle.fw_model_rounds.proofs.Resets.{first_has_none}
use Rattle.fw_model_controllers.specs.Together.{AreInStep}
use Rattle.fw_model_rounds.proofs.Beginning.{can_settle, all_reset}
use Rattle.fw_model_rounds.proofs.Settling.{settle_restores}
use Rattle.fw_order.specs.declared.order.Order.TheVariants.{Settle}
use Rattle.fw_model_run.specs.State.{numbers_to}
use Rattle.fw_model_run.specs.HalfSteps.{is_unsettled}
use Rattle.fw_model_run.specs.Settling.{HasEnoughRounds}
use Rattle.fw_model_run.proofs.Idle.{RoundsAre, are_none, are_round, are_rest, rounds_are}
use Rattle.fw_model_run.proofs.Decided.{CarriedBy, carried}
use Rattle.fw_model_run.proofs.Runs.{rounds_steps}
use Rattle.fw_model_run.proofs.Reclaiming.{BusResets, bus_resets}
use Rattle.fw_model_run.proofs.Steps.{step_good, steps_good}
use Rattle.fw_model_run.proofs.Times.{first_good}
use Rattle.fw_model_run.proofs.Settling.{Stays, living_still, Settled, moved_back, AllHear, hear_still, round_settles, settles_append, AllRestored, living_declared, idle_restored}

-- ---- rounds

-- they are rounds of half steps of the living controllers, or they come to a state in which nobody is to restore anything
data Ends (n : ℕ) (s t : State) : Type 0 where
  goes : Settled s (rounds n (living s)) t → Ends n s t
  idles : AllRestored t → Ends n s t

RoundsEnd : ℕ → Type 0
RoundsEnd n = (s t : State) (xs : List Action) (out : List Timed) → IsGood s → AllHear s → Rounds n s xs out t → Ends n s t

no_rounds : (s t : State) → t ≡ s → Settled s (rounds 0 (living s)) t
unfolding Settles rounds
no_rounds s t is = (ap (λ (z : State). z.account) (sym is), ap (λ (z : State). z.controllers) (sym is))

more_rounds : (k : ℕ) (s m t : State) → Settled s (living s) m → Stays s m → Settled m (rounds k (living m)) t → Settled s (rounds (suc k) (living s)) t
unfolding rounds
more_rounds k s m t f h later =
    settles_append s.clock.cycle (directory_of s) (living s) (rounds k (living s)) s.account m.account t.account s.controllers m.controllers t.controllers f
    (subst (λ ks. Settles s.clock.cycle (directory_of s) (rounds k ks) m.account m.controllers t.account t.controllers) (living_still s m h) (moved_back s m t (rounds k (living m)) h later))

ends_by : (n : ℕ) (s t : State) (out : List Timed) → IsGood s → AllHear s → ((k : ℕ) → n ≡ suc k → RoundsEnd k) → RoundsAre n s out t → Ends n s t
unfolding RoundsEnd
ends_by n s t out g quiet later (are_none z empty is) = subst (λ k. Ends k s t) (sym z) (goes (no_rounds s t is))
ends_by n s t out g quiet later (are_rest f) = idles (λ d i. ap (λ (x : State). is_restoring (slot_at (x.controllers d) i)) (f.5.1 ∙ f.3.state_is) ∙ idle_restored s g f.3.may.settled d i)
ends_by n s t out g quiet later (are_round k m more first last z f h is) = go (later k z m t more last (steps_good s m (half_steps_of (living s)) first g f) (hear_still s m now.1 quiet) h)
  where
    now : Settled s (living s) m × Stays s m
    now = round_settles (living s) s first m g quiet f

    go : Ends k m t → Ends n s t
    go (goes x) = subst (λ j. Ends j s t) (sym z) (goes (more_rounds k s m t now.0 now.1 x))
    go (idles x) = idles x

rounds_end : (n : ℕ) → RoundsEnd n
unfolding RoundsEnd
rounds_end zero = λ s t xs out g quiet f. ends_by 0 s t out g quiet (λ k e. absurd (omega (arith, e))) (rounds_are 0 s xs out t f)
rounds_end (suc n) = λ s t xs out g quiet f. ends_by (suc n) s t out g quiet (λ k e. let same : n ≡ k = omega (arith, e) in subst RoundsEnd same (rounds_end n)) (rounds_are (suc n) s xs out t f)

end_of : (n : ℕ) (s t : State) (xs : List Action) (out : List Timed) → IsGood s → AllHear s → Rounds n s xs out t → Ends n s t
unfolding RoundsEnd
end_of n = rounds_end n

-- ---- who takes part

times_append : (k : ℕ) (xs ys : List ℕ) → times k (xs ++ ys) ≡ times k xs + times k ys
unfolding times
times_append k [] ys = omega arith
times_append k (x ∷ xs) ys = let more = times_append k xs ys in omega (arith, more)

times_one : (k : ℕ) → times k (k ∷ []) ≡ 1
unfolding times
times_one k = grind (arith, nat_tests)

times_to : (n : ℕ) (test : ℕ → Bool) (d : ℕ) → d < n → test d ≡ true → 0 < times d (numbers_to n test)
unfolding numbers_to
times_to zero test d lt passes = absurd (omega (arith, lt))
times_to (suc n) test d lt passes = go (cases_eq d n) (times_append d (numbers_to n test) (cond (test n) (n ∷ []) [])) (times_to n test d)
  where
    go : (d ≡ n) ⊎ (d ≢ n) → times d (numbers_to n test ++ cond (test n) (n ∷ []) []) ≡ times d (numbers_to n test) + times d (cond (test n) (n ∷ []) [])
        → (d < n → test d ≡ true → 0 < times d (numbers_to n test)) → 0 < times d (numbers_to n test ++ cond (test n) (n ∷ []) [])
    go (inl e) sum early =
        let last : cond (test n) (n ∷ []) [] ≡ d ∷ [] = ap (λ b. cond b (n ∷ []) []) (ap test (sym e) ∙ passes) ∙ ap (λ k. k ∷ []) (sym e) in
        let one : times d (cond (test n) (n ∷ []) []) ≡ 1 = ap (times d) last ∙ times_one d in
        omega (arith, sum, one)
    go (inr ne) sum early = let more = early (omega (arith, lt, ne)) passes in omega (arith, sum, more)

is_round : (s : State) → IsGood s → IsRound (living s) (situation_of s.account s.controllers)
is_round s g k lt some = go (is_living s k) refl
  where
    go : (b : Bool) → is_living s k ≡ b → 0 < times k (living s)
    go false off = absurd (omega (arith, ap to_come (g.unused k off), first_has_none, some))
    go true lives = times_to (length s.declared.names) (is_living s) k (living_declared s k g lives) lives

-- ---- the bus reset

decided_waiting : (c : ControllerState) (j : Job) → (decided c j).waiting ≡ c.waiting
decided_waiting c j = go j.purpose
  where
    go : (p : Purpose) → (elim p as (λ _. ControllerState) [ Make ↦ c | Restore ↦ c | Break ↦ with_slot c j.slot (Gone j.connection) ]).waiting ≡ c.waiting
    go Make = refl
    go Restore = refl
    go Break = refl

interrupted_waiting : (epoch : ℕ) (c : ControllerState) (j : Job) → (interrupted epoch c j).waiting ≡ c.waiting
interrupted_waiting epoch c j = go j.purpose
  where
    go : (p : Purpose) → (elim p as (λ _. ControllerState) [
      | Make ↦ with_slot (record c { current = Overtaken j.slot (outcome.Reset epoch) }) j.slot Free
      | Restore ↦ record c { current = Asking j Begin }
      | Break ↦ with_slot (record c { current = Overtaken j.slot (outcome.Reset epoch) }) j.slot Free
    ]).waiting ≡ c.waiting
    go Make = refl
    go Restore = refl
    go Break = refl

overtaken_waiting : (epoch : ℕ) (c : ControllerState) (j : Job) (s : Stage) → (overtaken epoch c j s).waiting ≡ c.waiting
overtaken_waiting epoch c j (Made f) = refl
overtaken_waiting epoch c j (Ended e) = decided_waiting c j
overtaken_waiting epoch c j _ = interrupted_waiting epoch c j

reset_waiting : (epoch : ℕ) (lost : Bool) (c : ControllerState) → (controller_reset epoch lost c).waiting ≡ c.waiting
reset_waiting epoch true c = go c.current
  where
    go : (cur : Current) → (lost_reset epoch c cur).waiting ≡ c.waiting
    go Nothing = refl
    go (Asking j s) = interrupted_waiting epoch c j
    go (Hearing j s) = interrupted_waiting epoch c j
    go (Overtaken i o) = refl
reset_waiting epoch false c = go c.current
  where
    go : (cur : Current) → (current_reset epoch c cur).waiting ≡ c.waiting
    go Nothing = refl
    go (Asking j s) = overtaken_waiting epoch c j s
    go (Hearing j s) = overtaken_waiting epoch c j s
    go (Overtaken i o) = refl

begins : (before s : State) → IsGood before → (r : BusResets before s) → IsTrue s.account.reclaiming → ((d : ℕ) → waiting_break (s.controllers d) ≡ None)
    → Rounding.BeginsSecond r.entry.epoch before.account before.controllers s.controllers
begins before s g r runs calm = record {
  later = sym (ap (λ (l : Account). l.reclaiming) r.is.account) ∙ runs;
  fits = g.reclaims.step.fits;
  no_break = λ d. sym (ap (position is_break) (reset_waiting r.entry.epoch (is_deaf before d) (before.controllers d))) ∙ (sym (ap waiting_break (r.is.each d)) ∙ calm d);
  stands = g.stands;
  lost = is_deaf before;
  each = r.is.each;
}

-- what holds right after it
can : (before s : State) → IsGood before → IsGood s → (r : BusResets before s) → IsTrue s.account.reclaiming → ((d : ℕ) → waiting_break (s.controllers d) ≡ None)
    → CanSettle (directory_of s) s.account s.controllers
can before s gb g r runs calm =
    subst (λ l. CanSettle (directory_of s) l s.controllers) (sym r.is.account)
    (can_settle (directory_of s) r.entry r.entry.epoch before.account before.controllers s.controllers (begins before s gb r runs calm)
    (subst (λ l. AreInStep (directory_of s) l s.controllers) r.is.account g.reclaims.step) (subst (λ l. InputsThere l s.controllers) r.is.account inputs))
  where
    inputs : InputsThere s.account s.controllers
    inputs k i conn f q at input = ((g.reclaims.each k).restoring i conn f at).input q input

-- ---- enough rounds

all_of : (s : State) → IsGood s → NoneToRestore (situation_of s.account s.controllers) → AllRestored s
all_of s g f d i = go (cases_lt d 63) (cases_lt i 32)
  where
    go : (d < 63) ⊎ (63 ≤ d) → (i < 32) ⊎ (32 ≤ i) → is_restoring (slot_at (s.controllers d) i) ≡ false
    go (inl low) (inl lt) = f d i low lt
    go (inr far) few = ap is_restoring ((g.reclaims.beyond d far).free i)
    go (inl low) (inr le) = ap is_restoring (get_or_past (s.controllers d).slots i Free (let size = (g.reclaims.step.fits d).slots in omega (arith, le, size)))

pub enough : HasEnoughRounds
enough s t n actions out x many f = go c.4
  where
    gb : IsGood x.before
    gb = steps_good first_state x.before x.actions x.log first_good x.run

    g : IsGood s
    g = step_good x.before x.reset (at_cycle x.before.clock.cycle (Reset x.resets.entry) ∷ []) s gb x.resets.step

    r : BusResets x.before s
    r = bus_resets x.before s x.reset x.resets.entry x.before.clock.cycle gb x.resets.step

    c : CarriedBy s (Settle n) actions out t
    c = carried s (Settle n) actions out t f

    gm : IsGood c.1
    gm = steps_good s c.1 c.0 c.2 g (rounds_steps n s c.0 c.2 c.1 c.3)

    reset : AllReset (situation_of s.account s.controllers)
    reset = subst (λ l. AllReset (situation_of l s.controllers)) (sym r.is.account)
        (all_reset r.entry r.entry.epoch x.before.account x.before.controllers s.controllers (begins x.before s gb r x.second x.no_break))

    restored : Ends n s c.1 → AllRestored c.1
    restored (idles h) = h
    restored (goes h) = all_of c.1 gm (settle_restores n s.clock.cycle (directory_of s) (living s) s.account c.1.account s.controllers c.1.controllers (g.time.second x.second)
        (can x.before s gb g r x.second x.no_break) reset (is_round s g) many h)

    all : AllRestored c.1
    all = restored (end_of n s c.1 c.0 c.2 g r.quiet c.3)

    same : (m : State) → t.controllers ≡ m.controllers → AllRestored m → AllRestored t
    same m e h = subst (λ (u : ℕ → ControllerState). (d i : ℕ) → IsFalse (is_restoring (slot_at (u d) i))) (sym e) h

    go : (IsFalse (is_unsettled c.1) × (out ≡ c.2) × (t ≡ c.1)) ⊎ ((last : List Timed) × Transitions c.1 (Unsettled ∷ []) last t × (out ≡ c.2 ++ last)) → AllRestored t
    go (inl h) = same c.1 (ap (λ (z : State). z.controllers) h.2) all
    go (inr h) = same c.1 (ap (λ (z : State). z.controllers) h.1.5.1 ∙ ap (λ (z : State). z.controllers) h.1.3.state_is) all
