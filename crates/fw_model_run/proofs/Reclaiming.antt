-- The reclaim theorem over a run.
use Rattle.fw_model_run.proofs.Common.{◌≡◌, ℕ, List, [], ◌∷◌, Bool, true, false, refl, ap, sym, subst, ◌∙◌, IsTrue, ◌&&◌, arith, Reset, ResetEntry, Timed, Current, Nothing, Asking, Hearing, Overtaken}
use Rattle.fw_model_run.proofs.Common.{Directory, Job, Next, Idle, Stage, ControllerState, new_controller, IsHeard, next}
use Rattle.fw_model_run.proofs.Common.{at_cycle, State, Declared, first_state, is_living, directory_of, is_deaf, asks}
use Rattle.fw_model_run.proofs.Common.{taken, Action, Transition, Resets, IsGood, world_of}
use Rattle.fw_terms.specs.Tables.{find_to}
use Rattle.fw_cmp.specs.declared.outcome.Next.TheVariants.{End}
use Rattle.fw_cmp_jobs.specs.declared.outcome.Outcome.{Outcome}
use Rattle.fw_model_reclaim.specs.Worlds.{IsReset}
use Rattle.fw_model_reclaim.specs.Whole.{EndsRestored}
use Rattle.fw_model_reclaim.proofs.Living.{turn_meets, facts_in}
use Rattle.fw_model_reclaim.proofs.Outcomes.{ends_restored}
use Rattle.fw_model_reclaim.proofs.Reclaim.{reclaims}
use Rattle.fw_model_run.specs.Reclaiming.{Reclaims, RestoresInSecond}
use Rattle.fw_model_run.proofs.Changes.{turn_change, reset_is, steps_path}
use Rattle.fw_model_run.proofs.Leads.{linked_of}
use Rattle.fw_model_run.proofs.Resets.{MayReset, declaring, numbered}
use Rattle.fw_model_run.proofs.Steps.{step_good, steps_good}
use Rattle.fw_model_run.proofs.Times.{first_good}
use Rattle.fw_model_run.proofs.Turns.{living_linked}
use Rattle.fw_cmp.specs.Holdings.{is_current_slot}
use Rattle.fw_model_run.proofs.Alterations.{marked, told_by}
use Rattle.fw_model_run.proofs.Effects.{Effect, altering, effect, resetting}
use Rattle.fw_model_run.proofs.Marks.{no_reset}

-- ---- an action that is a bus reset

pub record BusResets (s t : State) : Type 0 where
  pub entry : ResetEntry
  pub is : IsReset (world_of s) entry entry.epoch (is_deaf s) (world_of t)
  -- each controller has heard what there was to hear
  pub quiet : (d : ℕ) → is_deaf t d ≡ false

begins_one : (s : State) (n : Declared) (initiator : ℕ) (out : List Timed) (t : State) → MayReset s n → Resets (declaring s n) initiator out t → BusResets s t
begins_one s n initiator out t m r = record { entry = r.entry; is = reset_is s n initiator out t m r; quiet = λ d. ap (λ (z : State). is_deaf z d) r.state_is }

-- the same, if the state before it was counted
as_before : (s u t : State) → world_of u ≡ world_of s → is_deaf u ≡ is_deaf s → BusResets u t → BusResets s t
as_before s u t same deaf r = record {
  entry = r.entry;
  is = subst (λ w. IsReset w r.entry r.entry.epoch (is_deaf s) (world_of t)) same
      (subst (λ lost. IsReset (world_of u) r.entry r.entry.epoch lost (world_of t)) deaf r.is);
  quiet = r.quiet;
}

pub bus_resets : (s t : State) (a : Action) (e : ResetEntry) (c : ℕ) → IsGood s → Transition s a (at_cycle c (Reset e) ∷ []) t → BusResets s t
bus_resets s t a e c g x = go (effect s a (at_cycle c (Reset e) ∷ []) t x)
  where
    go : Effect s a (at_cycle c (Reset e) ∷ []) t → BusResets s t
    go (resetting resets half_steps n initiator free begins may r) = as_before s (numbered s resets half_steps) t refl refl (begins_one (numbered s resets half_steps) n initiator _ t (may g) r)
    go (altering y waits out_is is ok) = absurd (no_reset c _ e a (told_by s y) (marked s a y ok) out_is)

-- ---- the reclaim theorem

pub run_reclaims : Reclaims
run_reclaims before after during x d i conn f whole unbroken ok done =
    let g = steps_good first_state before x.actions x.log first_good x.run in
    let r = bus_resets before x.opened x.reset x.opens.entry before.clock.cycle g x.opens.step in
    let opened = step_good before x.reset (at_cycle before.clock.cycle (Reset x.opens.entry) ∷ []) x.opened g x.opens.step in
    let p = steps_path x.opened during x.out after opened x.steps in
    let back = reclaims (world_of before) (world_of x.opened) (world_of after) r.entry r.entry.epoch (is_deaf before) p.changes g.reclaims r.is p.path d i conn f whole.whole unbroken whole.heard
    (p.harmless d i ok) done in
    (record { whole = back.0; heard = known (is_deaf after d) (is_current_slot (after.controllers d).current i) back.2 }, back.1)
  where
    known : (a b : Bool) → b ≡ false → (a && b) ≡ false
    known a b e = grind (arith, e)

-- ---- while a second runs

first_idles : (now : ℕ) (dir : Directory) → next now dir new_controller ≡ Idle
unfolding find_to
first_idles now dir = refl

hearing_idles : (now : ℕ) (dir : Directory) (c : ControllerState) (j : Job) (stage : Stage) → c.current ≡ Hearing j stage → next now dir c ≡ Idle
hearing_idles now dir c j stage e = subst (λ x. next now dir (record c { current = x }) ≡ Idle) (sym e) refl

no_end : (x : Next) (i : ℕ) (o : Outcome) → x ≡ Idle → x ≡ End i o → ⊥
no_end x i o e f = let clash : Idle ≡ End i o = sym e ∙ f in cc clash

pub restores_in_second : RestoresInSecond
restores_in_second actions log s f runs d = go (is_living s d) refl
  where
    g : IsGood s
    g = steps_good first_state s actions log first_good f

    now : ℕ
    now = s.clock.cycle

    dir : Directory
    dir = directory_of s

    turns_ : IsTrue (is_living s d) → IsHeard (s.controllers d).current → EndsRestored now dir (s.controllers d)
    turns_ lives heard =
        let t = turn_change s d g (linked_of s d g (living_linked s d lives)) heard in
        ends_restored s.account now dir (s.controllers d) (record {
          runs = runs;
          meets = turn_meets (world_of s) (world_of (taken s d (asks s d))) d now g.reclaims t;
          stage = (facts_in (world_of s) d g.reclaims).stage;
        })

    by : (c : Current) → (s.controllers d).current ≡ c → IsTrue (is_living s d) → EndsRestored now dir (s.controllers d)
    by Nothing e lives = turns_ lives (subst IsHeard (sym e) tt)
    by (Asking j stage) e lives = turns_ lives (subst IsHeard (sym e) tt)
    by (Overtaken i o) e lives = turns_ lives (subst IsHeard (sym e) tt)
    by (Hearing j stage) e lives = λ i o conn f slot free ends. absurd (no_end (next now dir (s.controllers d)) i o (hearing_idles now dir (s.controllers d) j stage e) ends)

    go : (b : Bool) → is_living s d ≡ b → EndsRestored now dir (s.controllers d)
    go true lives = by (s.controllers d).current refl lives
    go false rests = λ i o conn f slot free ends. absurd (no_end (next now dir (s.controllers d)) i o (ap (next now dir) (g.unused d rests) ∙ first_idles now dir) ends)
