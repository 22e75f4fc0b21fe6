-- What comes of what a swap took whose response was lost.
use Rattle.fw_model_run.proofs.Common.{◌≡◌, ◌≢◌, ◌⊎◌, inl, inr, ℕ, zero, suc, ◌+◌, ◌<◌, ◌&&◌, ◌||◌, not, nat_lt, List}
use Rattle.fw_model_run.proofs.Common.{Bool, true, false, cond, Option, Some, None, refl, ap, sym, subst, ◌∙◌, arith, IsTrue}
use Rattle.fw_model_run.proofs.Common.{IsFalse, nat_tests, PlugAt, Timed, Account, Slot, ControllerState, slot_at, Action, Transitions, IsGood, Asks, State, first_state, directory_of, is_deaf}
use Rattle.fw_terms.specs.declared.plug.ConnectionKind.{ConnectionKind}
use Rattle.fw_terms.specs.declared.plug.ConnectionKind.TheVariants.{PointToPoint, Broadcast}
use Rattle.fw_terms.specs.Tables.{sum_to}
use Rattle.fw_terms.proofs.Tables.{same_plug-true, sum_to_some}
use Rattle.fw_plug.specs.Words.{units_of}
use Rattle.fw_model_account.specs.Account.{Allocation, Connected, Orphaned, Owner, Of, Dead, Connections, counter, is_there, has_connection}
use Rattle.fw_cmp_jobs.specs.declared.connection.Slot.TheVariants.{Free, Making, Established, Restoring, Gone}
use Rattle.fw_cmp_jobs.specs.Connections.{output_of, kind_of}
use Rattle.fw_cmp.specs.Controllers.{count_of}
use Rattle.fw_cmp.specs.Holdings.{is_plug, same_kind, is_current_slot, stands_at_output}
use Rattle.fw_cmp.specs.Losses.{Listening}
use Rattle.fw_model_controllers.specs.Controllers.{CurrentInStep}
use Rattle.fw_model_controllers.specs.Holding.{connections_of, is_of}
use Rattle.fw_model_controllers.specs.Together.{AreInStep, AreSettled}
use Rattle.fw_model_controllers.proofs.Together.{settled, whole}
use Rattle.fw_model_run.specs.Reclaiming.{IsBusReset}
use Rattle.fw_model_run.specs.Recovery.{IsFreed, HasStanding, IsLeft, Belongs, LosesNothing, RecoversThroughout}
use Rattle.fw_model_run.specs.Truth.{controller_at}
use Rattle.fw_model_run.proofs.Reclaiming.{bus_resets}
use Rattle.fw_model_run.proofs.Steps.{steps_good}
use Rattle.fw_model_run.proofs.Times.{first_good}
use Rattle.fw_model_run.proofs.Truth.{quiet_at}

-- ---- right after a bus reset

reset_frees : (s t : State) (a : Action) → IsGood s → IsBusReset s a t → IsFreed t
reset_frees s t a g r =
    let x = bus_resets s t a r.entry s.clock.cycle g r.step in record {
      allocations = λ ch. ap (λ (l : Account). l.allocations ch) x.is.account;
      outputs = λ p. ap (λ (l : Account). l.outputs p) x.is.account;
      inputs = λ q. ap (λ (l : Account). l.inputs q) x.is.account;
      heard = x.quiet;
    }

-- ---- while none has lost a response

in_truth_step : (s : State) → IsGood s → ((d : ℕ) → IsFalse (is_deaf s d)) → AreInStep (directory_of s) s.account (λ d. (controller_at s d).state)
in_truth_step s g heard =
    subst (AreInStep (directory_of s) s.account) (λ i d. sym (ap (λ (x : Listening). x.state) (quiet_at s d (heard d))) i) g.reclaims.step

-- ---- settled

-- one that has lost a response has a job
settled_heard : (s : State) → IsGood s → AreSettled s.account s.controllers → (d : ℕ) → IsFalse (is_deaf s d)
settled_heard s g idle d = go (is_deaf s d) refl
  where
    go : (b : Bool) → is_deaf s d ≡ b → b ≡ false
    go false e = refl
    go true e = absurd (subst Asks (idle.idle d) (g.losses.asks d e))

-- the slot whose standing connection is counted at the output plug
stands_there : (x : Slot) (b : Bool) (kind : ConnectionKind) (p : PlugAt) → count_of (not b && stands_at_output x kind p) ≢ 0 → (b ≡ false) × (stands_at_output x kind p ≡ true)
stands_there x b kind p some = go b (stands_at_output x kind p) some
  where
    go : (a c : Bool) → count_of (not a && c) ≢ 0 → (a ≡ false) × (c ≡ true)
    go true c f = absurd (f refl)
    go false true f = (refl, refl)
    go false false f = absurd (f refl)

plug_of : (o : Option PlugAt) (p : PlugAt) (k : Bool) → (is_plug o p && k) ≡ true → o ≡ Some p
plug_of None p k e = absurd (grind (arith, e))
plug_of (Some q) p k e = ap (λ (x : PlugAt). Some x) (sym (same_plug-true p q (grind (arith, e))))

standing_at : (s : State) (d i : ℕ) (p : PlugAt) (kind : ConnectionKind) (x : Slot) → IsGood s → is_current_slot (s.controllers d).current i ≡ false
    → slot_at (s.controllers d) i ≡ x → stands_at_output x kind p ≡ true → HasStanding s p (s.account.settings p).channel
standing_at s d i p kind Free g other at e = absurd (grind (arith, e))
standing_at s d i p kind (Making conn asked overhead) g other at e = absurd (grind (arith, e))
standing_at s d i p kind (Restoring conn f over) g other at e = absurd (grind (arith, e))
standing_at s d i p kind (Gone conn) g other at e = absurd (grind (arith, e))
standing_at s d i p kind (Established conn f) g other at e =
    let output = plug_of (output_of conn) p (same_kind kind (kind_of conn)) e in
    let w = whole s.account d (s.controllers d) i conn f (g.reclaims.step.fits d) (g.reclaims.step.each d) at other in
    record { device = d; slot = i; connection = conn; flow = f; stands = at; output = output; channel = sym (w.output p output).1.channel; whole = w }

-- a controller's connection at the plug
seat_stands : (s : State) (d : ℕ) (kind : ConnectionKind) (p : PlugAt) → IsGood s → AreSettled s.account s.controllers → connections_of d kind (s.account.outputs p) ≢ 0
    → HasStanding s p (s.account.settings p).channel
seat_stands s d kind p g idle some =
    let c : ControllerState = s.controllers d in
    let holds = subst (CurrentInStep s.account d c) (idle.idle d) (g.reclaims.step.each d).current in
    let w = sum_to_some 32 (λ i. count_of (not (is_current_slot c.current i) && stands_at_output (slot_at c i) kind p)) (λ e. some (holds.outputs kind p ∙ e)) in
    let x = stands_there (slot_at c w.0) (is_current_slot c.current w.0) kind p w.2 in
    standing_at s d w.0 p kind (slot_at c w.0) g x.0 refl x.1

connection_stands : (s : State) (p : PlugAt) → IsGood s → AreSettled s.account s.controllers → IsTrue (has_connection (s.account.outputs p))
    → HasStanding s p (s.account.settings p).channel ⊎ IsLeft s.account p
connection_stands s p g idle on = by_owner k.broadcast refl (nat_lt 0 (counter k)) refl on
  where
    k : Connections
    k = s.account.outputs p

    counted : (n : ℕ) → k.orphaned ≡ n → 0 < n + sum_to 63 k.counts → HasStanding s p (s.account.settings p).channel ⊎ IsLeft s.account p
    counted zero e some =
        let w = sum_to_some 63 k.counts (λ none. omega (arith, some, none)) in
        inl (seat_stands s w.0 PointToPoint p g idle w.2)
    counted (suc n) e some = inr (inl (omega (arith, e)))

    owned : (d : ℕ) → k.broadcast ≡ Some (Of d) → connections_of d Broadcast k ≡ 0 → ⊥
    owned d e none = let is : cond (is_of d (Some (Of d))) 1 0 ≡ 0 = ap (λ (o : Option Owner). cond (is_of d o) 1 0) (sym e) ∙ none in grind (arith, nat_tests, is)

    by_owner : (o : Option Owner) → k.broadcast ≡ o → (b : Bool) → nat_lt 0 (counter k) ≡ b → (b || is_there o) ≡ true → HasStanding s p (s.account.settings p).channel ⊎ IsLeft s.account p
    by_owner o e true f there = counted k.orphaned refl (grind (arith, nat_tests, f))
    by_owner None e false f there = absurd (grind (arith, there))
    by_owner (Some (Of d)) e false f there = inl (seat_stands s d Broadcast p g idle (λ none. owned d e none))
    by_owner (Some Dead) e false f there = inr (inr e)

settled_belongs : (s : State) (ch : ℕ) (x : Allocation) → IsGood s → AreSettled s.account s.controllers → s.account.allocations ch ≡ Some x → Belongs s ch x
settled_belongs s ch x g idle at = go ((settled (directory_of s) s.account s.controllers g.reclaims.step idle).each ch x at)
  where
    go : ((p : PlugAt) × IsTrue (has_connection (s.account.outputs p)) × ((s.account.settings p).channel ≡ ch) × (x ≡ record { holder = Connected p; units = units_of (s.account.settings p) }))
        ⊎ ((p : PlugAt) × (x.holder ≡ Orphaned p)) → Belongs s ch x
    go (inr left) = (left.0, inr left.1)
    go (inl y) = (y.0, inl (y.3, subst (λ n. HasStanding s y.0 n ⊎ IsLeft s.account y.0) y.2 (connection_stands s y.0 g idle y.1)))

-- ---- the whole

pub loses_nothing : (actions : List Action) (log : List Timed) (s : State) → Transitions first_state actions log s → LosesNothing s
loses_nothing actions log s f =
    let g = steps_good first_state s actions log first_good f in record {
      freed = λ a t r. reset_frees s t a g r;
      known = in_truth_step s g;
      heard = settled_heard s g;
      belongs = λ idle ch x at. settled_belongs s ch x g idle at;
    }

pub recovers : (actions : List Action) (log : List Timed) (s : State) → Transitions first_state actions log s → RecoversThroughout actions
recovers actions log s f = record { states = λ done later prefix t is steps. loses_nothing done prefix t steps }
