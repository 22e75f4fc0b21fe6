-- All that reclaiming rests on goes on to hold, whatever happens.
use Rattle.fw_model_reclaim.proofs.Common.{◌≡◌, ◌⊎◌, inl, inr, ℕ, ◌+◌, ◌≤◌, refl, sym, subst}
use Rattle.fw_model_reclaim.proofs.Common.{◌∙◌, arith, PlugAt, ConnectionKind, PointToPoint, Broadcast, sum_to_same, sum_to_zero, Directory, first_state}
use Rattle.fw_model_reclaim.proofs.Common.{after_hear, started, break_started, after_next, Ok, held_in, Restores, Side, Output, Input, AreSeated, most, orphaned_of, connections_at, World, CanReclaim}
use Rattle.fw_model_reclaim.proofs.Common.{Change, Turn, Answer, BusReset, SecondOver, Death, NewConnection, BreakOf, Withholding, Elsewhere, Happens}
use Rattle.fw_terms.specs.Tables.{sum_to}
use Rattle.fw_model_account.specs.Fold.{no_account}
use Rattle.fw_model_controllers.specs.Together.{AreInStep, Happens as StepHappens, half_step, turns, hears, given, resets, second, dies, withholds, connection, break}
use Rattle.fw_model_controllers.proofs.Together.{stay_in_step, first_step}
use Rattle.fw_model_reclaim.specs.Due.{due_in}
use Rattle.fw_model_reclaim.specs.Worlds.{IsUnused}
use Rattle.fw_model_reclaim.proofs.Events.{restores_first}
use Rattle.fw_model_reclaim.proofs.Facts.{facts}
use Rattle.fw_model_reclaim.proofs.Fitting.{fits_after}
use Rattle.fw_model_reclaim.proofs.Living.{restores_after}
use Rattle.fw_model_reclaim.proofs.Making.{makes_after}
use Rattle.fw_model_reclaim.proofs.Unused.{nothing_due, nothing_held, first_unused, reset_unused, second_unused, beyond_after}

-- a change is one that keeps all controllers in step, or none
happens : (w v : World) (x : Change) → Happens w x v → StepHappens w.directory v.directory w.account w.controllers v.account v.controllers ⊎ (v ≡ w)
happens w v (Turn c now) t = inl (half_step c now (turns t.turn))
happens w v (Answer c r) t = inl (half_step c 0 (hears r t))
happens w v (BusReset entry epoch lost) t = inl (resets entry epoch lost (record { network = t.network; grows = λ p e. t.grows.outputs p e; account = t.account; each = t.each }))
happens w v SecondOver t = inl (second (record { account = t.account; each = t.each; directory = t.directory }))
happens w v (Death c) t = inl (dies c (record { account = t.account; becomes = t.becomes; directory = t.directory }))
happens w v (NewConnection c i slot) t = inl (given c (started (Ok i) slot (w.controllers c))
    (record { given = connection i slot t.starts t.making t.fits refl; account = t.account; becomes = t.becomes; directory = t.directory }))
happens w v (BreakOf c i) t = inl (given c (break_started (w.controllers c) i) (record { given = break i t.accepted refl; account = t.account; becomes = t.becomes; directory = t.directory }))
happens w v Withholding t = inl (withholds (record { first = t.first; account = t.account; each = t.each; directory = t.directory }))
happens w v Elsewhere t = inr t

-- all controllers stay in step
in_step_after : (w v : World) (x : Change) → CanReclaim w → Happens w x v → AreInStep v.directory v.account v.controllers
in_step_after w v x h t = go (happens w v x t)
  where
    go : StepHappens w.directory v.directory w.account w.controllers v.account v.controllers ⊎ (v ≡ w) → AreInStep v.directory v.account v.controllers
    go (inl y) = stay_in_step w.directory v.directory w.account v.account w.controllers v.controllers h.step y
    go (inr e) = subst (λ y. AreInStep y.directory y.account y.controllers) (sym e) h.step

-- the controllers beyond the devices stay as they are
unused_after : (w v : World) (x : Change) → CanReclaim w → Happens w x v → (e : ℕ) → 63 ≤ e → IsUnused (v.controllers e)
unused_after w v (Turn c now) h t = beyond_after w.controllers v.controllers c (after_next now w.directory (w.controllers c)) t.device t.turn.becomes h.beyond
unused_after w v (Answer c r) h t = beyond_after w.controllers v.controllers c (after_hear (w.controllers c) r) t.device t.becomes h.beyond
unused_after w v (BusReset entry epoch lost) h t = λ e far. subst (λ x. IsUnused x) (sym (t.each e)) (reset_unused epoch (lost e) (w.controllers e) (h.beyond e far))
unused_after w v SecondOver h t = λ e far. subst (λ x. IsUnused x) (sym (t.each e)) (second_unused (w.controllers e) (h.beyond e far))
unused_after w v (Death c) h t = beyond_after w.controllers v.controllers c first_state t.device t.becomes h.beyond
unused_after w v (NewConnection c i slot) h t = beyond_after w.controllers v.controllers c (started (Ok i) slot (w.controllers c)) t.device t.becomes h.beyond
unused_after w v (BreakOf c i) h t = beyond_after w.controllers v.controllers c (break_started (w.controllers c) i) t.device t.becomes h.beyond
unused_after w v Withholding h t = λ e far. subst (λ x. IsUnused x) (sym (t.each e)) (h.beyond e far)
unused_after w v Elsewhere h t = λ e far. subst (λ y. IsUnused (y.controllers e)) (sym t) (h.beyond e far)

-- each change leaves all that reclaiming rests on
pub goes_on_reclaiming : (w v : World) (x : Change) → CanReclaim w → Happens w x v → CanReclaim v
goes_on_reclaiming w v x h t = record { step = step; each = each; fits = fits_after w v x h t step.sound seated each; makes = makes_after w v x h t; beyond = beyond }
  where
    step : AreInStep v.directory v.account v.controllers
    step = in_step_after w v x h t

    each : (e : ℕ) → Restores v.account (v.controllers e)
    each = restores_after w v x h t step.sound

    beyond : (e : ℕ) → 63 ≤ e → IsUnused (v.controllers e)
    beyond = unused_after w v x h t

    seated : AreSeated v.account (held_in v.controllers)
    seated = record {
      seated = λ c side kind q. (facts v.account c (v.controllers c) (step.fits c) (step.each c)).seated side kind q;
      beyond = λ c side kind q far. nothing_held (v.controllers c) side kind q (beyond c far);
    }

-- before the first device there is nothing
pub first_reclaims : (directory : Directory) → CanReclaim (record { account = no_account; controllers = λ d. first_state; directory = directory })
first_reclaims directory = record {
  step = first_step directory;
  each = λ d. restores_first no_account;
  fits = record { fits = λ side kind q. fits side kind q };
  makes = λ d. tt;
  beyond = λ d far. first_unused;
}
  where
    none : (side : Side) (kind : ConnectionKind) (q : PlugAt) → sum_to 63 (λ c. due_in (λ d. first_state) c side kind q) ≡ 0
    none side kind q = sum_to_same 63 (λ c. due_in (λ d. first_state) c side kind q) (λ c. 0) (λ c lt. nothing_due first_state side kind q first_unused) ∙ sum_to_zero 63

    fits : (side : Side) (kind : ConnectionKind) (q : PlugAt) → orphaned_of kind (connections_at no_account side q) + sum_to 63 (λ c. due_in (λ d. first_state) c side kind q) ≤ most kind
    fits Output PointToPoint q = omega (arith, none Output PointToPoint q)
    fits Output Broadcast q = omega (arith, none Output Broadcast q)
    fits Input PointToPoint q = omega (arith, none Input PointToPoint q)
    fits Input Broadcast q = omega (arith, none Input Broadcast q)
