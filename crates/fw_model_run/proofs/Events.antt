-- Deaths, and what controllers are asked for, lead from a good state to a good state.
use Rattle.fw_model_run.proofs.Common.{◌≡◌, ◌≢◌, ◌⊎◌, inl, inr, ℕ, ◌<◌, ◌&&◌, ◌==◌, not, cond, true, false, Bool}
use Rattle.fw_model_run.proofs.Common.{Option, Some, None, is_some, refl, ap, sym, subst, ◌∙◌, arith, IsTrue, IsFalse, cases_eq}
use Rattle.fw_model_run.proofs.Common.{update, ResetEntry, Account, ControllerState, new_controller, break_fault, break_started}
use Rattle.fw_model_run.proofs.Common.{Shows, goes_on_reclaiming, AsksWhatStands, Wanted, PlugToPlug, BroadcastOut}
use Rattle.fw_model_run.proofs.Common.{BroadcastIn, State, linked_number, is_linked, is_living, with_controller, slot_of, start_of, with_connection, after_death, IsGood, IsLatest, world_of}
use Rattle.std.proofs.Common.{Ok, Err}
use Rattle.fw_cmp.specs.declared.outcome.StartFault.TheVariants.{NotOwnPlug}
use Rattle.fw_cmp_jobs.specs.Fits.{SlotFits}
use Rattle.fw_cmp.specs.Starts.{start, started, with_task}
use Rattle.fw_cmp_jobs.specs.Slots.{IsMaking}
use Rattle.fw_model_reclaim.specs.Worlds.{CanReclaim, Death, NewConnection, BreakOf}
use Rattle.fw_model_run.proofs.Buses.{linked_small}
use Rattle.fw_model_run.proofs.Counts.{silent}
use Rattle.fw_model_run.proofs.Turns.{becomes, each_of, living_linked, update_new, update_others, new_losses, kept_losses}

-- ---- devices

-- a living controller's device has a number below 63
pub living_small : (s : State) (d : ℕ) → IsGood s → IsTrue (is_living s d) → d < 63
living_small s d g lives = of_latest s.account.latest refl (living_linked s d lives) g.latest
  where
    of_number : (e : ResetEntry) → Shows s.declared.topology s.declared.kinds e → (o : Option ℕ) → linked_number (Some e) d ≡ o → IsTrue (is_some o) → d < 63
    of_number e h None f on = absurd (grind (arith, on))
    of_number e h (Some n) f on = linked_small s e d n h f

    of_latest : (o : Option ResetEntry) → s.account.latest ≡ o → IsTrue (is_some (linked_number o d)) → IsLatest o s.declared s.account → d < 63
    of_latest None is on h = absurd (grind (arith, on))
    of_latest (Some e) is on h = of_number e h.1 (linked_number (Some e) d) refl on

-- ---- a controller that is asked for something

-- the state if one controller changes
changed_good : (s : State) (d : ℕ) (c : ControllerState) → IsGood s → IsTrue (is_living s d) → AsksWhatStands c.current → c.current ≡ (s.controllers d).current
    → CanReclaim (world_of (with_controller s d c)) → IsGood (with_controller s d c)
changed_good s d c g lives stands same reclaims = record {
  declared = g.declared;
  latest = g.latest;
  reclaims = reclaims;
  stands = each_of (λ x. AsksWhatStands x.current) s.controllers d c stands g.stands;
  unused = λ k off. unused k off (cases_eq k d);
  time = g.time;
  losses = kept_losses s d c g same;
  half_steps = g.half_steps;
  written = g.written;
  decks = g.decks;
  streams = g.streams;
}
  where
    unused : (k : ℕ) → IsFalse (is_living s k) → (k ≡ d) ⊎ (k ≢ d) → update s.controllers d c k ≡ new_controller
    unused k off (inl same) = let on : is_living s k ≡ true = ap (is_living s) same ∙ lives in absurd (grind (arith, on, off))
    unused k off (inr ne) = update_others s.controllers d c k ne ∙ g.unused k off

own_starts : (b : Bool) (c : ControllerState) (i : ℕ) → cond b (start c) (Err NotOwnPlug) ≡ Ok i → start c ≡ Ok i
own_starts true c i e = e
own_starts false c i e = absurd (grind arith)

pub starts_is : (d i : ℕ) (w : Wanted) (c : ControllerState) → start_of d w c ≡ Ok i → start c ≡ Ok i
starts_is d i (PlugToPlug out into channel overhead) c e = e
starts_is d i (BroadcastOut out overhead) c e = own_starts (out.device == d) c i e
starts_is d i (BroadcastIn into) c e = own_starts (into.device == d) c i e

pub makes : (w : Wanted) → IsMaking (slot_of w)
makes (PlugToPlug out into channel overhead) = tt
makes (BroadcastOut out overhead) = tt
makes (BroadcastIn into) = tt

pub start_good : (s : State) (d i : ℕ) (w : Wanted) → IsGood s → IsTrue (is_living s d) → SlotFits (slot_of w) → start_of d w (s.controllers d) ≡ Ok i → IsGood (with_connection s d w)
start_good s d i w g lives fits is = subst (λ r. IsGood (with_controller s d (started r (slot_of w) (s.controllers d)))) (sym is) (changed_good s d c g lives (g.stands d) refl reclaims)
  where
    c : ControllerState
    c = started (Ok i) (slot_of w) (s.controllers d)

    reclaims : CanReclaim (world_of (with_controller s d c))
    reclaims = goes_on_reclaiming (world_of s) (world_of (with_controller s d c)) (NewConnection d i (slot_of w)) g.reclaims
        (record {
          device = living_small s d g lives;
          starts = starts_is d i w (s.controllers d) is;
          making = makes w;
          fits = fits;
          account = refl;
          becomes = becomes s.controllers d c;
          directory = refl;
        })

pub break_current : (c : ControllerState) (i : ℕ) → break_fault c i ≡ None → (break_started c i).current ≡ c.current
break_current c i e = ap (λ o. (elim o as (λ _. ControllerState) [ None ↦ with_task c (record { slot = i; breaks = true }) | Some fault ↦ c ]).current) e

pub break_good : (s : State) (d i : ℕ) → IsGood s → IsTrue (is_living s d) → break_fault (s.controllers d) i ≡ None → IsGood (with_controller s d (break_started (s.controllers d) i))
break_good s d i g lives accepted = changed_good s d c g lives (subst (λ x. AsksWhatStands x) (sym (break_current (s.controllers d) i accepted)) (g.stands d))
    (break_current (s.controllers d) i accepted) (goes_on_reclaiming (world_of s) (world_of (with_controller s d c)) (BreakOf d i) g.reclaims
    (record { device = living_small s d g lives; accepted = accepted; account = refl; becomes = becomes s.controllers d c; directory = refl }))
  where
    c : ControllerState
    c = break_started (s.controllers d) i

-- ---- a death

pub death_good : (s : State) (d : ℕ) → IsGood s → IsTrue (is_living s d) → IsGood (after_death s d)
death_good s d g lives = record {
  declared = g.declared;
  latest = latest_ s.account.latest g.latest;
  reclaims = goes_on_reclaiming (world_of s) (world_of (after_death s d)) (Death d) g.reclaims
      (record { device = living_small s d g lives; account = refl; becomes = becomes s.controllers d new_controller; directory = refl });
  stands = each_of (λ x. AsksWhatStands x.current) s.controllers d new_controller tt g.stands;
  unused = λ k off. unused k off (cases_eq k d);
  time = g.time;
  losses = new_losses s d new_controller g;
  half_steps = g.half_steps;
  written = g.written;
  decks = g.decks;
  streams = silent (after_death s d).account s.streams;
}
  where
    begun : (o : Option ResetEntry) → linked_number o d ≡ None → IsTrue (is_some (linked_number o d)) → ⊥
    begun o none on = grind (arith, none, on)

    latest_ : (o : Option ResetEntry) → IsLatest o s.declared s.account → IsLatest o (after_death s d).declared (after_death s d).account
    latest_ None h = absurd (begun None refl (subst (λ (l : Account). IsTrue (is_some (linked_number l.latest d))) h.1 (living_linked s d lives)))
    latest_ (Some e) h = h

    unused : (k : ℕ) → IsFalse (is_living (after_death s d) k) → (k ≡ d) ⊎ (k ≢ d) → update s.controllers d new_controller k ≡ new_controller
    unused k off (inl same) = ap (update s.controllers d new_controller) same ∙ update_new s.controllers d new_controller
    unused k off (inr ne) = update_others s.controllers d new_controller k ne ∙ g.unused k (sym (ap (λ b. is_linked s k && not b) (update_others s.dead d true k ne)) ∙ off)
