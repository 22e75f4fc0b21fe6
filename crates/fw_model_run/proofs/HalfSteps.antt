-- A half step leads from a good state to a good state, whether a request is outstanding or not.
use Rattle.fw_model_run.proofs.Common.{◌≡◌, ℕ, refl, sym, subst, IsTrue, ◌≢◌, ◌⊎◌, inl, inr, ◌<◌, Bool, true}
use Rattle.fw_model_run.proofs.Common.{false, is_some, ap, ◌∙◌, arith, IsFalse, Current, Nothing, Asking, Hearing}
use Rattle.fw_model_run.proofs.Common.{Overtaken, IsHeard, ControllerState, new_controller, MOST_RESETS, State, is_living, is_deaf}
use Rattle.fw_model_run.proofs.Common.{half_of, asks, taken, after_half, half, has_request, IsGood}
use Rattle.fw_model_run.proofs.Common.{Asks, cases_eq, update, heard, after_loss}
use Rattle.fw_model_run.specs.HalfSteps.{HalfStep}
use Rattle.fw_model_run.proofs.HearsGood.{hears_good}
use Rattle.fw_model_run.proofs.Hears.{heard_of, half_hears, reply_heard}
use Rattle.fw_model_run.proofs.Turns.{turn_good, update_new, update_others}
use Rattle.fw_model_run.specs.Afterwards.{stage_of}

pub half_good : (s : State) (d : ℕ) → IsGood s → IsTrue (is_living s d) → IsFalse (is_deaf s d) → IsGood (after_half s d)
half_good s d g lives quiet = go (s.controllers d).current refl
  where
    rests : (c : Current) → (s.controllers d).current ≡ c → IsHeard c → half_of s d c ≡ asks s d → IsGood (after_half s d)
    rests c e heard is = subst (λ x. IsGood (taken s d (half_of s d x))) (sym e) (subst (λ x. IsGood (taken s d x)) (sym is) (turn_good s d g lives quiet (subst IsHeard (sym e) heard)))

    go : (c : Current) → (s.controllers d).current ≡ c → IsGood (after_half s d)
    go Nothing e = rests Nothing e tt refl
    go (Asking j stage) e = rests (Asking j stage) e tt refl
    go (Hearing j stage) e = hears_good s d j stage g lives quiet e
    go (Overtaken i o) e = rests (Overtaken i o) e tt refl

-- ---- an outstanding request

-- if a request is outstanding no response was lost
pub stands_quiet : (s : State) (d : ℕ) → IsGood s → IsTrue (has_request (s.controllers d).current) → IsFalse (is_deaf s d)
stands_quiet s d g stands = go (is_deaf s d) refl
  where
    clash : (c : Current) → IsTrue (has_request c) → Asks c → ⊥
    clash Nothing on asks = asks
    clash (Asking j stage) on asks = absurd (grind arith)
    clash (Hearing j stage) on asks = asks
    clash (Overtaken i o) on asks = asks

    go : (b : Bool) → is_deaf s d ≡ b → b ≡ false
    go false e = refl
    go true e = absurd (clash (s.controllers d).current stands (g.losses.asks d e))

-- ---- a lost response

-- the controller asks then, as one that has heard it
loss_asks : (s : State) (d : ℕ) → IsGood s → IsTrue (is_living s d) → IsTrue (has_request (s.controllers d).current) → Asks (half s d).controller.current
loss_asks s d g lives stands = go (s.controllers d).current refl stands
  where
    go : (c : Current) → (s.controllers d).current ≡ c → IsTrue (has_request c) → Asks (half s d).controller.current
    go Nothing e on = absurd (grind arith)
    go (Asking j stage) e on = absurd (grind arith)
    go (Overtaken i o) e on = absurd (grind arith)
    go (Hearing j stage) e on =
        let x = heard_of s d j stage g lives e in
        let h = half_hears s d j stage g e x in
        subst (λ (y : HalfStep). Asks y.controller.current) (sym h.half_is) (subst (λ c. Asks (heard c (reply_heard s d j stage x))) (sym e) tt)

pub loss_good : (s : State) (d : ℕ) → IsGood s → IsTrue (is_living s d) → IsTrue (has_request (s.controllers d).current) → s.resets < MOST_RESETS → IsGood (after_loss s d)
loss_good s d g lives stands few = record {
  declared = h.declared;
  latest = h.latest;
  reclaims = h.reclaims;
  stands = h.stands;
  unused = h.unused;
  time = h.time;
  losses = record { asks = λ k on. asks k on (cases_eq k d); counted = λ k on. omega (arith, h.losses.came); came = omega (arith, h.losses.came); few = omega (arith, few) };
  half_steps = h.half_steps;
  written = h.written;
  decks = h.decks;
  streams = h.streams;
}
  where
    u : State
    u = after_half s d

    h : IsGood u
    h = half_good s d g lives (stands_quiet s d g stands)

    asks : (k : ℕ) → IsTrue (is_some (update s.lost d (stage_of (s.controllers d).current) k)) → (k ≡ d) ⊎ (k ≢ d) → Asks (u.controllers k).current
    asks k on (inl same) = subst (λ (c : ControllerState). Asks c.current) (sym (ap u.controllers same ∙ update_new s.controllers d (half s d).controller)) (loss_asks s d g lives stands)
    asks k on (inr ne) = h.losses.asks k (sym (ap is_some (update_others s.lost d (stage_of (s.controllers d).current) k ne)) ∙ on)

-- one that has lost a response lives
pub deaf_lives : (s : State) (d : ℕ) → IsGood s → IsTrue (is_deaf s d) → IsTrue (is_living s d)
deaf_lives s d g deaf = go (is_living s d) refl
  where
    idle : (c : ControllerState) → c ≡ new_controller → Asks c.current → ⊥
    idle c e asks = subst (λ (x : ControllerState). Asks x.current) e asks

    go : (b : Bool) → is_living s d ≡ b → b ≡ true
    go true e = refl
    go false e = absurd (idle (s.controllers d) (g.unused d e) (g.losses.asks d deaf))
