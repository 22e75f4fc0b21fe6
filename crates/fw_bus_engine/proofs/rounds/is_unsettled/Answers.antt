use Rattle.fw_bus_engine.proofs.Common.{◌≡◌, inl, inr, ℕ, ◌<◌, ◌-◌, length, Bool, true, false, ap, sym, subst, ◌∙◌, arith, State, IsGood, Machine, is_living, living_same}
use Rattle.std.proofs.Common.{◌&&◌, refl}
use Rattle.fw_bus_state.specs.Stands.{EndsAt, StandsFor}
use Rattle.fw_model_run.specs.HalfSteps.{is_busy_at}
use Rattle.fw_bus_state.proofs.Idles.{rest_busy, says_busy}
use Rattle.fw_bus_state.proofs.Living.{settled_all, unsettled_at}
use Rattle.fw_bus_engine.proofs.rounds.is_unsettled.Goals as goal

-- a round looks at none, so that each that lives has nothing to do
none_busy : (m : Machine) (s : State) (d : ℕ) → IsGood s → StandsFor m s → EndsAt m 0 → d < length s.declared.names → (is_living s d && is_busy_at s d) ≡ false
none_busy m s d g st ends lt = go ends (is_living s d) refl
  where
    names : length m.devices.names ≡ length s.declared.names
    names = ap length st.devices.names

    go : EndsAt m 0 → (b : Bool) → is_living s d ≡ b → (is_living s d && is_busy_at s d) ≡ false
    go ends false e = ap (λ x. x && is_busy_at s d) e
    go (inl none) true e = absurd (omega (arith, none, names, lt))
    go (inr h) true e =
        let rests = h.1 d (omega arith) (omega (arith, names, lt)) (living_same m s d g st ∙ e) in
        ap (λ x. x && is_busy_at s d) e ∙ rest_busy m s d g st rests

pub returns-then-end-eq0 : goal.returns-then-end-eq0
returns-then-end-eq0 c = λ s g st.
    sym (settled_all s (λ d lt. none_busy c.args.machine.now s d g st (subst (EndsAt c.args.machine.now) c.if-end-eq0.true c.requires.ends) lt))

pub returns-then-busy : goal.returns-then-busy
returns-then-busy c = λ s g st.
    let m = c.args.machine.now in
    let d = c.args.end - 1 in
    let names : length m.devices.names ≡ length s.declared.names = ap length st.devices.names in
    let some = c.if-end-eq0.false in
    let within = c.requires.within in
    let low : d < length m.devices.names = omega (arith, some, within) in
    let lives : is_living s d ≡ true = sym (living_same m s d g st) ∙ (sym (c.requires.marks d low) ∙ rw c.from.ensures at c.if-living-from.true) in
    let busy : is_busy_at s d ≡ true =
    sym (says_busy m s d c.get-last.result.now c.busy.result g st c.get-last.ensures c.busy.ensures.heard c.busy.ensures.standing) ∙ c.if-busy.true in
    sym (unsettled_at s d (omega (arith, low, names)) lives busy)
