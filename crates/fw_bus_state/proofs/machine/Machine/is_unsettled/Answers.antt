use Rattle.fw_bus_state.proofs.Common.{◌≡◌, ◌&&◌, Bool, true, false, length, refl, ap, sym, ◌∙◌, arith, State, IsGood, is_busy_at, StandsFor}
use Rattle.std.proofs.Common.{below_more}
use Rattle.fw_model_run.specs.State.{is_living}
use Rattle.fw_bus_state.proofs.Idles.{rest_busy}
use Rattle.fw_bus_state.proofs.Living.{living_same, settled_all, unsettled_at}
use Rattle.fw_bus_state.proofs.machine.Machine.is_unsettled.Goals as goal
use Rattle.fw_bus_state.proofs.machine.Machine.is_unsettled.Goals.{else-is_living-via-then-is_living+else-is_busy, else-is_living-via-else-is_living}

pub returns-then-is_busy : goal.returns-then-is_busy
returns-then-is_busy c = λ s g st.
    let m = c.args.self.now in
    let d = c.loop-device.device in
    let names : length m.devices.names ≡ length s.declared.names = ap length st.devices.names in
    let end = c.count-device-end.ensures.value in
    let lives : is_living s d ≡ true = sym (living_same m s d g st) ∙ (sym c.is_living.ensures ∙ c.if-is_living.true) in
    let busy : is_busy_at s d ≡ true = sym (c.is_busy.ensures s g st) ∙ c.if-is_busy.true in
    sym (unsettled_at s d (omega arith) lives busy)

pub loop-device-preserved-then-is_calm : goal.loop-device-preserved-then-is_calm
loop-device-preserved-then-is_calm c = λ s g st. below_more (λ d. (is_living s d && is_busy_at s d) ≡ false) c.loop-device.device (c.loop-device.invariant s g st)
    (rests (is_living s c.loop-device.device) (is_busy_at s c.loop-device.device) (rest_busy c.args.self.now s c.loop-device.device g st (c.is_calm.ensures c.if-is_calm.true)))
  where
    rests : (a b : Bool) → b ≡ false → (a && b) ≡ false
    rests true b e = e
    rests false b e = refl

pub loop-device-preserved : goal.loop-device-preserved
loop-device-preserved c = λ s g st. below_more (λ d. (is_living s d && is_busy_at s d) ≡ false) c.loop-device.device (c.loop-device.invariant s g st) (here s g st)
  where
    rests : (a b : Bool) → a ≡ false → (a && b) ≡ false
    rests a b e = ap (λ x. x && b) e

    calm : (a b : Bool) → b ≡ false → (a && b) ≡ false
    calm true b e = e
    calm false b e = refl

    here : (s : State) → IsGood s → StandsFor c.args.self.now s → (is_living s c.loop-device.device && is_busy_at s c.loop-device.device) ≡ false
    here s g st =
        let m = c.args.self.now in
        let d = c.loop-device.device in
        elim c.else-is_living.branch [
          | else-is_living-via-then-is_living+else-is_busy w ↦
              calm (is_living s d) (is_busy_at s d) (sym (w.is_busy.ensures s g st) ∙ w.if-is_busy.false)
          | else-is_living-via-else-is_living w ↦
              rests (is_living s d) (is_busy_at s d) (sym (living_same m s d g st) ∙ (sym c.is_living.ensures ∙ w.if-is_living.false))
        ]

pub returns : goal.returns
returns c = λ s g st.
    let names : length c.args.self.now.devices.names ≡ length s.declared.names = ap length st.devices.names in
    let end = c.count-device-end.ensures.value in
    sym (settled_all s (λ d lt. c.loop-device.invariant s g st d (omega arith)))
