use Rattle.fw_bus_engine.proofs.Common.{subst, refl, ℕ, arith, sym, ◌∙◌, ◌≡◌, ◌≤◌, ◌<◌, ◌+◌, length, true, false, cond, ap, Err, MOST_HALF_STEPS, numbers_to, is_living_in, living_in}
use Rattle.std.proofs.Common.{slice_index_or, Fits, w32}
use Rattle.fw_bus_state.specs.Stands.{EndsAt}
use Rattle.fw_bus_engine.proofs.Doings.{ready_after}
use Rattle.fw_bus_engine.proofs.Calm.{round_rests}
use Rattle.fw_bus_engine.proofs.Rounding.{round_none, round_skips, round_then, round_cut}
use Rattle.fw_bus_state.proofs.Numbers.{count_none, count_more, count_prefix}
use Rattle.fw_bus_engine.proofs.rounds.round.Goals as goal

-- the count afterwards is a word
few_fit : (n each size : ℕ) → each ≡ size → n + size ≤ MOST_HALF_STEPS → Fits w32 (n + each)
few_fit n each size same few = omega (arith, same, few)

-- each device has its mark
within_marks : (from d end : ℕ) → from ≡ d → d < end → end ≤ 63 → from < 63
within_marks from d end same low most = omega (arith, same, low, most)

pub overflow_add-after : goal.overflow_add-after
overflow_add-after g c = few_fit _ _ _ c.requires.each c.requires.few

pub bounds-living-from : goal.bounds-living-from
bounds-living-from g c = within_marks _ _ _ c.from.ensures c.loop-device-test.true c.requires.most

pub half_step-requires : goal.half_step-requires
half_step-requires g c =
    let count = c.loop-device.invariant.count in
    let few = c.requires.few in
    let within = c.loop-device-test.true in
    let value = c.requires.within in
    let lives : is_living_in c.args.machine.now c.loop-device.device ≡ true =
    sym (c.requires.marks c.loop-device.device (omega (arith, c.loop-device-test.true, c.requires.within)))
    ∙ (ap (λ (i : ℕ). slice_index_or c.args.living.now i false) (sym c.from.ensures) ∙ c.if-not-living-from.false) in
    let more = count_more c.loop-device.device (is_living_in c.args.machine.now) ∙ ap (λ b. length (numbers_to c.loop-device.device (is_living_in c.args.machine.now)) + cond b 1 0) lives in
    let prefix = count_prefix (c.loop-device.device + 1) (length c.args.machine.now.devices.names) (is_living_in c.args.machine.now) (omega (arith, within, value)) in
    record {
      ready = ready_after c.requires.ready c.loop-device.invariant.does;
      living = c.loop-device.invariant.living _ ∙ lives;
      few = omega (arith, count, few, more, prefix);
    }

pub loop-device-init : goal.loop-device-init
loop-device-init g c = record { count = omega (arith, count_none (is_living_in c.args.machine.now)); living = λ d. refl; names = refl; does = round_none _ _ _ _ }

pub returns : goal.returns
returns g c =
    let past = c.loop-device-test.false in
    let reached = c.loop-device.auto.device-end in
    let at_end : c.loop-device.device ≡ c.args.end = omega (arith, past, reached) in
    let size = length (living_in c.args.machine.now) in
    let after : c.args.machine.now.half_steps + c.args.each ≡ c.args.machine.now.half_steps + size = ap (λ n. c.args.machine.now.half_steps + n) c.requires.each in
    let few : c.args.machine.now.half_steps + c.args.each ≤ MOST_HALF_STEPS = omega (arith, after, c.requires.few) in
    let within : c.loop-device.device ≤ length c.args.machine.now.devices.names = omega (arith, at_end, c.requires.within) in
    record {
      does = round_rests c.loop-device.device _ c.requires.ready within after few c.loop-device.invariant.living
          (subst (EndsAt c.args.machine.now) (sym at_end) c.requires.ends) c.loop-device.invariant.count c.loop-device.invariant.does;
      living = c.loop-device.invariant.living;
      names = c.loop-device.invariant.names;
      count = after;
    }

pub loop-device-preserved-then-not-living-from : goal.loop-device-preserved-then-not-living-from
loop-device-preserved-then-not-living-from g c =
    let off : is_living_in c.args.machine.now c.loop-device.device ≡ false =
    sym (c.requires.marks c.loop-device.device (omega (arith, c.loop-device-test.true, c.requires.within)))
    ∙ (ap (λ (i : ℕ). slice_index_or c.args.living.now i false) (sym c.from.ensures) ∙ c.if-not-living-from.true) in
    let more = count_more c.loop-device.device (is_living_in c.args.machine.now) ∙ ap (λ b. length (numbers_to c.loop-device.device (is_living_in c.args.machine.now)) + cond b 1 0) off in
    record {
      count = let count = c.loop-device.invariant.count in omega (arith, count, more);
      living = c.loop-device.invariant.living;
      names = c.loop-device.invariant.names;
      does = round_skips _ off c.loop-device.invariant.does;
    }

pub returns-in_err-half_step-clause-living : goal.returns-in_err-half_step-clause-living
returns-in_err-half_step-clause-living g c = λ d. c.in_err-half_step.ensures.living d ∙ c.loop-device.invariant.living d

pub returns-in_err-half_step-clause-names : goal.returns-in_err-half_step-clause-names
returns-in_err-half_step-clause-names g c = c.in_err-half_step.ensures.names ∙ c.loop-device.invariant.names

pub returns-in_err-half_step-clause-does : goal.returns-in_err-half_step-clause-does
returns-in_err-half_step-clause-does g c =
    let value = c.requires.within in
    let within = c.loop-device-test.true in
    let lives : is_living_in c.args.machine.now c.loop-device.device ≡ true =
    sym (c.requires.marks c.loop-device.device (omega (arith, c.loop-device-test.true, c.requires.within)))
    ∙ (ap (λ (i : ℕ). slice_index_or c.args.living.now i false) (sym c.from.ensures) ∙ c.if-not-living-from.false) in
    round_cut _ (Err _) _ (omega (arith, value, within)) lives c.requires.few refl c.from_residual.ensures.0 c.loop-device.invariant.does c.in_err-half_step.ensures.does

pub loop-device-preserved : goal.loop-device-preserved
loop-device-preserved g c =
    let lives : is_living_in c.args.machine.now c.loop-device.device ≡ true =
    sym (c.requires.marks c.loop-device.device (omega (arith, c.loop-device-test.true, c.requires.within)))
    ∙ (ap (λ (i : ℕ). slice_index_or c.args.living.now i false) (sym c.from.ensures) ∙ c.if-not-living-from.false) in
    let more = count_more c.loop-device.device (is_living_in c.args.machine.now) ∙ ap (λ b. length (numbers_to c.loop-device.device (is_living_in c.args.machine.now)) + cond b 1 0) lives in
    record {
      count = let count = c.loop-device.invariant.count in let one = c.in_ok-half_step.ensures.count in omega (arith, count, one, more);
      living = λ d. c.in_ok-half_step.ensures.living d ∙ c.loop-device.invariant.living d;
      names = c.in_ok-half_step.ensures.names ∙ c.loop-device.invariant.names;
      does = round_then _ lives c.loop-device.invariant.does c.in_ok-half_step.ensures.does;
    }
