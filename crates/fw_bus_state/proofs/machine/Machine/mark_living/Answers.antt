use Rattle.fw_bus_state.proofs.Common.{◌≡◌, ◌≢◌, ◌⊎◌, inl, inr, ◌<◌, ◌+◌, ℕ, Bool, false, List, cond, length, slice_index_or, slice_set, ap, subst, sym, ◌∙◌, arith, rules, cases_eq, get_or-set_same}
use Rattle.fw_bus_state.proofs.Common.{get_or-set_other, length-set, numbers_to, is_living_in}
use Rattle.fw_bus_state.proofs.Numbers.{count_none, count_more}
use Rattle.fw_bus_state.proofs.machine.Machine.mark_living.Goals as goal
use Rattle.fw_bus_state.proofs.machine.Machine.mark_living.Goals.{then-lives, else-lives}

-- one mark more
marked : (marks : List Bool) (i : ℕ) (b : Bool) (test : ℕ → Bool) → i < length marks → b ≡ test i → ((d : ℕ) → d < i → slice_index_or marks d false ≡ test d)
    → (d : ℕ) → d < i + 1 → slice_index_or (slice_set marks i b) d false ≡ test d
marked marks i b test within is before d lt = at (cases_eq d i)
  where
    at : (d ≡ i) ⊎ (d ≢ i) → slice_index_or (slice_set marks i b) d false ≡ test d
    at (inl e) = subst (λ k. slice_index_or (slice_set marks i b) k false ≡ test k) (sym e) (get_or-set_same marks i b false within ∙ is)
    at (inr ne) = get_or-set_other marks i d b false ne ∙ before d (omega (arith, lt, ne))

pub loop-device-init : goal.loop-device-init
loop-device-init c = record { size = search rules; each = λ d lt. absurd (omega (arith, lt)); counted = sym (count_none (is_living_in c.args.self.now)); most = omega arith }

pub loop-device-preserved : goal.loop-device-preserved
loop-device-preserved c =
    let within = c.count-device-end.ensures.most in
    let test = c.loop-device-test.true in
    let size = c.loop-device.invariant.size in
    let counted = c.loop-device.invariant.counted in
    let most = c.loop-device.invariant.most in
    let low : c.loop-device.device < length c.loop-device.marks = omega (arith, within, test, size) in
    let each = marked c.loop-device.marks c.loop-device.device c.is_living-lives.result _ low c.is_living-lives.ensures c.loop-device.invariant.each in
    let more : length (numbers_to (c.loop-device.device + 1) (is_living_in c.args.self.now))
    ≡ length (numbers_to c.loop-device.device (is_living_in c.args.self.now)) + cond c.is_living-lives.result 1 0 =
    count_more c.loop-device.device (is_living_in c.args.self.now) ∙ ap (λ b. length (numbers_to c.loop-device.device (is_living_in c.args.self.now)) + cond b 1 0) (sym c.is_living-lives.ensures) in
    elim c.if-lives.branch [
      | then-lives w ↦
          let one = ap (λ (b : Bool). 0 + cond b 1 0) w.if-lives.true in
          let is = w.count-is in
          rw c.from.ensures record { size = length-set _ _ _ ∙ size; each = each; counted = omega (arith, is, one, more, counted); most = omega (arith, is, most) }
      | else-lives w ↦
          let none = ap (λ (b : Bool). 0 + cond b 1 0) w.if-lives.false in
          let is = w.count-is in
          rw c.from.ensures record { size = length-set _ _ _ ∙ size; each = each; counted = omega (arith, is, none, more, counted); most = omega (arith, is, most) }
    ]

pub returns-clause-marks : goal.returns-clause-marks
returns-clause-marks c = λ d lt. c.loop-device.invariant.each d (omega (arith, lt, c.count-device-end.ensures.value, c.loop-device-test.false))
