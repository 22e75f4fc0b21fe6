use Rattle.fw_bus_state.proofs.Common.{◌≡◌, ℕ, suc, ◌+◌, [], ◌∷◌, Bool, cond, length, ap, refl, ◌∙◌, sym, arith, add-one, length-append, numbers_to, is_living_in}
use Rattle.fw_bus_state.proofs.machine.Machine.living.Goals as goal
use Rattle.fw_bus_state.proofs.machine.Machine.living.Goals.{then-is_living, else-is_living}

count_suc : (n : ℕ) (test : ℕ → Bool) → length (numbers_to (suc n) test) ≡ length (numbers_to n test) + length (cond (test n) (n ∷ []) [])
unfolding numbers_to
count_suc n test = length-append (numbers_to n test) (cond (test n) (n ∷ []) [])

-- how many more pass with n
count_next : (n : ℕ) (test : ℕ → Bool) (b : Bool) → b ≡ test n → length (numbers_to (n + 1) test) ≡ length (numbers_to n test) + length (cond b (n ∷ []) [])
count_next n test b is = ap (λ k. length (numbers_to k test)) (add-one n) ∙ (count_suc n test ∙ ap (λ x. length (numbers_to n test) + length (cond x (n ∷ []) [])) (sym is))

pub loop-device-init : goal.loop-device-init
unfolding numbers_to
loop-device-init c = record { counted = refl; most = omega arith }

pub loop-device-preserved : goal.loop-device-preserved
loop-device-preserved c =
    let next = count_next c.loop-device.device (is_living_in c.args.self.now) c.is_living.result c.is_living.ensures in
    elim c.if-is_living.branch [
      | then-is_living w ↦
          let one = ap (λ b. length (cond b (c.loop-device.device ∷ []) [])) w.if-is_living.true in
          let is = w.count-is in
          record { counted = omega arith; most = omega arith }
      | else-is_living w ↦
          let none = ap (λ b. length (cond b (c.loop-device.device ∷ []) [])) w.if-is_living.false in
          let is = w.count-is in
          record { counted = omega arith; most = omega arith }
    ]
