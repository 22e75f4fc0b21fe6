-- There is room for rounds if there is even with each device's controller alive.
use Rattle.std.proofs.Common.{◌≡◌, ℕ, zero, suc, ◌+◌, ◌*◌, ◌-◌, ◌≤◌, Bool, true, false, cond, length, ap, ◌∙◌, arith}
use Rattle.fw_order.specs.declared.limits.TheConstants.{MOST_HALF_STEPS}
use Rattle.fw_model_run.specs.State.{numbers_to}
use Rattle.fw_bus_state.specs.declared.machine.Machine.{Machine}
use Rattle.fw_bus_state.specs.Stands.{is_living_in, living_in}
use Rattle.fw_bus_state.proofs.Numbers.{count_more, count_none}

at_most_one : (b : Bool) → cond b 1 0 ≤ 1
at_most_one true = omega arith
at_most_one false = omega arith

count_within : (n : ℕ) (test : ℕ → Bool) → length (numbers_to n test) ≤ n
count_within zero test = let none = count_none test in omega (arith, none)
count_within (suc n) test =
    let before = count_within n test in
    let one = at_most_one (test n) in
    let next : suc n ≡ n + 1 = omega arith in
    let more : length (numbers_to (suc n) test) ≡ length (numbers_to n test) + cond (test n) 1 0 = ap (λ k. length (numbers_to k test)) next ∙ count_more n test in
    omega (arith, before, one, more)

more_fit : (given rounds fewer more : ℕ) → fewer ≤ more → given + rounds * more ≤ MOST_HALF_STEPS → given + rounds * fewer ≤ MOST_HALF_STEPS
more_fit given rounds fewer more le room =
    let sum : more ≡ fewer + (more - fewer) = omega (arith, le) in
    let parts : rounds * more ≡ rounds * fewer + rounds * (more - fewer) = ap (λ k. rounds * k) sum ∙ omega arith in
    omega (arith, room, parts)

pub rounds_fit : (m : Machine) (rounds count : ℕ) → count ≡ length m.devices.names → m.half_steps + rounds * count ≤ MOST_HALF_STEPS
    → m.half_steps + rounds * length (living_in m) ≤ MOST_HALF_STEPS
rounds_fit m rounds count all room =
    let within = count_within (length m.devices.names) (is_living_in m) in more_fit m.half_steps rounds (length (living_in m)) count (omega (arith, within, all)) room
