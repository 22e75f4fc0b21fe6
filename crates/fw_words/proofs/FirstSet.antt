-- Laws of the first bit that is 1.
use Rattle.std.proofs.Common.{◌≡◌, ◌≢◌, ℕ, zero, suc, ◌+◌, ◌-◌, ◌*◌, ◌/◌, ◌%◌, ◌^◌, ◌<◌, Some, None, arith, refl, sym, ◌∙◌, ◌==◌, if◌then◌else◌}
use Rattle.std.proofs.lemmas.Nat.{mod-pow-add, pow_pos}
use Rattle.std.proofs.lemmas.Bool.Decides.{nat_tests}
use Rattle.fw_words.specs.Quadlet.{field, first_set}

first_set_step : (q at n : ℕ) → first_set q at (suc n) ≡ (if field q at at == 1 then Some at else first_set q (at + 1) n)
unfolding first_set
first_set_step q at n = refl

pub first_set_none : (q at n : ℕ) → n ≡ 0 → None ≡ first_set q at n
unfolding first_set
first_set_none q at n e = rw e refl

pub first_set_here : (q at n : ℕ) → 0 < n → field q at at ≡ 1 → Some at ≡ first_set q at n
first_set_here q at n some h = let e : n ≡ suc (n - 1) = omega arith in rw (e, first_set_step, h) refl

pub first_set_next : (q at n : ℕ) → 0 < n → field q at at ≢ 1 → first_set q at n ≡ first_set q (at + 1) (n - 1)
first_set_next q at n some h = let e : n ≡ suc (n - 1) = omega arith in rw e (first_set_step q at (n - 1) ∙ grind (arith, nat_tests))

-- if none of the low bits is 1, they are 0
pub low_zero : (q at n : ℕ) → at + n ≡ 32 → first_set q at n ≡ None → q % 2 ^ n ≡ 0
low_zero q at zero whole h = omega arith
low_zero q at (suc n) whole h =
    let e : (if field q at at == 1 then Some at else first_set q (at + 1) n) ≡ None = sym (first_set_step q at n) ∙ h in
    let others : first_set q (at + 1) n ≡ None = grind (arith, nat_tests) in
    let low : 31 - at ≡ n = omega arith in
    let wide : at - at + 1 ≡ 1 = omega arith in
    let shift : q / 2 ^ (31 - at) % 2 ^ (at - at + 1) ≡ q / 2 ^ n % 2 ^ 1 = rw (low, wide) refl in
    let clear : q / 2 ^ n % 2 ^ 1 ≢ 1 = λ one. cc (first_set_here q at (suc n) (omega arith) (shift ∙ one)) in
    let digit : q / 2 ^ n % 2 ^ 1 ≡ 0 = omega arith in
    let rest : q % 2 ^ n ≡ 0 = low_zero q (at + 1) n (omega arith) others in
    let split : q % 2 ^ (1 + n) ≡ (q / 2 ^ n % 2 ^ 1) * 2 ^ n + q % 2 ^ n = mod-pow-add q 1 n in
    let same : suc n ≡ 1 + n = omega arith in
    rw (same, split, digit, rest) (omega arith)

pub first_set_zero : (q at n : ℕ) → at + n ≡ 32 → q % 2 ^ n ≡ 0 → first_set q at n ≡ None
first_set_zero q at zero whole h = sym (first_set_none q at zero refl)
first_set_zero q at (suc n) whole h =
    let low : 31 - at ≡ n = omega arith in
    let wide : at - at + 1 ≡ 1 = omega arith in
    let same : suc n ≡ 1 + n = omega arith in
    let split : q % 2 ^ (1 + n) ≡ (q / 2 ^ n % 2 ^ 1) * 2 ^ n + q % 2 ^ n = mod-pow-add q 1 n in
    let none : (q / 2 ^ n % 2 ^ 1) * 2 ^ n + q % 2 ^ n ≡ 0 = sym split ∙ rw (← same) h in
    let rest : q % 2 ^ n ≡ 0 = omega arith in
    let positive : 0 < 2 ^ n = pow_pos n in
    let clear : q / 2 ^ n % 2 ^ 1 ≢ 1 = λ one. let e : 1 * 2 ^ n + q % 2 ^ n ≡ 0 = rw one at none in omega arith in
    let here : field q at at ≢ 1 = rw (low, wide) clear in
    let others : first_set q (at + 1) n ≡ None = first_set_zero q (at + 1) n (omega arith) rest in
    first_set_step q at n ∙ grind (arith, nat_tests)
