-- A quadlet has room for a bit that it lacks.
use Rattle.fw_cmp_jobs.proofs.Common.{◌≡◌, ◌≢◌, ℕ, ◌+◌, ◌<◌, ◌≤◌, arith, ap, ◌∙◌, sym}
use Rattle.std.proofs.Common.{suc, ◌-◌, ◌*◌, ◌/◌, ◌%◌, ◌^◌, pow_pos, pow-suc}
use Rattle.std.proofs.Math.Nat.{lt-div-mul-add, div-lt_iff_lt-mul, mul-le-mul_right}
use Rattle.std.proofs.lemmas.Nat.{pow-add}

pub room_for_bit : (w k : ℕ) → w < 2 ^ 32 → k < 32 → w / 2 ^ k % 2 ≢ 1 → w + 2 ^ k < 2 ^ 32
room_for_bit w k fits lt clear =
    let positive : 0 < 2 ^ k = pow_pos k in
    let high : ℕ = 2 ^ (31 - k) in
    let twice : 2 ^ (suc (31 - k)) ≡ 2 * 2 ^ (31 - k) = pow-suc 2 (31 - k) ∙ omega arith in
    let size : suc (31 - k) + k ≡ 32 = omega arith in
    let parts : 2 ^ 32 ≡ 2 ^ (suc (31 - k)) * 2 ^ k = ap (λ n. 2 ^ n) (sym size) ∙ pow-add 2 (suc (31 - k)) k in
    let below : w < 2 ^ (suc (31 - k)) * 2 ^ k = rw (← parts) fits in
    let quotient : w / 2 ^ k < 2 ^ (suc (31 - k)) = (div-lt_iff_lt-mul positive).1 below in
    let two : w / 2 ^ k + 2 ≤ 2 ^ (suc (31 - k)) = omega arith in
    let most : (w / 2 ^ k + 2) * 2 ^ k ≤ 2 ^ (suc (31 - k)) * 2 ^ k = mul-le-mul_right (2 ^ k) two in
    let rest : w < w / 2 ^ k * 2 ^ k + 2 ^ k = lt-div-mul-add positive in
    rw parts (omega (arith, most, rest))
