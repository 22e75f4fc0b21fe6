-- The fields of a register are those that it was made of.
use Rattle.fw_model_account.proofs.Common.{◌≡◌, ◌≢◌, ℕ, suc, ◌+◌, ◌-◌, ◌^◌, ◌<◌, ◌≤◌, Bool, true, false, refl, ap, arith, ◌⊎◌, inl, inr, ◌∙◌, sum_to, field, flag, bits_word}
use Rattle.std.proofs.Common.{zero, ◌*◌, ◌%◌, pow-suc}
use Rattle.std.proofs.lemmas.Bool.{cases_lt}
use Rattle.std.specs.Int.{bit_at}
use Rattle.std.proofs.lemmas.Nat.Bits.{bit_at_cat_low, bit_at_cat_high}
use Rattle.fw_terms.proofs.Tables.{sum_to_changed_below}

-- ---- channel words

-- a number by its bits below n
pub bits_below : (n : ℕ) (f : ℕ → Bool) → sum_to n (λ i. flag (f i) * 2 ^ i) < 2 ^ n
unfolding sum_to
bits_below zero f = omega arith
bits_below (suc n) f = go (f n) (bits_below n f)
  where
    go : (b : Bool) → sum_to n (λ i. flag (f i) * 2 ^ i) < 2 ^ n → sum_to n (λ i. flag (f i) * 2 ^ i) + flag b * 2 ^ n < 2 ^ suc n
    go true h = omega (arith, pow-suc 2 n)
    go false h = omega (arith, pow-suc 2 n)

pub bit_is : (n k : ℕ) (f : ℕ → Bool) → k < n → bit_at (sum_to n (λ i. flag (f i) * 2 ^ i)) k ≡ flag (f k)
unfolding sum_to
bit_is zero k f lt = absurd (omega arith)
bit_is (suc n) k f lt = go (cases_lt k n) (bit_is n k f)
  where
    sum : ℕ
    sum = sum_to n (λ i. flag (f i) * 2 ^ i)

    turned : sum + flag (f n) * 2 ^ n ≡ flag (f n) * 2 ^ n + sum
    turned = omega arith

    top : (b : Bool) → flag b % 2 ≡ flag b
    top true = refl
    top false = refl

    go : (k < n) ⊎ (n ≤ k) → (k < n → bit_at sum k ≡ flag (f k)) → bit_at (sum + flag (f n) * 2 ^ n) k ≡ flag (f k)
    go (inl l) h = rw turned (bit_at_cat_low (flag (f n)) n sum k l ∙ h l)
    go (inr g) h =
        let e : k ≡ n = omega arith in
        rw e (rw turned (bit_at_cat_high (flag (f n)) n sum n (bits_below n f) (omega arith) ∙ grind (arith, top (f n))))

-- the bit of channel i in its half's word is 1 exactly if the channel is free
pub free_bit : (free : ℕ → Bool) (i : ℕ) → i < 32 → field (bits_word free) i i ≡ flag (free i)
free_bit free i lt =
    let w : 31 - (31 - i) ≡ i = omega arith in
    let one : i - i + 1 ≡ 1 = omega arith in
    rw one (bit_is 32 (31 - i) (λ k. free (31 - k)) (omega arith) ∙ ap (λ k. flag (free k)) w)

at_bit : (x y a b c : ℕ) → x + b * c ≡ y + a * c → a ≡ 1 → b ≡ 0 → x ≡ y + c
at_bit x y a b c e one none = grind arith

-- if it is free, the word without it is less by its bit
pub word_without : (free now : ℕ → Bool) (i : ℕ) → i < 32 → free i ≡ true → now i ≡ false → ((j : ℕ) → j ≢ i → free j ≡ now j) → bits_word free ≡ bits_word now + 2 ^ (31 - i)
word_without free now i lt was is same =
    let w : 31 - (31 - i) ≡ i = omega arith in
    let e = sum_to_changed_below 32 (31 - i) (λ j. flag (free (31 - j)) * 2 ^ j) (λ j. flag (now (31 - j)) * 2 ^ j) (omega arith) (λ j jl ne. ap (λ b. flag b * 2 ^ j) (same (31 - j) (omega arith))) in
    let a : flag (free (31 - (31 - i))) ≡ 1 = rw w (rw was refl) in
    let b : flag (now (31 - (31 - i))) ≡ 0 = rw w (rw is refl) in
    at_bit _ _ (flag (free (31 - (31 - i)))) (flag (now (31 - (31 - i)))) (2 ^ (31 - i)) e a b
