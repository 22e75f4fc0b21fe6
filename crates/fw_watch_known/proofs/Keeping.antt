-- No bit is forgotten, if those that were known are, and none differs.
use Rattle.std.proofs.Common.{◌≡◌, refl, ap, sym, ◌∙◌, ℕ, zero, suc, ◌+◌, ◌-◌, ◌/◌, ◌%◌, ◌^◌, ◌<◌, ◌≤◌, ◌==◌, ◌&&◌, ◌||◌, not, Bool, true, false, min, bit_and, bit_xor, List, arith}
use Rattle.std.specs.Int.{bit_at}
use Rattle.std.proofs.lemmas.Bool.{eqb-true, eq-eqb}
use Rattle.std.proofs.lemmas.Nat.Bits.{bit_at_and, bit_at_xor, bit_at-zero, bit_at-lt}
use Rattle.fw_words.specs.Quadlet.{field}
use Rattle.fw_watch_remarks.specs.declared.known.Known.{Known}
use Rattle.fw_watch_remarks.specs.Knowing.{bit_of, differ, differing, is_forgotten}
use Rattle.fw_watch_known.specs.declared.channel.Channel.{Channel}
use Rattle.fw_watch_known.specs.Channels.{freshened, freshened_one}

-- bit i of a quadlet, from the highest on, is that of its number from the lowest
bit_is : (w i : ℕ) → i < 32 → field w i i ≡ bit_at w (31 - i)
bit_is w i h = ap (λ (n : ℕ). w / 2 ^ (31 - i) % 2 ^ n) (one i)
  where
    one : (i : ℕ) → i - i + 1 ≡ 1
    one i = omega arith

both : (m n : ℕ) → min m n ≡ m → m ≡ 1 → n < 2 → n ≡ 1
both m n e f h = omega (arith, e, f, h)

alike : (x y m : ℕ) → min ((x + y) % 2) m ≡ 0 → m ≡ 1 → x < 2 → y < 2 → x ≡ y
alike x y m e f g h = omega (arith, e, f, g, h)

never_differ : (b : Bool) → differ b b ≡ false
never_differ true = refl
never_differ false = refl

at_a_bit : (m n x y : Bool) → (m ≡ true → n ≡ true) → (m ≡ true → x ≡ y) → (m && (not n || differ x y)) ≡ false
at_a_bit false n x y f g = refl
at_a_bit true n x y f g = ap (λ (b : Bool). not b || differ x y) (f refl) ∙ ap (λ (b : Bool). differ b y) (g refl) ∙ never_differ y

-- a bit of which no more is known, and which is another one, is not there
pub none_forgotten : (old now : Known) → bit_and old.mask now.mask ≡ old.mask → differing old now.word ≡ 0 → (i : ℕ) → i < 32 → is_forgotten old now i ≡ false
unfolding is_forgotten bit_of
none_forgotten old now kept none i h =
    at_a_bit (field old.mask i i == 1) (field now.mask i i == 1) (field old.word i i == 1) (field now.word i i == 1)
    (λ e. eq-eqb (field now.mask i i) 1 (bit_is now.mask i h ∙ known (mask e)))
    (λ e. ap (λ (n : ℕ). n == 1) (bit_is old.word i h ∙ same (mask e) ∙ sym (bit_is now.word i h)))
  where
    mask : (field old.mask i i == 1) ≡ true → bit_at old.mask (31 - i) ≡ 1
    mask e = sym (bit_is old.mask i h) ∙ eqb-true (field old.mask i i) 1 e

    known : bit_at old.mask (31 - i) ≡ 1 → bit_at now.mask (31 - i) ≡ 1
    known e = both (bit_at old.mask (31 - i)) (bit_at now.mask (31 - i)) (sym (bit_at_and old.mask now.mask (31 - i)) ∙ ap (λ (n : ℕ). bit_at n (31 - i)) kept) e (bit_at-lt now.mask (31 - i))

    same : bit_at old.mask (31 - i) ≡ 1 → bit_at old.word (31 - i) ≡ bit_at now.word (31 - i)
    same e = alike (bit_at old.word (31 - i)) (bit_at now.word (31 - i)) (bit_at old.mask (31 - i)) (zeroes (31 - i)) e (bit_at-lt old.word (31 - i)) (bit_at-lt now.word (31 - i))
      where
        zeroes : (k : ℕ) → min ((bit_at old.word k + bit_at now.word k) % 2) (bit_at old.mask k) ≡ 0
        zeroes k =
            ap (λ (n : ℕ). min n (bit_at old.mask k)) (sym (bit_at_xor old.word now.word k)) ∙ sym (bit_at_and (bit_xor old.word now.word) old.mask k)
            ∙ ap (λ (n : ℕ). bit_at n k) none ∙ bit_at-zero k

-- so no channel of the first n is made fresh
pub keeps_channels : (n first : ℕ) (old now : Known) (c : List Channel) → n ≤ 32 → ((i : ℕ) → i < 32 → is_forgotten old now i ≡ false) → freshened n first old now c ≡ c
unfolding freshened
keeps_channels zero first old now c h none = refl
keeps_channels (suc n) first old now c h none =
    ap (λ (b : Bool). freshened_one b (first + n) (freshened n first old now c)) (none n (omega (arith, h))) ∙ keeps_channels n first old now c (omega (arith, h)) none
