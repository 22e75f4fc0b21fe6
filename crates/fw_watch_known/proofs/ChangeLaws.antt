-- What loops over the channels of a half make of words that differ in one bit.
use Rattle.std.proofs.Common.{◌≡◌, ◌≢◌, refl, ap, sym, ◌∙◌, ℕ, zero, suc, ◌+◌, ◌-◌, ◌*◌, ◌/◌, ◌%◌, ◌^◌, ◌<◌, ◌≤◌, ◌==◌, ◌&&◌, ◌||◌, not, Bool, true, false, bit_xor, List, arith, inl, inr, ◌⊎◌}
use Rattle.std.specs.Int.{bit_at}
use Rattle.std.proofs.Math.Nat.{eq-or-lt_of_le}
use Rattle.std.proofs.Math.Pow.{pow-lt}
use Rattle.std.proofs.lemmas.Nat.Bits.{bit_at_xor, bit_at-pow_other, bit_at-lt}
use Rattle.fw_words.specs.Quadlet.{field}
use Rattle.fw_watch_remarks.specs.declared.known.Known.{Known}
use Rattle.fw_watch_remarks.specs.Knowing.{bit_of, differ, is_forgotten}
use Rattle.fw_watch_known.specs.declared.channel.Due.{Due}
use Rattle.fw_watch_known.specs.declared.channel.Channel.{Channel}
use Rattle.fw_watch_known.specs.Changes.{DifferAt}
use Rattle.fw_watch_known.specs.Channels.{freshened_one, freshened, is_taken, is_to_be_used, with_due, with_dues}

-- bit i of a quadlet, from the highest on, is that of its number from the lowest
bit_is : (w i : ℕ) → field w i i ≡ bit_at w (31 - i)
bit_is w i = ap (λ (n : ℕ). w / 2 ^ (31 - i) % 2 ^ n) (one i)
  where
    one : (i : ℕ) → i - i + 1 ≡ 1
    one i = omega arith

alike : (x y : ℕ) → (x + y) % 2 ≡ 0 → x < 2 → y < 2 → x ≡ y
alike x y e g h = omega (arith, e, g, h)

shifted : (k : ℕ) → k < 32 → 1 * 2 ^ k % 2 ^ 32 ≡ 2 ^ k
shifted k h = let small : 2 ^ k < 2 ^ 32 = pow-lt h in omega (arith, small)

-- two words that differ by a power of two
pub differ_at : (old new at : ℕ) → at < 32 → bit_xor old new ≡ 1 * 2 ^ (31 - at) % 2 ^ 32 → DifferAt old new at
unfolding bit_of
differ_at old new at h e = record { within = h; others = same }
  where
    same : (i : ℕ) → i < 32 → i ≢ at → bit_of old i ≡ bit_of new i
    same i l ne =
        let other : 31 - i ≢ 31 - at = λ q. ne (omega (arith, q, l, h)) in
        let power : bit_xor old new ≡ 2 ^ (31 - at) = e ∙ shifted (31 - at) (omega arith) in
        let none : (bit_at old (31 - i) + bit_at new (31 - i)) % 2 ≡ 0 =
        sym (bit_at_xor old new (31 - i)) ∙ ap (λ (n : ℕ). bit_at n (31 - i)) power ∙ bit_at-pow_other (31 - at) (31 - i) other in
        let bits : bit_at old (31 - i) ≡ bit_at new (31 - i) = alike (bit_at old (31 - i)) (bit_at new (31 - i)) none (bit_at-lt old (31 - i)) (bit_at-lt new (31 - i)) in
        ap (λ (n : ℕ). n == 1) (bit_is old i ∙ bits ∙ sym (bit_is new i))

never : (b c : Bool) → b ≡ c → (b && not c) ≡ false
never true true e = refl
never false c e = refl
never true false e = cc

-- a channel whose bit is the same is not to be used
not_due : (i first old new : ℕ) (due : Due) (plugs : List Known) (c : List Channel) → bit_of old i ≡ bit_of new i
    → with_due (is_to_be_used (is_taken i old new) (first + i) plugs) (first + i) due c ≡ c
not_due i first old new due plugs c e = ap (λ (b : Bool). with_due (is_to_be_used b (first + i) plugs) (first + i) due c) (never (bit_of old i) (bit_of new i) e)

-- before the bit none is to be used
dues_before : (n first old new at : ℕ) (due : Due) (plugs : List Known) (c : List Channel) → DifferAt old new at → n ≤ at → with_dues n first old new due plugs c ≡ c
unfolding with_dues
dues_before zero first old new at due plugs c d h = refl
dues_before (suc n) first old new at due plugs c d h =
    not_due n first old new due plugs (with_dues n first old new due plugs c) (d.others n (omega (arith, h, d.within)) (λ q. omega (arith, q, h)))
    ∙ dues_before n first old new at due plugs c d (omega (arith, h))

-- after it that of the bit is, if it is to be used at all
pub dues_only : (n first old new at : ℕ) (due : Due) (plugs : List Known) (c : List Channel) → DifferAt old new at → at < n → n ≤ 32
    → with_dues n first old new due plugs c ≡ with_due (is_to_be_used (is_taken at old new) (first + at) plugs) (first + at) due c
unfolding with_dues
dues_only zero first old new at due plugs c d h l = absurd (omega (arith, h))
dues_only (suc n) first old new at due plugs c d h l =
    elim (eq-or-lt_of_le {n = at} {m = n} (omega (arith, h))) [
      | inl e ↦ ap (with_due (is_to_be_used (is_taken n old new) (first + n) plugs) (first + n) due) (dues_before n first old new at due plugs c d (omega (arith, e)))
          ∙ ap (λ (k : ℕ). with_due (is_to_be_used (is_taken k old new) (first + k) plugs) (first + k) due c) (sym e)
      | inr g ↦ not_due n first old new due plugs (with_dues n first old new due plugs c) (d.others n (omega (arith, l)) (λ q. omega (arith, q, g)))
          ∙ dues_only n first old new at due plugs c d g (omega (arith, l))
    ]

kept : (m b c : Bool) → b ≡ c → (m && (not m || differ b c)) ≡ false
kept false b c e = refl
kept true true true e = refl
kept true false false e = refl
kept true true false e = cc
kept true false true e = cc

-- a bit that is known as before, and is what it was, is not forgotten
not_forgotten : (i : ℕ) (old now : Known) → old.mask ≡ now.mask → bit_of old.word i ≡ bit_of now.word i → is_forgotten old now i ≡ false
unfolding is_forgotten
not_forgotten i old now m e =
    ap (λ (n : ℕ). bit_of old.mask i && (not (bit_of n i) || differ (bit_of old.word i) (bit_of now.word i))) (sym m)
    ∙ kept (bit_of old.mask i) (bit_of old.word i) (bit_of now.word i) e

same_channels : (i first : ℕ) (old now : Known) (c : List Channel) → old.mask ≡ now.mask → bit_of old.word i ≡ bit_of now.word i
    → freshened_one (is_forgotten old now i) (first + i) c ≡ c
same_channels i first old now c m e = ap (λ (b : Bool). freshened_one b (first + i) c) (not_forgotten i old now m e)

-- before the bit none is made fresh
fresh_before : (n first at : ℕ) (old now : Known) (c : List Channel) → old.mask ≡ now.mask → DifferAt old.word now.word at → n ≤ at → freshened n first old now c ≡ c
unfolding freshened
fresh_before zero first at old now c m d h = refl
fresh_before (suc n) first at old now c m d h =
    same_channels n first old now (freshened n first old now c) m (d.others n (omega (arith, h, d.within)) (λ q. omega (arith, q, h)))
    ∙ fresh_before n first at old now c m d (omega (arith, h))

-- after it that of the bit is, if the bit is forgotten
pub fresh_only : (n first at : ℕ) (old now : Known) (c : List Channel) → old.mask ≡ now.mask → DifferAt old.word now.word at → at < n → n ≤ 32
    → freshened n first old now c ≡ freshened_one (is_forgotten old now at) (first + at) c
unfolding freshened
fresh_only zero first at old now c m d h l = absurd (omega (arith, h))
fresh_only (suc n) first at old now c m d h l =
    elim (eq-or-lt_of_le {n = at} {m = n} (omega (arith, h))) [
      | inl e ↦ ap (freshened_one (is_forgotten old now n) (first + n)) (fresh_before n first at old now c m d (omega (arith, e)))
          ∙ ap (λ (k : ℕ). freshened_one (is_forgotten old now k) (first + k) c) (sym e)
      | inr g ↦ same_channels n first old now (freshened n first old now c) m (d.others n (omega (arith, l)) (λ q. omega (arith, q, g)))
          ∙ fresh_only n first at old now c m d g (omega (arith, l))
    ]
