-- How many plugs are on a channel, after one of them is known anew.
use Rattle.std.proofs.Common.{◌≡◌, refl, ap, sym, ◌∙◌, ℕ, zero, suc, ◌+◌, ◌-◌, ◌*◌, ◌<◌, ◌≤◌, nat_lt}
use Rattle.std.proofs.Common.{Bool, true, false, cond, ◌||◌, List, [], ◌∷◌, Option, length, get_or, slice_index, replicate, arith}
use Rattle.std.proofs.Math.ListN.{set}
use Rattle.std.proofs.lemmas.Bool.Decides.{nat_tests}
use Rattle.std.proofs.lemmas.List.{length-set, length-replicate}
use Rattle.std.proofs.lemmas.List.Sums.{sum_by-cons, sum_by-set, get_or-le-sum_by, count_by-le-length}
use Rattle.std.proofs.lemmas.List.Folds.{sum_by-replicate}
use Rattle.std.specs.List.{count_by, list_any}
use Rattle.fw_watch_remarks.specs.declared.known.Known.{Known}
use Rattle.fw_watch_remarks.specs.Knowing.{is_on, channel_of, nothing_known, after_reset}
use Rattle.fw_watch_known.specs.Used.{one_on, CountsUsed}

one_step : (b a : Bool) (n : ℕ) → a ≡ nat_lt 0 n → (b || a) ≡ nat_lt 0 (cond b 1 0 + n)
one_step true a n e = grind (arith, nat_tests)
one_step false a n e = grind (arith, nat_tests)

-- some plug is on a channel exactly if they are not 0
pub any_counted : (test : Known → Bool) (xs : List Known) → list_any test xs ≡ nat_lt 0 (count_by test xs)
any_counted test [] = refl
any_counted test (x ∷ xs) =
    one_step (test x) (list_any test xs) (count_by test xs) (any_counted test xs) ∙ ap (nat_lt 0) (sym (sum_by-cons (λ y. cond (test y) 1 0) x xs))

-- one is taken off, and the other comes on
pub counted_anew : (test : Known → Bool) (xs : List Known) (i fewer more : ℕ) (y d : Known) → i < length xs → fewer ≡ count_by test xs - cond (test (get_or xs i d)) 1 0
    → more ≡ fewer + cond (test y) 1 0 → more ≡ count_by test (set xs i y)
counted_anew test xs i fewer more y d h f m =
    omega (arith, f, m, get_or-le-sum_by (λ x. cond (test x) 1 0) xs i d h, sum_by-set (λ x. cond (test x) 1 0) xs i y d h)

-- of plugs that are on none they are 0
none_counted : (n k : ℕ) (y : Known) → is_on k y ≡ false → count_by (is_on k) (replicate n y) ≡ 0
none_counted n k y e = sum_by-replicate (λ x. cond (is_on k x) 1 0) n y ∙ ap (λ (b : Bool). n * cond b 1 0) e ∙ nothing n
  where
    nothing : (n : ℕ) → n * 0 ≡ 0
    nothing n = omega arith

unknown_off : (k : ℕ) → is_on k nothing_known ≡ false
unfolding is_on channel_of
unknown_off k = refl

reset_off : (k : ℕ) → is_on k after_reset ≡ false
unfolding is_on channel_of
reset_off k = refl

pub new_counted : (n k : ℕ) → count_by (is_on k) (replicate n nothing_known) ≡ 0
new_counted n k = none_counted n k nothing_known (unknown_off k)

pub reset_counted : (n k : ℕ) → count_by (is_on k) (replicate n after_reset) ≡ 0
reset_counted n k = none_counted n k after_reset (reset_off k)

nothing_at : (n k : ℕ) → slice_index (replicate n 0) k ≡ 0
nothing_at zero k = refl
nothing_at (suc n) zero = refl
nothing_at (suc n) (suc k) = nothing_at n k

-- none is on any channel
pub none_used : (used : List ℕ) (rows : List Known) (n : ℕ) (y : Known) → used ≡ replicate 64 0 → rows ≡ replicate n y → n ≤ 3906 → ((k : ℕ) → count_by (is_on k) (replicate n y) ≡ 0)
    → CountsUsed used rows
none_used used rows n y e f few off = (
  omega (arith, ap length f, length-replicate n y, few),
  λ k h. ap (λ (l : List ℕ). slice_index l k) e ∙ nothing_at 64 k ∙ sym (ap (count_by (is_on k)) f ∙ off k),
)

-- one is known anew
pub set_used : (used fewer more : List ℕ) (rows : List Known) (place : ℕ) (known d : Known) (was now : Option ℕ) → CountsUsed used rows → place < length rows
    → was ≡ channel_of (get_or rows place d) → now ≡ channel_of known → ((k : ℕ) → k < 64 → slice_index fewer k ≡ slice_index used k - one_on k was)
    → ((k : ℕ) → k < 64 → slice_index fewer k < 65535 → slice_index more k ≡ slice_index fewer k + one_on k now) → CountsUsed more (set rows place known)
unfolding is_on
set_used used fewer more rows place known d was now c within e f one two = (
  omega (arith, c.0, length-set rows place known),
  λ k h.
      let taken = one k h ∙ ap (λ (n : ℕ). n - one_on k was) (c.1 k h) ∙ ap (λ (o : Option ℕ). count_by (is_on k) rows - one_on k o) e in
      let few : slice_index fewer k < 65535 = omega (arith, one k h, c.1 k h, count_by-le-length (is_on k) rows, c.0) in
      counted_anew (is_on k) rows place (slice_index fewer k) (slice_index more k) known d within taken (two k h few ∙ ap (λ (o : Option ℕ). slice_index fewer k + one_on k o) f),
)

-- some plug is on a channel if they are more than 0
pub used_counted : (used : List ℕ) (rows plugs : List Known) (k : ℕ) → k < 64 → CountsUsed used rows → rows ≡ plugs → nat_lt 0 (slice_index used k) ≡ list_any (is_on k) plugs
used_counted used rows plugs k h c e = ap (nat_lt 0) (c.1 k h) ∙ sym (any_counted (is_on k) rows) ∙ ap (list_any (is_on k)) e
