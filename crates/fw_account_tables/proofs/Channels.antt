-- The free channels as one number of 64 bits, and the registers of the resource manager in their ranges.
use Rattle.fw_account_tables.proofs.Common.{◌≡◌, ◌<◌, ◌≤◌, ◌+◌, ◌-◌, ◌*◌, ◌%◌, ◌^◌, ◌⊎◌, inl, inr, ℕ, Bool, Option, List, ap, arith, ◌∙◌, flag, Allocation, Account, is_open, ResourcesFor, StandsFor, Charge}
use Rattle.fw_account_tables.proofs.Common.{Tables, None, Some, true, false, zero, suc, refl, sym, find_to, is_free, is_pending, allocation_of, charge_at, not, ◌&&◌}
use Rattle.std.proofs.Common.{if◌then◌else◌}
use Rattle.fw_model_account.specs.Account.{is_withheld}
use Rattle.std.proofs.lemmas.Bool.{cases_lt}
use Rattle.std.specs.Int.{bit_at, trailing_ones, w64}
use Rattle.std.proofs.lemmas.Nat.Bits.{bit_at-trailing_ones, bit_at_cat_low, bit_at_cat_high}
use Rattle.fw_model_account.specs.Words.{bits_word}
use Rattle.fw_model_account.proofs.Words.{bits_below, bit_is}

-- a half's word has 32 bits
pub word_fits : (free : ℕ → Bool) → bits_word free < 2 ^ 32
word_fits free = bits_below 32 (λ i. free (31 - i))

-- the words of a table fit 32 bits
pub halves_fit : (withheld : Bool) (units high low : ℕ) (charges : List Charge) (allocations : ℕ → Option Allocation) → ResourcesFor withheld units high low charges allocations → (units < 2 ^ 32)
    × (high < 2 ^ 32) × (low < 2 ^ 32)
halves_fit withheld units high low charges allocations h =
    (omega (arith, h.left), rw h.high (word_fits (λ i. is_open withheld allocations (0 + i))), rw h.low (word_fits (λ i. is_open withheld allocations (32 + i))))

-- bit 63 - ch of both halves is that of channel ch
pub channel_bit : (free : ℕ → Bool) (ch : ℕ) → ch < 64 → bit_at (bits_word (λ i. free (0 + i)) * 2 ^ 32 + bits_word (λ i. free (32 + i))) (63 - ch) ≡ flag (free ch)
channel_bit free ch lt = go (cases_lt ch 32)
  where
    go : (ch < 32) ⊎ (32 ≤ ch) → bit_at (bits_word (λ i. free (0 + i)) * 2 ^ 32 + bits_word (λ i. free (32 + i))) (63 - ch) ≡ flag (free ch)
    go (inl low) =
        let e : 63 - ch - 32 ≡ 31 - ch = omega arith in
        let w : 0 + (31 - (31 - ch)) ≡ ch = omega arith in
        bit_at_cat_high (bits_word (λ i. free (0 + i))) 32 (bits_word (λ i. free (32 + i))) (63 - ch) (word_fits (λ i. free (32 + i))) (omega arith)
        ∙ ap (bit_at (bits_word (λ i. free (0 + i)))) e
        ∙ bit_is 32 (31 - ch) (λ k. free (0 + (31 - k))) (omega arith) ∙ ap (λ k. flag (free k)) w
    go (inr high) =
        let w : 32 + (31 - (63 - ch)) ≡ ch = omega arith in
        bit_at_cat_low (bits_word (λ i. free (0 + i))) 32 (bits_word (λ i. free (32 + i))) (63 - ch) (omega arith)
        ∙ bit_is 32 (63 - ch) (λ k. free (32 + (31 - k))) (omega arith) ∙ ap (λ k. flag (free k)) w

-- a shift of a half loses no bit
pub shifted : (a : ℕ) → a < 2 ^ 32 → a * 4294967296 % 18446744073709551616 ≡ a * 2 ^ 32
shifted a lt = omega arith

-- the number of both halves that a ledger tells
pub free_bits : (t : Tables) (l : Account) (ch : ℕ) → StandsFor t l → ch < 64 → bit_at (t.high * 4294967296 % 18446744073709551616 + t.low) (63 - ch) ≡ flag (is_open l.withheld l.allocations ch)
free_bits t l ch h lt =
    let f = halves_fit l.withheld t.left t.high t.low t.charges.items l.allocations h.resources in
    rw (shifted t.high f.1, h.resources.high, h.resources.low) (channel_bit (λ i. is_open l.withheld l.allocations i) ch lt)

-- the last bits that are 1
pub last_ones : (word ch : ℕ) → word + 1 < 2 ^ 64 → 64 - trailing_ones w64 word ≤ ch → ch < 64 → bit_at word (63 - ch) ≡ 1
last_ones word ch small from within = (bit_at-trailing_ones w64 word small).2 (63 - ch) (let t = (bit_at-trailing_ones w64 word small).0 in omega arith)

pub few_ones : (word : ℕ) → word + 1 < 2 ^ 64 → trailing_ones w64 word ≤ 64
few_ones word small = let t = (bit_at-trailing_ones w64 word small).0 in omega arith

-- a bit that is 1
pub flag_set : (b : Bool) → flag b ≡ 1 → b ≡ true
flag_set true e = refl
flag_set false e = absurd (omega arith)

-- nobody has an open channel
pub open_is_free : (o : Option Allocation) (b : Bool) → (is_free o && b) ≡ true → o ≡ None
open_is_free None b e = refl
open_is_free (Some x) b e = cc

-- a search that finds nothing after a place may end there
pub find_sooner : (n m : ℕ) (f : ℕ → Bool) → n ≤ m → ((k : ℕ) → n ≤ k → k < m → f k ≡ false) → find_to m f ≡ find_to n f
unfolding find_to
find_sooner n zero f le none = let e : n ≡ 0 = omega arith in ap (λ k. find_to k f) (sym e)
find_sooner n (suc m) f le none = go (cases_lt m n) (λ before. find_sooner n m f before (λ k from within. none k from (omega arith)))
  where
    same : (o : Option ℕ) (b : Bool) → b ≡ false → elim o [ Some k ↦ Some k | None ↦ (if b then Some m else None) ] ≡ o
    same (Some k) b e = refl
    same None b e = rw e refl

    go : (m < n) ⊎ (n ≤ m) → (n ≤ m → find_to m f ≡ find_to n f) → find_to (suc m) f ≡ find_to n f
    go (inl lt) rest = let e : n ≡ suc m = omega arith in ap (λ k. find_to k f) (sym e)
    go (inr before) rest = same (find_to m f) (f m) (none m before (omega arith)) ∙ rest before

-- the search for a controller's channel among those that are used
pub pending_sooner : (t : Tables) (l : Account) (c end : ℕ) → StandsFor t l → end ≤ 64 → ((ch : ℕ) → end ≤ ch → ch < 64 → is_open l.withheld l.allocations ch ≡ true)
    → find_to end (λ ch. is_pending c (allocation_of (charge_at t.charges.items ch))) ≡ find_to 64 (λ ch. is_pending c (allocation_of (charge_at t.charges.items ch)))
pending_sooner t l c end h few used =
    sym (find_sooner end 64 (λ ch. is_pending c (allocation_of (charge_at t.charges.items ch))) few
    (λ ch from within. ap (is_pending c) (h.resources.charges ch within ∙ open_is_free (l.allocations ch) (not (is_withheld l.withheld ch)) (used ch from within))))
