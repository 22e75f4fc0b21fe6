-- A swap that is the move that was decoded makes it, and one that is none is refused.
use Rattle.fw_account_tables.proofs.Common.{PlugAt, ◌≡◌, ◌≢◌, ◌<◌, ◌+◌, ◌-◌, ◌*◌, ◌^◌, ◌/◌, ◌%◌, ◌⊎◌, inl, inr, ◌==◌, ◌&&◌}
use Rattle.fw_account_tables.proofs.Common.{ℕ, Bool, true, false, Option, Some, None, List, length, get_or, cond, refl, sym, ◌∙◌, ap}
use Rattle.fw_account_tables.proofs.Common.{subst, arith, get_or-set_same, get_or-set_other, cases_eq, nat_tests, update, Account, Allocation, flag, is_free, is_open, Move, word_of, IsMove, allowed}
use Rattle.fw_account_tables.proofs.Common.{decoded, move_at, IsSound, StandsFor, Follows, ResourcesFor, allocation_of, place, moved_by, Charge, Free, Tables, same_open}
use Rattle.std.proofs.Common.{set}
use Rattle.fw_terms.specs.Tables.{same_plug}
use Rattle.fw_terms.proofs.Tables.{same_plug-true, same_plug_self}
use Rattle.fw_model_account.specs.Account.{total}
use Rattle.fw_model_account.specs.Moves.{after}
use Rattle.fw_model_account.specs.Words.{Register}
use Rattle.fw_model_account.specs.Decode.{can, register_of_move, same_register}
use Rattle.fw_model_account.proofs.Tests.{can_from}
use Rattle.fw_model_account.proofs.Decoded.{allowed_is, same_register_self}
use Rattle.fw_account_tables.proofs.Related.{related_set, update_same, update_other}
use Rattle.fw_account_tables.proofs.Plugs.{place_device, place_plug}
use Rattle.fw_terms.proofs.Tables.{sum_to_same}
use Rattle.fw_model_account.specs.Words.{bits_word}

all_four : (a b c d : Bool) → a ≡ true → b ≡ true → c ≡ true → d ≡ true → (a && b && c && d) ≡ true
all_four a b c d e f g h = grind arith

same_number : (n k : ℕ) → n ≡ k → (n == k) ≡ true
same_number n k e = grind (arith, nat_tests)

-- it is the move
pub swap_taken : (t new : Tables) (l : Account) (c : ℕ) (p : PlugAt) (m : Move) (register : Register) (arg word : ℕ) → IsMove c p m register arg word l
    → StandsFor new (after c p m l) → Follows true t new (moved_by c (allowed l c register arg word (Some (p, m))) l)
swap_taken t new l c p m register arg word k h =
    let there : same_register (register_of_move p m) register ≡ true = subst (λ r. same_register (register_of_move p m) r ≡ true) k.place
    (same_register_self (register_of_move p m)) in
    let all = all_four (can c p m l) (same_register (register_of_move p m) register) (word_of l register == arg) (word_of (after c p m l) register == word)
    (can_from c p m l k.can) there (same_number _ _ k.before) (same_number _ _ k.later) in
    rw all (refl, h)

-- it is not
pub swap_refused : (t : Tables) (l : Account) (c : ℕ) (p : PlugAt) (m : Move) (register : Register) (arg word : ℕ) → IsSound l
    → (IsMove c p m register arg word l → ⊥) → Follows false t t (moved_by c (allowed l c register arg word (Some (p, m))) l)
swap_refused t l c p m register arg word s never = go
    (can c p m l && same_register (register_of_move p m) register && (word_of l register == arg) && (word_of (after c p m l) register == word)) refl
  where
    go : (b : Bool) → (can c p m l && same_register (register_of_move p m) register && (word_of l register == arg) &&
        (word_of (after c p m l) register == word)) ≡ b → Follows false t t (moved_by c (cond b (Some (p, m)) None) l)
    go true e = absurd (never (allowed_is l c register arg word (Some (p, m)) p m s (rw e refl)))
    go false e = (refl, refl)

-- the register has another word
pub swap_other : (t : Tables) (l : Account) (c : ℕ) (register : Register) (arg word : ℕ) → IsSound l → word_of l register ≢ arg
    → Follows false t t (moved_by c (move_at l c register arg word) l)
swap_other t l c register arg word s ne = go (decoded l c register arg word)
  where
    go : (o : Option (PlugAt × Move)) → Follows false t t (moved_by c (allowed l c register arg word o) l)
    go None = (refl, refl)
    go (Some k) = swap_refused t l c k.0 k.1 register arg word s (λ is. ne is.before)

-- what is decoded decides
pub swap_decoded : (taken : Bool) (t new : Tables) (l : Account) (c : ℕ) (register : Register) (arg word : ℕ) (o : Option (PlugAt × Move))
    → decoded l c register arg word ≡ o → Follows taken t new (moved_by c (allowed l c register arg word o) l)
    → Follows taken t new (moved_by c (move_at l c register arg word) l)
swap_decoded taken t new l c register arg word o e h = subst (λ k. Follows taken t new (moved_by c (allowed l c register arg word k) l)) (sym e) h

-- ---- tables that are written at one place

-- two tests that agree have one word
pub bits_same : (f g : ℕ → Bool) → ((i : ℕ) → f i ≡ g i) → bits_word f ≡ bits_word g
bits_same f g same = sum_to_same 32 (λ i. flag (f (31 - i)) * 2 ^ i) (λ i. flag (g (31 - i)) * 2 ^ i) (λ j lt. ap (λ b. flag b * 2 ^ j) (same (31 - j)))

-- another charge of an allocated channel
pub charge_set : (withheld : Bool) (units upper lower now : ℕ) (table : List Charge) (allocations : ℕ → Option Allocation) (ch : ℕ) (x : Charge) (a : Allocation)
    → length table ≡ 64 → is_free (allocations ch) ≡ false → allocation_of x ≡ Some a → now ≡ 4915 - total (update allocations ch (Some a))
    → ResourcesFor withheld units upper lower table allocations → ResourcesFor withheld now upper lower (set table ch x) (update allocations ch (Some a))
charge_set withheld units upper lower now table allocations ch x a size busy is left h = record {
  left = left;
  high = h.high ∙ bits_same _ _ (λ i. still (0 + i));
  low = h.low ∙ bits_same _ _ (λ i. still (32 + i));
  charges = related_set (λ y o. allocation_of y ≡ o) table ch x Free 64 allocations (Some a) size is h.charges;
}
  where
    still : (k : ℕ) → is_open withheld allocations k ≡ is_open withheld (update allocations ch (Some a)) k
    still k = same_open withheld allocations (update allocations ch (Some a)) k (go (cases_eq k ch))
      where
        go : (k ≡ ch) ⊎ (k ≢ ch) → is_free (allocations k) ≡ is_free (update allocations ch (Some a) k)
        go (inl e) = rw (update_same allocations ch k (Some a) e, e) busy
        go (inr ne) = rw (update_other allocations ch k (Some a) ne) refl

-- two plugs with one place are one
same_place : (p q : PlugAt) → p.plug < 31 → q.plug < 31 → place p ≡ place q → p ≡ q
same_place p q lt small e =
    let d : p.device ≡ q.device = sym (place_device p lt) ∙ ap (λ k. k / 31) e ∙ place_device q small in
    let n : p.plug ≡ q.plug = sym (place_plug p lt) ∙ ap (λ k. k % 31) e ∙ place_plug q small in
    λ i. record { device = d i; plug = n i }

-- one plug's place is written
pub plug_set : {A : Type 0} (there : PlugAt → Bool) (P : PlugAt → A → Type 0) (xs : List A) (p : PlugAt) (v d : A) → length xs ≡ 1953
    → ((q : PlugAt) → there q ≡ true → (q.device < 63) × (q.plug < 31)) → there p ≡ true → P p v
    → ((q : PlugAt) → q ≢ p → there q ≡ true → P q (get_or xs (place q) d)) → (q : PlugAt) → there q ≡ true → P q (get_or (set xs (place p) v) (place q) d)
plug_set there P xs p v d size range is here others q t = go (same_plug q p) refl
  where
    low : place p < length xs
    low = let r = range p is in omega arith

    go : (b : Bool) → same_plug q p ≡ b → P q (get_or (set xs (place p) v) (place q) d)
    go true e = let one = same_plug-true q p e in rw one (rw (get_or-set_same xs (place p) v d low) here)
    go false e =
        let ne : q ≢ p = λ same. absurd (grind (arith, subst (λ r. same_plug q r ≡ true) same (same_plug_self q))) in
        rw (get_or-set_other xs (place p) (place q) v d (λ same. ne (same_place q p (range q t).1 (range p is).1 same))) (others q ne t)

-- ---- numbers that are compared

pub compared : (r : Bool) (a b : ℕ) → r ≡ (a == b) → r ≡ true → a ≡ b
compared r a b e f = grind (arith, nat_tests)

pub differ : (r : Bool) (a b : ℕ) → r ≡ (a == b) → r ≡ false → a ≢ b
differ r a b e f same = grind (arith, nat_tests)
