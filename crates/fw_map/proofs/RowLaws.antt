-- The fields of one node, noted packet by packet from the last to the first.
use Rattle.fw_map.proofs.Common.{◌≡◌, inl, inr, ℕ, zero, suc, ◌+◌, ◌-◌, ◌<◌, ◌≤◌, List, [], ◌∷◌, length, drop, Option, Some, None, slice_set, slice_index, unwrap_or, arith, refl, sym, ap, ◌∙◌}
use Rattle.fw_map.proofs.Common.{cases_eq, PhyPacket, field_in, field_of}
use Rattle.std.proofs.Common.{replicate, get_or, get_or-set_same, get_or-set_other}
use Rattle.std.proofs.Math.Seq.{drop-cons}

drop_all : (xs : List PhyPacket) → drop (length xs) xs ≡ []
drop_all [] = refl
drop_all (x ∷ xs) = drop_all xs

pub fields_none : (ids : List PhyPacket) (d p : ℕ) → field_of (drop (length ids) ids) d p ≡ 0
fields_none ids d p = ap (λ xs. field_of xs d p) (drop_all ids)

zeros : (n p : ℕ) → ◌≡◌ {A = ℕ} (get_or (replicate n 0) p 0) 0
zeros zero p = refl
zeros (suc n) zero = refl
zeros (suc n) (suc p) = zeros n p

pub no_fields : (p : ℕ) → slice_index (replicate 27 0) p ≡ 0
no_fields p = zeros 27 p

pub fields_more : (ids : List PhyPacket) (k d p : ℕ) (x : PhyPacket) → k < length ids → field_of (drop k ids) d p ≡ unwrap_or (field_in (get_or ids k x) d p) (field_of (drop (suc k) ids) d p)
fields_more ids k d p x l = ap (λ xs. field_of xs d p) (drop-cons ids k x l)

pub put_some : (xs ys : List ℕ) (f : ℕ → Option ℕ) (n v : ℕ) → n < length xs → f n ≡ Some v → ((p : ℕ) → p < n → slice_index xs p ≡ unwrap_or (f p) (slice_index ys p)) → (p : ℕ) → p < n + 1
    → slice_index (slice_set xs n v) p ≡ unwrap_or (f p) (slice_index ys p)
put_some xs ys f n v size is done p l = elim (cases_eq p n) [
  | inl same ↦
      ap (λ k. slice_index (slice_set xs n v) k) same ∙ (get_or-set_same xs n v 0 size ∙ sym (ap (λ o. unwrap_or o (slice_index ys p)) (ap f same ∙ is)))
  | inr differ ↦ get_or-set_other xs n p v 0 differ ∙ done p (omega arith)
]

pub put_rest : (xs ys : List ℕ) (n v : ℕ) → ((p : ℕ) → n ≤ p → slice_index xs p ≡ slice_index ys p) → (p : ℕ) → n + 1 ≤ p → slice_index (slice_set xs n v) p ≡ slice_index ys p
put_rest xs ys n v rest p l = get_or-set_other xs n p v 0 (λ s. omega arith) ∙ rest p (omega arith)

pub put_none : (xs ys : List ℕ) (f : ℕ → Option ℕ) (n : ℕ) → f n ≡ None → ((p : ℕ) → p < n → slice_index xs p ≡ unwrap_or (f p) (slice_index ys p))
    → ((p : ℕ) → n ≤ p → slice_index xs p ≡ slice_index ys p) → (p : ℕ) → p < n + 1 → slice_index xs p ≡ unwrap_or (f p) (slice_index ys p)
put_none xs ys f n is done rest p l = elim (cases_eq p n) [
  | inl same ↦ rest p (omega arith) ∙ sym (ap (λ o. unwrap_or o (slice_index ys p)) (ap f same ∙ is))
  | inr differ ↦ done p (omega arith)
]

pub none_of : (o : Option ℕ) → ((x : ℕ) → o ≡ Some x → ⊥) → o ≡ None
none_of None h = refl
none_of (Some x) h = absurd (h x refl)

pub row_more : (ids : List PhyPacket) (k d p : ℕ) (x : PhyPacket) (old new : ℕ) → 0 < k → k ≤ length ids → new ≡ unwrap_or (field_in (get_or ids (k - 1) x) d p) old → old ≡ field_of (drop k ids) d p
    → new ≡ field_of (drop (k - 1) ids) d p
row_more ids k d p x old new some fits is before =
    let e : k ≡ suc (k - 1) = omega arith in
    is ∙ (ap (λ z. unwrap_or (field_in (get_or ids (k - 1) x) d p) z) (before ∙ ap (λ j. field_of (drop j ids) d p) e) ∙ sym (fields_more ids (k - 1) d p x (omega arith)))
