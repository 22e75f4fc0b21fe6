-- A list of copies under numbers that becomes the list under other numbers, one place after another.
use Rattle.fw_devices.proofs.Common.{◌≡◌, ◌∙◌, inl, inr, ℕ, ◌+◌, ◌<◌, ◌≤◌, List, length, map, slice_set, refl, sym, ap, arith, cases_eq, cases_lt, length-map}
use Rattle.std.proofs.Common.{◌≢◌, zero, suc, slice_index, slice_index_or}
use Rattle.std.proofs.lemmas.List.{ext_get_or, get_or-map, get_or-set_same, get_or-set_other, length-set}

-- the copies under numbers
abbrev pub copies_at : {A : Type 0} → A → List A → List ℕ → List A
copies_at d kept numbers = map (λ k. slice_index_or kept k d) numbers

-- before a place the copies are those of the new numbers, and from there on those of the old
pub record IsChanged {A : Type 0} (d : A) (kept : List A) (now numbers : List ℕ) (place : ℕ) (list : List A) : Type 0 where
  pub size : length list ≡ length numbers
  pub done : (k : ℕ) → k < place → k < length numbers → slice_index_or list k d ≡ slice_index_or kept (slice_index numbers k) d
  pub left : (k : ℕ) → place ≤ k → k < length numbers → slice_index_or list k d ≡ slice_index_or kept (slice_index now k) d

module _ {A : Type 0} (d : A) (kept : List A) (now numbers : List ℕ) where
  pub none_changed : (list : List A) → list ≡ copies_at d kept now → length now ≡ length numbers → IsChanged d kept now numbers 0 list
  none_changed list is size = record {
    size = ap length is ∙ (length-map now (λ k. slice_index_or kept k d) ∙ size);
    done = λ k before low. absurd (omega arith);
    left = λ k after low. ap (λ (l : List A). slice_index_or l k d) is ∙ get_or-map (λ n. slice_index_or kept n d) now k 0 d (omega arith);
  }

  pub same_number : (place : ℕ) (list : List A) → IsChanged d kept now numbers place list → slice_index now place ≡ slice_index numbers place
      → IsChanged d kept now numbers (place + 1) list
  same_number place list c same = record {
    size = c.size;
    done = λ k before low. elim (cases_lt k place) [
      | inl earlier ↦ c.done k earlier low
      | inr later ↦
          let here : k ≡ place = omega arith in
          c.left k later low ∙ ap (λ n. slice_index_or kept n d) (ap (slice_index now) here ∙ (same ∙ ap (slice_index numbers) (sym here)))
    ];
    left = λ k after low. c.left k (omega arith) low;
  }

  pub new_number : (place : ℕ) (list : List A) (x : A) → IsChanged d kept now numbers place list → place < length numbers → x ≡ slice_index_or kept (slice_index numbers place) d
      → IsChanged d kept now numbers (place + 1) (slice_set list place x)
  new_number place list x c within is = record {
    size = length-set list place x ∙ c.size;
    done = λ k before low. elim (cases_eq k place) [
      | inl here ↦
          ap (λ n. slice_index_or (slice_set list place x) n d) here
          ∙ (get_or-set_same list place x d (omega (arith, c.size)) ∙ (is ∙ ap (λ n. slice_index_or kept (slice_index numbers n) d) (sym here)))
      | inr other ↦ get_or-set_other list place k x d other ∙ c.done k (before_place k before other) low
    ];
    left = λ k after low. get_or-set_other list place k x d (λ here. absurd (omega arith)) ∙ c.left k (omega arith) low;
  }
    where
      before_place : (k : ℕ) → k < place + 1 → k ≢ place → k < place
      before_place k before other = elim (cases_lt k place) [ inl low ↦ low | inr high ↦ absurd (other (omega arith)) ]

  pub all_changed : (place : ℕ) (list : List A) → length numbers ≤ place → IsChanged d kept now numbers place list → list ≡ copies_at d kept numbers
  all_changed place list end c = ext_get_or d list (copies_at d kept numbers) (c.size ∙ sym (length-map numbers (λ k. slice_index_or kept k d)))
      (λ k low. let within : k < length numbers = omega (arith, c.size) in
      c.done k (omega arith) within ∙ sym (get_or-map (λ n. slice_index_or kept n d) numbers k 0 d within))
