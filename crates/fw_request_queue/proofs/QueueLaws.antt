-- A list from a place on, without what stands before it.
use Rattle.std.proofs.Common.{◌≡◌, refl, ap, sym, ◌∙◌, ℕ, zero, suc, ◌+◌, ◌-◌, ◌≤◌, List, [], ◌∷◌, ◌++◌, length, take, drop, add-one, arith, length-drop}

module _ {T : Type 0} where
  take_prefix : (a b : List T) (n : ℕ) → n ≡ length a → take n (a ++ b) ≡ a
  take_prefix [] b n e = rw e refl
  take_prefix (x ∷ a) b zero e = absurd (omega (arith, e))
  take_prefix (x ∷ a) b (suc n) e = ap (λ (l : List T). x ∷ l) (take_prefix a b n (omega (arith, e)))

  -- moved to the beginning, and what then stands after them cut off
  pub moved_up : (rows : List T) (start : ℕ) → take (length rows - start) (drop start rows ++ take start rows) ≡ drop start rows
  moved_up rows start = take_prefix (drop start rows) (take start rows) (length rows - start) (sym (length-drop start rows))

  drop_none : (n : ℕ) → drop {A = T} n [] ≡ []
  drop_none zero = refl
  drop_none (suc n) = refl

  -- the first one is passed over
  pub one_less : (rows : List T) (start : ℕ) → drop (start + 1) rows ≡ drop 1 (drop start rows)
  one_less rows zero = refl
  one_less [] (suc start) = drop_none (suc start + 1)
  one_less (q ∷ rows) (suc start) = ap (λ (n : ℕ). drop n (q ∷ rows)) (add-one (suc start)) ∙ ap (λ (n : ℕ). drop n rows) (sym (add-one start)) ∙ one_less rows start

  -- one is appended
  pub one_more : (rows : List T) (q : T) (start : ℕ) → start ≤ length rows → drop start (rows ++ q ∷ []) ≡ drop start rows ++ q ∷ []
  one_more rows q zero h = refl
  one_more [] q (suc start) h = absurd (omega (arith, h))
  one_more (r ∷ rows) q (suc start) h = one_more rows q start (omega (arith, h))

  -- there is none
  pub none_left : (rows : List T) (start : ℕ) → length rows ≤ start → drop start rows ≡ drop 1 (drop start rows)
  none_left rows zero h = none_at_all rows (omega (arith, h))
    where
      none_at_all : (l : List T) → length l ≡ 0 → l ≡ drop 1 l
      none_at_all [] e = refl
      none_at_all (q ∷ l) e = absurd (omega (arith, e))
  none_left [] (suc start) h = refl
  none_left (q ∷ rows) (suc start) h = none_left rows start (omega (arith, h))
