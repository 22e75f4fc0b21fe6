-- Laws of the order of lists of moves.
use Rattle.std.proofs.Common.{ℕ, ◌≡◌, ◌<◌, List, [], ◌∷◌, ◌++◌, length, inl, inr, refl, ◌∙◌, arith, length-append}
use Rattle.fw_explore_levels.specs.Order.{IsBelow, IsEarlier}

pub below_trans : (a b c : List ℕ) → IsBelow a b → IsBelow b c → IsBelow a c
below_trans [] b c h k = absurd h
below_trans (x ∷ a) [] c h k = absurd h
below_trans (x ∷ a) (y ∷ b) [] h k = absurd k
below_trans (x ∷ a) (y ∷ b) (z ∷ c) (inl h) (inl k) = inl (omega arith)
below_trans (x ∷ a) (y ∷ b) (z ∷ c) (inl h) (inr k) = inl (omega (arith, k.0))
below_trans (x ∷ a) (y ∷ b) (z ∷ c) (inr h) (inl k) = inl (omega (arith, h.0))
below_trans (x ∷ a) (y ∷ b) (z ∷ c) (inr h) (inr k) = inr (h.0 ∙ k.0, below_trans a b c h.1 k.1)

-- one move more after each
pub below_push : (w v : List ℕ) (p q : ℕ) → IsBelow w v → IsBelow (w ++ p ∷ []) (v ++ q ∷ [])
below_push [] v p q h = absurd h
below_push (x ∷ w) [] p q h = absurd h
below_push (x ∷ w) (y ∷ v) p q (inl h) = inl h
below_push (x ∷ w) (y ∷ v) p q (inr h) = inr (h.0, below_push w v p q h.1)

pub below_last : (w : List ℕ) (p q : ℕ) → p < q → IsBelow (w ++ p ∷ []) (w ++ q ∷ [])
below_last [] p q h = inl h
below_last (x ∷ w) p q h = inr (refl, below_last w p q h)

-- the same move after each
pub below_prefix : (w v : List ℕ) (p : ℕ) → length w ≡ length v → IsBelow (w ++ p ∷ []) (v ++ p ∷ []) → IsBelow w v
below_prefix [] [] p e (inl h) = absurd (omega arith)
below_prefix [] [] p e (inr h) = h.1
below_prefix [] (y ∷ v) p e h = absurd (omega (arith, e))
below_prefix (x ∷ w) [] p e h = absurd (omega (arith, e))
below_prefix (x ∷ w) (y ∷ v) p e (inl h) = inl h
below_prefix (x ∷ w) (y ∷ v) p e (inr h) = inr (h.0, below_prefix w v p (omega (arith, e)) h.1)

pub earlier_trans : (a b c : List ℕ) → IsEarlier a b → IsEarlier b c → IsEarlier a c
earlier_trans a b c (inl h) (inl k) = inl (omega arith)
earlier_trans a b c (inl h) (inr k) = inl (omega (arith, k.0))
earlier_trans a b c (inr h) (inl k) = inl (omega (arith, h.0))
earlier_trans a b c (inr h) (inr k) = inr (h.0 ∙ k.0, below_trans a b c h.1 k.1)

pub earlier_push : (w v : List ℕ) (p q : ℕ) → IsEarlier w v → IsEarlier (w ++ p ∷ []) (v ++ q ∷ [])
earlier_push w v p q (inl h) = inl (omega (arith, length-append w (p ∷ []), length-append v (q ∷ [])))
earlier_push w v p q (inr h) = inr (omega (arith, h.0, length-append w (p ∷ []), length-append v (q ∷ [])), below_push w v p q h.1)

pub earlier_last : (w : List ℕ) (p q : ℕ) → p < q → IsEarlier (w ++ p ∷ []) (w ++ q ∷ [])
earlier_last w p q h = inr (omega (arith, length-append w (p ∷ []), length-append w (q ∷ [])), below_last w p q h)

pub earlier_prefix : (w v : List ℕ) (p : ℕ) → IsEarlier (w ++ p ∷ []) (v ++ p ∷ []) → IsEarlier w v
earlier_prefix w v p (inl h) = inl (omega (arith, length-append w (p ∷ []), length-append v (p ∷ [])))
earlier_prefix w v p (inr h) =
    let same : length w ≡ length v = omega (arith, h.0, length-append w (p ∷ []), length-append v (p ∷ [])) in
    inr (same, below_prefix w v p same h.1)
