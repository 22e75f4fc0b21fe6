-- Numbers as bytes and back.
use Rattle.std.proofs.Common.{ℕ, suc, ◌≡◌, ◌<◌, ◌≤◌, ◌^◌, List, [], ◌∷◌, refl, ap, ◌∙◌, length, arith, slice_index, get_or, drop}
use Rattle.std.specs.Int.{w32, from_le_bytes}
use Rattle.std.proofs.lemmas.Nat.{from_le_bytes-to_le_bytes_4}
use Rattle.fw_kept_parts.specs.Words.{bytes_of, words_of}

-- numbers are read back as they were put
pub words_back : (words : List ℕ) → ((k : ℕ) → slice_index words k < 2 ^ 32) → words_of (bytes_of words) ≡ words
unfolding words_of
words_back [] h = refl
words_back (w ∷ words) h = ap (λ x. x ∷ words_of (bytes_of words)) (from_le_bytes-to_le_bytes_4 w (h 0)) ∙ ap (λ t. w ∷ t) (words_back words (λ k. h (suc k)))

-- fewer than four bytes are no number
pub words_short : (bytes : List ℕ) → length bytes < 4 → words_of bytes ≡ []
unfolding words_of
words_short [] h = refl
words_short (a ∷ []) h = refl
words_short (a ∷ b ∷ []) h = refl
words_short (a ∷ b ∷ c ∷ []) h = refl
words_short (a ∷ b ∷ c ∷ d ∷ bytes) h = absurd (omega (arith, h))

-- four bytes are one, and what follows has the others
pub words_step : (bytes : List ℕ) → 4 ≤ length bytes
    → words_of bytes ≡ from_le_bytes w32 (get_or bytes 0 0 ∷ get_or bytes 1 0 ∷ get_or bytes 2 0 ∷ get_or bytes 3 0 ∷ []) ∷ words_of (drop 4 bytes)
unfolding words_of
words_step [] h = absurd (omega (arith, h))
words_step (a ∷ []) h = absurd (omega (arith, h))
words_step (a ∷ b ∷ []) h = absurd (omega (arith, h))
words_step (a ∷ b ∷ c ∷ []) h = absurd (omega (arith, h))
words_step (a ∷ b ∷ c ∷ d ∷ bytes) h = refl
