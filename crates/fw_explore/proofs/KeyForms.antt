-- Numbers as bytes and back, four at once.
use Rattle.fw_explore.proofs.Common.{ℕ, ◌≡◌, ◌≤◌, List, [], ◌∷◌, ◌++◌, refl, length, arith, get_or, drop, words_of}
use Rattle.std.proofs.lemmas.List.Concat.{flat_map-append}
use Rattle.std.specs.Int.{w32, from_le_bytes, to_le_bytes}
use Rattle.fw_kept_parts.specs.Words.{bytes_of}

-- sixteen bytes are four numbers, and what follows has the others
pub words_four : (bytes : List ℕ) → 16 ≤ length bytes → words_of bytes
    ≡ from_le_bytes w32 (get_or bytes 0 0 ∷ get_or bytes 1 0 ∷ get_or bytes 2 0 ∷ get_or bytes 3 0 ∷ [])
    ∷ from_le_bytes w32 (get_or bytes 4 0 ∷ get_or bytes 5 0 ∷ get_or bytes 6 0 ∷ get_or bytes 7 0 ∷ [])
    ∷ from_le_bytes w32 (get_or bytes 8 0 ∷ get_or bytes 9 0 ∷ get_or bytes 10 0 ∷ get_or bytes 11 0 ∷ [])
    ∷ from_le_bytes w32 (get_or bytes 12 0 ∷ get_or bytes 13 0 ∷ get_or bytes 14 0 ∷ get_or bytes 15 0 ∷ [])
    ∷ words_of (drop 16 bytes)
unfolding words_of
words_four [] h = absurd (omega (arith, h))
words_four (x0 ∷ []) h = absurd (omega (arith, h))
words_four (x0 ∷ x1 ∷ []) h = absurd (omega (arith, h))
words_four (x0 ∷ x1 ∷ x2 ∷ []) h = absurd (omega (arith, h))
words_four (x0 ∷ x1 ∷ x2 ∷ x3 ∷ []) h = absurd (omega (arith, h))
words_four (x0 ∷ x1 ∷ x2 ∷ x3 ∷ x4 ∷ []) h = absurd (omega (arith, h))
words_four (x0 ∷ x1 ∷ x2 ∷ x3 ∷ x4 ∷ x5 ∷ []) h = absurd (omega (arith, h))
words_four (x0 ∷ x1 ∷ x2 ∷ x3 ∷ x4 ∷ x5 ∷ x6 ∷ []) h = absurd (omega (arith, h))
words_four (x0 ∷ x1 ∷ x2 ∷ x3 ∷ x4 ∷ x5 ∷ x6 ∷ x7 ∷ []) h = absurd (omega (arith, h))
words_four (x0 ∷ x1 ∷ x2 ∷ x3 ∷ x4 ∷ x5 ∷ x6 ∷ x7 ∷ x8 ∷ []) h = absurd (omega (arith, h))
words_four (x0 ∷ x1 ∷ x2 ∷ x3 ∷ x4 ∷ x5 ∷ x6 ∷ x7 ∷ x8 ∷ x9 ∷ []) h = absurd (omega (arith, h))
words_four (x0 ∷ x1 ∷ x2 ∷ x3 ∷ x4 ∷ x5 ∷ x6 ∷ x7 ∷ x8 ∷ x9 ∷ x10 ∷ []) h = absurd (omega (arith, h))
words_four (x0 ∷ x1 ∷ x2 ∷ x3 ∷ x4 ∷ x5 ∷ x6 ∷ x7 ∷ x8 ∷ x9 ∷ x10 ∷ x11 ∷ []) h = absurd (omega (arith, h))
words_four (x0 ∷ x1 ∷ x2 ∷ x3 ∷ x4 ∷ x5 ∷ x6 ∷ x7 ∷ x8 ∷ x9 ∷ x10 ∷ x11 ∷ x12 ∷ []) h = absurd (omega (arith, h))
words_four (x0 ∷ x1 ∷ x2 ∷ x3 ∷ x4 ∷ x5 ∷ x6 ∷ x7 ∷ x8 ∷ x9 ∷ x10 ∷ x11 ∷ x12 ∷ x13 ∷ []) h = absurd (omega (arith, h))
words_four (x0 ∷ x1 ∷ x2 ∷ x3 ∷ x4 ∷ x5 ∷ x6 ∷ x7 ∷ x8 ∷ x9 ∷ x10 ∷ x11 ∷ x12 ∷ x13 ∷ x14 ∷ []) h = absurd (omega (arith, h))
words_four (x0 ∷ x1 ∷ x2 ∷ x3 ∷ x4 ∷ x5 ∷ x6 ∷ x7 ∷ x8 ∷ x9 ∷ x10 ∷ x11 ∷ x12 ∷ x13 ∷ x14 ∷ x15 ∷ bytes) h = refl

-- four numbers are sixteen bytes, before those of the others
pub put_four : (words : List ℕ) → 4 ≤ length words → bytes_of words ≡ bytes_of (get_or words 0 0 ∷ get_or words 1 0 ∷ get_or words 2 0 ∷ get_or words 3 0 ∷ []) ++ bytes_of (drop 4 words)
put_four [] h = absurd (omega (arith, h))
put_four (a ∷ []) h = absurd (omega (arith, h))
put_four (a ∷ b ∷ []) h = absurd (omega (arith, h))
put_four (a ∷ b ∷ c ∷ []) h = absurd (omega (arith, h))
put_four (a ∷ b ∷ c ∷ d ∷ words) h = flat_map-append (to_le_bytes w32) (a ∷ b ∷ c ∷ d ∷ []) words
