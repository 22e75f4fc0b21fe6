-- The digits of quadlets and offsets, from the first on.
use Rattle.std.proofs.Common.{◌≡◌, ◌≢◌, refl, ap, ◌∙◌, inl, inr, ℕ, ◌+◌, ◌*◌, ◌/◌, ◌%◌, ◌^◌, ◌<◌, false, List, [], ◌∷◌, ◌++◌, length, get_or, arith}
use Rattle.std.proofs.lemmas.Bool.{cases_order}
use Rattle.std.proofs.lemmas.List.{get_or-set_same, get_or-set_other}
use Rattle.std.proofs.Math.ListN.{set}
use Rattle.std.specs.Fmt.{digit_glyph}
use Rattle.fw_text.proofs.HexLaws.{eight_digits}
use Rattle.fw_text.specs.Digits.{byte_digits}
use Rattle.fw_text.specs.Texts.{hex}
use Rattle.fw_log_text.specs.Digits.{IsNumber, IsNumbers}

abbrev glyph : ℕ → ℕ
glyph n = digit_glyph false (n % 16)

pub three_digits : (n : ℕ) → hex 3 n ≡ glyph (n / 2 ^ 8) ∷ glyph (n / 16) ∷ glyph n ∷ []
unfolding hex
three_digits n =
    let a : n / 16 / 16 ≡ n / 2 ^ 8 = omega arith in
    ap (λ x. glyph x ∷ glyph (n / 16) ∷ glyph n ∷ []) a

-- the digits of a quadlet's bytes
pub four_bytes : (a b c d : ℕ) → a < 256 → b < 256 → c < 256 → d < 256
    → hex 8 (a * 16777216 + b * 65536 + c * 256 + d) ≡ byte_digits a ++ byte_digits b ++ byte_digits c ++ byte_digits d
four_bytes a b c d fa fb fc fd =
    let n : ℕ = a * 16777216 + b * 65536 + c * 256 + d in
    let x : n / 2 ^ 24 ≡ a = omega (arith, fb, fc, fd) in
    let y : n / 2 ^ 16 ≡ 256 * a + b = omega (arith, fc, fd) in
    let z : n / 2 ^ 8 ≡ 65536 * a + 256 * b + c = omega (arith, fd) in
    let y1 : (256 * a + b) / 16 % 16 ≡ b / 16 % 16 = omega arith in
    let y2 : (256 * a + b) % 16 ≡ b % 16 = omega arith in
    let z1 : (65536 * a + 256 * b + c) / 16 % 16 ≡ c / 16 % 16 = omega arith in
    let z2 : (65536 * a + 256 * b + c) % 16 ≡ c % 16 = omega arith in
    let d1 : n / 16 % 16 ≡ d / 16 % 16 = omega arith in
    let d2 : n % 16 ≡ d % 16 = omega arith in
    eight_digits n ∙ rw (x, y, z, y1, y2, z1, z2, d1, d2) refl

-- one number more in the tables
pub numbers_more : (n size : ℕ) (rows : List (List ℕ)) (sizes row : List ℕ) → n < 256 → length rows ≡ 256 → length sizes ≡ 256 → IsNumbers n rows sizes → IsNumber n row size
    → IsNumbers (n + 1) (set rows n row) (set sizes n size)
numbers_more n size rows sizes row few long wide t new i within = elim (cases_order i n) [
  | inl same ↦
      let first : get_or (set rows n row) i [] ≡ row = ap (λ k. get_or (set rows n row) k []) same ∙ get_or-set_same rows n row [] (omega (arith, few, long)) in
      let second : get_or (set sizes n size) i 0 ≡ size = ap (λ k. get_or (set sizes n size) k 0) same ∙ get_or-set_same sizes n size 0 (omega (arith, few, wide)) in
      rw (first, second, same) new
  | inr other ↦
      let apart : i ≢ n = λ e. omega (arith, e, other) in
      let first : get_or (set rows n row) i [] ≡ get_or rows i [] = get_or-set_other rows n i row [] apart in
      let second : get_or (set sizes n size) i 0 ≡ get_or sizes i 0 = get_or-set_other sizes n i size 0 apart in
      rw (first, second) (t i (omega (arith, within, other)))
]
