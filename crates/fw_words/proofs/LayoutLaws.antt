-- A quadlet is its fields, packed; and what is packed is cut into the same fields.
use Rattle.std.proofs.Common.{◌≡◌, ℕ, ◌+◌, ◌-◌, ◌*◌, ◌/◌, ◌%◌, ◌^◌, ◌<◌, List, [], ◌∷◌, arith, ap, sym, refl, ◌∙◌, IsTrue, mod-lt}
use Rattle.std.proofs.lemmas.Nat.{shr-shr, shr_split, shr_high, mod_low, pow_pos}
use Rattle.std.proofs.lemmas.Bool.Decides.{nat_tests}
use Rattle.fw_words.specs.Quadlet.{field}
use Rattle.fw_words.specs.Layout.{packed, cut, total, widths, FitWidths, no_zero}

-- one more field
step : (q at w rest acc : ℕ) → 0 < w → at + (w + rest) ≡ 32 → acc ≡ q / 2 ^ (32 - at) → acc * 2 ^ w + field q at (at + w - 1) ≡ q / 2 ^ (32 - (at + w))
step q at w rest acc some whole e =
    let low : 32 - at ≡ rest + w = omega arith in
    let high : 32 - (at + w) ≡ rest = omega arith in
    let last : 31 - (at + w - 1) ≡ rest = omega arith in
    let wide : (at + w - 1) - at + 1 ≡ w = omega arith in
    rw (e, low, high, last, wide, ← shr-shr) (shr_split (q / 2 ^ rest) w)

-- a quadlet is its fields, packed
pub packed-cut : (q at acc : ℕ) (ws : List ℕ) → IsTrue (no_zero ws) → at + total ws ≡ 32 → acc ≡ q / 2 ^ (32 - at) → packed (cut q at ws) acc ≡ q
packed-cut q at acc [] some whole e = let zero : 32 - at ≡ 0 = omega arith in e ∙ rw zero (omega arith)
packed-cut q at acc (w ∷ ws) some whole e =
    let positive : 0 < w = grind (arith, nat_tests) in
    let others : IsTrue (no_zero ws) = grind (arith, nat_tests) in
    packed-cut q (at + w) (acc * 2 ^ w + field q at (at + w - 1)) ws others (omega arith) (step q at w (total ws) acc positive whole e)

-- the fields of what is packed, and what stands before them
pub record IsCut (q at acc : ℕ) (fs : List (ℕ × ℕ)) : Type 0 where
  pub fields : cut q at (widths fs) ≡ fs
  pub before : q / 2 ^ (32 - at) ≡ acc

pub cut-packed : (q at acc : ℕ) (fs : List (ℕ × ℕ)) → FitWidths fs → at + total (widths fs) ≡ 32 → q ≡ packed fs acc → IsCut q at acc fs
cut-packed q at acc [] fits whole e = let zero : 32 - at ≡ 0 = omega arith in record { fields = refl; before = rw zero (omega arith) }
cut-packed q at acc (f ∷ fs) fits whole e =
    let h = cut-packed q (at + f.0) (acc * 2 ^ f.0 + f.1) fs fits.2 (omega arith) e in
    let some : 0 < f.0 = fits.0 in
    let low : 32 - at ≡ (32 - (at + f.0)) + f.0 = omega arith in
    let last : 31 - (at + f.0 - 1) ≡ 32 - (at + f.0) = omega arith in
    let wide : (at + f.0 - 1) - at + 1 ≡ f.0 = omega arith in
    let this : field q at (at + f.0 - 1) ≡ f.1 = rw (last, wide, h.before) (mod_low acc f.0 f.1 fits.1) in
    record {
      fields = ap (λ v. (f.0, v) ∷ cut q (at + f.0) (widths fs)) this ∙ ap (λ t. f ∷ t) h.fields;
      before = rw (low, ← shr-shr, h.before) (shr_high acc f.0 f.1 fits.1);
    }

-- what is cut fits
pub cut-fits : (q at : ℕ) (ws : List ℕ) → IsTrue (no_zero ws) → FitWidths (cut q at ws)
cut-fits q at [] some = tt
cut-fits q at (w ∷ ws) some =
    let positive : 0 < w = grind (arith, nat_tests) in
    let others : IsTrue (no_zero ws) = grind (arith, nat_tests) in
    let wide : (at + w - 1) - at + 1 ≡ w = omega arith in
    (positive, rw wide (mod-lt (q / 2 ^ (31 - (at + w - 1))) (pow_pos w)), cut-fits q (at + w) ws others)

-- Fields of the same widths that pack to the same are the same.
pub record AreSame (fs gs : List (ℕ × ℕ)) (a b : ℕ) : Type 0 where
  pub fields : fs ≡ gs
  pub before : a ≡ b

pub packed-same : (fs gs : List (ℕ × ℕ)) (a b : ℕ) → widths fs ≡ widths gs → FitWidths fs → FitWidths gs → packed fs a ≡ packed gs b → AreSame fs gs a b
packed-same [] [] a b w f g e = record { fields = refl; before = e }
packed-same [] (y ∷ ys) a b w f g e = cc
packed-same (x ∷ xs) [] a b w f g e = cc
packed-same (x ∷ xs) (y ∷ ys) a b w f g e =
    let wide : x.0 ≡ y.0 = cc in
    let others : widths xs ≡ widths ys = cc in
    let h = packed-same xs ys (a * 2 ^ x.0 + x.1) (b * 2 ^ y.0 + y.1) others f.2 g.2 e in
    let here : a * 2 ^ x.0 + x.1 ≡ b * 2 ^ x.0 + y.1 = h.before ∙ rw wide refl in
    let small : y.1 < 2 ^ x.0 = rw wide g.1 in
    let low : x.1 ≡ y.1 = sym (mod_low a x.0 x.1 f.1) ∙ ap (λ n. n % 2 ^ x.0) here ∙ mod_low b x.0 y.1 small in
    let high : a ≡ b = sym (shr_high a x.0 x.1 f.1) ∙ ap (λ n. n / 2 ^ x.0) here ∙ shr_high b x.0 y.1 small in
    let first : x ≡ y = ap (λ v. (v, x.1)) wide ∙ ap (λ v. (y.0, v)) low in
    record { fields = ap (λ v. v ∷ xs) first ∙ ap (λ t. y ∷ t) h.fields; before = high }
