-- The digits of numbers of three.
use Rattle.std.proofs.Common.{◌≡◌, ℕ, ◌+◌, ◌/◌, ◌%◌, ◌≤◌, ◌<◌, List, [], ◌∷◌, ◌++◌, decimal, arith, ap, ◌∙◌}
use Rattle.std.proofs.lemmas.Fmt.{decimal_step}
use Rattle.fw_text.proofs.DecimalLaws.{two_digits}

pub three_digits : (n : ℕ) → 100 ≤ n → n < 1000 → decimal n ≡ (48 + n / 100) ∷ (48 + n / 10 % 10) ∷ (48 + n % 10) ∷ []
three_digits n more less =
    let prefix : decimal (n / 10) ≡ (48 + n / 100) ∷ (48 + n / 10 % 10) ∷ [] =
    two_digits (n / 10) (omega arith) (omega arith) ∙ ap (λ (d : ℕ). (48 + d) ∷ (48 + n / 10 % 10) ∷ []) (let e : n / 10 / 10 ≡ n / 100 = omega arith in e) in
    decimal_step n (omega arith) (omega arith) ∙ ap (λ (d : List ℕ). d ++ (48 + n % 10) ∷ []) prefix

pub four_digits : (n : ℕ) → 1000 ≤ n → n < 10000 → decimal n ≡ (48 + n / 1000) ∷ (48 + n / 100 % 10) ∷ (48 + n / 10 % 10) ∷ (48 + n % 10) ∷ []
four_digits n more less =
    let a : n / 10 / 100 ≡ n / 1000 = omega arith in
    let b : n / 10 / 10 % 10 ≡ n / 100 % 10 = omega arith in
    let prefix : decimal (n / 10) ≡ (48 + n / 1000) ∷ (48 + n / 100 % 10) ∷ (48 + n / 10 % 10) ∷ [] =
    three_digits (n / 10) (omega arith) (omega arith) ∙ ap (λ (d : ℕ). (48 + d) ∷ (48 + n / 10 / 10 % 10) ∷ (48 + n / 10 % 10) ∷ []) a
    ∙ ap (λ (d : ℕ). (48 + n / 1000) ∷ (48 + d) ∷ (48 + n / 10 % 10) ∷ []) b
    in
    decimal_step n (omega arith) (omega arith) ∙ ap (λ (d : List ℕ). d ++ (48 + n % 10) ∷ []) prefix
