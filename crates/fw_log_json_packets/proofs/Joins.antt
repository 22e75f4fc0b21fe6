-- Pieces of text, one after another.
use Rattle.std.proofs.Common.{◌≡◌, ap, sym, ◌∙◌, ℕ, ◌+◌, ◌/◌, ◌%◌, ◌≤◌, ◌<◌, List, [], ◌∷◌, ◌++◌, decimal, Option, Some, append_assoc}
use Rattle.std.proofs.lemmas.Fmt.{decimal_digit}
use Rattle.fw_text.proofs.DecimalLaws.{two_digits}
use Rattle.fw_log_json_packets.specs.Values.{field, quoted, code}

-- one piece after another
pub then : (before after last a b : List ℕ) → after ≡ before ++ a → last ≡ after ++ b → last ≡ before ++ (a ++ b)
then before after last a b e f = f ∙ ap (λ (t : List ℕ). t ++ b) e ∙ append_assoc before a b

-- a value after its key
pub keyed : (before after last key value : List ℕ) → after ≡ before ++ key → last ≡ after ++ value → last ≡ before ++ field key value
unfolding field
keyed before after last key value e f = then before after last key value e f

-- a value after a piece that ends in its key
pub value_after : (before after last piece key value : List ℕ) → after ≡ before ++ (piece ++ key) → last ≡ after ++ value → last ≡ before ++ (piece ++ field key value)
unfolding field
value_after before after last piece key value e f =
    then before after last (piece ++ key) value e f ∙ ap (λ (t : List ℕ). before ++ t) (append_assoc piece key value)

-- a piece of what is the same
pub moved : {X : Type 0} (f : X → List ℕ) (before last : List ℕ) (x y : X) → x ≡ y → last ≡ before ++ f x → last ≡ before ++ f y
moved f before last x y e t = t ∙ ap (λ z. before ++ f z) e

-- a number by another that is the same
pub counted : (before last key : List ℕ) (m n : ℕ) → m ≡ n → last ≡ before ++ field key (decimal m) → last ≡ before ++ field key (decimal n)
counted before last key m n e f = f ∙ ap (λ (k : ℕ). before ++ field key (decimal k)) e

-- a code by another that is the same, and its name by its table
pub coded : (before last key : List ℕ) (m n : ℕ) (name_key : List ℕ) (x y : Option (List ℕ)) → m ≡ n → x ≡ y
    → last ≡ before ++ code key m name_key x → last ≡ before ++ code key n name_key y
coded before last key m n name_key x y e g f =
    f ∙ ap (λ (k : ℕ). before ++ code key k name_key x) e ∙ ap (λ (z : Option (List ℕ)). before ++ code key n name_key z) g

-- a code and its name, which are one text: with the digits of the code
named_text : (before after key digits : List ℕ) (n : ℕ) (name_key name : List ℕ) → decimal n ≡ digits
    → after ≡ before ++ (key ++ (digits ++ (name_key ++ (34 ∷ (name ++ 34 ∷ []))))) → after ≡ before ++ code key n name_key (Some name)
unfolding field code quoted
named_text before after key digits n name_key name d e =
    let rest : List ℕ = name_key ++ (34 ∷ (name ++ 34 ∷ [])) in
    e ∙ ap (λ (t : List ℕ). before ++ t) (sym (append_assoc key digits rest) ∙ ap (λ (t : List ℕ). (key ++ t) ++ rest) (sym d))

-- with a code of one digit
pub one_text : (before after key : List ℕ) (n : ℕ) (name_key name : List ℕ) → n < 10
    → after ≡ before ++ (key ++ (48 + n) ∷ (name_key ++ (34 ∷ (name ++ 34 ∷ [])))) → after ≡ before ++ code key n name_key (Some name)
one_text before after key n name_key name small e = named_text before after key ((48 + n) ∷ []) n name_key name (decimal_digit n small) e

-- a number of one digit
pub digit_field : (key : List ℕ) (n : ℕ) → n < 10 → key ++ (48 + n) ∷ [] ≡ field key (decimal n)
unfolding field
digit_field key n small = ap (λ (d : List ℕ). key ++ d) (sym (decimal_digit n small))

-- with a code of two
pub longer_text : (before after key : List ℕ) (n : ℕ) (name_key name : List ℕ) → 10 ≤ n → n < 100
    → after ≡ before ++ (key ++ (48 + n / 10) ∷ (48 + n % 10) ∷ (name_key ++ (34 ∷ (name ++ 34 ∷ [])))) → after ≡ before ++ code key n name_key (Some name)
longer_text before after key n name_key name large small e = named_text before after key ((48 + n / 10) ∷ (48 + n % 10) ∷ []) n name_key name (two_digits n large small) e
