-- What is shown of a line is one line.
use Rattle.std.proofs.Common.{◌≡◌, ◌≢◌, ℕ, zero, suc, ◌<◌, List, [], ◌∷◌, ◌++◌, length, map, take, Bool, true, false, cond, nat_le, nat_lt, ◌&&◌, codes, refl, ap, sym, ◌∙◌, append_assoc, arith}
use Rattle.std.proofs.lemmas.Bool.Decides.{nat_tests}
use Rattle.fw_script_command.specs.Pieces.{IsFree}
use Rattle.fw_check.specs.Shown.{is_printable, shown, shown_byte}

no_feed : (b : ℕ) (t : Bool) → is_printable b ≡ t → cond t b 63 ≢ 10
no_feed b true e = grind (arith, nat_tests)
no_feed b false e = λ x. omega (arith, x)

pub shown_free : (w : List ℕ) → IsFree 10 (map shown_byte w)
shown_free [] k lt = absurd (omega (arith, lt))
shown_free (b ∷ w) zero lt = no_feed b (is_printable b) refl
shown_free (b ∷ w) (suc k) lt = shown_free w k (omega (arith, lt))

both_free : (u v : List ℕ) → IsFree 10 u → IsFree 10 v → IsFree 10 (u ++ v)
both_free [] v first second k lt = second k lt
both_free (b ∷ u) v first second zero lt = first zero (omega arith)
both_free (b ∷ u) v first second (suc k) lt = both_free u v (λ i h. first (suc i) (omega (arith, h))) second k (omega (arith, lt))

pub one_line : (line : List ℕ) → IsFree 10 (shown line)
one_line line = go (nat_lt 100 (length line))
  where
    go : (t : Bool) → IsFree 10 (map shown_byte (take 100 line) ++ cond t (codes " ..") [])
    go true = both_free (map shown_byte (take 100 line)) (codes " ..") (shown_free (take 100 line)) (shown_free (codes " .."))
    go false = both_free (map shown_byte (take 100 line)) [] (shown_free (take 100 line)) (shown_free [])

-- parts one after another
pub onto : (x y a b c : List ℕ) → y ≡ a ++ b ++ c → x ++ y ≡ x ++ a ++ b ++ c
onto x y a b c e = ap (λ (t : List ℕ). x ++ t) e ∙ sym (append_assoc x (a ++ b) c) ∙ ap (λ (t : List ℕ). t ++ c) (sym (append_assoc x a b))

pub four_parts : (x a b c d : List ℕ) → x ++ a ++ b ++ c ++ d ≡ x ++ (a ++ b ++ (c ++ d))
four_parts x a b c d = append_assoc (x ++ a ++ b) c d ∙ sym (onto x (a ++ b ++ (c ++ d)) a b (c ++ d) refl)
