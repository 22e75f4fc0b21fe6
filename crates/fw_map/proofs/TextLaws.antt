-- The text of a tree, line by line.
use Rattle.fw_map.proofs.Common.{◌≡◌, ℕ, suc, ◌+◌, List, [], ◌∷◌, ◌++◌, refl, ap, subst, ◌∙◌, append_assoc, arith, Tree}
use Rattle.std.proofs.Common.{decimal}
use Rattle.fw_map.specs.Texts.{node_line, node_lines, IsSpeed, IsRow, speed, AreRows, row}

pub lines_none : (t : Tree) → node_lines t 0 ≡ []
unfolding node_lines
lines_none t = refl

pub lines_more : (t : Tree) (d : ℕ) → node_lines t (d + 1) ≡ node_lines t d ++ node_line t d
unfolding node_lines
lines_more t d = let e : d + 1 ≡ suc d = omega arith in ap (node_lines t) e

pub row_more : (t : Tree) (a b s : ℕ) (text : List ℕ) → IsRow t a b text → IsSpeed t a b s → IsRow t a (b + 1) (text ++ decimal s)
row_more t a b s text r h = let e : suc b ≡ b + 1 = omega arith in let P : ℕ → Type 0 = λ n. IsRow t a n (text ++ decimal s) in subst P e (speed r s h refl)

pub rows_more : (t : Tree) (n a : ℕ) (text line : List ℕ) → AreRows t n a text → IsRow t a n line → AreRows t n (a + 1) (text ++ (line ++ 10 ∷ []))
rows_more t n a text line r h = let e : suc a ≡ a + 1 = omega arith in let P : ℕ → Type 0 = λ m. AreRows t n m (text ++ (line ++ 10 ∷ [])) in subst P e (row r h refl)

-- what is written after a prefix and more of it
pub goes_on : (prefix all more text now : List ℕ) → now ≡ all ++ more → all ≡ prefix ++ text → now ≡ prefix ++ (text ++ more)
goes_on prefix all more text now e f = e ∙ (ap (λ (x : List ℕ). x ++ more) f ∙ append_assoc prefix text more)
