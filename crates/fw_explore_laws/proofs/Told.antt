-- The paragraphs of a text.
use Rattle.fw_explore_laws.proofs.Common.{ℕ, zero, suc, ◌≡◌, ◌+◌, List, [], ◌∷◌, ◌++◌, Some, length, sym, ap, ◌∙◌, append_assoc, arith, same_Some, DeskRelations, Explored}
use Rattle.std.proofs.Common.{slice_get}
use Rattle.fw_explore_endings.specs.declared.rows.Row.{Row}
use Rattle.fw_explore_endings.specs.Texts.{devices_text, first_text, row_text, rows_text}
use Rattle.fw_explore_laws.specs.Told.{ParagraphsAreRests}
use Rattle.fw_explore_laws.proofs.Rows.{rows_are_rests}

-- a row's paragraph stands among those of all rows
record Stands (x : Explored) (n : ℕ) (rows : List Row) (r : Row) (at : ℕ) : Type 0 where
  before : List ℕ
  following : List ℕ
  is : rows_text x n rows ≡ before ++ row_text x at r ++ following

stands : (x : Explored) (rows : List Row) (n k at : ℕ) (r : Row) → slice_get rows k ≡ Some r → n + k ≡ at → Stands x n rows r at
unfolding rows_text
stands x [] n k at r e is = absurd cc
stands x (q ∷ rows) n zero at r e is =
    let same : q ≡ r = same_Some q r e in
    let here : n ≡ at = omega (arith, is) in
    record { before = []; following = rows_text x (n + 1) rows; is = ap (λ z. row_text x n z ++ rows_text x (n + 1) rows) same ∙ ap (λ z. row_text x z r ++ rows_text x (n + 1) rows) here }
stands x (q ∷ rows) n (suc k) at r e is =
    let rest = stands x rows (n + 1) k at r e (omega (arith, is)) in
    record {
      before = row_text x n q ++ rest.before;
      following = rest.following;
      is = ap (λ (l : List ℕ). row_text x n q ++ l) rest.is ∙ sym (append_assoc (row_text x n q) (rest.before ++ row_text x at r) rest.following)
          ∙ ap (λ (l : List ℕ). l ++ rest.following) (sym (append_assoc (row_text x n q) rest.before (row_text x at r)));
    }

pub paragraphs_are_rests : (D : DeskRelations) → ParagraphsAreRests D
paragraphs_are_rests D only words x by left left' text e k r at =
    let t = e.told in
    let names = e.carried.state.declared.names in
    let head = first_text t.rows t.ended t.cut t.longest ++ devices_text x.movers.items names (length names) in
    let s = stands x t.rows 1 k (k + 1) r at (omega arith) in
    record {
      before = head ++ s.before;
      following = s.following;
      stands = t.is ∙ ap (λ (l : List ℕ). head ++ l) s.is ∙ sym (append_assoc head (s.before ++ row_text x (k + 1) r) s.following)
          ∙ ap (λ (l : List ℕ). l ++ s.following) (sym (append_assoc head s.before (row_text x (k + 1) r)));
      rest = rows_are_rests D only words x by e.carried.read.script e.carried.commands e.carried.read.says t.rows t.ended t.cut t.longest (t.explores only) k r at;
    }
