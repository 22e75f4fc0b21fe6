use Rattle.std.proofs.Common.{ℕ, List, [], ◌∷◌, ◌++◌, codes, ap, ◌∙◌}
use Rattle.fw_explore_told.specs.Telling.{remark}
use Rattle.fw_explore_endings.specs.Texts.{moves_text, row_head, row_text}
use Rattle.fw_explore_endings.proofs.PutLaws.{row_put, if_ok}
use Rattle.fw_explore_endings.proofs.text.put_row.Goals as goal

pub returns : goal.returns
returns c =
    let out = c.args.out.now.items in
    let r = c.args.row.now in
    let x = c.args.explored.now in
    let a = c.put_row_head.new.out.items in
    let b = c.extend_from_slice.new.self.items in
    let d = c.put_moves.new.out.items in
    let e = c.extend_from_slice-2.new.self.items in
    let end = codes "end" ++ 10 ∷ [] in
    if_ok c.extend_from_slice-3.result c.extend_from_slice-3.new.self.items (e ++ end) e (out ++ row_text x c.args.number r) c.extend_from_slice-3.ensures.items
    (row_put out (10 ∷ remark (row_head c.args.number r)) r.ending.items (moves_text x r.first.items) r.lines.items (codes "end") (10 ∷ []) a b d e
    c.in_ok-put_row_head.ensures
    (c.in_ok-extend_from_slice.ensures.items ∙ ap (λ (l : List ℕ). a ++ l) c.as_slice.ensures.value)
    (c.in_ok-put_moves.ensures ∙ ap (λ (l : List ℕ). b ++ moves_text x l) c.as_slice-2.ensures.value)
    (c.in_ok-extend_from_slice-2.ensures.items ∙ ap (λ (l : List ℕ). d ++ l) c.as_slice-3.ensures.value))
