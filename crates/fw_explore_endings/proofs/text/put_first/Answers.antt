use Rattle.std.proofs.Common.{◌≡◌, ℕ, List, [], ◌∷◌, ◌++◌, length, codes, decimal, ap, ◌∙◌, arith}
use Rattle.fw_explore_endings.specs.declared.rows.Row.{Row}
use Rattle.fw_explore_endings.specs.Texts.{counts_text, first_text, shortest}
use Rattle.fw_explore_endings.proofs.PutLaws.{first_put, if_ok}
use Rattle.fw_explore_endings.proofs.text.put_first.Goals as goal

pub returns : goal.returns
returns c =
    let out = c.args.out.now.items in
    let rows = c.args.rows.now in
    let list = rows.list.items in
    let a = c.extend_from_slice.new.self.items in
    let b = c.put_counts.new.out.items in
    let d = c.put_part.new.out.items in
    let e = c.put_part-2.new.out.items in
    let f = c.put_part-3.new.out.items in
    let least : c.shortest.result ≡ shortest c.args.rows.now.list.items = c.shortest.ensures ∙ ap (λ (rs : List Row). shortest rs) c.as_slice.ensures.value in
    let many : c.len.result ≡ length c.args.rows.now.list.items = omega (arith, c.args.rows.now.list.ok.0, c.len.ensures) in
    if_ok c.extend_from_slice-2.result c.extend_from_slice-2.new.self.items (f ++ 10 ∷ []) f (out ++ first_text list rows.ended rows.cut rows.longest) c.extend_from_slice-2.ensures.items
    (first_put out (counts_text rows.ended rows.cut) (decimal (shortest list)) (decimal rows.longest) (decimal (length list)) a b d e f
    c.in_ok-extend_from_slice.ensures.items
    c.in_ok-put_counts.ensures
    (c.in_ok-put_part.ensures ∙ ap (λ (n : ℕ). b ++ codes "; moves " ++ decimal n) least)
    (c.in_ok-put_part-2.ensures ∙ ap (λ (n : ℕ). d ++ codes " to " ++ decimal n) c.from.ensures)
    (c.in_ok-put_part-3.ensures ∙ ap (λ (n : ℕ). e ++ codes "; endings " ++ decimal n) many))
