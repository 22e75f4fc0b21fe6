use Rattle.std.proofs.Common.{◌≡◌, List, ℕ, ◌∷◌, ◌++◌, length, take, ap, sym, ◌∙◌, codes, arith}
use Rattle.std.proofs.lemmas.List.{length-take-le}
use Rattle.std.proofs.lemmas.Result.{on_ok_weaker}
use Rattle.fw_check.proofs.Joins.{then}
use Rattle.fw_check.proofs.ShownLaws.{quoted_whole}
use Rattle.fw_check.proofs.shown.put_quoted.Goals as goal

pub slice_bounds-put-end : goal.slice_bounds-put-end
slice_bounds-put-end c = let e : length (take 40 c.args.word.now) ≡ 40 = length-take-le 40 c.args.word.now (omega arith) in omega (arith, e)

pub returns-in_ok-put-2 : goal.returns-in_ok-put-2
returns-in_ok-put-2 c =
    let old : List ℕ = c.args.text.now.items in
    let word : List ℕ = c.args.word.now in
    let begun = then old c.put_word.new.text.items c.put-else-word-gt-WORD_SHOWN.new.text.items (codes "\"") word c.in_ok-put_word.ensures c.in_ok-put-2.ensures in
    on_ok_weaker c.put_word-else-word-gt-WORD_SHOWN.result
    (λ piece.
    then old c.put-else-word-gt-WORD_SHOWN.new.text.items c.put_word-else-word-gt-WORD_SHOWN.new.text.items (34 ∷ word) (codes "\"") begun piece
    ∙ ap (λ (l : List ℕ). old ++ l) (sym (quoted_whole word c.if-word-gt-WORD_SHOWN.false)))
    c.put_word-else-word-gt-WORD_SHOWN.ensures
