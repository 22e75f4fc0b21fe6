use Rattle.std.proofs.Common.{◌≡◌, List, ℕ, ◌++◌, length, take, ap, sym, ◌∙◌, arith}
use Rattle.std.proofs.lemmas.List.{length-take-le}
use Rattle.std.proofs.lemmas.Result.{on_ok_weaker}
use Rattle.fw_check.proofs.ShownLaws.{shown_whole}
use Rattle.fw_check.proofs.shown.put_shown.Goals as goal

pub slice_bounds-put_bytes-end : goal.slice_bounds-put_bytes-end
slice_bounds-put_bytes-end c = let e : length (take 100 c.args.line.now) ≡ 100 = length-take-le 100 c.args.line.now (omega arith) in omega (arith, e)

pub returns-else-line-gt-LINE_SHOWN : goal.returns-else-line-gt-LINE_SHOWN
returns-else-line-gt-LINE_SHOWN c =
    on_ok_weaker c.put_bytes-else-line-gt-LINE_SHOWN.result
    (λ piece. piece ∙ ap (λ (l : List ℕ). c.args.text.now.items ++ l) (sym (shown_whole c.args.line.now c.if-line-gt-LINE_SHOWN.false)))
    c.put_bytes-else-line-gt-LINE_SHOWN.ensures
