use Rattle.std.proofs.Common.{List, ℕ, ◌++◌, ap, ◌∙◌, codes}
use Rattle.std.proofs.lemmas.Result.{on_ok_weaker}
use Rattle.fw_check.specs.BadLines.{surplus}
use Rattle.fw_check.specs.Shown.{named_word, word_at}
use Rattle.fw_check.proofs.Joins.{moved, then}
use Rattle.fw_check.proofs.bad_line.put_extra.Goals as goal

pub returns : goal.returns
returns c =
    let old : List ℕ = c.args.text.now.items in
    let word = named_word c.args.line.now c.args.number in
    let t2 = then old c.put_named_word.new.text.items c.put_word.new.text.items word (codes ", one too many") c.in_ok-put_named_word.ensures c.in_ok-put_word.ensures in
    let same = c.surplus.ensures ∙ ap (λ (w : List ℕ). surplus c.args.keyword w) c.word_at.ensures in
    let told = surplus c.args.keyword (word_at c.args.line.now c.args.number) in
    on_ok_weaker c.put_word-2.result
    (λ piece. then old c.put_word.new.text.items _ (word ++ codes ", one too many") told t2 (moved (λ (x : List ℕ). x) c.put_word.new.text.items _ c.surplus.result.now told same piece))
    c.put_word-2.ensures
