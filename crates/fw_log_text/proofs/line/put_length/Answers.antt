use Rattle.std.proofs.Common.{◌++◌, ◌∙◌, Option, List, ℕ, codes, decimal, ap, sym}
use Rattle.std.proofs.lemmas.Result.{on_ok_weaker}
use Rattle.fw_cip.specs.Iso.{data_length}
use Rattle.fw_log_text.proofs.LengthLaws.{with_block, without_block}
use Rattle.fw_log_text.proofs.line.put_length.Goals as goal

pub returns-in-Some : goal.returns-in-Some
returns-in-Some c =
    let length = ap (λ (b : Option (List ℕ)). codes " " ++ decimal (data_length b) ++ codes " ") (sym c.in-Some.is) in
    on_ok_weaker c.put_word.result (λ e. e ∙ ap (λ (x : List ℕ). c.args.text.now ++ x) (with_block c.in-Some.field-0 ∙ length)) c.put_word.ensures

pub returns-in-None : goal.returns-in-None
returns-in-None c =
    let length = ap (λ (b : Option (List ℕ)). codes " " ++ decimal (data_length b) ++ codes " ") (sym c.in-None.is) in
    on_ok_weaker c.put_word-in-None.result (λ e. e ∙ ap (λ (x : List ℕ). c.args.text.now ++ x) (without_block ∙ length)) c.put_word-in-None.ensures
