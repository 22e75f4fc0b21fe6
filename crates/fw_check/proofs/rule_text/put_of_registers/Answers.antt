use Rattle.std.proofs.Common.{List, ℕ, ◌++◌, ap, sym, ◌∙◌, codes}
use Rattle.std.proofs.lemmas.Result.{on_ok_weaker}
use Rattle.fw_check.specs.Whys.{register_says}
use Rattle.fw_check.specs.declared.why.Why.{Why}
use Rattle.fw_check.proofs.Joins.{then}
use Rattle.fw_check.proofs.rule_text.put_of_registers.Goals as goal

pub returns-in_ok-put_word-in-TooLate : goal.returns-in_ok-put_word-in-TooLate
returns-in_ok-put_word-in-TooLate c =
    let old : List ℕ = c.args.text.now.items in
    on_ok_weaker c.put_name.result
    (λ piece.
    then old c.put_word-in-TooLate.new.text.items c.put_name.new.text.items (codes "a device is declared before: ") c.in-TooLate.name c.in_ok-put_word-in-TooLate.ensures piece
    ∙ ap (λ (w : Why). old ++ register_says w) (sym c.in-TooLate.is))
    c.put_name.ensures
