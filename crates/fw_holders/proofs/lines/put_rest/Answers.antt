use Rattle.fw_holders.proofs.Common.{◌≡◌, ◌++◌, subst, List, ℕ, OnOk, codes, decimal, right, rest_of_line}
use Rattle.fw_model_account.specs.Account.{remainder}
use Rattle.fw_holders_text.specs.Names.{left}
use Rattle.fw_holders.specs.Held.{held_text}
use Rattle.fw_holders.proofs.TextLaws.{both_put, then_put, five_put}
use Rattle.fw_holders.proofs.lines.put_rest.Goals as goal

pub returns-clause-text : goal.returns-clause-text
unfolding rest_of_line
returns-clause-text c = λ before what l e size h.
    let a : List ℕ = left 40 what ++ codes " " in
    let units : List ℕ = right 4 (decimal (remainder l)) in
    let told : c.put_word.new.text.items ≡ before ++ a = both_put before c.fill.new.text.items c.put_word.new.text.items (left 40 what) (codes " ")
    (c.in_ok-fill.ensures before what e size) c.in_ok-put_word.ensures in
    subst (λ (t : List ℕ). OnOk c.put_standing.result (c.put_standing.new.text.items ≡ before ++ t)) (five_put a units (codes " left") (held_text l) (codes "\n"))
    (then_put c.put_standing.result before c.put_word.new.text.items c.put_standing.new.text.items a (units ++ codes " left" ++ held_text l ++ codes "\n") told
    (c.put_standing.ensures.text l h))
