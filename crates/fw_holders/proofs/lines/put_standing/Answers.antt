use Rattle.fw_holders.proofs.Common.{◌≡◌, ◌++◌, ◌∙◌, ap, sym, List, ℕ, codes, decimal, right}
use Rattle.std.proofs.Common.{append_assoc}
use Rattle.fw_model_account.specs.Account.{remainder}
use Rattle.fw_holders.specs.Held.{held_text}
use Rattle.fw_holders.proofs.TextLaws.{then_put}
use Rattle.fw_holders.proofs.lines.put_standing.Goals as goal

pub returns-clause-text : goal.returns-clause-text
returns-clause-text c = λ l h.
    let old : List ℕ = c.args.text.now.items in
    let units : List ℕ = right 4 (decimal (remainder l)) in
    let left : c.put_left.new.text.items ≡ old ++ (units ++ codes " left: ") =
    c.in_ok-put_left.ensures.text ∙ ap (λ n. old ++ (right 4 (decimal n) ++ codes " left: ")) (c.from.ensures ∙ h.resources.left) in
    let begun : c.put_left.new.text.items ≡ (old ++ (units ++ codes " left")) ++ codes ": " =
    left ∙ ap (λ (t : List ℕ). old ++ t) (sym (append_assoc units (codes " left") (codes ": "))) ∙ sym (append_assoc old (units ++ codes " left") (codes ": ")) in
    let held : c.put_held.new.text.items ≡ old ++ (units ++ codes " left" ++ held_text l) =
    c.in_ok-put_held.ensures.text (old ++ (units ++ codes " left")) l begun h ∙ append_assoc old (units ++ codes " left") (held_text l) in
    then_put c.put_word.result old c.put_held.new.text.items c.put_word.new.text.items (units ++ codes " left" ++ held_text l) (codes "\n") held c.put_word.ensures
