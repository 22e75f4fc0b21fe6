use Rattle.fw_holders.proofs.Common.{◌++◌, ◌≡◌, ℕ, codes, decimal, subst}
use Rattle.fw_holders.specs.Table.{if_unjudged, left_line}
use Rattle.fw_holders.proofs.TextLaws.{both_put, then_put}
use Rattle.fw_holders.proofs.table.put_left.Goals as goal

pub returns : goal.returns
unfolding left_line
returns c =
    let before = c.args.text.now.items in
    let number = both_put before c.put_word.new.text.items c.put_number.new.text.items (codes "left ") (decimal c.args.units) c.in_ok-put_word.ensures
    (subst (λ (n : ℕ). c.put_number.new.text.items ≡ c.put_word.new.text.items ++ decimal n) c.from.ensures c.in_ok-put_number.ensures) in
    let all = both_put before c.put_number.new.text.items c.put_word-2.new.text.items (codes "left " ++ decimal c.args.units) (codes " of 4915 units") number c.in_ok-put_word-2.ensures in
    let alone = both_put before c.put_word-2.new.text.items c.put_if_unjudged.new.text.items (codes "left " ++ decimal c.args.units ++ codes " of 4915 units")
    (if_unjudged c.args.unjudged (codes " by label 0 alone")) all c.in_ok-put_if_unjudged.ensures in
    then_put c.put_word-3.result before c.put_if_unjudged.new.text.items c.put_word-3.new.text.items
    (codes "left " ++ decimal c.args.units ++ codes " of 4915 units" ++ if_unjudged c.args.unjudged (codes " by label 0 alone")) (codes "\n") alone c.put_word-3.ensures
