use Rattle.fw_holders.proofs.Common.{◌≡◌, ◌++◌, List, ℕ, codes, decimal, length, right, rest_of_line, line}
use Rattle.fw_holders.specs.Deeds.{reset_text}
use Rattle.fw_holders.proofs.TextLaws.{then_put}
use Rattle.fw_holders.proofs.lines.put_reset.Goals as goal

pub returns-clause-text : goal.returns-clause-text
unfolding line
returns-clause-text c = λ l h.
    let what : List ℕ = reset_text c.args.r.now in
    let size : length c.put_cycle.new.text.items ≡ c.len-from.result = cc in
    then_put c.put_rest.result c.args.text.now.items c.put_cycle.new.text.items c.put_rest.new.text.items (right 8 (decimal c.args.cycle) ++ codes " ") (rest_of_line what l)
    c.in_ok-put_cycle.ensures.text (c.put_rest.ensures.text c.put_cycle.new.text.items what l c.in_ok-put_bus_reset.ensures size h)
