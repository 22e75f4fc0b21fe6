use Rattle.fw_holders.proofs.Common.{codes, decimal}
use Rattle.fw_holders.proofs.TextLaws.{then_put}
use Rattle.fw_holders.proofs.death.put_orphan.Goals as goal

pub returns : goal.returns
returns c = then_put c.put_number.result c.args.text.now.items c.put_word.new.text.items c.put_number.new.text.items (codes ", orphans channel ")
    (decimal c.args.channel) c.in_ok-put_word.ensures c.put_number.ensures
