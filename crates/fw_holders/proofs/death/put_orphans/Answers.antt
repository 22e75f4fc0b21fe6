use Rattle.fw_holders.proofs.Common.{◌≡◌, ◌++◌, OnOk, Option, ℕ, codes, decimal, sym, subst}
use Rattle.fw_holders.specs.Deeds.{orphans_text}
use Rattle.fw_holders.proofs.TextLaws.{then_put}
use Rattle.fw_holders.proofs.death.put_orphans.Goals as goal

pub returns-in_ok-put_orphan-in-Some : goal.returns-in_ok-put_orphan-in-Some
unfolding orphans_text
returns-in_ok-put_orphan-in-Some c =
    subst (λ (o : Option ℕ). OnOk c.put_ends.result (c.put_ends.new.text.items ≡ c.args.text.now.items ++ orphans_text o c.args.ends)) (sym c.in-Some.is)
    (then_put c.put_ends.result c.args.text.now.items c.put_orphan.new.text.items c.put_ends.new.text.items
    (codes ", orphans channel " ++ decimal c.in-Some.channel) _ c.in_ok-put_orphan-in-Some.ensures c.put_ends.ensures)
