use Rattle.fw_account_tables.proofs.Common.{◌≡◌, ◌-◌, true, refl, sym, ◌∙◌, rules, with_item, Pending}
use Rattle.fw_account_tables.proofs.UnitSwaps.{allocated_follows}
use Rattle.fw_account_tables.proofs.tables.Tables.allocate_units.Goals as goal

pub returns : goal.returns
returns c = λ l h held.
    let t = c.args.self.now in
    let x = c.args.held in
    let may : c.may_reclaim_units.result ≡ true = search rules in
    allocated_follows t l c.args.c c.args.new x (with_item t.charges x.channel (Pending c.args.c x.plug (t.left - c.args.new))) h c.requires.controller held
    c.requires.less (search rules) (sym (c.may_reclaim_units.ensures l h) ∙ may) refl
