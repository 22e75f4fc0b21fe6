use Rattle.fw_account_tables.proofs.Common.{refl, rules, with_item, Pending}
use Rattle.fw_account_tables.proofs.UnitSwaps.{released_follows}
use Rattle.fw_account_tables.proofs.tables.Tables.release_units.Goals as goal

pub returns : goal.returns
returns c = λ l h held.
    let t = c.args.self.now in
    let x = c.args.held in
    released_follows t l c.args.c c.args.new x (with_item t.charges x.channel (Pending c.args.c x.plug 0)) h c.requires.controller held c.requires.more
    (search rules) (search rules) refl
