use Rattle.fw_account_tables.proofs.Common.{◌≡◌, rules}
use Rattle.fw_account_tables.proofs.UnitSwaps.{less_decoded, more_decoded}
use Rattle.fw_account_tables.proofs.tables.Tables.swap_units.Goals as goal

pub returns-then-new-argument : goal.returns-then-new-argument
returns-then-new-argument c = λ l h.
    let t = c.args.self.now in
    let same : c.args.argument ≡ t.left = search rules in
    let held = c.in-Some.ensures l h in
    less_decoded t l c.args.c c.args.argument c.args.new c.in-Some.held _ _ h same held c.if-new-argument.true (c.allocate_units.ensures l h held)

pub returns-else-new-argument : goal.returns-else-new-argument
returns-else-new-argument c = λ l h.
    let t = c.args.self.now in
    let same : c.args.argument ≡ t.left = search rules in
    let held = c.in-Some.ensures l h in
    more_decoded t l c.args.c c.args.argument c.args.new c.in-Some.held _ _ h same held c.if-new-argument.false (c.release_units.ensures l h held)
