use Rattle.fw_holders.proofs.Common.{◌++◌, ◌∙◌, None, ap, sym, codes}
use Rattle.fw_account_tables.specs.Stands.{allocation_of}
use Rattle.fw_account_tables.specs.declared.tables.Charge.{Charge}
use Rattle.fw_holders_text.specs.declared.holding.How.TheVariants.{Pending as IsPending, Connected as IsConnected, Orphaned as IsOrphaned}
use Rattle.fw_holders_text.specs.declared.holding.Holding.{Holding}
use Rattle.fw_holders_text.specs.Holdings.{holding_text}
use Rattle.fw_holders.specs.Held.{holding_of}
use Rattle.fw_holders.proofs.ListedLaws.{row_listed}
use Rattle.fw_holders.proofs.held_line.pass_channel.Goals as goal

pub returns-in-Pending-clause-text : goal.returns-in-Pending-clause-text
returns-in-Pending-clause-text c = λ before told e yes.
    let held : Holding = record { how = IsPending c.in-Pending.controller; plug = c.in-Pending.plug; units = c.in-Pending.units } in
    let is = ap (λ (x : Charge). holding_of (allocation_of x) None) (sym c.charge_of.ensures ∙ c.in-Pending.is) in
    row_listed c.args.texts.now c.args.channel held _ before told c.args.line.now c.pass_row.new.line is e
    (c.pass_row.ensures.text yes (holding_text c.args.texts.now c.args.channel held ++ codes ", ") c.channel_row.ensures)

pub returns-in-Connected-clause-text : goal.returns-in-Connected-clause-text
returns-in-Connected-clause-text c = λ before told e yes.
    let held : Holding = record { how = IsConnected; plug = c.in-Connected.plug; units = c.in-Connected.units } in
    let is = ap (λ (x : Charge). holding_of (allocation_of x) None) (sym c.charge_of.ensures ∙ c.in-Connected.is) in
    row_listed c.args.texts.now c.args.channel held _ before told c.args.line.now c.pass_row-in-Connected.new.line is e
    (c.pass_row-in-Connected.ensures.text yes (holding_text c.args.texts.now c.args.channel held ++ codes ", ") c.channel_row-in-Connected.ensures)

pub returns-in-Orphaned-clause-text : goal.returns-in-Orphaned-clause-text
returns-in-Orphaned-clause-text c = λ before told e yes.
    let held : Holding = record { how = IsOrphaned; plug = c.in-Orphaned.plug; units = c.in-Orphaned.units } in
    let is = ap (λ (x : Charge). holding_of (allocation_of x) None) (sym c.charge_of.ensures ∙ c.in-Orphaned.is) in
    row_listed c.args.texts.now c.args.channel held _ before told c.args.line.now c.pass_row-in-Orphaned.new.line is e
    (c.pass_row-in-Orphaned.ensures.text yes (holding_text c.args.texts.now c.args.channel held ++ codes ", ") c.channel_row-in-Orphaned.ensures)
