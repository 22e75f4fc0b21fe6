use Rattle.fw_account_tables.proofs.Common.{◌∙◌, ap, is_some, find_to, is_pending, allocation_of, charge_at}
use Rattle.fw_account_tables.proofs.Channels.{pending_sooner}
use Rattle.fw_account_tables.proofs.Controllers.{holds_is}
use Rattle.fw_account_tables.proofs.tables.Tables.holds.Goals as goal

pub returns : goal.returns
returns c = λ l h.
    c.is_some.ensures ∙ ap is_some c.pending_channel.ensures.first
    ∙ ap (λ charges. is_some (find_to c.end_of_used.result (λ ch. is_pending c.args.c (allocation_of (charge_at charges ch))))) c.deref.ensures.value
    ∙ ap is_some (pending_sooner c.args.self.now l c.args.c c.end_of_used.result h c.end_of_used.ensures.within (λ ch from within. c.end_of_used.ensures.free l ch h from within))
    ∙ holds_is c.args.self.now l c.args.c h
