use Rattle.fw_holders.proofs.Common.{◌∙◌, ap}
use Rattle.fw_terms.specs.Tables.{find_to}
use Rattle.fw_model_account.specs.Account.{is_pending}
use Rattle.fw_account_tables.specs.Stands.{allocation_of, charge_at}
use Rattle.fw_account_tables.proofs.Plugs.{pending_is_found}
use Rattle.fw_holders.proofs.death.pending_channel.Goals as goal

pub returns : goal.returns
returns c = λ l h.
    c.first_pending.ensures
    ∙ ap (λ charges. find_to 64 (λ ch. is_pending c.args.controller (allocation_of (charge_at charges ch)))) c.deref.ensures.value
    ∙ pending_is_found c.args.tables.now l c.args.controller h
