use Rattle.fw_account_tables.proofs.Common.{◌∙◌, ap}
use Rattle.fw_account_tables.specs.Stands.{device_at}
use Rattle.fw_account_tables.proofs.Controllers.{device_is, device_within}
use Rattle.fw_account_tables.proofs.tables.Tables.device.Goals as goal

pub returns : goal.returns
returns c =
    let e = c.device_at.ensures ∙ ap (λ ns. device_at ns c.args.id) c.as_slice.ensures.value in
    record {
      device = λ l h. e ∙ device_is c.args.self.now l c.args.id h;
      within = device_within _ c.args.self.now c.requires.stands.0 c.args.id c.requires.stands.1 (e ∙ device_is c.args.self.now c.requires.stands.0 c.args.id c.requires.stands.1);
    }
