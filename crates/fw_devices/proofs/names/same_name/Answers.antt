use Rattle.fw_devices.proofs.Common.{◌∙◌}
use Rattle.fw_devices.proofs.NetworkLaws.{same_bytes_is}
use Rattle.fw_devices.proofs.names.same_name.Goals as goal

pub returns : goal.returns
returns c = c.eq.ensures ∙ same_bytes_is c.args.a.now c.args.b.now
