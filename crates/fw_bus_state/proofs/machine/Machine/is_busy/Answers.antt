use Rattle.fw_bus_state.proofs.Idles.{says_busy}
use Rattle.fw_bus_state.proofs.machine.Machine.is_busy.Goals as goal

pub returns : goal.returns
returns c = λ s g st. says_busy c.args.self.now s c.args.device c.get.result.now c.busy.result g st c.get.ensures c.busy.ensures.heard c.busy.ensures.standing
