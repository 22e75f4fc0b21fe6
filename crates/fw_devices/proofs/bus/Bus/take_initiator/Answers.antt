use Rattle.fw_devices.proofs.Common.{refl}
use Rattle.fw_devices.proofs.ResetLaws.{found_taken}
use Rattle.fw_devices.proofs.bus.Bus.take_initiator.Goals as goal

pub returns-clause-found : goal.returns-clause-found
returns-clause-found c = λ t kinds h.
    found_taken t kinds c.args.self.now.numbering c.args.self.now.manager c.args.self.now.entry c.in-Some.row.now.device c.args.entry.now.initiator c.args.entry.now.epoch c.set_initiator.new.self
    (c.if-not-is_number.ensures refl) c.set_initiator.ensures h
