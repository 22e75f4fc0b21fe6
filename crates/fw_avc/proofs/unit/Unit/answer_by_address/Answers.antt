use Rattle.fw_avc.specs.Replies.{ruling}
use Rattle.fw_avc.proofs.TapeLaws.{any_vendor}
use Rattle.fw_avc.proofs.unit.Unit.answer_by_address.Goals as goal

pub returns-in-4-eq0-clause-response : goal.returns-in-4-eq0-clause-response
returns-in-4-eq0-clause-response g c =
    let u = c.args.self.now in
    let f = c.args.f.now in
    any_vendor _ u f c.tape_command.new.out (ruling u f) c.tape_command.ensures.response
