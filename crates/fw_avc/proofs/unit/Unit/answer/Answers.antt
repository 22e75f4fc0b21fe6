use Rattle.std.proofs.Common.{◌∙◌}
use Rattle.fw_avc.specs.Replies.{ruling, unit_after}
use Rattle.fw_avc.proofs.FitLaws.{fits_response}
use Rattle.fw_avc.proofs.UnitLaws.{refused}
use Rattle.fw_avc.proofs.unit.Unit.answer.Goals as goal

pub returns-clause-fits : goal.returns-clause-fits
returns-clause-fits g c = λ h. fits_response _ c.args.self.now c.args.f.now c.answer_by_address.new.out c.answer_by_address.ensures.response h

pub returns-clause-refused : goal.returns-clause-refused
returns-clause-refused g c =
    let u = c.args.self.now in
    let f = c.args.f.now in
    λ h. ◌∙◌ {b = unit_after u c.args.from f} c.answer_by_address.ensures.unit (refused _ u c.args.from f c.answer_by_address.new.out (ruling u f) h c.answer_by_address.ensures.response)
