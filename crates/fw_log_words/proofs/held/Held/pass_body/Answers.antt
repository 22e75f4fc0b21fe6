use Rattle.std.proofs.Common.{refl}
use Rattle.fw_log_words.proofs.HeldLaws.{is_on, on_passed}
use Rattle.fw_log_words.proofs.PageLaws.{weaker}
use Rattle.fw_log_words.proofs.held.Held.pass_body.Goals as goal

pub returns-clause-passed : goal.returns-clause-passed
returns-clause-passed c = λ entries t at h few f.
    let on = is_on c.args.self.now entries f c.if-self.false in
    weaker c.pass_body.result (λ b g yes. on_passed c.args.self.now _ entries t f c.if-self.false refl (g yes)) (c.pass_body.ensures.passed entries t at h few (f.holds on))
