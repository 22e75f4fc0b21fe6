use Rattle.fw_cmp.proofs.Common.{ap, sym, ◌∙◌, asked}
use Rattle.std.specs.Prelude.{Bool}
use Rattle.fw_cmp.specs.Works.{shown}
use Rattle.fw_cmp.proofs.Works.{asked_stays}
use Rattle.fw_cmp.proofs.work.ActiveJob.get.Goals as goal

pub returns-then-not-self : goal.returns-then-not-self
returns-then-not-self c = sym (ap (λ (b : Bool). shown b c.self.inside.current) c.if-not-self.true) ∙ c.self.view_is

pub returns-in-Asking : goal.returns-in-Asking
returns-in-Asking c = sym (ap (λ (b : Bool). shown b c.self.inside.current) c.if-not-self.false ∙ ap asked c.in-Asking.is) ∙ c.self.view_is

pub returns-in_default : goal.returns-in_default
returns-in_default c = sym (ap (λ (b : Bool). shown b c.self.inside.current) c.if-not-self.false ∙ asked_stays c.self.inside.current c.in_default.not-Asking) ∙ c.self.view_is
