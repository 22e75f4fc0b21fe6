use Rattle.fw_cmp.proofs.Common.{IsTrue, IsFalse, subst, ControllerState, IsHeard, IsStanding}
use Rattle.fw_cmp.proofs.agenda.Agenda.has_request.Goals as goal

pub returns-clause-standing : goal.returns-clause-standing
returns-clause-standing c = subst (λ (s : ControllerState). (IsTrue c.stands.result → IsStanding s.current) × (IsStanding s.current → IsTrue c.stands.result)) c.self.view_is c.stands.ensures.standing

pub returns-clause-heard : goal.returns-clause-heard
returns-clause-heard c = subst (λ (s : ControllerState). (IsFalse c.stands.result → IsHeard s.current) × (IsHeard s.current → IsFalse c.stands.result)) c.self.view_is c.stands.ensures.heard
