use Rattle.fw_cmp.proofs.Common.{IsTrue, IsFalse, subst, Current, IsHeard, IsStanding}
use Rattle.fw_cmp.proofs.Works.{heard_shows, stands_shows}
use Rattle.fw_cmp.proofs.work.ActiveJob.stands.Goals as goal

pub returns-clause-standing : goal.returns-clause-standing
returns-clause-standing c = subst (λ (x : Current). (IsTrue c.self.inside.stands → IsStanding x) × (IsStanding x → IsTrue c.self.inside.stands)) c.self.view_is
    (stands_shows c.self.inside.stands c.self.inside.current c.self.invariant)

pub returns-clause-heard : goal.returns-clause-heard
returns-clause-heard c = subst (λ (x : Current). (IsFalse c.self.inside.stands → IsHeard x) × (IsHeard x → IsFalse c.self.inside.stands)) c.self.view_is
    (heard_shows c.self.inside.stands c.self.inside.current c.self.invariant)
