use Rattle.fw_ledger.proofs.Common.{sym, subst, StandsFor, Tables}
use Rattle.fw_model_account.specs.Events.{after_reset}
use Rattle.fw_ledger.proofs.Renewals.{bus_stands}
use Rattle.fw_ledger.proofs.ledger.Ledger.take_bus.Goals as goal

pub invariant_of-self : goal.invariant_of-self
invariant_of-self c =
    let h = c.self.invariant in
    let r = c.requires.fits in
    bus_stands c.take_bus.result c.self.inside.tables c.take_bus.new.tables h.0 (after_reset r.0 h.0) h.1 (λ yes. c.take_bus.ensures.taken yes h.0 r.0 h.1 r.1 r.2 r.3) c.take_bus.ensures.kept

pub returns-clause-taken : goal.returns-clause-taken
returns-clause-taken c = λ yes l r h fits manager nodes.
    c.take_bus.ensures.taken yes l r (subst (λ (t : Tables). StandsFor t l) (sym c.self.view_is) h) fits manager nodes

pub returns-clause-exactly : goal.returns-clause-exactly
returns-clause-exactly c = λ l h. c.take_bus.ensures.exactly l (subst (λ (t : Tables). StandsFor t l) (sym c.self.view_is) h)
