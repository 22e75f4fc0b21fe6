use Rattle.fw_cmp.proofs.Common.{false≢true, sym, subst, CanGoOn, ControllerState}
use Rattle.fw_cmp.proofs.ResetGoesOn.{second_goes_on}
use Rattle.fw_cmp.proofs.SlotsReset.{second_fits}
use Rattle.fw_cmp.proofs.agenda.Agenda.second_over.Goals as goal

pub invariant_of-self : goal.invariant_of-self
invariant_of-self c =
    let now : ControllerState = record { slots = c.self.inside.slots; waiting = c.self.inside.waiting.items; current = c.self.inside.current } in
    (rw c.second_over.ensures (second_fits now c.self.invariant.0), λ on. absurd (false≢true on))

pub returns-clause-fits : goal.returns-clause-fits
returns-clause-fits c = (invariant_of-self c).0

pub returns-clause-goes_on : goal.returns-clause-goes_on
returns-clause-goes_on c d h =
    let now : ControllerState = record { slots = c.self.inside.slots; waiting = c.self.inside.waiting.items; current = c.self.inside.current } in
    rw c.second_over.ensures (second_goes_on d now (subst (λ (s : ControllerState). CanGoOn d s) (sym c.self.view_is) h))
