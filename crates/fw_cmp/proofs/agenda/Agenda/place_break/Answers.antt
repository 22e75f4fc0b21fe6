use Rattle.fw_cmp.proofs.Common.{◌≡◌, true, ◌<◌, length, None, sym, subst, ControllerState, break_fault}
use Rattle.fw_cmp.specs.Starts.{can_break}
use Rattle.fw_cmp.proofs.Fitting.{can_break_fits}
use Rattle.fw_cmp.proofs.Starting.{no_fault_means}
use Rattle.fw_cmp.proofs.agenda.Agenda.place_break.Goals as goal

pub invariant_of-self : goal.invariant_of-self
invariant_of-self c =
    let now : ControllerState = record { slots = c.self.inside.slots; waiting = c.self.inside.waiting.items; current = c.self.inside.current } in
    let parts : (can_break now c.args.slot ≡ true) × (length now.waiting < 8) = no_fault_means now c.args.slot
    (subst (λ (s : ControllerState). break_fault s c.args.slot ≡ None) (sym c.self.view_is) c.requires) in
    (rw c.push.ensures.items (can_break_fits now c.args.slot c.self.invariant.0 parts.0 parts.1), c.self.invariant.1)

pub returns-clause-fits : goal.returns-clause-fits
returns-clause-fits c = (invariant_of-self c).0
