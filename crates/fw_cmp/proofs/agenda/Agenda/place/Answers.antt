use Rattle.fw_cmp.proofs.Common.{◌≡◌, arith, sym, subst, ControllerState, CanGoOn}
use Rattle.std.proofs.Common.{Ok}
use Rattle.fw_cmp.specs.Refusals.{TakesSlot}
use Rattle.fw_cmp.specs.Starts.{start}
use Rattle.fw_cmp.proofs.Fitting.{start_fits}
use Rattle.fw_cmp.proofs.GoingOn.{start_goes_on}
use Rattle.fw_cmp_jobs.proofs.Restoring.{making_rests, none_set}
use Rattle.fw_cmp.proofs.Starting.{taken_slot}
use Rattle.fw_cmp.proofs.agenda.Agenda.place.Goals as goal

abbrev before : goal.After-push → ControllerState
before c = record { slots = c.self.inside.slots; waiting = c.self.inside.waiting.items; current = c.self.inside.current }

takes : (c : goal.After-push) → TakesSlot (before c) c.args.slot
takes c = taken_slot (before c) c.args.slot (subst (λ (s : ControllerState). start s ≡ Ok c.args.slot) (sym c.self.view_is) c.requires.found)

pub bounds-self-inside-slot : goal.bounds-self-inside-slot
bounds-self-inside-slot c = (taken_slot c.args.self.now c.args.slot c.requires.found).within

pub invariant_of-self : goal.invariant_of-self
invariant_of-self c =
    let slot : TakesSlot (before c) c.args.slot = takes c in (
      rw c.push.ensures.items (start_fits (before c) c.args.slot c.args.held c.self.invariant.0 slot.within slot.free slot.room c.requires.held c.requires.making),
      none_set c.self.inside.none_restores c.self.inside.slots c.args.slot c.args.held (omega (arith, c.self.invariant.0.slots, slot.within))
          (making_rests c.args.held c.requires.making) c.self.invariant.1,
    )

pub returns-clause-fits : goal.returns-clause-fits
returns-clause-fits c = (invariant_of-self c).0

pub returns-clause-goes_on : goal.returns-clause-goes_on
returns-clause-goes_on c d h = rw c.push.ensures.items (start_goes_on d (before c) (Ok c.args.slot) c.args.held c.requires.making (takes c).within c.self.invariant.0.slots
    (subst (λ (s : ControllerState). CanGoOn d s) (sym c.self.view_is) h))
