use Rattle.fw_cmp.proofs.Common.{arith, ◌≡◌, sym, ◌∙◌, ap, subst, Current, Asking, ControllerState, slot_at, CurrentFits, RunsFitting, SlotHasJobs}
use Rattle.fw_cmp_jobs.proofs.Restoring.{none_set}
use Rattle.fw_cmp.specs.Turns.{slot_after}
use Rattle.fw_cmp.proofs.Ended.{ended_fits}
use Rattle.fw_cmp.proofs.agenda.Agenda.end.Goals as goal

pub invariant_of-self : goal.invariant_of-self
invariant_of-self c =
    let now : ControllerState = record { slots = c.self.inside.slots; waiting = c.self.inside.waiting.items; current = c.self.inside.current } in
    let at : now.current ≡ Asking c.args.job c.args.stage = ap (λ (s : ControllerState). s.current) c.self.view_is ∙ c.requires.current in
    let runs : RunsFitting now c.args.job c.args.stage = subst (λ (x : Current). CurrentFits now x) at c.self.invariant.0.current in
    let after : c.slot_after.result ≡ slot_after now c.args.job c.args.stage = c.slot_after.ensures.value ∙ ap (λ (s : ControllerState). slot_after s c.args.job c.args.stage) (sym c.self.view_is) in (
      rw (after, c.new-self-inside.ensures) (ended_fits now c.args.job c.args.stage c.self.invariant.0 runs
          (λ i. subst (λ (x : Current). SlotHasJobs now.waiting x i (slot_at now i)) at (c.self.invariant.0.jobs i))),
      none_set c.self.inside.none_restores c.self.inside.slots c.args.job.slot c.slot_after.result
          (omega (arith, c.self.invariant.0.slots, runs.job.slot)) c.slot_after.ensures.rests c.self.invariant.1,
    )

pub returns-clause-fits : goal.returns-clause-fits
returns-clause-fits c = (invariant_of-self c).0
