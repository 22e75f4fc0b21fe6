use Rattle.fw_cmp.proofs.Common.{◌≡◌, ap, sym, subst, ◌∙◌, Current, Nothing, ControllerState, Fits, IsHeard, picked}
use Rattle.fw_cmp.proofs.Picking.{at_rest, picked_fits}
use Rattle.fw_cmp.proofs.Ready.{is_picked}
use Rattle.fw_cmp.proofs.agenda.Agenda.take.Goals as goal

pub returns-then-has_job-clause-state : goal.returns-then-has_job-clause-state
returns-then-has_job-clause-state c = sym (c.has_job.ensures.some c.args.now c.args.directory.now c.if-has_job.true)

pub returns-then-has_job-clause-before : goal.returns-then-has_job-clause-before
returns-then-has_job-clause-before c = c.has_job.ensures.fits

pub returns-then-has_job-clause-fits : goal.returns-then-has_job-clause-fits
returns-then-has_job-clause-fits c = c.has_job.ensures.fits

abbrev before : goal.After-self-1 → ControllerState
before c = at_rest c.self.inside.slots c.self.inside.waiting.items

abbrev after : goal.After-self-1 → ControllerState
after c = record { slots = c.self.inside.slots; waiting = c.pick-current.new.waiting.items; current = c.new-self-inside.result }

none : (c : goal.After-self-1) → c.self.inside.current ≡ Nothing
none c = ap (λ (s : ControllerState). s.current) c.self.view_is ∙ c.has_job.ensures.none c.if-has_job.false

is : (c : goal.After-self-1) → after c ≡ picked c.args.now c.args.directory.now (before c)
is c = is_picked c.args.now c.args.directory.now (before c) c.pick-current.new.waiting.items c.new-self-inside.result
    (c.new-self-inside.ensures ∙ c.pick-current.ensures.current) c.pick-current.ensures.waiting

pub invariant_of-self : goal.invariant_of-self
invariant_of-self c =
    let now : Current → ControllerState = λ (x : Current). record { slots = c.self.inside.slots; waiting = c.self.inside.waiting.items; current = x } in
    (rw (is c) (picked_fits c.args.now c.args.directory.now (before c) (subst (λ (x : Current). Fits (now x)) (none c) c.self.invariant.0)), c.pick-current.ensures.none)

pub returns-clause-state : goal.returns-clause-state
returns-clause-state c =
    let now : Current → ControllerState = λ (x : Current). record { slots = c.self.inside.slots; waiting = c.self.inside.waiting.items; current = x } in
    is c ∙ ap (λ (s : ControllerState). picked c.args.now c.args.directory.now s) (ap now (sym (none c)) ∙ c.self.view_is)

pub returns-clause-fits : goal.returns-clause-fits
returns-clause-fits c = (invariant_of-self c).0

pub returns-clause-before : goal.returns-clause-before
returns-clause-before c = c.has_job.ensures.fits

pub returns-clause-heard : goal.returns-clause-heard
returns-clause-heard c = subst IsHeard (sym c.new-self-inside.ensures) c.pick-current.ensures.heard
