use Rattle.fw_cmp.proofs.Common.{◌≡◌, ap, sym, subst, ◌∙◌, Current, ControllerState, IsStanding, CanGoOn, after_hear}
use Rattle.fw_cmp.specs.Works.{CurrentRuns}
use Rattle.fw_cmp.proofs.GoingOn.{hear_goes_on}
use Rattle.fw_cmp.proofs.Works.{hear_fits, runs_of}
use Rattle.fw_cmp.proofs.agenda.Agenda.hear.Goals as goal

pub hear-requires-clause-stands : goal.hear-requires-clause-stands
hear-requires-clause-stands c = subst (λ (s : ControllerState). IsStanding s.current) (sym c.self.view_is) c.requires

pub hear-requires-clause-runs : goal.hear-requires-clause-runs
hear-requires-clause-runs c =
    let now : ControllerState = record { slots = c.self.inside.slots; waiting = c.self.inside.waiting.items; current = c.self.inside.current } in
    runs_of now now.current c.self.invariant.0.current

abbrev before : goal.After-hear → ControllerState
before c = record { slots = c.self.inside.slots; waiting = c.self.inside.waiting.items; current = c.self.inside.current }

is : (c : goal.After-hear) → record (before c) { current = c.hear.new.self } ≡ after_hear (before c) c.args.r.now
is c = ap (λ (x : Current). record (before c) { current = x }) c.hear.ensures.state

pub invariant_of-self : goal.invariant_of-self
invariant_of-self c = (rw (is c) (hear_fits (before c) c.args.r.now c.self.invariant.0 (subst CurrentRuns c.hear.ensures.state c.hear.ensures.runs)), c.self.invariant.1)

pub returns-clause-state : goal.returns-clause-state
returns-clause-state c = is c ∙ ap (λ (s : ControllerState). after_hear s c.args.r.now) c.self.view_is

pub returns-clause-fits : goal.returns-clause-fits
returns-clause-fits c = (invariant_of-self c).0

pub returns-clause-goes_on : goal.returns-clause-goes_on
returns-clause-goes_on c d h = subst (λ (s : ControllerState). CanGoOn d s) (sym (is c)) (hear_goes_on d (before c) c.args.r.now (subst (λ (s : ControllerState). CanGoOn d s) (sym c.self.view_is) h))
