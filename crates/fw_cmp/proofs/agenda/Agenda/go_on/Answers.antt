use Rattle.fw_cmp.proofs.Common.{◌≡◌, refl, ap, sym, subst, ◌∙◌, Current, ControllerState, CurrentFits, IsHeard, going, resumed_current}
use Rattle.fw_cmp.proofs.Fitting.{current_slots}
use Rattle.fw_cmp.proofs.Going.{going_fits}
use Rattle.fw_cmp.proofs.Ready.{with_slots, resumed_slots}
use Rattle.fw_cmp.proofs.agenda.Agenda.go_on.Goals as goal

pub returns-then-not-turns-clause-state : goal.returns-then-not-turns-clause-state
returns-then-not-turns-clause-state c = sym (c.turns.ensures.stays c.args.directory.now c.if-not-turns.true)

pub returns-then-not-turns-clause-fits : goal.returns-then-not-turns-clause-fits
returns-then-not-turns-clause-fits c = c.turns.ensures.fits

pub resume-current-requires-clause-current : goal.resume-current-requires-clause-current
resume-current-requires-clause-current c =
    let now : ControllerState = record { slots = c.self.inside.slots; waiting = c.self.inside.waiting.items; current = c.self.inside.current } in
    subst (λ (x : Current). CurrentFits (with_slots now.slots x) x) (sym c.unasked.ensures) (current_slots now (with_slots now.slots now.current) now.current refl c.self.invariant.0.current)

abbrev before : goal.After-self-1 → ControllerState
before c = record { slots = c.self.inside.slots; waiting = c.self.inside.waiting.items; current = c.self.inside.current }

resumed : (c : goal.After-self-1) → c.resume-current.result ≡ resumed_current (before c) c.args.directory.now (before c).current
resumed c =
    let value : c.resume-current.result ≡ resumed_current (with_slots (before c).slots (before c).current) c.args.directory.now (before c).current =
    subst (λ (x : Current). c.resume-current.result ≡ resumed_current (with_slots (before c).slots x) c.args.directory.now x) c.unasked.ensures c.resume-current.ensures.value in
    value ∙ resumed_slots (with_slots (before c).slots (before c).current) (before c) c.args.directory.now (before c).current refl

is : (c : goal.After-self-1) → c.new-self-inside.result ≡ resumed_current (before c) c.args.directory.now (before c).current
is c = c.new-self-inside.ensures ∙ resumed c

pub invariant_of-self : goal.invariant_of-self
invariant_of-self c =
    let now : CurrentFits (going c.args.directory.now (before c)) c.resume-current.result =
    current_slots (with_slots (before c).slots c.unasked.result.now) (going c.args.directory.now (before c)) c.resume-current.result refl c.resume-current.ensures.fits in
    (rw (is c) (going_fits c.args.directory.now (before c) c.self.invariant.0 (rw (resumed c) at now)), c.self.invariant.1)

pub returns-clause-state : goal.returns-clause-state
returns-clause-state c = ap (λ (x : Current). record (before c) { current = x }) (is c) ∙ ap (λ (s : ControllerState). going c.args.directory.now s) c.self.view_is

pub returns-clause-fits : goal.returns-clause-fits
returns-clause-fits c = (invariant_of-self c).0

pub returns-clause-heard : goal.returns-clause-heard
returns-clause-heard c = subst IsHeard (sym c.new-self-inside.ensures) c.resume-current.ensures.heard
