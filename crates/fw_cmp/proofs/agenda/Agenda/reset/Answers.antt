use Rattle.fw_cmp.proofs.Common.{false≢true, ◌≡◌, List, [], refl, sym, ◌∙◌, ap, subst, Slot, Current, WaitingJob, CanGoOn, ControllerState, CurrentFits, current_reset, after_reset}
use Rattle.fw_cmp.proofs.ResetGoesOn.{reset_goes_on}
use Rattle.fw_cmp.proofs.Fitting.{current_slots}
use Rattle.fw_cmp.proofs.Ready.{with_slots}
use Rattle.fw_cmp.proofs.SlotsReset.{reset_fits, is_slots_reset}
use Rattle.fw_cmp.proofs.Overtaken.{current_reset_waiting}
use Rattle.fw_cmp.proofs.agenda.Agenda.reset.Goals as goal

abbrev before : goal.After-reset → ControllerState
before c = record { slots = c.self.inside.slots; waiting = c.self.inside.waiting.items; current = c.self.inside.current }

abbrev after : goal.After-reset → ControllerState
after c = record { slots = c.reset.new.slots; waiting = c.self.inside.waiting.items; current = c.new-self-inside.result }

-- what it is at
at : (c : goal.After-reset) → c.get.result ≡ (before c).current
at c = c.get.ensures

is : (c : goal.After-reset) → after c ≡ after_reset c.args.epoch (before c)
is c =
    let old : List Slot = c.self.inside.slots in
    let r : ControllerState = current_reset c.args.epoch (before c) (before c).current in
    let ts : List WaitingJob = (before c).waiting in
    let slots : c.overtake-current.new.slots ≡ r.slots = subst (λ (x : Current). c.overtake-current.new.slots
    ≡ (current_reset c.args.epoch (record { slots = old; waiting = ts; current = x }) x).slots) (at c) (c.overtake-current.ensures.slots ts) in
    let current : c.overtake-current.result ≡ r.current = subst (λ (x : Current). c.overtake-current.result
    ≡ (current_reset c.args.epoch (record { slots = old; waiting = ts; current = x }) x).current) (at c) (c.overtake-current.ensures.current ts) in
    is_slots_reset r c.overtake-current.new.slots c.reset.new.slots ts c.new-self-inside.result c.reset.ensures slots
    (sym (current_reset_waiting c.args.epoch (before c) (before c).current))
    (c.new-self-inside.ensures ∙ current)

pub overtake-current-requires : goal.overtake-current-requires
overtake-current-requires c =
    let now : ControllerState = record { slots = c.self.inside.slots; waiting = c.self.inside.waiting.items; current = c.self.inside.current } in
    subst (λ (x : Current). CurrentFits (record { slots = c.self.inside.slots; waiting = []; current = x }) x) (sym c.get.ensures)
    (current_slots now (with_slots now.slots now.current) now.current refl c.self.invariant.0.current)

pub invariant_of-self : goal.invariant_of-self
invariant_of-self c = (rw (is c) (reset_fits c.args.epoch (before c) c.self.invariant.0), λ on. absurd (false≢true on))

pub returns-clause-state : goal.returns-clause-state
returns-clause-state c = is c ∙ ap (λ (s : ControllerState). after_reset c.args.epoch s) c.self.view_is

pub returns-clause-fits : goal.returns-clause-fits
returns-clause-fits c = (invariant_of-self c).0

pub returns-clause-goes_on : goal.returns-clause-goes_on
returns-clause-goes_on c d = subst (λ (s : ControllerState). CanGoOn d s) (sym (is c)) (reset_goes_on d c.args.epoch (before c))
