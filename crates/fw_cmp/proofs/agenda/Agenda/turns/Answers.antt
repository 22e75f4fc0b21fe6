use Rattle.fw_cmp.proofs.Common.{◌≡◌, sym, subst, ◌∙◌, ControllerState, going}
use Rattle.fw_cmp.proofs.Turning.{asking_stays}
use Rattle.fw_cmp.proofs.agenda.Agenda.turns.Goals as goal

pub returns-in-Asking-clause-stays : goal.returns-in-Asking-clause-stays
returns-in-Asking-clause-stays c d off =
    let now : ControllerState = record { slots = c.self.inside.slots; waiting = c.self.inside.waiting.items; current = c.self.inside.current } in
    subst (λ (s : ControllerState). going d s ≡ s) c.self.view_is (asking_stays d now c.in-Asking.job c.in-Asking.stage (sym c.unasked.ensures ∙ c.in-Asking.is) (c.moves_on.ensures.stays d off))
