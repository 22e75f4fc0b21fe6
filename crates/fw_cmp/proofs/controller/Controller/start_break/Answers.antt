use Rattle.fw_cmp.proofs.Common.{◌≡◌, sym, subst, ap, ◌∙◌, ControllerState, IsStanding, CanGoOn, Listening}
use Rattle.fw_cmp.proofs.Losses.{break_current}
use Rattle.fw_cmp.proofs.controller.Controller.start_break.Goals as goal

pub invariant_of-self : goal.invariant_of-self
invariant_of-self c =
    let same : c.place_break.new.self.current ≡ c.self.inside.agenda.current = ap (λ (x : ControllerState). x.current) c.place_break.ensures.state ∙ break_current c.self.inside.agenda c.args.slot in
    record { state = c.place_break.ensures.fits; asked_at = c.self.invariant.asked_at; lost = λ l. subst IsStanding (sym same) (c.self.invariant.lost l) }

pub returns-clause-fits : goal.returns-clause-fits
returns-clause-fits c = invariant_of-self c

pub returns-clause-goes_on : goal.returns-clause-goes_on
returns-clause-goes_on c d h = c.place_break.ensures.goes_on d (subst (λ (x : Listening). CanGoOn d x.state) (sym c.self.view_is) h)
