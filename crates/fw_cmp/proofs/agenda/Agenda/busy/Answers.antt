use Rattle.fw_cmp.proofs.Common.{◌≡◌, List, true, sym, ◌∙◌, ap, subst, Current, WaitingJob, ControllerState, IsHeard, Fits, next}
use Rattle.fw_cmp.specs.Turns.{is_busy}
use Rattle.fw_cmp.specs.Jobs.{can_pick}
use Rattle.fw_cmp.proofs.Picking.{at_rest}
use Rattle.fw_cmp.proofs.Busy.{rest_busy, job_busy}
use Rattle.fw_cmp.proofs.agenda.Agenda.busy.Goals as goal

pub returns-in-Nothing-clause-heard : goal.returns-in-Nothing-clause-heard
returns-in-Nothing-clause-heard c heard =
    let now : Current → ControllerState = λ (x : Current). record { slots = c.self.inside.slots; waiting = c.self.inside.waiting.items; current = x } in
    let fits : Fits (at_rest c.self.inside.slots c.self.inside.waiting.items) = subst (λ (x : Current). Fits (now x)) (sym c.get.ensures ∙ c.in-Nothing.is) c.self.invariant.0 in
    let waiting : can_pick c.args.now c.args.directory.now c.self.inside.slots c.deref.result.now ≡ can_pick c.args.now c.args.directory.now c.self.inside.slots c.self.inside.waiting.items =
    ap (λ (ts : List WaitingJob). can_pick c.args.now c.args.directory.now c.self.inside.slots ts) c.deref.ensures.0 in
    c.can_pick.ensures ∙ waiting ∙ sym (rest_busy c.args.now c.args.directory.now c.self.inside.slots c.self.inside.waiting.items fits)
    ∙ ap (λ (s : ControllerState). is_busy (next c.args.now c.args.directory.now s)) (ap now (sym c.in-Nothing.is ∙ c.get.ensures) ∙ c.self.view_is)

pub returns-in_default-clause-heard : goal.returns-in_default-clause-heard
returns-in_default-clause-heard c heard =
    sym (subst (λ (s : ControllerState). IsHeard s.current → is_busy (next c.args.now c.args.directory.now s) ≡ true) c.self.view_is
    (λ h. job_busy c.args.now c.args.directory.now c.self.inside.slots c.self.inside.waiting.items c.self.inside.current (λ e. c.in_default.not-Nothing (c.get.ensures ∙ e)) h) heard)
