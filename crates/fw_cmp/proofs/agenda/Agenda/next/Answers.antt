use Rattle.fw_cmp.proofs.Common.{◌≡◌, ap, sym, subst, ◌∙◌, Waiting, answer_of, after_answer, next, after_next, going, ready, CurrentReached, CanGoOn, ControllerState, Fits}
use Rattle.fw_cmp.proofs.GoingOn.{next_goes_on}
use Rattle.fw_cmp.specs.declared.outcome.Next.{Next}
use Rattle.fw_cmp.specs.Outcomes.{EndsWithCause}
use Rattle.fw_cmp.proofs.Outcomes.{ends_with_cause}
use Rattle.fw_cmp.proofs.Going.{going_reached}
use Rattle.fw_cmp.proofs.Picking.{picked_goes_on}
use Rattle.fw_cmp.proofs.Resting.{idle_means, rest_idles, waiting_means, held_back_waits}
use Rattle.fw_cmp.proofs.agenda.Agenda.next.Goals as goal

pub answer-requires-clause-reached : goal.answer-requires-clause-reached
answer-requires-clause-reached c =
    let goes_on : CanGoOn c.args.directory.now c.take.new.self =
    subst (λ (s : ControllerState). CanGoOn c.args.directory.now s) (sym c.take.ensures.state) (picked_goes_on c.args.now c.args.directory.now c.args.self.now c.requires.reached) in
    subst (λ (s : ControllerState). CurrentReached c.args.directory.now s.current) (sym c.go_on.ensures.state) (going_reached c.args.directory.now c.take.new.self c.take.ensures.fits goes_on)

is : (c : goal.After-answer) → c.answer.result ≡ next c.args.now c.args.directory.now c.args.self.now
is c = c.answer.ensures.answer ∙ ap (λ (s : ControllerState). answer_of c.args.now c.args.directory.now s)
    (c.go_on.ensures.state ∙ ap (λ (s : ControllerState). going c.args.directory.now s) c.take.ensures.state)

after : (c : goal.After-answer) → c.answer.new.self ≡ after_next c.args.now c.args.directory.now c.args.self.now
after c = c.answer.ensures.state ∙ ap after_answer (c.go_on.ensures.state ∙ ap (λ (s : ControllerState). going c.args.directory.now s) c.take.ensures.state)

pub returns-clause-answer : goal.returns-clause-answer
returns-clause-answer c = is c

pub returns-clause-state : goal.returns-clause-state
returns-clause-state c = after c

pub returns-clause-idle : goal.returns-clause-idle
returns-clause-idle c = (
  λ e. idle_means c.args.now c.args.directory.now c.args.self.now c.take.ensures.before c.requires.heard (sym (is c) ∙ e),
  λ h. is c ∙ rest_idles c.args.now c.args.directory.now c.args.self.now h,
)

pub returns-clause-waiting : goal.returns-clause-waiting
returns-clause-waiting c until = (
  λ e. waiting_means c.args.now c.args.directory.now c.args.self.now until c.take.ensures.before c.requires.heard (sym (is c) ∙ e),
  λ h. is c ∙ held_back_waits c.args.now c.args.directory.now c.args.self.now h.0 ∙ ap Waiting (sym h.1),
)

pub returns-clause-ended : goal.returns-clause-ended
returns-clause-ended c =
    let fits : Fits (ready c.args.now c.args.directory.now c.args.self.now) =
    subst (λ (s : ControllerState). Fits s) (c.go_on.ensures.state ∙ ap (λ (s : ControllerState). going c.args.directory.now s) c.take.ensures.state) c.go_on.ensures.fits in
    subst (λ (n : Next). EndsWithCause c.args.now c.args.directory.now c.args.self.now n) (sym (is c)) (ends_with_cause c.args.now c.args.directory.now c.args.self.now fits)

pub returns-clause-goes_on : goal.returns-clause-goes_on
returns-clause-goes_on c = subst (λ (s : ControllerState). CanGoOn c.args.directory.now s) (sym (after c))
    (next_goes_on c.args.now c.args.directory.now c.args.self.now c.take.ensures.before c.requires.reached)
