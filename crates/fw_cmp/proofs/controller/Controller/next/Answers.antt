use Rattle.fw_cmp.proofs.Common.{◌≡◌, false, ap, sym, subst, ◌∙◌, arith, Idle, Waiting, ControllerState, Listening, CanGoOn}
use Rattle.fw_cmp.specs.Causes.{IsAtRest, IsHeldBack}
use Rattle.fw_cmp.specs.Losses.{turn_of, after_turn}
use Rattle.fw_cmp.specs.Outcomes.{EndsWithCause}
use Rattle.fw_cmp.proofs.Losses.{unlost, rested, never_deaf, never_forces}
use Rattle.fw_cmp.proofs.controller.Controller.next.Goals as goal

abbrev before : goal.In_default → Listening
before c = record { state = c.self.inside.agenda; asked_at = c.self.inside.asked_at; lost = c.self.inside.lost }

pub next-next-requires-clause-reached : goal.next-next-requires-clause-reached
next-next-requires-clause-reached c =
    let unlost_now : c.args.self.now.lost ≡ false = ap (λ (x : Listening). x.lost) (sym c.self.view_is) ∙ c.if-self.false in
    subst (CanGoOn c.args.directory.now) (sym (ap (λ (x : Listening). x.state) c.self.view_is)) (c.requires.reached unlost_now)

pub returns-in_default : goal.returns-in_default
returns-in_default c =
    let unlost_now : c.args.self.now.lost ≡ false = ap (λ (x : Listening). x.lost) (sym c.self.view_is) ∙ c.if-self.false in
    record {
      answer = c.next-next.ensures.answer ∙ (sym (unlost c.args.now c.args.directory.now (before c) c.if-self.false) ∙ ap (turn_of c.args.now c.args.directory.now) c.self.view_is);
      state = ap (λ (s : ControllerState). record (before c) { state = s }) c.next-next.ensures.state
          ∙ (sym (rested c.args.now c.args.directory.now (before c) c.if-self.false (λ to r e. c.in_default.not-Send to r (c.next-next.ensures.answer ∙ e)))
          ∙ ap (after_turn c.args.now c.args.directory.now) c.self.view_is);
      fits = record { state = c.next-next.ensures.fits; asked_at = c.self.invariant.asked_at; lost = λ l. absurd (grind (arith, l, c.if-self.false)) };
      goes_on = λ h. c.next-next.ensures.goes_on;
      idle = subst (λ (x : Listening). (c.next-next.result ≡ Idle → IsAtRest x.state) × (IsAtRest x.state → c.next-next.result ≡ Idle)) c.self.view_is c.next-next.ensures.idle;
      waiting = λ until. subst (λ (x : Listening). (c.next-next.result ≡ Waiting until → IsHeldBack c.args.now c.args.directory.now x.state × (until ≡ c.args.directory.now.over_at))
          × (IsHeldBack c.args.now c.args.directory.now x.state × (until ≡ c.args.directory.now.over_at) → c.next-next.result ≡ Waiting until)) c.self.view_is (c.next-next.ensures.waiting until);
      deaf = λ until. (λ e. absurd (never_deaf c.args.now c.args.directory.now c.self.inside.agenda until (sym c.next-next.ensures.answer ∙ e)), λ h. absurd (grind (arith, h.lost, unlost_now)));
      force = (λ e. absurd (never_forces c.args.now c.args.directory.now c.self.inside.agenda (sym c.next-next.ensures.answer ∙ e)), λ h. absurd (grind (arith, h.lost, unlost_now)));
      ended = subst (λ (x : Listening). EndsWithCause c.args.now c.args.directory.now x.state c.next-next.result) c.self.view_is c.next-next.ensures.ended;
      addressee = c.next-next.ensures.addressee;
    }

pub returns-in-Send-clause-waiting : goal.returns-in-Send-clause-waiting
returns-in-Send-clause-waiting c until = subst (λ (x : Listening). (c.next-next.result ≡ Waiting until → IsHeldBack c.args.now c.args.directory.now x.state × (until ≡ c.args.directory.now.over_at))
    × (IsHeldBack c.args.now c.args.directory.now x.state × (until ≡ c.args.directory.now.over_at) → c.next-next.result ≡ Waiting until)) c.self.view_is (c.next-next.ensures.waiting until)
