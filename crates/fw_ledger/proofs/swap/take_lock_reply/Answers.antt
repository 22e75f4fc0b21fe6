use Rattle.fw_ledger.proofs.Common.{refl, sym, ◌∙◌, err_from_is_err_and, response_in}
use Rattle.fw_model_account.specs.Packets.{Locked}
use Rattle.fw_model_audit.specs.Looked.{quadlet_in}
use Rattle.fw_ledger.proofs.Replies.{other_label, other_shows, reply_labelled, refusal_labelled, nobody_labelled}
use Rattle.fw_ledger.proofs.swap.take_lock_reply.Goals as goal

pub returns-then-not-marks : goal.returns-then-not-marks
returns-then-not-marks c = λ l h. (
  other_shows l c.args.head.now (response_in c.args.head.now c.args.rcode (Locked c.args.function c.args.rcode c.args.old.now) (quadlet_in c.args.old.now))
      (sym c.marks.ensures ∙ c.if-not-marks.true),
  other_label _ l _ _ h (sym c.marks.ensures ∙ c.if-not-marks.true),
)

pub returns-in-None : goal.returns-in-None
returns-in-None c = λ l h.
    let x = nobody_labelled l c.args.head.now c.args.rcode (Locked c.args.function c.args.rcode c.args.old.now) (quadlet_in c.args.old.now) (sym c.marks.ensures ∙ c.if-not-marks.false)
    (sym (c.device.ensures.device l h) ∙ c.in-None.is) in
    (x.0, refl, x.1)

pub returns-in_err-answer : goal.returns-in_err-answer
returns-in_err-answer c = λ l h.
    let p = err_from_is_err_and c.from_residual.result c.from_residual.ensures.1 in
    let d = sym (c.device.ensures.device l h) ∙ c.in-Some.is in
    rw (p.1, p.2) (refusal_labelled _ _ l c.args.head.now (Locked c.args.function c.args.rcode c.args.old.now)
    (response_in c.args.head.now c.args.rcode (Locked c.args.function c.args.rcode c.args.old.now) (quadlet_in c.args.old.now)) c.in-Some.device _ (sym c.marks.ensures ∙ c.if-not-marks.false) d
    (c.in_err-answer.ensures l h d))

pub returns : goal.returns
returns c = λ l h.
    let d = sym (c.device.ensures.device l h) ∙ c.in-Some.is in
    let x = c.in_ok-answer.ensures l h d in
    reply_labelled l c.args.head.now (Locked c.args.function c.args.rcode c.args.old.now)
    (response_in c.args.head.now c.args.rcode (Locked c.args.function c.args.rcode c.args.old.now) (quadlet_in c.args.old.now)) c.in-Some.device _ _
    (sym c.marks.ensures ∙ c.if-not-marks.false) d x.0 x.1
