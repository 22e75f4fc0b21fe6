use Rattle.fw_ledger.proofs.Common.{sym, ◌∙◌, err_from_is_err_and, Locks}
use Rattle.fw_ledger.proofs.Replies.{other_label, request_shows, request_labelled, request_refused}
use Rattle.fw_ledger.proofs.packet.take_lock.Goals as goal

pub returns-then-not-marks : goal.returns-then-not-marks
returns-then-not-marks c = λ l h. (request_shows l c.args.head.now c.args.head.now.source, other_label _ l _ _ h (sym c.marks.ensures ∙ c.if-not-marks.true))

pub returns-in_err-take_request : goal.returns-in_err-take_request
returns-in_err-take_request c = λ l h.
    let p = err_from_is_err_and c.from_residual.result c.from_residual.ensures.1 in
    rw (p.1, p.2) (request_refused _ _ l c.args.head.now _ _ _ (sym c.marks.ensures ∙ c.if-not-marks.false)
    (c.in_err-take_request.ensures l (Locks c.args.function c.args.bytes.now) h c.lock_asked-asked.ensures))

pub returns : goal.returns
returns c = λ l h. (
  request_shows l c.args.head.now c.args.head.now.source,
  request_labelled _ l c.args.head.now _ (sym c.marks.ensures ∙ c.if-not-marks.false)
      (c.in_ok-take_request.ensures l (Locks c.args.function c.args.bytes.now) h c.lock_asked-asked.ensures).1,
)
