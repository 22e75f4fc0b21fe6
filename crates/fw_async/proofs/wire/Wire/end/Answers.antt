use Rattle.fw_async.proofs.Common.{inl, inr, ap, sym, ◌∙◌, arith, cases_lt, bytes_from}
use Rattle.fw_async.proofs.WireLaws.{beyond, missing, none_from}
use Rattle.fw_async.proofs.wire.Wire.end.Goals as goal

pub returns-clause-none : goal.returns-clause-none
returns-clause-none c = λ node more.
    let lengths = c.self.inside.lengths in
    let rows = c.self.inside.rows in
    let senders = c.self.inside.senders in
    sym (ap (bytes_from node) c.self.view_is) ∙ elim (cases_lt node 63) [
      | inl less ↦ none_from lengths rows senders node (c.end.ensures node (omega (arith, more, less, c.min.ensures)))
      | inr far ↦ missing lengths rows senders node c.self.invariant (beyond lengths senders node c.self.invariant far)
    ]
