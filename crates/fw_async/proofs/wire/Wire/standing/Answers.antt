use Rattle.fw_async.proofs.Common.{◌≡◌, ◌≢◌, get_or, arith, sym, ◌∙◌, ap, common_steps, bytes_from}
use Rattle.fw_async.proofs.WireLaws.{found, missing, beyond}
use Rattle.fw_async.proofs.wire.Wire.standing.Goals as goal
use Rattle.fw_async.proofs.wire.Wire.standing.Goals.{then-at-ge-MOST_NODES-via-then-at-ge-MOST_NODES, then-at-ge-MOST_NODES-via-else-at-ge-MOST_NODES+then-self-at-eq0}

pub returns-clause-bytes : goal.returns-clause-bytes
returns-clause-bytes c =
    let some : get_or c.self.inside.lengths c.args.from 0 ≢ 0 = rw (sym c.from-at.ensures) c.if-self-at-eq0.false in
    rw c.from-at.ensures (sym (found c.self.inside.lengths c.self.inside.rows c.self.inside.senders c.args.from c.self.invariant some) ∙ ap (bytes_from c.args.from) c.self.view_is)

pub returns-clause-size : goal.returns-clause-size
returns-clause-size c =
    let whole = c.self.invariant.whole c.from-at.result in
    let some = c.if-self-at-eq0.false in
    grind (arith, common_steps)

pub returns-then-at-ge-MOST_NODES : goal.returns-then-at-ge-MOST_NODES
returns-then-at-ge-MOST_NODES c =
    let none : get_or c.self.inside.lengths c.args.from 0 ≡ 0 = elim c.then-at-ge-MOST_NODES.branch [
      | then-at-ge-MOST_NODES-via-then-at-ge-MOST_NODES w ↦ beyond c.self.inside.lengths c.self.inside.senders c.args.from c.self.invariant
          (omega (arith, w.if-at-ge-MOST_NODES.true, c.from-at.ensures))
      | then-at-ge-MOST_NODES-via-else-at-ge-MOST_NODES+then-self-at-eq0 w ↦ rw (sym c.from-at.ensures) w.if-self-at-eq0.true
    ] in
    record { bytes = sym (missing c.self.inside.lengths c.self.inside.rows c.self.inside.senders c.args.from c.self.invariant none) ∙ ap (bytes_from c.args.from) c.self.view_is; size = tt }
