use Rattle.fw_async.proofs.Common.{◌≡◌, ◌≢◌, [], ◌++◌, Some, take, get_or, arith, refl, sym, ◌∙◌, ap, bytes_from}
use Rattle.fw_async.specs.Wire.{bytes_at, without}
use Rattle.fw_async.proofs.WireLaws.{found, missing, beyond, none_taken}
use Rattle.fw_async.proofs.wire.Wire.take.Goals as goal
use Rattle.fw_async.proofs.wire.Wire.take.Goals.{then-at-ge-MOST_NODES-via-then-at-ge-MOST_NODES, then-at-ge-MOST_NODES-via-else-at-ge-MOST_NODES+then-self-at-eq0}

pub returns-then-at-ge-MOST_NODES : goal.returns-then-at-ge-MOST_NODES
returns-then-at-ge-MOST_NODES c =
    let none : get_or c.self.inside.lengths c.args.from 0 ≡ 0 = elim c.then-at-ge-MOST_NODES.branch [
      | then-at-ge-MOST_NODES-via-then-at-ge-MOST_NODES w ↦ beyond c.self.inside.lengths c.self.inside.senders c.args.from c.self.invariant
          (omega (arith, w.if-at-ge-MOST_NODES.true, c.from-at.ensures))
      | then-at-ge-MOST_NODES-via-else-at-ge-MOST_NODES+then-self-at-eq0 w ↦ rw (sym c.from-at.ensures) w.if-self-at-eq0.true
    ] in
    record {
      bytes = sym (missing c.self.inside.lengths c.self.inside.rows c.self.inside.senders c.args.from c.self.invariant none) ∙ ap (bytes_from c.args.from) c.self.view_is;
      rest = sym c.self.view_is ∙ sym (none_taken c.self.inside.lengths c.self.inside.rows c.self.inside.senders c.args.from c.self.invariant none) ∙ ap (without c.args.from) c.self.view_is;
      absent = refl;
    }

pub returns : goal.returns
returns c =
    let lengths = c.self.inside.lengths in
    let rows = c.self.inside.rows in
    let senders = c.self.inside.senders in
    let q = c.args.from in
    let some : get_or lengths q 0 ≢ 0 = rw (sym c.from-at.ensures) c.if-self-at-eq0.false in
    let stood = take (get_or lengths c.from-at.result 0) (get_or rows c.from-at.result []) in
    let given : c.as_slice.result.now ≡ stood = c.as_slice.ensures.value ∙ c.append.ensures ∙ ap (λ t. t ++ stood) c.clear.ensures in
    let at : stood ≡ bytes_at lengths rows q = ap (bytes_at lengths rows) c.from-at.ensures in
    record {
      bytes = ap Some (given ∙ at) ∙ sym (found lengths rows senders q c.self.invariant some) ∙ ap (bytes_from q) c.self.view_is;
      rest = c.remove.ensures;
      absent = tt;
    }
