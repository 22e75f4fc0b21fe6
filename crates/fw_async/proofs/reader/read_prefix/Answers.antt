use Rattle.fw_async.proofs.Common.{arith, refl, sym}
use Rattle.fw_async.proofs.PrefixLaws.{prefix_first, prefix_more, prefix_whole, prefix_pending, prefix_fault, prefix_all, prefix_short}
use Rattle.fw_async.proofs.reader.read_prefix.Goals as goal

pub loop-end-init : goal.loop-end-init
loop-end-init c = record { pending = prefix_first c.args.bytes.now; least = refl; within = omega arith }

pub least_length-requires : goal.least_length-requires
least_length-requires c = prefix_short c.args.bytes.now c.loop-end.end c.at_most-next.result c.loop-end.need (omega (arith, c.at_most-next.ensures))
    (omega (arith, c.at_most-next.ensures)) c.loop-end.invariant.least c.loop-end.invariant.pending

pub returns-in-Err : goal.returns-in-Err
returns-in-Err c =
    let more = prefix_more c.args.bytes.now c.loop-end.end c.loop-end.need c.loop-end.invariant.within c.loop-end.invariant.least c.loop-end.invariant.pending in
    prefix_fault c.args.bytes.now c.loop-end.end c.at_most-next.result c.loop-end.need c.in-Err.fault (omega (arith, more, c.at_most-next.ensures)) (omega (arith, c.at_most-next.ensures))
    (omega (arith, c.at_most-next.ensures)) c.loop-end.invariant.least c.loop-end.invariant.pending (sym c.in-Err.ensures.fault)

pub packet_at-requires-clause-complete : goal.packet_at-requires-clause-complete
packet_at-requires-clause-complete c =
    let more = prefix_more c.args.bytes.now c.loop-end.end c.loop-end.need c.loop-end.invariant.within c.loop-end.invariant.least c.loop-end.invariant.pending in
    prefix_whole c.args.bytes.now c.loop-end.end c.at_most-next.result c.loop-end.need c.in-Ok.least (omega (arith, more, c.at_most-next.ensures)) (omega (arith, c.at_most-next.ensures))
    (omega (arith, c.at_most-next.ensures)) c.loop-end.invariant.least c.in-Ok.ensures.need (omega (arith, c.at_most-next.ensures))

pub loop-end-smaller : goal.loop-end-smaller
loop-end-smaller c =
    let more = prefix_more c.args.bytes.now c.loop-end.end c.loop-end.need c.loop-end.invariant.within c.loop-end.invariant.least c.loop-end.invariant.pending in
    omega (arith, more, c.at_most-next.ensures)

pub loop-end-preserved : goal.loop-end-preserved
loop-end-preserved c = record {
  pending = prefix_pending c.args.bytes.now c.at_most-next.result c.in-Ok.least (omega (arith, c.at_most-next.ensures)) c.in-Ok.ensures.need (omega (arith, c.at_most-next.ensures))
      (sym c.in-Ok.ensures.fault);
  least = c.in-Ok.ensures.need;
  within = omega (arith, c.at_most-next.ensures);
}

pub returns : goal.returns
returns c = (omega arith, prefix_all c.args.bytes.now c.loop-end.end (omega arith) c.loop-end.invariant.pending)
