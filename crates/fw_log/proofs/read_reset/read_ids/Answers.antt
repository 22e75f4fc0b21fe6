use Rattle.fw_log.proofs.Common.{◌-◌, sym, length, take, drop, take_rest}
use Rattle.fw_log.proofs.IdsLaws.{few_kept, ids_next, ids_refused, ids_are, too_many}
use Rattle.fw_log.proofs.read_reset.read_ids.Goals as goal

pub keep-requires : goal.keep-requires
keep-requires c = few_kept c.loop-at.ids c.args.bytes.now c.loop-at.at c.loop-at.invariant

pub returns-in-Err-clause-fault : goal.returns-in-Err-clause-fault
returns-in-Err-clause-fault c = ids_refused c.loop-at.ids c.args.bytes.now
    (take (length c.args.bytes.now - c.loop-at.at) (drop c.loop-at.at c.args.bytes.now)) c.loop-at.at c.in-Err.fault c.loop-at.invariant c.loop-at-test.true (take_rest c.args.bytes.now c.loop-at.at)
    (sym c.in-Err.ensures.fault)

pub loop-at-preserved : goal.loop-at-preserved
loop-at-preserved c =
    ids_next c.loop-at.ids c.keep.new.ids c.args.bytes.now (take (length c.args.bytes.now - c.loop-at.at)
    (drop c.loop-at.at c.args.bytes.now)) c.loop-at.at c.in-Ok.packet c.loop-at.invariant c.loop-at-test.true (take_rest c.args.bytes.now c.loop-at.at)
    (sym c.in-Ok.ensures.fault) c.in-Ok.ensures.found.0 c.in-Ok.ensures.found.1 c.keep.ensures

pub returns-then-at-clause-fault : goal.returns-then-at-clause-fault
returns-then-at-clause-fault c = too_many c.loop-at.ids c.args.bytes.now c.loop-at.at c.loop-at.invariant c.loop-at-test.false c.if-at.true

pub returns-clause-ids : goal.returns-clause-ids
returns-clause-ids c = ids_are c.loop-at.ids c.args.bytes.now c.loop-at.at c.loop-at.invariant c.loop-at-test.false c.if-at.false
