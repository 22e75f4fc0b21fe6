use Rattle.fw_log.proofs.Common.{arith}
use Rattle.std.proofs.Common.{rules}
use Rattle.std.proofs.lemmas.Bool.{false≢true}
use Rattle.fw_log_entry.specs.Log.{devices}
use Rattle.fw_log.proofs.ApartLaws.{holds_none, met_again, met_first}
use Rattle.fw_log.proofs.read_reset.are_apart.Goals as goal

pub loop-i-init : goal.loop-i-init
loop-i-init c = holds_none (devices c.args.rows.now)

pub returns-then-met-device : goal.returns-then-met-device
returns-then-met-device c = (
  λ t. absurd (false≢true t),
  λ apart. absurd (met_again c.args.rows.now c.loop-i.i c.from-device.result c.loop-i.met c.loop-i.invariant c.loop-i-test.true
      (omega (arith, c.loop-i-test.element_fits, c.from-device.ensures)) c.from-device.ensures c.if-met-device.true apart),
)

pub loop-i-preserved : goal.loop-i-preserved
loop-i-preserved c = met_first c.args.rows.now c.loop-i.i c.from-device.result c.loop-i.met c.loop-i.invariant c.loop-i-test.true
    (omega (arith, c.loop-i-test.element_fits, c.from-device.ensures)) c.from-device.ensures c.if-met-device.false

pub returns : goal.returns
returns c = (
  λ t j k less low same. c.loop-i.invariant.apart j k less (omega arith) same,
  λ apart. search rules,
)
