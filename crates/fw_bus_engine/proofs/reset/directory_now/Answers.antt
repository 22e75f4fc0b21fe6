use Rattle.fw_bus_engine.proofs.Common.{arith, sym, ◌∙◌, ◌+◌, ◌<◌, ◌≤◌, length, cond}
use Rattle.fw_bus_engine.proofs.Told.{filled_none, filled_linked, filled_unlinked, filled_all}
use Rattle.fw_bus_engine.proofs.reset.directory_now.Goals as goal
use Rattle.fw_bus_engine.proofs.reset.directory_now.Goals.{then-is_linked, else-is_linked}

pub loop-device-init : goal.loop-device-init
loop-device-init c = filled_none c.args.machine.now.devices

pub loop-device-preserved : goal.loop-device-preserved
loop-device-preserved c = elim c.if-is_linked.branch [
  | then-is_linked w ↦
      let most = c.count-device-end.ensures.most in
      let low : c.loop-device.device < 63 = omega arith in
      rw (w.node-is, w.from.ensures) (filled_linked _ _ _ _ low c.loop-device.invariant (sym c.is_linked.ensures ∙ w.if-is_linked.true) w.number.ensures.value)
  | else-is_linked w ↦ rw w.node-is (filled_unlinked _ _ _ c.loop-device.invariant (sym c.is_linked.ensures ∙ w.if-is_linked.false))
]

pub returns-then-machine : goal.returns-then-machine
returns-then-machine c =
    let all : length c.args.machine.now.devices.nodes ≤ c.loop-device.device = omega arith in
    let node = filled_all _ _ _ c.loop-device.invariant all in
    let latest = c.get.ensures ∙ c.latest.ensures in
    let begins = sym c.if-machine.true in
    λ i. record { node = node i; manager = (latest i).manager; over_at = cond (begins i) (c.args.machine.now.cycle + 8000) c.args.machine.now.cycle }

pub returns-else-machine : goal.returns-else-machine
returns-else-machine c =
    let all : length c.args.machine.now.devices.nodes ≤ c.loop-device.device = omega arith in
    let node = filled_all _ _ _ c.loop-device.invariant all in
    let latest = c.get.ensures ∙ c.latest.ensures in
    let rests = sym c.if-machine.false in
    λ i. record { node = node i; manager = (latest i).manager; over_at = cond (rests i) (c.args.machine.now.cycle + 8000) c.args.machine.now.cycle }
