use Rattle.fw_bus_state.proofs.Common.{◌≤◌, arith, node_at, count_at}
use Rattle.std.proofs.Common.{below_more}
use Rattle.fw_bus_state.specs.Streaming.{IsStill}
use Rattle.fw_bus_state.proofs.streams.Streams.end.Goals as goal

pub loop-device-init : goal.loop-device-init
loop-device-init c = record { few = omega arith; still = λ d low above. absurd (omega (arith, low)) }

pub loop-device-preserved-then-is_still : goal.loop-device-preserved-then-is_still
loop-device-preserved-then-is_still c = record {
  few = c.loop-device.invariant.few;
  still = below_more (λ d. c.loop-device.end ≤ d → IsStill (node_at c.args.devices.now.nodes d) (count_at c.args.self.now d)) c.loop-device.device
      c.loop-device.invariant.still (λ above. c.is_still.ensures c.if-is_still.true);
}

pub loop-device-preserved : goal.loop-device-preserved
loop-device-preserved c = record {
  few = let test = c.loop-device-test.true in let all = c.count-device-end.ensures.nodes in omega (arith, test, all);
  still = λ d low above. absurd (omega (arith, low, above));
}

pub returns : goal.returns
returns c = record {
  few = c.loop-device.invariant.few;
  each = λ d above low.
      let test = c.loop-device-test.false in let all = c.count-device-end.ensures.nodes in c.loop-device.invariant.still d (omega (arith, low, test, all)) above;
}
