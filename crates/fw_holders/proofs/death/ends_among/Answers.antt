use Rattle.fw_holders.proofs.Common.{◌+◌, ℕ, ◌∙◌, ap, sym, arith, sum_to, at_plug, ends_in}
use Rattle.fw_holders.proofs.EndsLaws.{no_sum, next_sum}
use Rattle.fw_holders.proofs.death.ends_among.Goals as goal

pub loop-device-init : goal.loop-device-init
loop-device-init c = record { ends = sym (no_sum _); few = omega arith }

pub loop-device-preserved : goal.loop-device-preserved
loop-device-preserved c =
    let f : ℕ → ℕ = λ d. sum_to 31 (λ n. ends_in c.args.counts.now c.args.seats.now c.args.controller (at_plug d n)) in
    record {
      ends = ap (λ n. n + c.ends_on-ends.result) c.loop-device.invariant.ends ∙ ap (λ n. sum_to c.loop-device.device f + n) c.ends_on-ends.ensures.ends ∙ sym (next_sum c.loop-device.device f);
      few = omega arith;
    }
