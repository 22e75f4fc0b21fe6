use Rattle.fw_holders.proofs.Common.{◌+◌, ℕ, ◌∙◌, ap, sym, arith, sum_to, at_plug, ends_in}
use Rattle.fw_holders.proofs.EndsLaws.{no_sum, next_sum}
use Rattle.fw_holders.proofs.death.ends_on.Goals as goal

pub loop-plug-init : goal.loop-plug-init
loop-plug-init c = record { ends = sym (no_sum _); few = omega arith }

pub loop-plug-preserved : goal.loop-plug-preserved
loop-plug-preserved c =
    let f : ℕ → ℕ = λ n. ends_in c.args.counts.now c.args.seats.now c.args.controller (at_plug c.args.device n) in
    record {
      ends = ap (λ n. n + c.ends_in-ends.result) c.loop-plug.invariant.ends ∙ ap (λ n. sum_to c.loop-plug.plug f + n) c.ends_in-ends.ensures.ends ∙ sym (next_sum c.loop-plug.plug f);
      few = omega arith;
    }
