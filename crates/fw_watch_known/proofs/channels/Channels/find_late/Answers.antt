use Rattle.std.proofs.Common.{ap, sym, ◌∙◌, ℕ, Option}
use Rattle.fw_watch_known.specs.declared.channel.Channel.{Channel}
use Rattle.fw_watch_known.specs.declared.channels.Late.{Late}
use Rattle.fw_watch_known.specs.Channels.{next_late, late_to}
use Rattle.fw_watch_known.proofs.LoopLaws.{none_late, late_more}
use Rattle.fw_watch_known.proofs.channels.Channels.find_late.Goals as goal

pub loop-channel-init : goal.loop-channel-init
loop-channel-init c = record { value = sym (none_late c.args.self.now c.args.cycle); past = tt }

pub loop-channel-preserved : goal.loop-channel-preserved
loop-channel-preserved c =
    let k : ℕ = c.loop-channel.channel in
    record {
      value = c.next_late-best.ensures.value ∙ ap (λ (o : Option Late). next_late o k c.at.result.due c.args.cycle) c.loop-channel.invariant.value
          ∙ ap (λ (row : Channel). next_late (late_to k c.args.self.now c.args.cycle) k row.due c.args.cycle) c.at.ensures ∙ sym (late_more k c.args.self.now c.args.cycle);
      past = c.next_late-best.ensures.past c.loop-channel.invariant.past;
    }
