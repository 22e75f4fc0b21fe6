use Rattle.std.proofs.Common.{◌<◌, ◌∙◌, length, arith, ap}
use Rattle.fw_watch_remarks.specs.Knowing.{channel_of}
use Rattle.fw_watch_known.proofs.UsedLaws.{set_used}
use Rattle.fw_watch_known.proofs.plugs.Plugs.set.Goals as goal

pub invariant_of-self : goal.invariant_of-self
invariant_of-self c =
    let within : c.index-place.result < length c.self.inside.rows.items = omega (arith, c.len.ensures, c.if-place-len.true) in
    record {
      counts = set_used c.self.inside.used c.one_fewer.new.used c.one_more.new.used c.self.inside.rows.items c.index-place.result c.args.known c.index.result.now c.channel.result
          c.channel-then-place-len.result
          c.self.invariant.counts within (c.channel.ensures.value ∙ ap channel_of c.index.ensures) c.channel-then-place-len.ensures.value c.one_fewer.ensures c.one_more.ensures;
      untouched = λ e. cc e;
    }
