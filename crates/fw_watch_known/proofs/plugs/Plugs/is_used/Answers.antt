use Rattle.std.proofs.Common.{◌∙◌, nat_lt, slice_index, ℕ, ap}
use Rattle.fw_watch_known.proofs.UsedLaws.{used_counted}
use Rattle.fw_watch_known.proofs.plugs.Plugs.is_used.Goals as goal

pub returns-then-channel-lt64 : goal.returns-then-channel-lt64
returns-then-channel-lt64 c =
    ap (λ (k : ℕ). nat_lt 0 (slice_index c.self.inside.used k)) c.from.ensures
    ∙ used_counted c.self.inside.used c.self.inside.rows.items c.args.self.now c.args.channel c.if-channel-lt64.true c.self.invariant.counts c.self.view_is
