use Rattle.std.proofs.Common.{ap, sym, ◌∙◌, ◌+◌, ℕ, Bool, arith}
use Rattle.fw_watch_known.specs.Channels.{freshened_one}
use Rattle.fw_watch_known.proofs.Keeping.{keeps_channels}
use Rattle.fw_watch_known.proofs.LoopLaws.{none_freshened, freshened_more}
use Rattle.fw_watch_known.proofs.channels.Channels.freshen_all.Goals as goal

pub loop-at-init : goal.loop-at-init
loop-at-init c = sym (none_freshened c.args.first c.args.old c.args.now c.args.self.now)

pub loop-at-preserved : goal.loop-at-preserved
loop-at-preserved c =
    let k : ℕ = c.args.first + c.loop-at.at in
    c.freshen_one.ensures
    ∙ ap (λ (b : Bool). freshened_one b k c.loop-at.self) c.is_forgotten.ensures
    ∙ ap (freshened_one _ k) c.loop-at.invariant
    ∙ sym (freshened_more c.loop-at.at c.args.first c.args.old c.args.now c.args.self.now)

pub returns-then-is_kept : goal.returns-then-is_kept
returns-then-is_kept c = sym (keeps_channels 32 c.args.first c.args.old c.args.now c.args.self.now (omega arith) (c.is_kept.ensures c.if-is_kept.true))
