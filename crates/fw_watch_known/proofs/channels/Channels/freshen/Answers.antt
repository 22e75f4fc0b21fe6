use Rattle.std.proofs.Common.{ap, sym, ◌∙◌, ◌+◌, Bool, arith}
use Rattle.fw_watch_known.specs.Channels.{freshened_one}
use Rattle.fw_watch_known.proofs.ChangeLaws.{fresh_only}
use Rattle.fw_watch_known.proofs.channels.Channels.freshen.Goals as goal

pub returns-in-Some : goal.returns-in-Some
returns-in-Some c =
    c.freshen_one.ensures ∙ ap (λ (b : Bool). freshened_one b (c.args.first + c.in-Some.at) c.args.self.now) c.is_forgotten.ensures
    ∙ sym (fresh_only 32 c.args.first c.in-Some.at c.args.old c.args.now c.args.self.now c.in-Some.ensures.0 c.in-Some.ensures.1 c.in-Some.ensures.1.within (omega arith))
