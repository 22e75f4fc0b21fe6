use Rattle.std.proofs.Common.{rules, ◌≡◌, ◌∙◌, ◌-◌, take, drop, length}
use Rattle.fw_log_latest.proofs.LatestLaws.{later_is}
use Rattle.fw_log_latest.proofs.ends_body.Goals as goal

pub returns : goal.returns
returns c = λ t.
    let body = c.args.body.now in
    let same : c.args.later.now ≡ take (length body - 4) (drop 4 body) = search rules in
    same ∙ later_is body
