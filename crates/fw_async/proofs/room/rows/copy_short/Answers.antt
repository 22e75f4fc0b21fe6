use Rattle.fw_async.proofs.Common.{◌≡◌, length, ap, ◌∙◌}
use Rattle.fw_async.proofs.RoomLaws.{prefix_whole}
use Rattle.fw_async.proofs.room.rows.copy_short.Goals as goal

pub returns : goal.returns
returns c =
    let whole = c.in-Some-Some.whole.now in
    let same : whole ≡ c.args.short.now = c.in-Some-Some.ensures.cases.same in
    prefix_whole 32 whole _ (ap length same ∙ c.requires) ∙ same
