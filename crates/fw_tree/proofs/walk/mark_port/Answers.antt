use Rattle.fw_tree.proofs.Common.{◌<◌, arith}
use Rattle.fw_tree.proofs.SeenLaws.{unseen_set}
use Rattle.fw_tree.proofs.walk.mark_port.Goals as goal

pub returns-in-Some-clause-fewer : goal.returns-in-Some-clause-fewer
returns-in-Some-clause-fewer c =
    let device : c.in-Some.end.device < 63 = rw c.in-Some.is at c.requires in
    λ t. rw c.mark.ensures.after (unseen_set c.args.seen.now c.in-Some.end.device (omega arith) (c.mark.ensures.new.0 t))
