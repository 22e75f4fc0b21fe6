use Rattle.fw_watch_requests.specs.Standing.{without_same, is_of}
use Rattle.fw_watch_requests.proofs.ApartLaws.{others_stay}
use Rattle.fw_watch_requests.proofs.taking.take_same.Goals as goal

pub returns-else-may_be : goal.returns-else-may_be
returns-else-may_be c = others_stay c.args.head.now c.args.queue.now (c.requires c.if-may_be.false)

pub returns-then-may_be : goal.returns-then-may_be
unfolding without_same is_of
returns-then-may_be c = c.take_all_same.ensures
