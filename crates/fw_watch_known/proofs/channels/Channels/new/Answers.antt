use Rattle.fw_watch_known.proofs.DueLaws.{fresh_due}
use Rattle.fw_watch_known.proofs.channels.Channels.new.Goals as goal

pub returns : goal.returns
returns c = rw (← c.fresh.ensures) (c.in_ok-vec.ensures.items_if_clones_equal (λ y e. e))

pub invariant_of-result : goal.invariant_of-result
invariant_of-result c = fresh_due 64 18446744073709551615 c.in_ok-vec.field-0.items (rw (← c.fresh.ensures) (c.in_ok-vec.ensures.items_if_clones_equal (λ y e. e)))
