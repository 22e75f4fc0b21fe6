use Rattle.std.proofs.Common.{◌≡◌, replicate, arith}
use Rattle.fw_watch_remarks.specs.Knowing.{nothing_known}
use Rattle.fw_watch_known.proofs.UsedLaws.{none_used, new_counted}
use Rattle.fw_watch_known.proofs.plugs.Plugs.new.Goals as goal

pub invariant_of-result : goal.invariant_of-result
invariant_of-result c =
    let rows : c.in_ok-vec.field-0.items ≡ replicate 3906 nothing_known = rw (← c.nothing.ensures) (c.in_ok-vec.ensures.items_if_clones_equal (λ y e. e)) in
    record { counts = none_used c.none_used.result c.in_ok-vec.field-0.items 3906 nothing_known c.none_used.ensures rows (omega arith) (new_counted 3906); untouched = λ e. cc e }

pub returns : goal.returns
returns c = rw (← c.nothing.ensures) (c.in_ok-vec.ensures.items_if_clones_equal (λ y e. e))
