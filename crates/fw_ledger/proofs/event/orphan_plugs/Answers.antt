use Rattle.fw_ledger.proofs.Common.{◌≡◌, ◌<◌, ◌+◌, ℕ, List, length, get_or, map, take, drop, slice_set, arith, ap, ◌∙◌, Seats, orphaned_seats}
use Rattle.std.proofs.Common.{◌++◌}
use Rattle.std.proofs.lemmas.List.{get_or_default}
use Rattle.std.proofs.lemmas.List.Edits.{map_over_more}
use Rattle.fw_ledger.proofs.event.orphan_plugs.Goals as goal

-- one plug more is written
one_more : (f : Seats → Seats) (xs ys : List Seats) (i : ℕ) (d y : Seats) → i < length xs → length ys ≡ length xs → ys ≡ map f (take i xs) ++ drop i xs → y ≡ f (get_or ys i d)
    → slice_set ys i y ≡ map f (take (i + 1) xs) ++ drop (i + 1) xs
one_more f xs ys i d y low size h e = ap (slice_set ys i) e ∙ map_over_more f xs ys i (get_or ys i d) low h (get_or_default ys i d (get_or ys i d) (omega arith))

pub loop-seats-preserved : goal.loop-seats-preserved
loop-seats-preserved c = one_more
    (orphaned_seats c.args.c) c.args.plugs.now c.loop-seats.plugs c.loop-seats.seats-index _ c.orphan_seats.new.seats c.loop-seats-test.true c.loop-seats.auto.plugs c.loop-seats.invariant
    c.orphan_seats.ensures
