use Rattle.fw_holders.proofs.Common.{◌≡◌, false}
use Rattle.fw_holders.proofs.OpenLaws.{open_holds_nothing}
use Rattle.fw_holders.proofs.holding.end_of_taken.Goals as goal

pub returns-clause-free : goal.returns-clause-free
returns-clause-free c = λ l ch h from within.
    let runs = h.second.runs in
    let stopped : l.reclaiming ≡ false = cc in
    open_holds_nothing l ch h.sound stopped (c.end_of_used.ensures.free l ch h from within)
