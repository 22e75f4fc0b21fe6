use Rattle.std.proofs.Common.{◌∷◌, [], arith, length-append}
use Rattle.fw_log_reports.proofs.holding.Holding.judge.Goals as goal

pub returns-in-Some : goal.returns-in-Some
returns-in-Some c = λ entries few h.
    let x = c.in_ok-fault.ensures.found entries c.in-Some.fault h.holds c.in-Some.is in
    let counts = c.take.ensures entries c.args.entry.now few c.is_unjudged.ensures h.tally in
    (record { last = omega (arith, h.tally.entries, length-append entries (c.args.entry.now ∷ [])); faulty = x.0; locks = counts.locks }, x.1)

pub returns-in-None : goal.returns-in-None
returns-in-None c = λ entries few h.
    let x = c.in_ok-fault.ensures.taken entries few h.holds c.in-None.is in
    (record { tally = c.take.ensures entries c.args.entry.now few c.is_unjudged.ensures h.tally; holds = x.0 }, x.1)
