use Rattle.std.proofs.Common.{◌∙◌, sym}
use Rattle.fw_log_reports.proofs.verdict.pass_reset.Goals as goal

pub read_bus-requires : goal.read_bus-requires
read_bus-requires c = let r = c.requires in (r.reset, r.fits, r.same)

pub pass_reset-requires : goal.pass_reset-requires
pass_reset-requires c =
    let r = c.requires in
    let bus = c.read_bus.ensures r.reset r.fits r.same in
    record { fits = (r.reset, r.fits, bus.manager, bus.nodes ∙ sym c.as_slice.ensures.value) }

pub returns-clause-found : goal.returns-clause-found
returns-clause-found c = λ yes entries r fits same found.
    let bus = c.read_bus.ensures r fits same in
    c.pass_reset.ensures.found yes entries r fits bus.manager (bus.nodes ∙ sym c.as_slice.ensures.value) found
