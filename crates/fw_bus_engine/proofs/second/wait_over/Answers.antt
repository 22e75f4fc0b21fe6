use Rattle.fw_bus_engine.proofs.Common.{refl, arith, Err}
use Rattle.fw_bus_engine.proofs.Waits.{waits_all, waits_cut, ready_before, ready_over}
use Rattle.fw_bus_engine.proofs.second.wait_over.Goals as goal

pub returns-in_err-end_second : goal.returns-in_err-end_second
returns-in_err-end_second g c =
    let ended = rw c.pass.ensures at c.in_err-end_second.ensures.does in
    record { does = waits_cut _ _ _ _ _ _ _ _ (tt {0}) (Err _) _ c.requires.ready c.requires.runs c.requires.over c.requires.few refl c.from_residual.ensures.0 ended }

pub returns : goal.returns
returns g c =
    let ended = rw c.pass.ensures at c.in_ok-end_second.ensures.does in
    let rests = rw c.pass.ensures at c.in_ok-end_second.ensures.rests in
    record { does = waits_all _ _ _ _ _ _ _ _ (tt {0}) c.requires.ready c.requires.runs c.requires.over c.requires.few ended rests c.pass-2.ensures }

pub end_second-requires-clause-ready : goal.end_second-requires-clause-ready
end_second-requires-clause-ready g c =
    let over = c.requires.over in
    let few = c.requires.few in
    rw c.pass.ensures (ready_before c.requires.ready c.requires.runs (omega (arith, over, few)))

pub pass-requires-2-clause-ready : goal.pass-requires-2-clause-ready
pass-requires-2-clause-ready g c =
    let over = c.requires.over in
    let few = c.requires.few in
    ready_over c.requires.ready c.requires.runs (omega (arith, over, few)) (rw c.pass.ensures at c.in_ok-end_second.ensures.does)
