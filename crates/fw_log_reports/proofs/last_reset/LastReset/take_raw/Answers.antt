use Rattle.std.proofs.Common.{refl, sym, subst}
use Rattle.fw_log.specs.History.{HasRead}
use Rattle.fw_log.specs.Reader.{State}
use Rattle.fw_log_loop.proofs.Gatherings.{none_else, when_none}
use Rattle.fw_log_reports.proofs.last_reset.LastReset.take_raw.Goals as goal

pub returns-clause-history : goal.returns-clause-history
returns-clause-history c entries bytes h k =
    let x = c.in-Some.ensures.history entries bytes h in
    record { entry = x.entry; read = x.read; took = c.in_ok-take_body.ensures entries x.entry x.made k; gathered = refl }

pub returns-in_default-clause-history : goal.returns-in_default-clause-history
returns-in_default-clause-history c entries bytes h k =
    let kept = when_none c.pass_body.result (none_else c.pass_body.result c.in_default.not-Some) c.pass_body.ensures.kept in
    let P : State → Type 0 = λ r. HasRead entries bytes r in
    c.take_annotation.ensures.history entries bytes (subst P (sym kept) h) k
