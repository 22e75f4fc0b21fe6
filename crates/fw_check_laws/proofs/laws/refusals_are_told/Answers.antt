use Rattle.fw_check_laws.proofs.Names.{causes, names}
use Rattle.fw_check_laws.proofs.Notes.{notes}
use Rattle.fw_check_laws.proofs.laws.refusals_are_told.Goals as goal

pub returns : goal.returns
returns g c =
    let has = c.broken_rules_have_a_cause.ensures.decided in
    record { notes = notes; names = names has _; causes = causes has _ }
