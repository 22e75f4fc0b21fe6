use Rattle.std.proofs.Common.{◌∙◌, ap, sym}
use Rattle.fw_watch_remarks.specs.Remarks.{told}
use Rattle.fw_watch.proofs.StepLaws.{usual_silent}
use Rattle.fw_watch.proofs.hear.take_iso.Goals as goal

pub returns-then-is_usual-clause-lines : goal.returns-then-is_usual-clause-lines
returns-then-is_usual-clause-lines c = sym (ap (told c.args.journal.now) (usual_silent c.args.state.now c.args.p.now (sym c.is_usual.ensures ∙ c.if-is_usual.true)))
