use Rattle.std.proofs.Common.{refl, subst}
use Rattle.fw_log_loop.specs.Endings.{ReadsLog}
use Rattle.fw_log_loop.proofs.Interruptions.{nothing_read}
use Rattle.fw_log_reports.specs.Silences.{never_refused}
use Rattle.fw_log_reports.specs.Texts.{nothing}
use Rattle.fw_log_words.specs.Texts.{Rewritten, log_form}
use Rattle.fw_log_words.proofs.rewriting.convert.Goals as goal

pub returns-in-Ok : goal.returns-in-Ok
returns-in-Ok g c =
    let P : Rewritten → Type 0 = λ r. ReadsLog (log_form r.version) (never_refused nothing)
    (record { left = g.S.Source.left; faults = g.S.Source.faults; old = c.args.source.now; new = c.read_log.new.source })
    (record { held = g.K.Sink.held; faults = g.K.Sink.faults; old = c.args.sink.now; new = c.read_log.new.sink }) c.read_log.result in
    subst P c.in-Ok.ensures c.read_log.ensures

pub returns-in-Err : goal.returns-in-Err
returns-in-Err g c = nothing_read _ _ _ _ refl refl
