use Rattle.std.proofs.Common.{refl}
use Rattle.fw_log_loop.proofs.Interruptions.{nothing_read}
use Rattle.fw_log_reports.proofs.watching.watch.Goals as goal

pub returns-in-Err : goal.returns-in-Err
returns-in-Err g c = nothing_read _ _ _ _ refl refl
