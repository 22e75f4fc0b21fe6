-- How a word that reads a log ends, as an ending of a call.
use Rattle.fw_log_loop.specs.declared.ending.LogEnding.{LogEnding}
use Rattle.fw_log_loop.specs.declared.ending.LogEnding.TheVariants as LogEndings
use Rattle.fw_log_reports.specs.declared.refusal.LogRefusal.{LogRefusal}
use Rattle.fw_log_reports.specs.declared.refusal.LogRefusal.TheVariants as Refusals
use Rattle.fw_tool.specs.declared.ending.Ending.{Ending}
use Rattle.fw_tool.specs.declared.ending.Ending.TheVariants.{Done, NoLog, Stopped, Unsound, NoMap}

-- the ending of a word that reads a log
abbrev pub by_log : LogEnding LogRefusal → Ending
by_log LogEndings.Done = Done
by_log (LogEndings.NoLog fault) = NoLog fault
by_log (LogEndings.Refused (Refusals.Audit unsound)) = Unsound unsound
by_log (LogEndings.Refused (Refusals.Map no_map)) = NoMap no_map
by_log (LogEndings.Stopped stop) = Stopped stop
