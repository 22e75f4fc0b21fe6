use Rattle.std.proofs.Common.{◌≡◌, List, string_bytes}
use Rattle.fw_log_entry.specs.declared.entry.Timed.{Timed}
use Rattle.fw_log_text.specs.Report.{channels_text}
use Rattle.fw_log_text.specs.Tallies.{Reports}
use Rattle.fw_log_text.proofs.report.StreamReport.text.Given as goal

abbrev pub invariant-loop-number : goal.invariant-loop-number
invariant-loop-number l = (entries : List Timed) → Reports entries l.self → string_bytes l.text ≡ channels_text l.number entries
