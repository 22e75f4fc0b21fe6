use Rattle.fw_trace_lines.proofs.CountLaws.{tells_all}
use Rattle.fw_trace_lines.proofs.laws.all_entries_are_told.Goals as goal

pub returns : goal.returns
returns c = tells_all
