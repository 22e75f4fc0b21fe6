use Rattle.fw_log_json.proofs.PlainEntries.{object_is_line}
use Rattle.fw_log_json.proofs.laws.objects_are_lines.Goals as goal

pub returns : goal.returns
returns c = object_is_line
