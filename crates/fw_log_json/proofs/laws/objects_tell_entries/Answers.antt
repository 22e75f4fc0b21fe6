use Rattle.fw_log_json.proofs.ToldEntries.{object_tells}
use Rattle.fw_log_json.proofs.laws.objects_tell_entries.Goals as goal

pub returns : goal.returns
returns c = object_tells
