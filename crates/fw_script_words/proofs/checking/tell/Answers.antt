use Rattle.fw_script_words.proofs.Checkings.{writes_same}
use Rattle.fw_script_words.proofs.checking.tell.Goals as goal

pub returns-in-Ok-clause-write_count : goal.returns-in-Ok-clause-write_count
returns-in-Ok-clause-write_count g c = writes_same _ _ c.args.ending c.requires c.in-Ok.ensures.same
