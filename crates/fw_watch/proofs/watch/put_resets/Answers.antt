use Rattle.fw_watch.specs.Watched.{resets_text}
use Rattle.fw_watch.proofs.watch.put_resets.Goals as goal

pub returns : goal.returns
unfolding resets_text
returns c = c.write.ensures.bytes
