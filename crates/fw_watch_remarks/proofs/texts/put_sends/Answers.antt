use Rattle.fw_watch_remarks.specs.Remarks.{sends_text}
use Rattle.fw_watch_remarks.proofs.TextLaws.{two}
use Rattle.fw_watch_remarks.proofs.texts.put_sends.Goals as goal

pub returns : goal.returns
unfolding sends_text
returns c = two c.put_small-2.result _ _ _ _ _ c.put_small-2.ensures c.in_ok-put_small.ensures
