use Rattle.fw_watch_remarks.specs.Remarks.{held_text}
use Rattle.fw_watch_remarks.proofs.TextLaws.{three}
use Rattle.fw_watch_remarks.proofs.findings.put_held.Goals as goal

pub returns : goal.returns
unfolding held_text
returns c = three c.put_word.result _ _ _ _ _ _ _ c.put_word.ensures c.in_ok-put_small.ensures c.in_ok-put_small-2.ensures
