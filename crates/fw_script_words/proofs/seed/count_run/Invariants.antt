use Rattle.fw_script_words.proofs.Common.{to_read}
use Rattle.fw_script_words.proofs.Countings.{IsCounting}
use Rattle.fw_script_words.proofs.seed.count_run.Given as goal

abbrev pub invariant-loop-ending : goal.invariant-loop-ending
invariant-loop-ending g l = IsCounting (record { blocks = goal.F-post g l.desk.blocks; vendor = goal.H-post g l.desk.vendor }) l.fn.script.items l.source l.sink.held l.reader l.bus l.tally

abbrev pub decreases-loop-ending : goal.decreases-loop-ending
decreases-loop-ending g l = to_read l.reader
