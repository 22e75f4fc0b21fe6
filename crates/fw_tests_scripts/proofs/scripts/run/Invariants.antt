use Rattle.std.proofs.Common.{◌≢◌}
use Rattle.fw_script.specs.declared.stage.ReaderStage.TheVariants.{Failed}
use Rattle.fw_tests_scripts.proofs.scripts.run.Given as goal

-- no fault was answered
abbrev pub invariant-loop-count : goal.invariant-loop-count
invariant-loop-count g l = l.reader.stage ≢ Failed
