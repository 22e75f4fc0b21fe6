use Rattle.fw_script_words.proofs.Common.{◌≡◌, to_read}
use Rattle.fw_script_words.proofs.Checkings.{IsChecking}
use Rattle.fw_script_words.proofs.checking.check_run.Given as goal

abbrev pub invariant-loop-ending : goal.invariant-loop-ending
invariant-loop-ending g l = record {
  checking : IsChecking (record { blocks = goal.F-post g l.desk.blocks; vendor = goal.H-post g l.desk.vendor }) (g.S.Source.left l.fn.source) (g.S.Source.left l.source) l.reader l.bus l.commands;
  unread : g.S.Source.faults l.source ≡ g.S.Source.faults l.fn.source;
}

abbrev pub decreases-loop-ending : goal.decreases-loop-ending
decreases-loop-ending g l = to_read l.reader
