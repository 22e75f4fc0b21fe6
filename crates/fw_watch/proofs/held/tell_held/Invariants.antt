use Rattle.std.proofs.Common.{◌≡◌, ◌-◌}
use Rattle.fw_watch_remarks.specs.Remarks.{told}
use Rattle.fw_watch.specs.Holding.{held_remarks, after_held}
use Rattle.fw_watch.proofs.held.tell_held.Given as goal

abbrev pub invariant-loop-told : goal.invariant-loop-told
invariant-loop-told l = record {
  lines : told l.fn.journal (held_remarks 64 l.cycle l.fn.state) ≡ told l.journal (held_remarks (64 - l._told) l.cycle l.state);
  known : after_held 64 l.cycle l.fn.state ≡ after_held (64 - l._told) l.cycle l.state;
}
