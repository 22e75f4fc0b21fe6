use Rattle.std.proofs.Common.{◌≡◌, ◌+◌, ◌*◌, ◌/◌, ◌++◌, length, take}
use Rattle.fw_log_text.specs.Line.{quadlets_text}
use Rattle.fw_log_text.proofs.rows.write_quadlets.Given as goal

abbrev pub invariant-loop-four : goal.invariant-loop-four
invariant-loop-four l = record {
  size : length l.out ≡ length l.initial.out;
  end : l.end + 9 * (length l.rest / 4) ≡ l.at + 9 * (length l.bytes / 4);
  text : take l.end l.out ++ quadlets_text l.rest ≡ take l.at l.initial.out ++ quadlets_text l.bytes;
}

abbrev pub decreases-loop-four : goal.decreases-loop-four
decreases-loop-four l = length l.rest
