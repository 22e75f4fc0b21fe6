use Rattle.fw_async.proofs.Common.{◌≡◌, ◌≤◌, ◌-◌, length, take, IsPending, need}
use Rattle.fw_async.proofs.reader.read_prefix.Given as goal

abbrev pub invariant-loop-end : goal.invariant-loop-end
invariant-loop-end l = record {
  pending : IsPending (take l.end l.bytes);
  least : l.need ≡ need (take l.end l.bytes);
  within : l.end ≤ length l.bytes;
}

abbrev pub decreases-loop-end : goal.decreases-loop-end
decreases-loop-end l = length l.bytes - l.end
