use Rattle.fw_async.proofs.Common.{◌<◌, ℕ, get_or}
use Rattle.fw_async.proofs.senders.end_of.Given as goal

abbrev pub invariant-loop-n : goal.invariant-loop-n
invariant-loop-n l = (k : ℕ) → k < l.n → get_or l.senders k 0 < l.end
