use Rattle.fw_async.proofs.Common.{◌≢◌, ◌<◌, ◌≤◌, ℕ, get_or}
use Rattle.fw_async.proofs.senders.place_of.Given as goal

abbrev pub invariant-loop-at : goal.invariant-loop-at
invariant-loop-at l = (i : ℕ) → l.fn.from ≤ i → i < l.at → get_or l.numbers i 0 ≢ l.fn.sender
