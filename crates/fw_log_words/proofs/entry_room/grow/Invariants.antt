use Rattle.std.proofs.Common.{◌≡◌, ◌+◌, length, take}
use Rattle.fw_log_words.proofs.entry_room.grow.Given as goal

abbrev pub invariant-loop : goal.invariant-loop
invariant-loop l = record {
  size : length l.bytes.items ≡ length l.initial.bytes.items + l.counter;
  same : take (length l.initial.bytes.items) l.bytes.items ≡ l.initial.bytes.items;
}
