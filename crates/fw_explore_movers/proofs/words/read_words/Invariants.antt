use Rattle.std.proofs.Common.{map, string_bytes, take}
use Rattle.fw_explore_movers.specs.Words.{ReadsAll, nothing_read}
use Rattle.fw_explore_movers.proofs.words.read_words.Given as goal

abbrev pub invariant-loop-at : goal.invariant-loop-at
invariant-loop-at l = ReadsAll 1 (map string_bytes (take l.at l.words)) nothing_read l.reading
