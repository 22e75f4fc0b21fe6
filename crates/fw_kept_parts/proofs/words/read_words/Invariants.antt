use Rattle.std.proofs.Common.{◌≡◌, ◌++◌, length}
use Rattle.fw_kept_parts.specs.Words.{words_of}
use Rattle.fw_kept_parts.proofs.words.read_words.Given as goal

abbrev pub invariant-loop-rest : goal.invariant-loop-rest
invariant-loop-rest l = l.out.items ++ words_of l.rest ≡ words_of l.bytes

abbrev pub decreases-loop-rest : goal.decreases-loop-rest
decreases-loop-rest l = length l.rest
