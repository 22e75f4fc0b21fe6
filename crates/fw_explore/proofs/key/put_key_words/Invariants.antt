use Rattle.fw_explore.proofs.Common.{◌≡◌, ◌++◌, length}
use Rattle.fw_kept_parts.specs.Words.{bytes_of}
use Rattle.fw_explore.proofs.key.put_key_words.Given as goal

abbrev pub invariant-loop-rest : goal.invariant-loop-rest
invariant-loop-rest l = l.out.items ++ bytes_of l.rest ≡ l.fn.out.items ++ bytes_of l.words

abbrev pub decreases-loop-rest : goal.decreases-loop-rest
decreases-loop-rest l = length l.rest
