use Rattle.std.proofs.Common.{◌≡◌, ◌++◌, take}
use Rattle.fw_kept_parts.specs.Words.{bytes_of}
use Rattle.fw_kept_parts.proofs.words.put_words.Given as goal

abbrev pub invariant-loop-word : goal.invariant-loop-word
invariant-loop-word l = l.out.items ≡ l.initial.out.items ++ bytes_of (take l.word-index l.words)
