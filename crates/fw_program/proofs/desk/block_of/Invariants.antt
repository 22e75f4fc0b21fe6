use Rattle.std.proofs.Common.{◌≡◌, ℕ, ◌<◌, length, slice_index}
use Rattle.fw_program.specs.Blocks.{byte_of}
use Rattle.fw_program.proofs.desk.block_of.Given as goal

-- the bytes before j are made
abbrev pub invariant-loop-j : goal.invariant-loop-j
invariant-loop-j l = record {
  size : length l.bytes ≡ 480;
  next : l.next ≡ byte_of l.tape l.frame l.block l.j;
  made : (k : ℕ) → k < l.j → slice_index l.bytes k ≡ byte_of l.tape l.frame l.block k;
}
