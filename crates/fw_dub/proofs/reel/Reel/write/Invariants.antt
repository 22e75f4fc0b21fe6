use Rattle.std.proofs.Common.{◌≡◌, drop}
use Rattle.fw_outside.specs.Outside.{PartWritten}
use Rattle.fw_dub.specs.Reels.{bytes_of}
use Rattle.fw_dub.proofs.reel.Reel.write.Given as goal

-- no write has failed so far, and the blocks before this one were written
abbrev pub invariant-loop-block : goal.invariant-loop-block
invariant-loop-block g l = record {
  same : g.K.Sink.faults l.sink ≡ g.K.Sink.faults l.fn.sink;
  part : PartWritten (g.K.Sink.held l.fn.sink) (g.K.Sink.held l.sink) (bytes_of l.fn.self) (bytes_of (drop l.block-index l.block-items));
}
