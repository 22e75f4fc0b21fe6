use Rattle.std.proofs.Common.{◌∙◌}
use Rattle.fw_dub.proofs.Writing.{block_written, block_cut}
use Rattle.fw_dub.proofs.reel.Reel.write.Goals as goal

pub returns-in_err-write-clause-bytes : goal.returns-in_err-write-clause-bytes
returns-in_err-write-clause-bytes g c = block_cut c.from_residual.result _ _ _ _ c.deref-block-items.result.now c.loop-block.block-index c.from_residual.ensures.0 c.loop-block-test.true
    c.loop-block.invariant.part c.in_err-write.ensures.bytes

pub loop-block-preserved : goal.loop-block-preserved
loop-block-preserved g c = record {
  same = c.in_ok-write.ensures.same ∙ c.loop-block.invariant.same;
  part = block_written _ _ _ _ c.deref-block-items.result.now c.loop-block.block-index c.loop-block-test.true c.loop-block.invariant.part c.in_ok-write.ensures.bytes;
}
