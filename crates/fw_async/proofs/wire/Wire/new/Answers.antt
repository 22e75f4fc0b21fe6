use Rattle.fw_async.proofs.WireLaws.{nothing_kept}
use Rattle.fw_async.proofs.wire.Wire.new.Goals as goal

pub invariant_of-result : goal.invariant_of-result
invariant_of-result c = nothing_kept _ c.new.ensures
