use Rattle.fw_async.proofs.WireLaws.{nothing_kept}
use Rattle.fw_async.proofs.wire.Wire.clear.Goals as goal

pub invariant_of-self : goal.invariant_of-self
invariant_of-self c = nothing_kept _ c.clear.ensures
