use Rattle.std.proofs.Common.{arith}
use Rattle.fw_cip.proofs.ReadLaws.{reserved_within}
use Rattle.fw_cip.proofs.read.iso_fault.Goals as goal

pub overflow_add-result : goal.overflow_add-result
overflow_add-result c = let few = reserved_within c.quadlet_at-first.result.0 c.in-Some.bit c.in-Some.ensures in omega arith
