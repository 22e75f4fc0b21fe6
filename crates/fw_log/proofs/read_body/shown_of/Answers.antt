use Rattle.fw_log.proofs.Common.{arith, refl}
use Rattle.fw_log.proofs.FieldLaws.{two_quads}
use Rattle.fw_log.proofs.read_body.shown_of.Goals as goal

pub returns-clause-found : goal.returns-clause-found
returns-clause-found c = (
  record { device = omega arith; offset = omega arith; word = omega arith },
  two_quads c.args.body.now _ c.quadlet_at.result.0 c.quadlet_at-first.result.0 c.quadlet_at.result.0 c.requires c.quadlet_at-first.ensures.back c.quadlet_at.ensures.back (omega arith) refl,
)
