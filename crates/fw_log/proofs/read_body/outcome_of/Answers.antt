use Rattle.fw_log.proofs.Common.{arith, refl, sym, ◌∙◌}
use Rattle.fw_log.proofs.FieldLaws.{two_quads}
use Rattle.fw_log.proofs.read_body.outcome_of.Goals as goal

pub returns-clause-found : goal.returns-clause-found
returns-clause-found c = (
  record { device = omega arith; slot = omega arith; value = omega arith; shape = sym c.may_bring.ensures ∙ c.if-not-may_bring.false },
  two_quads c.args.body.now _ c.quadlet_at-value.result.0 c.quadlet_at-first.result.0 c.quadlet_at-value.result.0 c.requires c.quadlet_at-first.ensures.back c.quadlet_at-value.ensures.back
      (omega arith) refl,
)
