use Rattle.fw_async.proofs.Common.{ℕ, arith, ap, ◌∙◌, field}
use Rattle.fw_async.proofs.HeadLaws.{destination_of}
use Rattle.fw_async.proofs.QuadletLaws.{least}
use Rattle.fw_async.proofs.reader.destination_at.Goals as goal

pub quadlet_at-requires : goal.quadlet_at-requires
quadlet_at-requires c = omega (arith, least c.requires.packet c.args.bytes.now c.requires.spells)

pub returns : goal.returns
returns c = λ p s. c.field.ensures ∙ (ap (λ (q : ℕ). field q 0 15) c.quadlet_at.ensures.value ∙ destination_of p c.args.bytes.now s)
