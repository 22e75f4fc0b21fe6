use Rattle.fw_async_fields.proofs.Common.{◌≡◌, ◌+◌, ◌-◌, ◌++◌, take, drop, arith, ap, ◌∙◌, field, quadlet_at}
use Rattle.fw_async_fields.proofs.ReadingLaws.{are_bytes_part}
use Rattle.fw_async_fields.proofs.data.data_at.Goals as goal

pub returns-clause-bytes : goal.returns-clause-bytes
returns-clause-bytes g c =
    let few : 16 + c.length_at.result - 16 ≡ field (quadlet_at c.args.bytes.now 12) 0 15 = omega (arith, c.length_at.ensures) in
    let same : c.append.new.self ≡ take (field (quadlet_at c.args.bytes.now 12) 0 15) (drop 16 c.args.bytes.now) =
    c.append.ensures ∙ ap (λ t. t ++ take (16 + c.length_at.result - 16) (drop 16 c.args.bytes.now)) c.new-data.ensures ∙ ap (λ n. take n (drop 16 c.args.bytes.now)) few in
    λ i. rw same (are_bytes_part c.args.bytes.now (field (quadlet_at c.args.bytes.now 12) 0 15) 16 (λ k. omega (arith, c.type_inv.bytes k)) i)
