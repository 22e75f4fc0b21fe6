use Rattle.std.proofs.Common.{◌<◌, ℕ, slice_index, arith}
use Rattle.std.specs.Int.{to_be_bytes, w32}
use Rattle.fw_async.proofs.QuadletLaws.{least}
use Rattle.fw_async_glance.proofs.GlanceLaws.{HasHead, swap_reply_is, old_end}
use Rattle.fw_async_glance.proofs.glance.swap_reply_at.Goals as goal

pub head_at-requires : goal.head_at-requires
head_at-requires c = omega (arith, least c.requires.packet.packet c.args.bytes.now c.requires.packet.spells)

pub rcode_at-requires : goal.rcode_at-requires
rcode_at-requires c = omega (arith, least c.requires.packet.packet c.args.bytes.now c.requires.packet.spells)

pub quadlet_at-requires : goal.quadlet_at-requires
quadlet_at-requires c = omega (
  arith,
  old_end c.requires.packet.packet c.args.bytes.now
      (λ i. let x : slice_index c.args.bytes.now i < 256 = omega (arith, c.type_inv.bytes i) in x) c.requires.packet.spells c.requires.kind c.requires.size,
)

pub returns : goal.returns
returns c = λ p s.
    let fit = λ (i : ℕ). let x : slice_index c.args.bytes.now i < 256 = omega (arith, c.type_inv.bytes i) in x in
    let head : HasHead 11 c.args.bytes.now c.head_at.result = record { kind = c.requires.kind; fits = c.head_at.ensures.fits; first = c.head_at.ensures.first; source = c.head_at.ensures.source } in
    swap_reply_is p c.args.bytes.now c.head_at.result c.rcode_at.result (to_be_bytes w32 c.quadlet_at.result.0) fit s head c.rcode_at.ensures c.requires.size c.quadlet_at.ensures.back
