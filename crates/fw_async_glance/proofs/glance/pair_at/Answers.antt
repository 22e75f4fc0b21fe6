use Rattle.std.proofs.Common.{◌<◌, ℕ, slice_index, arith}
use Rattle.fw_async.proofs.QuadletLaws.{least}
use Rattle.fw_async_glance.proofs.GlanceLaws.{HasHead, HasOffset, pair_is, pair_end}
use Rattle.fw_async_glance.proofs.glance.pair_at.Goals as goal

pub head_at-requires : goal.head_at-requires
head_at-requires c = omega (arith, least c.requires.packet.packet c.args.bytes.now c.requires.packet.spells)

pub offset_at-requires : goal.offset_at-requires
offset_at-requires c = omega (arith, least c.requires.packet.packet c.args.bytes.now c.requires.packet.spells)

pub swap_at-data-requires : goal.swap_at-data-requires
swap_at-data-requires c = pair_end c.requires.packet.packet c.args.bytes.now
    (λ i. let x : slice_index c.args.bytes.now i < 256 = omega (arith, c.type_inv.bytes i) in x) c.requires.packet.spells c.requires.kind c.requires.size

pub returns : goal.returns
returns c = λ p s.
    let fit = λ (i : ℕ). let x : slice_index c.args.bytes.now i < 256 = omega (arith, c.type_inv.bytes i) in x in
    let head : HasHead 1 c.args.bytes.now c.head_at.result = record { kind = c.requires.kind; fits = c.head_at.ensures.fits; first = c.head_at.ensures.first; source = c.head_at.ensures.source } in
    let place : HasOffset c.args.bytes.now c.offset_at.result = record { small = c.offset_at.ensures.small; high = c.offset_at.ensures.high; low = c.offset_at.ensures.low } in
    pair_is p c.args.bytes.now c.head_at.result c.offset_at.result c.swap_at-data.result fit s head place c.requires.size c.swap_at-data.ensures.argument c.swap_at-data.ensures.new
