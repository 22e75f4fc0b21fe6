use Rattle.fw_async.proofs.Common.{◌≡◌, ℕ, ◌<◌, ◌++◌, [], ◌∷◌, slice_index, length, take, drop, arith, ap, ◌∙◌, to_be_bytes, w32, field, quadlet_at, size}
use Rattle.fw_async.proofs.KindLaws.{request_at, size_at}
use Rattle.fw_async.proofs.QuadletLaws.{swap_end, swap_data, swap_fits}
use Rattle.fw_async.proofs.quadlets.swap_asked_at.Goals as goal

pub quadlet_at-requires : goal.quadlet_at-requires
quadlet_at-requires c = omega (arith, swap_end c.args.bytes.now c.requires.complete c.requires.size)

pub quadlet_at-requires-2 : goal.quadlet_at-requires-2
quadlet_at-requires-2 c = omega (arith, swap_end c.args.bytes.now c.requires.complete c.requires.size)

pub returns : goal.returns
returns c =
    let fit = λ (i : ℕ). let x : slice_index c.args.bytes.now i < 256 = omega (arith, c.type_inv.bytes i) in x in
    let pair = to_be_bytes w32 c.quadlet_at.result.0 ++ to_be_bytes w32 c.quadlet_at-2.result.0 in
    let same : pair ≡ take 8 (drop 16 c.args.bytes.now) = swap_data c.args.bytes.now (to_be_bytes w32 c.quadlet_at.result.0)
    (to_be_bytes w32 c.quadlet_at-2.result.0) c.quadlet_at.ensures.back c.quadlet_at-2.ensures.back in
    let fits = swap_fits c.args.bytes.now pair fit same (swap_end c.args.bytes.now c.requires.complete c.requires.size) in
    let eight : 8 ≡ field (quadlet_at c.args.bytes.now 12) 0 15 = omega (arith, c.requires.size) in
    record {
      fits = (c.head_at.ensures.fits, c.offset_at.ensures.small, omega arith, omega arith, fits.lock, fits.bytes);
      quadlets = request_at 9 c.args.bytes.now c.head_at.result c.offset_at.result
          (size (length pair) 2 ∷ []) fit c.requires.complete.kind c.head_at.ensures.first c.head_at.ensures.source c.offset_at.ensures.high c.offset_at.ensures.low
          ∙ ap (λ t. quadlet_at c.args.bytes.now 0 ∷ quadlet_at c.args.bytes.now 4 ∷ quadlet_at c.args.bytes.now 8 ∷ t)
          (size_at c.args.bytes.now (length pair) 2 fit (omega (arith, fits.size, c.requires.size)) (omega (arith, c.requires.size)));
      rest = same ∙ ap (λ n. take n (drop 16 c.args.bytes.now)) eight;
    }
