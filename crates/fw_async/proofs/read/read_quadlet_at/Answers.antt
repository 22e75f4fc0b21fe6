use Rattle.fw_async.proofs.Common.{rules, ℕ, ◌<◌, [], slice_index, arith}
use Rattle.fw_async.proofs.KindLaws.{request_at}
use Rattle.fw_async.proofs.read.read_quadlet_at.Goals as goal

pub returns : goal.returns
returns c =
    let fit = λ (i : ℕ). let x : slice_index c.args.bytes.now i < 256 = omega (arith, c.type_inv.bytes i) in x in
    record {
      fits = search rules;
      quadlets = request_at 4 c.args.bytes.now c.head_at.result c.offset_at.result
          ([]) fit c.requires.kind c.head_at.ensures.first c.head_at.ensures.source c.offset_at.ensures.high c.offset_at.ensures.low;
      rest = search rules;
    }
