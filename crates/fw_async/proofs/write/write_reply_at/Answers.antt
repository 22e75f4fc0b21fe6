use Rattle.fw_async.proofs.Common.{rules, ℕ, ◌<◌, [], slice_index, arith, refl}
use Rattle.fw_async.proofs.KindLaws.{response_at}
use Rattle.fw_async.proofs.write.write_reply_at.Goals as goal

pub returns : goal.returns
returns c =
    let fit = λ (i : ℕ). let x : slice_index c.args.bytes.now i < 256 = omega (arith, c.type_inv.bytes i) in x in
    record {
      fits = search rules;
      quadlets = response_at 2 c.args.bytes.now c.head_at.result c.rcode_at.result ([]) fit c.requires.kind c.head_at.ensures.first c.head_at.ensures.source c.rcode_at.ensures
          (c.requires.sound.response refl);
      rest = search rules;
    }
