use Rattle.std.proofs.Common.{◌≡◌, ◌+◌, ◌++◌, ◌∷◌, [], length, take, get_or, suc, arith, ◌∙◌, ap}
use Rattle.std.proofs.Math.Seq.{take-suc}
use Rattle.std.proofs.lemmas.Grind.{common_steps}
use Rattle.fw_avc.proofs.VendorLaws.{adds_one}
use Rattle.fw_avc.proofs.vendor.append_made.Goals as goal

pub loop-byte-preserved : goal.loop-byte-preserved
loop-byte-preserved g c =
    let i = c.loop-byte.byte-index in
    let asked = c.args.asked.now in
    let next : i + 1 ≡ suc i = omega arith in
    let more : take (i + 1) asked ≡ take i asked ++ get_or asked i 0 ∷ [] = ap (λ n. take n asked) next ∙ take-suc asked i 0 c.loop-byte-test.true in
    let room : length c.loop-byte.operands ≡ length c.args.operands.now + i = c.loop-byte.invariant.room in
    record {
      made = adds_one _ (take i asked) (take (i + 1) asked) c.args.operands.now c.loop-byte.operands c.push.new.self
          (get_or asked i 0) c.vendor_byte.result more c.push.ensures c.loop-byte.invariant.made c.vendor_byte.ensures;
      room = rw c.push.ensures (grind (arith, common_steps, room));
    }
