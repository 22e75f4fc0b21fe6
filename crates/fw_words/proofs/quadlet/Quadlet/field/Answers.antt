use Rattle.std.proofs.Common.{◌≡◌, ℕ, ◌+◌, ◌-◌, ◌/◌, ◌^◌, ◌≤◌, arith, ap, ◌∙◌}
use Rattle.std.proofs.lemmas.Nat.{and_mask}
use Rattle.std.proofs.lemmas.Nat.Bits.{ones_shr}
use Rattle.fw_words.proofs.quadlet.Quadlet.field.Goals as goal

-- all ones, shifted so that n + 1 of them are left
mask : (n : ℕ) → n ≤ 31 → 4294967295 / 2 ^ (31 - n) ≡ 2 ^ (n + 1) - 1
mask n within = ones_shr 32 (31 - n) (omega arith) ∙ ap (λ w. 2 ^ w - 1) (let e : 32 - (31 - n) ≡ n + 1 = omega arith in e)

pub returns : goal.returns
returns c =
    let e = mask (c.args.last - c.args.first) (omega arith) in
    rw e (and_mask _ _)
