use Rattle.std.proofs.Common.{◌≡◌, ◌*◌, ◌%◌, ◌^◌, arith}
use Rattle.std.proofs.Math.Nat.{mod-eq_of_lt}
use Rattle.std.proofs.lemmas.Nat.{or_shifted}
use Rattle.fw_words.proofs.fields.with_field.Goals as goal

pub returns : goal.returns
returns c =
    let whole : c.args.q * 2 ^ c.args.width % 2 ^ 32 ≡ c.args.q * 2 ^ c.args.width = mod-eq_of_lt (omega arith) in
    rw whole (or_shifted c.args.q c.args.width c.args.value c.requires.value)
