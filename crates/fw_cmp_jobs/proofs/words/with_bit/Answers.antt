use Rattle.fw_cmp_jobs.proofs.Common.{◌≡◌, ◌+◌, ◌<◌, arith, ap, ◌∙◌}
use Rattle.std.proofs.Common.{◌-◌, ◌/◌, ◌%◌, ◌^◌}
use Rattle.fw_words.specs.Quadlet.{field}
use Rattle.fw_cmp_jobs.proofs.Bits.{room_for_bit}
use Rattle.fw_cmp_jobs.proofs.words.with_bit.Goals as goal

pub overflow_add-result : goal.overflow_add-result
overflow_add-result c =
    let one : c.args.bit - c.args.bit + 1 ≡ 1 = omega arith in
    let is : field c.args.word c.args.bit c.args.bit ≡ c.args.word / 2 ^ (31 - c.args.bit) % 2 = ap (λ w. c.args.word / 2 ^ (31 - c.args.bit) % 2 ^ w) one in
    let room : c.args.word + 2 ^ (31 - c.args.bit) < 2 ^ 32 = room_for_bit c.args.word (31 - c.args.bit) (omega arith) (omega arith) (λ e. c.if-field-eq1.false (c.field.ensures ∙ is ∙ e)) in
    omega (arith, room)
