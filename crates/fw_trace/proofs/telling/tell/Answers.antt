use Rattle.fw_trace.proofs.Common.{◌≡◌, ◌+◌, length, arith}
use Rattle.fw_trace.proofs.TellingLaws.{told_on, told_prefix}
use Rattle.fw_trace.proofs.telling.tell.Goals as goal

pub returns-in-Ok-pass_much-clause-tells : goal.returns-in-Ok-pass_much-clause-tells
returns-in-Ok-pass_much-clause-tells g c = λ origin earlier bytes some x.
    let part = c.in-Ok.ensures.takes _ _ x.read in
    let count : c.in-Some.more ≡ c.args.count.now + length c.args.piece.now = omega (arith, c.in-Some.ensures) in
    told_on origin c.args.tracer.now c.take_entries.new.tracer c.pass_much.new.tracer c.args.reader.now c.take_entries.new.reader c.args.count.now c.in-Some.more earlier bytes
    c.args.passed.now.given.bytes c.pass_much.new.passed.given.bytes c.args.piece.now x part count some c.pass_much.ensures.given c.pass_much.ensures.telling

pub returns-in-Err-clause-tells : goal.returns-in-Err-clause-tells
returns-in-Err-clause-tells g c = λ origin earlier bytes some x.
    let part = c.in-Ok.ensures.takes _ _ x.read in
    told_prefix origin c.args.tracer.now c.take_entries.new.tracer c.pass_much.new.tracer c.args.reader.now c.take_entries.new.reader c.args.count.now earlier bytes
    c.args.passed.now.given.bytes c.pass_much.new.passed.given.bytes c.args.piece.now x part c.pass_much.ensures.given
