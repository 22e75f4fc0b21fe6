use Rattle.fw_trace.proofs.Common.{◌≡◌, sym, false}
use Rattle.std.specs.Option.{is_some}
use Rattle.fw_trace_lines.specs.Jobs.{connection_of}
use Rattle.fw_trace.proofs.PlaceLaws.{no_place}
use Rattle.fw_trace.proofs.step.place_of.Goals as goal

pub returns-then-not-connects : goal.returns-then-not-connects
returns-then-not-connects c commands actions log s o run stands d =
    let none : is_some (connection_of c.args.command.now) ≡ false = cc (c.connects.ensures, c.if-not-connects.true) in
    sym (no_place s c.args.command.now o none d)
