use Rattle.std.proofs.Common.{◌≡◌, ◌≤◌, Some, ap, ◌∙◌, length, arith}
use Rattle.std.proofs.lemmas.Bool.Decides.{nat_tests}
use Rattle.fw_fcp.specs.declared.frame.Frame.{Frame}
use Rattle.fw_node.specs.Fcp.{IsCommand}
use Rattle.fw_node.specs.contracts.node.Node.{the_view}
use Rattle.fw_node.proofs.Followed.{followed, same_bytes}
use Rattle.fw_node.proofs.node.Node.command.Goals as goal

pub returns-then-frame-le-GENERAL_INQUIRY : goal.returns-then-frame-le-GENERAL_INQUIRY
returns-then-frame-le-GENERAL_INQUIRY g c = λ r written.
    let f : Frame = c.read_frame.new.out in
    let read = c.in-Ok.ensures in
    let few : length f.operands ≤ 509 = grind (arith, nat_tests, read.found.1, c.if-bytes-gt-LONGEST_FRAME.false) in
    let command : IsCommand (Some r) f = record { written = written ∙ ap Some read.found.1; fits = read.found.0; size = few; command = omega arith } in
    let only : (k : Frame) → IsCommand (Some r) k → f ≡ k = λ k is. (read.only k is.fits (same_bytes r c.args.bytes.now k written is)).1 in
    followed _ c.args.from r f c.in-Some.unit c.respond.new.unit (the_view c.self.inside) c.args.self.now c.respond.new.self c.self.view_is
    command only c.in-Some.is c.respond.ensures.response c.respond.ensures.unit
