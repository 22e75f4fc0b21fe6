use Rattle.std.proofs.Common.{arith}
use Rattle.std.proofs.lemmas.Bool.Decides.{nat_tests}
use Rattle.fw_node.proofs.node.Node.follow.Goals as goal

pub returns-in-Write-eq281474708278016-default : goal.returns-in-Write-eq281474708278016-default
returns-in-Write-eq281474708278016-default g c =
    let at = c.in-Write-eq281474708278016-default in
    c.command.ensures c.args.r.now (rw (at.is, c.put_quadlet.ensures.bytes) (grind (arith, nat_tests, at.offset-test)))

pub returns-in-WriteBlock-eq281474708278016-default : goal.returns-in-WriteBlock-eq281474708278016-default
returns-in-WriteBlock-eq281474708278016-default g c =
    let at = c.in-WriteBlock-eq281474708278016-default in
    c.command-in-WriteBlock-eq281474708278016-default.ensures c.args.r.now (rw (at.is, c.as_slice.ensures) (grind (arith, nat_tests, at.offset-test)))
