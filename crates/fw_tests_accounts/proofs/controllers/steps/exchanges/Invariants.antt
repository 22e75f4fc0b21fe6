use Rattle.fw_cmp.specs.Holdings.{CanGoOn}
use Rattle.fw_tests_accounts.proofs.controllers.steps.exchanges.Given as goal

abbrev pub invariant-loop-to : goal.invariant-loop-to
invariant-loop-to g l = CanGoOn l.d l.c.state
