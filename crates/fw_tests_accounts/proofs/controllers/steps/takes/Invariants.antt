use Rattle.fw_cmp.specs.Holdings.{CanGoOn}
use Rattle.fw_cmp_jobs.specs.Nodes.{HasNodeNumbers}
use Rattle.fw_tests_accounts.proofs.controllers.steps.takes.Given as goal

abbrev pub invariant-loop-step : goal.invariant-loop-step
invariant-loop-step g l = record { nodes : HasNodeNumbers l.d; reached : CanGoOn l.d l.c.state }
