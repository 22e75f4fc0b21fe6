use Rattle.fw_tests_accounts.proofs.controllers.steps.resets.Goals as goal

pub returns : goal.returns
returns c = c.reset.ensures.goes_on c.args.d.now
