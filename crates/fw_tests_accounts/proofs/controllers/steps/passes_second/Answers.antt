use Rattle.fw_tests_accounts.proofs.controllers.steps.passes_second.Goals as goal

pub returns : goal.returns
returns c = c.second_over.ensures.goes_on c.args.d.now c.requires
