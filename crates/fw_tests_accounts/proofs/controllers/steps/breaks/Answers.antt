use Rattle.fw_tests_accounts.proofs.controllers.steps.breaks.Goals as goal

pub returns : goal.returns
returns c = c.start_break.ensures.goes_on c.args.d.now c.requires
