use Rattle.fw_tests_accounts.proofs.controllers.steps.fresh.Goals as goal

pub returns : goal.returns
returns c = c.new.ensures.goes_on c.args.d.now
