use Rattle.fw_tests_accounts.proofs.controllers.steps.hears_it.Goals as goal

pub returns-then-has_request : goal.returns-then-has_request
returns-then-has_request c = c.hear.ensures.goes_on c.args.d.now c.requires
