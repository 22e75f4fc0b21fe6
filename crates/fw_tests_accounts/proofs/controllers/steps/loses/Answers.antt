use Rattle.fw_tests_accounts.proofs.controllers.steps.loses.Goals as goal

pub returns-then-has_request : goal.returns-then-has_request
returns-then-has_request c = c.lose.ensures.goes_on c.args.d.now c.requires
