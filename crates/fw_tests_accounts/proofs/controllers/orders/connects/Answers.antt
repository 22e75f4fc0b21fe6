use Rattle.fw_tests_accounts.proofs.controllers.orders.connects.Goals as goal

pub returns : goal.returns
returns c = c.start_connect.ensures.goes_on c.args.d.now c.requires.reached
