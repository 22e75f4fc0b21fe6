use Rattle.fw_account_tables.proofs.tables.Tables.swap.Goals as goal

pub returns-in-Output : goal.returns-in-Output
returns-in-Output c = λ l h. rw c.in-Output.is (c.swap_output.ensures l h)

pub returns-in-Input : goal.returns-in-Input
returns-in-Input c = λ l h. rw c.in-Input.is (c.swap_input.ensures l h)
