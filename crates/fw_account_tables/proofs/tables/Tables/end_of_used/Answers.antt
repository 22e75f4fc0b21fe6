use Rattle.fw_account_tables.proofs.Common.{◌∙◌, sym, is_open}
use Rattle.fw_account_tables.proofs.Channels.{flag_set}
use Rattle.fw_account_tables.proofs.tables.Tables.end_of_used.Goals as goal

pub returns-clause-free : goal.returns-clause-free
returns-clause-free c = λ l ch h from within.
    flag_set (is_open l.withheld l.allocations ch) (sym (c.open_channels.ensures l ch h within) ∙ c.end_of_zeros.ensures.ones ch from within)
