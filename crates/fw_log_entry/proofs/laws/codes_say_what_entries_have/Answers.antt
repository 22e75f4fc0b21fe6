use Rattle.fw_log_entry.proofs.TableLaws.{events_are_listed, tapes_are_inserted, outcomes_are_listed}
use Rattle.fw_log_entry.proofs.laws.codes_say_what_entries_have.Goals as goal

pub returns-clause-events : goal.returns-clause-events
returns-clause-events c = events_are_listed

pub returns-clause-tapes : goal.returns-clause-tapes
returns-clause-tapes c = tapes_are_inserted

pub returns-clause-outcomes : goal.returns-clause-outcomes
returns-clause-outcomes c = outcomes_are_listed
