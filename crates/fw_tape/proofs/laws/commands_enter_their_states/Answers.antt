use Rattle.fw_tape.proofs.RowLaws.{enters, refused_keeps, asked_keeps, state_is_row}
use Rattle.fw_tape.proofs.laws.commands_enter_their_states.Goals as goal

pub returns-clause-named : goal.returns-clause-named
returns-clause-named c = state_is_row

pub returns-clause-entered : goal.returns-clause-entered
returns-clause-entered c = enters

pub returns-clause-kept : goal.returns-clause-kept
returns-clause-kept c = refused_keeps

pub returns-clause-asked : goal.returns-clause-asked
returns-clause-asked c = asked_keeps
