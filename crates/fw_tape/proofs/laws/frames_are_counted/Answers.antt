use Rattle.fw_tape.proofs.FrameLaws.{back_again, forth_again, time_code_counts, within_day, begun_there}
use Rattle.fw_tape.proofs.laws.frames_are_counted.Goals as goal

pub returns-clause-back : goal.returns-clause-back
returns-clause-back c = back_again

pub returns-clause-forth : goal.returns-clause-forth
returns-clause-forth c = forth_again

pub returns-clause-time_code : goal.returns-clause-time_code
returns-clause-time_code c = time_code_counts

pub returns-clause-within : goal.returns-clause-within
returns-clause-within c = within_day

pub returns-clause-begun : goal.returns-clause-begun
returns-clause-begun c = begun_there
