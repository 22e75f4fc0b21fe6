-- Each clause is a lemma.
use Rattle.fw_model_account.proofs.Example.{first_path_registers, restored_registers, other_channel_refused, not_allocated_refused, listening_input, died_registers, no_second}
use Rattle.fw_model_account.proofs.example_has_account.Goals as goal

pub returns-clause-connected : goal.returns-clause-connected
returns-clause-connected c = first_path_registers

pub returns-clause-restored : goal.returns-clause-restored
returns-clause-restored c = restored_registers

pub returns-clause-other_channel : goal.returns-clause-other_channel
returns-clause-other_channel c = other_channel_refused

pub returns-clause-no_second : goal.returns-clause-no_second
returns-clause-no_second c = no_second

pub returns-clause-not_allocated : goal.returns-clause-not_allocated
returns-clause-not_allocated c = not_allocated_refused

pub returns-clause-listening : goal.returns-clause-listening
returns-clause-listening c = listening_input

pub returns-clause-died : goal.returns-clause-died
returns-clause-died c = died_registers
