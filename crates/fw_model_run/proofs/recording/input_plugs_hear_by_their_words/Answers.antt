use Rattle.fw_model_run.proofs.Hearing.{first_hearing, step_hearing, off_hears, hears_by_word}
use Rattle.fw_model_run.proofs.recording.input_plugs_hear_by_their_words.Goals as goal

pub returns-clause-first : goal.returns-clause-first
returns-clause-first c = first_hearing

pub returns-clause-actions : goal.returns-clause-actions
returns-clause-actions c = step_hearing

pub returns-clause-off : goal.returns-clause-off
returns-clause-off c = off_hears

pub returns-clause-on : goal.returns-clause-on
returns-clause-on c = hears_by_word
