-- The clause is a lemma.
use Rattle.fw_model_run.proofs.HearsOn.{step_hears}
use Rattle.fw_model_run.proofs.recording.input_plugs_linger_through_runs.Goals as goal

pub returns : goal.returns
returns c = step_hears
