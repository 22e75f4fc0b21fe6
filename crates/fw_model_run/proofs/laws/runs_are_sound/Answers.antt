-- Each clause is a lemma.
use Rattle.fw_model_run.proofs.Runs.{carries_steps, run_steps}
use Rattle.fw_model_run.proofs.Sounds.{sound_throughout}
use Rattle.fw_model_run.proofs.laws.runs_are_sound.Goals as goal

pub returns-clause-steps : goal.returns-clause-steps
returns-clause-steps c = sound_throughout

pub returns-clause-commands : goal.returns-clause-commands
returns-clause-commands c = carries_steps

pub returns-clause-runs : goal.returns-clause-runs
returns-clause-runs c = run_steps
