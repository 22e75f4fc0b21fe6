use Rattle.fw_model_run.proofs.Audits.{run_audited, sound_audited}
use Rattle.fw_model_run.proofs.laws.runs_are_audited.Goals as goal

pub returns-clause-steps : goal.returns-clause-steps
returns-clause-steps c = run_audited

pub returns-clause-sound : goal.returns-clause-sound
returns-clause-sound c = sound_audited
