-- The law is a lemma.
use Rattle.fw_model_run.proofs.Reels.{run_recorded}
use Rattle.fw_model_run.proofs.recording.reels_are_recorded.Goals as goal

pub returns : goal.returns
returns g c = run_recorded (record { blocks = _; vendor = _ })
