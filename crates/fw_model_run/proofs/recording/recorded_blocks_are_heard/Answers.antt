-- The law is a lemma.
use Rattle.fw_model_run.proofs.Recorded.{recorded}
use Rattle.fw_model_run.proofs.recording.recorded_blocks_are_heard.Goals as goal

pub returns : goal.returns
returns g c = recorded (record { blocks = _; vendor = _ })
