-- The clause is a lemma.
use Rattle.fw_model_controllers.proofs.HalfSteps.{half_step}
use Rattle.fw_model_controllers.proofs.jobs_stay_in_step.Goals as goal

pub returns : goal.returns
returns x = λ l c j s others t r lt sound job stage i e a. half_step l c j s others t r e (record { below = lt; sound = sound; job = job; stage = stage; step = i; answer = a })
