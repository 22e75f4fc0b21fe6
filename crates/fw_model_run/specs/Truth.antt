-- Controllers as they are: one that has lost a response has not heard it, and stands at the stage of its request.
use Rattle.std.specs.Prelude.{ℕ, ◌+◌, if◌then◌else◌, Option, Some, None}
use Rattle.fw_cmp.specs.declared.current.Current.{Current}
use Rattle.fw_cmp.specs.declared.current.Current.TheVariants.{Nothing, Asking, Hearing, Overtaken}
use Rattle.fw_cmp.specs.declared.outcome.Next.{Next}
use Rattle.fw_cmp.specs.declared.outcome.Next.TheVariants.{Deaf, Force}
use Rattle.fw_cmp_jobs.specs.declared.stage.Stage.{Stage}
use Rattle.fw_cmp.specs.Controllers.{ControllerState}
use Rattle.fw_cmp.specs.Losses.{Listening, split_timeout}
use Rattle.fw_model_run.specs.State.{State, is_deaf}
use Rattle.fw_model_run.specs.HalfSteps.{is_waiting}

-- what it is at, in truth, that stands as one that has heard the response, and has lost it if there is a stage
abbrev pub standing : Current → Option Stage → Current
standing (Asking j after) (Some stage) = Hearing j stage
standing (Asking j after) None = Asking j after
standing Nothing lost = Nothing
standing (Hearing j stage) lost = Hearing j stage
standing (Overtaken i o) lost = Overtaken i o

-- the controller at the stage at which it truly stands
abbrev pub in_truth : ControllerState → Option Stage → ControllerState
in_truth c lost = record c { current = standing c.current lost }

-- the controller of device d
abbrev pub controller_at : State → ℕ → Listening
controller_at s d = record { state = in_truth (s.controllers d) (s.lost d); asked_at = s.asked_at d; lost = is_deaf s d }

-- what one that has lost a response does next
abbrev pub deaf_says : State → ℕ → Next
deaf_says s d = if is_waiting s d then Deaf (s.asked_at d + split_timeout) else Force
