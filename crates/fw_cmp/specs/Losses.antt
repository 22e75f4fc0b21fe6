-- Lost responses: what a controller does that has not heard the response to its request.
use Rattle.std.specs.Prelude.{ℕ, ◌+◌, ◌≤◌, ◌<◌, ◌^◌, ◌≡◌, ◌⊎◌, nat_lt, if◌then◌else◌, Bool, true, false, IsTrue, IsFalse}
use Rattle.fw_csr.specs.declared.reply.Reply.{Reply}
use Rattle.fw_cmp.specs.declared.current.Current.TheVariants.{Hearing}
use Rattle.fw_cmp_jobs.specs.declared.directory.Directory.{Directory}
use Rattle.fw_cmp_jobs.specs.declared.job.Job.{Job}
use Rattle.fw_cmp.specs.declared.outcome.Next.{Next}
use Rattle.fw_cmp.specs.declared.outcome.Next.TheVariants.{Send, Deaf, Force}
use Rattle.fw_cmp_jobs.specs.declared.stage.Stage.{Stage}
use Rattle.fw_cmp.specs.Controllers.{ControllerState, first_state, IsHeard, IsStanding, Fits}
use Rattle.fw_cmp.specs.Resets.{after_hear, state_reset, after_second}
use Rattle.fw_cmp.specs.Turns.{next, after_next}

-- A controller: its slots and jobs, the cycle of its latest request, and whether the response to that was lost. It then keeps the
-- stage of the request.
pub record Listening : Type 0 where
  pub state : ControllerState
  pub asked_at : ℕ
  pub lost : Bool

-- what holds of it at all times
pub record ListeningFits (x : Listening) : Type 0 where
  pub state : Fits x.state
  pub asked_at : x.asked_at ≤ 2 ^ 52
  pub lost : IsTrue x.lost → IsStanding x.state.current

-- a controller that has just started, and has lost nothing
abbrev pub first_listening : Listening
first_listening = record { state = first_state; asked_at = 0; lost = false }

-- how many cycles a controller waits for a response (the split timeout, SPLIT_TIMEOUT; own use)
abbrev pub split_timeout : ℕ
split_timeout = 800

-- the cycle from which on a controller that has lost a response forces a bus reset
abbrev pub deaf_until : Listening → ℕ
deaf_until x = x.asked_at + split_timeout

-- no request is outstanding whose reply is still to be heard: it was heard, or lost, or a bus reset came
abbrev pub MayTurn : Listening → Type 0
MayTurn x = IsTrue x.lost ⊎ IsHeard x.state.current

-- a request is outstanding whose reply is still to be heard
abbrev pub Awaits : Listening → Type 0
Awaits x = IsFalse x.lost × IsStanding x.state.current

-- ---- its turn

-- a controller that has lost a response waits, and then forces a bus reset
abbrev pub deaf_turn : ℕ → ℕ → Next
deaf_turn now until = if nat_lt now until then Deaf until else Force

-- what it does next in this cycle
abbrev pub turn_of : ℕ → Directory → Listening → Next
turn_of now d x = if x.lost then deaf_turn now (deaf_until x) else next now d x.state

-- the cycle of the latest request
abbrev pub asked_by : ℕ → ℕ → Next → ℕ
asked_by now before (Send to r) = now
asked_by now before _ = before

-- the controller after its turn; one that has lost a response stays as it is
abbrev pub after_turn : ℕ → Directory → Listening → Listening
after_turn now d x = if x.lost then x else record x { state = after_next now d x.state; asked_at = asked_by now x.asked_at (next now d x.state) }

-- ---- what happens to it

-- the same, with other slots and jobs
abbrev pub with_state : Listening → ControllerState → Listening
with_state x c = record x { state = c }

-- the controller after it has heard the response
abbrev pub after_answer : Listening → Reply → Listening
after_answer x r = with_state x (after_hear x.state r)

-- the controller after the response to its request was lost
abbrev pub after_loss : Listening → Listening
after_loss x = record x { lost = true }

-- the controller after a bus reset, from which on it has lost nothing
abbrev pub after_bus_reset : ℕ → Listening → Listening
after_bus_reset epoch x = record x { state = state_reset epoch x.lost x.state; lost = false }

-- the controller after the end of the reclaim second
abbrev pub after_end : Listening → Listening
after_end x = with_state x (after_second x.state)

-- ---- the causes

-- A response was lost, the epoch has not risen since, and so many cycles have not gone by since the request.
pub record IsDeafUntil (now : ℕ) (x : Listening) (until : ℕ) : Type 0 where
  pub lost : x.lost ≡ true
  pub is : until ≡ deaf_until x
  pub early : now < deaf_until x

-- The same, and they have gone by.
pub record IsToForce (now : ℕ) (x : Listening) : Type 0 where
  pub lost : x.lost ≡ true
  pub over : deaf_until x ≤ now

-- ---- what it has done as one that heard

-- the controller as it stands at this stage, whose response it has not heard
abbrev pub standing_at : ControllerState → Job → Stage → ControllerState
standing_at c j s = record c { current = Hearing j s }
