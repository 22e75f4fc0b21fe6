-- A half step of a controller: its request is carried out and it hears the answer, or it says what it does next.
use Rattle.std.specs.Prelude.{ℕ, ◌+◌, ◌||◌, ◌&&◌, nat_lt, Bool, true, false, Option, Some, None, is_some, length}
use Rattle.std.specs.Option.{option_map}
use Rattle.fw_terms.specs.Tables.{update, find_to}
use Rattle.fw_async.specs.declared.packet.Head.{Head}
use Rattle.fw_log_entry.specs.declared.entry.Entry.{Entry}
use Rattle.fw_log_entry.specs.declared.entry.Entry.TheVariants.{Async}
use Rattle.fw_model_account.specs.Words.{node_of}
use Rattle.fw_cmp.specs.declared.current.Current.{Current}
use Rattle.fw_cmp.specs.declared.current.Current.TheVariants.{Nothing, Asking, Hearing, Overtaken}
use Rattle.fw_cmp.specs.declared.outcome.Next.{Next}
use Rattle.fw_cmp.specs.declared.outcome.Next.TheVariants.{Send, End, Idle, Waiting, Deaf, Force}
use Rattle.fw_cmp_jobs.specs.declared.request.Access.{Access}
use Rattle.fw_cmp.specs.Controllers.{ControllerState}
use Rattle.fw_cmp_jobs.specs.Requests.{access_of, request_of, addressee_of}
use Rattle.fw_cmp.specs.Losses.{asked_by, split_timeout}
use Rattle.fw_cmp.specs.Resets.{after_hear}
use Rattle.fw_cmp.specs.Turns.{next, after_next, is_busy}
use Rattle.fw_model_controllers.specs.Requests.{procedure_head}
use Rattle.fw_model_run.specs.State.{State, entered_by, while_talking, directory_of, is_living}
use Rattle.fw_model_run.specs.Dubs.{dub_between}
use Rattle.fw_model_run.specs.Entries.{outcome_entry}
use Rattle.fw_node.specs.Packets.{packet_of}
use Rattle.fw_model_run.specs.Spaces.{reply_from, answer_packet}

-- what is written, the controller then, and the cycle of its latest request
pub record HalfStep : Type 0 where
  pub says : Option Entry
  pub controller : ControllerState
  pub asked_at : ℕ

-- a packet of the controller of device d to a node
abbrev pub head_from : State → ℕ → ℕ → Head
head_from s d to = procedure_head to (node_of s.account.latest d)

-- ---- no request is outstanding: what the controller does next

-- what a controller writes in its turn: the request that it sends, or the outcome of its job
abbrev pub said : State → ℕ → Next → Option Entry
said s d (Send to q) = Some (Async (packet_of (head_from s d to) q))
said s d (End slot outcome) = Some (outcome_entry d slot outcome)
said s d Idle = None
said s d (Waiting until) = None
said s d (Deaf until) = None
said s d Force = None

-- the half step of a controller with no request outstanding
abbrev pub asks : State → ℕ → HalfStep
asks s d = record {
  says = said s d (next s.clock.cycle (directory_of s) (s.controllers d));
  controller = after_next s.clock.cycle (directory_of s) (s.controllers d);
  asked_at = asked_by s.clock.cycle (s.asked_at d) (next s.clock.cycle (directory_of s) (s.controllers d));
}

-- ---- a request is outstanding: the node that it went to carries it out

-- the half step of a controller whose request the node that it went to carries out
abbrev pub hears_from : State → ℕ → Option ℕ → Access → HalfStep
hears_from s d None a = record { says = None; controller = s.controllers d; asked_at = s.asked_at d }
hears_from s d (Some to) a = record {
  says = option_map Async (answer_packet s to (head_from s d to) (request_of a));
  controller = after_hear (s.controllers d) (reply_from s to (request_of a));
  asked_at = s.asked_at d;
}

-- the half step of a controller whose request is outstanding, by the node that it went to
abbrev pub hears : State → ℕ → Option Access → HalfStep
hears s d None = record { says = None; controller = s.controllers d; asked_at = s.asked_at d }
hears s d (Some a) = hears_from s d (addressee_of (directory_of s) a.target) a

-- ---- the half step of one that hears

-- the half step of a controller, by its current job
abbrev pub half_of : State → ℕ → Current → HalfStep
half_of s d Nothing = asks s d
half_of s d (Asking j stage) = asks s d
half_of s d (Hearing j stage) = hears s d (access_of j stage)
half_of s d (Overtaken slot outcome) = asks s d

-- the half step of the controller of a device
abbrev pub half : State → ℕ → HalfStep
half s d = half_of s d (s.controllers d).current

-- the controller of device d is this one
abbrev pub with_controller : State → ℕ → ControllerState → State
with_controller s d c = record s { controllers = update s.controllers d c }

-- the state after a half step
abbrev pub taken : State → ℕ → HalfStep → State
taken s d h = record s {
  account = entered_by s.account h.says;
  controllers = update s.controllers d h.controller;
  asked_at = update s.asked_at d h.asked_at;
  streams = while_talking (entered_by s.account h.says) s.streams;
  dub = dub_between s.account (entered_by s.account h.says) s.dub;
}

-- the state after a half step of the controller of a device
abbrev pub after_half : State → ℕ → State
after_half s d = taken s d (half s d)

-- ---- the half step of one that has lost a response

-- it is deaf: so many cycles have not gone by since its request, and it does nothing; then it forces a bus reset
abbrev pub is_waiting : State → ℕ → Bool
is_waiting s d = nat_lt s.clock.cycle (s.asked_at d + split_timeout)

-- ---- whether there is something to do

-- a request of the controller is outstanding
abbrev pub has_request : Current → Bool
has_request Nothing = false
has_request (Asking j stage) = false
has_request (Hearing j stage) = true
has_request (Overtaken slot outcome) = false

-- the controller of device d has something to do, or waits for an answer; one that has lost a response has a job, and so has to do
abbrev pub is_busy_at : State → ℕ → Bool
is_busy_at s d = has_request (s.controllers d).current || is_busy (next s.clock.cycle (directory_of s) (s.controllers d))

-- so is some living one
abbrev pub is_unsettled : State → Bool
is_unsettled s = is_some (find_to (length s.declared.names) (λ d. is_living s d && is_busy_at s d))
