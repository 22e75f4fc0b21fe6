-- What a call of the machine did, by the run.
use Rattle.std.specs.Prelude.{ℕ, ◌≡◌, ◌+◌, ◌*◌, ◌⊎◌, List, [], ◌∷◌, ◌++◌, length, Option, Some, None, Ok, Err, IsFalse}
use Rattle.std.specs.declared.result.Result.{Result}
use Rattle.fw_outside.specs.Outside.{Grows}
use Rattle.fw_log_entry.specs.declared.entry.Entry.{Entry}
use Rattle.fw_log_entry.specs.declared.entry.Timed.{Timed}
use Rattle.fw_log_entry.specs.Log.{epoch_after, latest_epoch, entry_bytes}
use Rattle.fw_log_entry.specs.declared.version.Version.TheVariants.{Two}
use Rattle.fw_model_run.specs.Giving.{at_most, log_bytes}
use Rattle.fw_model_run.specs.State.{State, epoch_of, is_living, living, numbers_to}
use Rattle.fw_model_run.specs.HalfSteps.{HalfStep as Half, after_half, is_unsettled}
use Rattle.fw_model_run.specs.Actions.{Action, Unsettled}
use Rattle.fw_model_run.specs.Deeds.{Transition, Transitions}
use Rattle.fw_model_run.specs.Carrying.{half_steps_of, Rounds}
use Rattle.fw_model_run.specs.Good.{IsGood}
use Rattle.fw_bus_state.specs.Faults.{CountsFaults}
use Rattle.fw_bus_state.specs.Giving.{Sides}
use Rattle.fw_bus_state.specs.Stands.{StandsFor}
use Rattle.fw_bus_state.specs.declared.machine.Machine.{Machine}

-- what is carried out from a state: actions, all that they write, and the state that they lead to
abbrev pub Execution : Type 1
Execution = State → List Action → List Timed → State → Type 0

-- these actions
abbrev pub Performs : List Action → Execution
Performs xs s ys out t = (ys ≡ xs) × Transitions s xs out t

-- one half step of each living controller of the first devices, in order of declaration
abbrev pub RoundTo : ℕ → Execution
RoundTo n s ys out t = (ys ≡ half_steps_of (numbers_to n (is_living s))) × Transitions s (half_steps_of (numbers_to n (is_living s))) out t

-- one half step of each living controller, in order of declaration
abbrev pub OneRound : Execution
OneRound s ys out t = RoundTo (length s.declared.names) s ys out t

-- so many rounds
abbrev pub SomeRounds : ℕ → Execution
SomeRounds n s ys out t = Rounds n s ys out t

-- first these rounds, whatever rounds follow
abbrev pub RoundsFirst : ℕ → Execution
RoundsFirst i s ys out m =
    (living m ≡ living s) × (m.half_steps ≡ s.half_steps + i * length (living s)) × (m.transaction ≡ None)
    × ((k : ℕ) (zs : List Action) (more : List Timed) (t : State) → Rounds k m zs more t → Rounds (i + k) s (ys ++ zs) (out ++ more) t)

-- if some controller has something to do, or waits for an answer, that is written, and else nothing is done
abbrev pub TellsUnsettled : Execution
TellsUnsettled s ys out t = ((ys ≡ []) × IsFalse (is_unsettled s) × (out ≡ []) × (t ≡ s)) ⊎ ((ys ≡ Unsettled ∷ []) × Transitions s ys out t)

-- ---- before an entry is written

-- one action
pub record TakesAction (a : Action) (m now : Machine) (cycle : ℕ) (e : Option Entry) : Type 0 where
  pub shown : (s : State) → IsGood s → StandsFor m s → (t : State) × Transition s a (at_most cycle e) t × StandsFor now t

-- two actions
pub record TakesTwoActions (a b : Action) (m now : Machine) (cycle : ℕ) (e f : Entry) : Type 0 where
  pub shown : (s : State) → IsGood s → StandsFor m s → (mid t : State) × Transition s a (at_most cycle (Some e)) mid × Transition mid b (at_most cycle (Some f)) t × StandsFor now t

-- what a controller does in a half step of device d, and the state after it
abbrev pub TakesHalf : (State → ℕ → Half) → Machine → Machine → ℕ → Option Entry → Type 0
TakesHalf step m now d e = (s : State) → IsGood s → StandsFor m s → (e ≡ (step s d).says) × StandsFor now (after_half s d)

-- ---- what a call did

-- A prefix of what was to be done was carried out and wrote the entries given so far, and a prefix of the entry that came next was
-- appended. All of it could have been carried out.
pub record CutOff (P : List Action → List Timed → State → Type 0) (s : State) (held after : Option (List ℕ)) : Type 0 where
  pub done : List Action
  pub later : List Action
  pub all : List Timed
  pub last : State
  pub whole : P (done ++ later) all last
  pub goes : Transitions s (done ++ later) all last
  pub given : List Timed
  pub next : Timed
  pub state : State
  pub steps : Transitions s done (given ++ next ∷ []) state
  pub prefix : List ℕ
  pub rest : List ℕ
  pub parts : entry_bytes Two (epoch_after (latest_epoch (epoch_of s.account.latest) given) next.what) next ≡ prefix ++ rest
  pub appended : Grows held after (log_bytes (epoch_of s.account.latest) given ++ prefix)

-- all was done and written
pub record Completed (P : List Action → List Timed → State → Type 0) (s : State) (now : Machine) (held after : Option (List ℕ)) : Type 0 where
  pub actions : List Action
  pub out : List Timed
  pub state : State
  pub whole : P actions out state
  pub steps : Transitions s actions out state
  pub stands : StandsFor now state
  pub grew : Grows held after (log_bytes (epoch_of s.account.latest) out)

-- all was done and written, or it was cut off
abbrev pub CompletedOrCutOff : {T E : Type 0} → (List Action → List Timed → State → Type 0) → State → Machine → Option (List ℕ) → Option (List ℕ) → Result T E → Type 0
CompletedOrCutOff P s now held after (Ok _) = Completed P s now held after
CompletedOrCutOff P s now held after (Err _) = CutOff P s held after

-- what a call did, from any good state that the machine stood for
pub record Performed {T E : Type 0} (P : Execution) (m now : Machine) (sides : Sides) (result : Result T E) : Type 0 where
  pub faults : CountsFaults sides.count sides.counts result
  pub shown : (s : State) → IsGood s → StandsFor m s → CompletedOrCutOff (P s) s now sides.held sides.after result
