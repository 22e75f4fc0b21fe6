-- What every state of a run has beside what makes it good stays through each action.
use Rattle.fw_model_run.proofs.Common.{ℕ, List, DeviceKind, Timed, Action, Transition, IsGood, State, first_state, with_device}
use Rattle.fw_model_run.specs.Beside.{IsBeside}
use Rattle.fw_model_run.proofs.Candidates.{first_candidates, step_candidates, more_candidates}
use Rattle.fw_model_run.proofs.Hearing.{first_hearing, step_hearing}

pub first_beside : IsBeside first_state
first_beside = record { candidates = first_candidates; hearing = first_hearing }

pub more_beside : (s : State) (name : List ℕ) (kind : DeviceKind) (ports speed : ℕ) → IsGood s → IsBeside s → IsBeside (record s { declared = with_device s.declared name kind ports speed })
more_beside s name kind ports speed g h = record {
  candidates = more_candidates s name kind ports speed g h.candidates;
  hearing = h.hearing;
}

pub step_beside : (s : State) (a : Action) (out : List Timed) (t : State) → IsGood s → IsBeside s → Transition s a out t → IsBeside t
step_beside s a out t g h x = record { candidates = step_candidates s a out t g h.candidates x; hearing = step_hearing s a out t g h.hearing x }
