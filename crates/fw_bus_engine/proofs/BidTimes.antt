-- So many half steps of one candidate.
use Rattle.fw_bus_engine.proofs.Common.{◌≡◌, ℕ, ◌+◌, ◌<◌, ◌≤◌, List, [], ◌∷◌, Option, Some}
use Rattle.fw_bus_engine.proofs.Common.{None, is_some, refl, ap, sym, ◌∙◌, arith, IsTrue, Ok, IsErr, Result, Entry, Timed}
use Rattle.fw_bus_engine.proofs.Common.{CandidateState, MOST_HALF_STEPS, Contend, Transition, times, at_most, IsGood}
use Rattle.fw_bus_engine.proofs.Common.{State, manager_in, step_beside, update_new, Machine, Performs, Performed}
use Rattle.fw_bus_engine.proofs.Common.{TakesAction, between, IsReady}
use Rattle.fw_model_run.specs.Beside.{IsBeside}
use Rattle.fw_model_run.specs.Bidding.{bid_step, bidden, is_candidate}
use Rattle.fw_model_run.proofs.Candidates.{candidate_manager}
use Rattle.fw_model_run.proofs.Steps.{step_good}
use Rattle.fw_bus_state.specs.Candidates.{candidate_in}
use Rattle.fw_bus_state.proofs.Besides.{candidate_same}
use Rattle.fw_bus_state.proofs.Standing.{counted_stands}
use Rattle.fw_bus_engine.specs.Requesting.{TurnsCandidate}
use Rattle.fw_bus_engine.proofs.Common.{counted}
use Rattle.fw_model_run.proofs.Grows.{Number}
use Rattle.fw_bus_engine.proofs.Times.{Repeats, repeats_cut}

-- ---- one half step

-- the device is a candidate
abbrev Contends : ℕ → State → Type 0
Contends d s = IsGood s × IsBeside s × (s.transaction ≡ None) × IsTrue (is_candidate s d)

-- and it is one still
one_bid : (s t : State) (d : ℕ) (out : List Timed) → IsGood s → IsBeside s → Transition s (Contend d) out t → Contends d t × (t.half_steps ≡ s.half_steps + 1)
one_bid s t d out g beside f =
    let b = f.found in
    let is : t ≡ bidden s d (bid_step s d b.manager b.candidate) = f.state_is in (
      (
        step_good s (Contend d) out t g f,
        step_beside s (Contend d) out t g beside f,
        ap (λ (z : State). z.transaction) is ∙ f.waits,
        ap (λ (z : State). is_candidate z d) is ∙ ap is_some (update_new s.election.candidates d (Some (bid_step s d b.manager b.candidate).candidate)),
      ),
      ap (λ (z : State). z.half_steps) is,
    )

-- it is one of the machine still
pub bid_stays : (m now : Machine) (d cycle : ℕ) (e : Option Entry) → IsReady m → TakesAction (Contend d) m now cycle e → IsTrue (is_some (candidate_in now.candidates d))
bid_stays m now d cycle e r turns =
    let x = turns.shown r.state r.good r.stands in
    let after = one_bid r.state x.0 d (at_most cycle e) r.good r.stands.around x.1 in
    ap is_some (candidate_same now x.0 d x.2) ∙ after.0.3

-- and it is counted
pub bid_counted : {m now : Machine} {d : ℕ} {e : Option Entry} → TurnsCandidate m now d e → TakesAction (Contend d) m (record now { half_steps = now.half_steps + 1 }) now.cycle e
bid_counted {now = now} x = record { shown = λ s g st. let y = x.bids s g st in (counted y.0 1, y.1, counted_stands now y.0 1 y.2) }

-- ---- so many

can_bid : (s : State) (d : ℕ) → IsGood s → IsBeside s → s.transaction ≡ None → IsTrue (is_candidate s d) → s.half_steps < MOST_HALF_STEPS → (out : List Timed) × (t : State)
    × Transition s (Contend d) out t
can_bid s d g beside free one few = of_candidate (s.election.candidates d) refl one
  where
    manager : Number (manager_in s.account.latest)
    manager = candidate_manager s d beside.candidates one

    of_candidate : (o : Option CandidateState) → s.election.candidates d ≡ o → IsTrue (is_some o) → (out : List Timed) × (t : State) × Transition s (Contend d) out t
    of_candidate None e there = absurd (grind (arith, there))
    of_candidate (Some c) e there = (
      at_most s.clock.cycle (bid_step s d manager.number c).says,
      bidden s d (bid_step s d manager.number c),
      record {
        found = record { candidate = c; manager = manager.number };
        waits = free;
        may = record { lives = beside.candidates.lives d one; few = few; candidate = e; manages = manager.is };
        out_is = refl;
        state_is = refl;
      },
    )

bids_repeat : (d : ℕ) → Repeats (Contend d) (Contends d)
bids_repeat d = record { one = λ s p few. can_bid s d p.0 p.1 p.2 p.3 few; again = λ s t out p f. one_bid s t d out p.0 p.1 f }

-- a half step was cut off
pub bids_cut : {T E U F V G : Type 0} (d i : ℕ) {m mid now : Machine} {a b c : Option (List ℕ)} {k l n : ℕ} {u : T} (count : ℕ) (q : Result U F) (r : Result V G)
    → i < count → IsTrue (is_some (candidate_in m.candidates d)) → m.half_steps + count ≤ MOST_HALF_STEPS → IsErr q → IsErr r
    → Performed {T = T} {E = E} (Performs (times i (Contend d))) m mid (between a b k l) (Ok u) → Performed (Performs (Contend d ∷ [])) mid now (between b c l n) q
    → Performed (Performs (times count (Contend d))) m now (between a c k n) r
bids_cut d i {m} count q r lt one =
    repeats_cut (Contend d) (Contends d) i count q r (bids_repeat d) (λ s g st. (g, st.around, st.answered, sym (ap is_some (candidate_same m s d st)) ∙ one)) lt
