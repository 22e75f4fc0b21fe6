-- A half step of a controller that has lost no response: what it does, and what it leaves.
use Rattle.fw_bus_engine.proofs.Common.{◌≡◌, ℕ, List, Option, Some, None, ap, inl, inr, IsTrue, IsFalse, sym, ◌∙◌, false≢true, none-some, Pairs, Reply, Entry, Async, update, Current, Nothing}
use Rattle.fw_bus_engine.proofs.Common.{Asking, Hearing, Overtaken, IsHeard, ControllerTable, IsTable, Awaits, Listening, Listens}
use Rattle.fw_bus_engine.proofs.Common.{count_of, states_of, dead_of, Machine, IsReady, TakesHalf, half, is_living_in, refl}
use Rattle.fw_cmp.specs.Controllers.{IsStanding}
use Rattle.fw_cmp.specs.Losses.{MayTurn, after_answer}
use Rattle.fw_bus_engine.specs.Requesting.{TurnsController}
use Rattle.fw_bus_engine.specs.Serving.{Serves}
use Rattle.fw_bus_engine.proofs.HalfLives.{living_stays}
use Rattle.fw_bus_engine.proofs.Leaves.{half_asks, half_either, half_hears, half_not, with_one}
use Rattle.fw_bus_engine.proofs.Served.{served_hears}

-- ---- whether a request stands

not_both : (c : Current) → IsStanding c → IsHeard c → ⊥
not_both Nothing stands heard = stands
not_both (Asking j s) stands heard = stands
not_both (Hearing j s) stands heard = heard
not_both (Overtaken i o) stands heard = stands

-- one whose request stands does not say what it does next
awaits_not : (x : Listening) → Awaits x → MayTurn x → ⊥
awaits_not x awaits (inl lost) = false≢true (sym awaits.0 ∙ lost)
awaits_not x awaits (inr heard) = not_both x.state.current awaits.1 heard

-- one that has lost no response may, if none stands
pub may_listen : (x : Listening) → IsFalse x.lost → MayTurn x → Listens x
may_listen x quiet (inl lost) = absurd (false≢true (sym quiet ∙ lost))
may_listen x quiet (inr heard) = (quiet, heard)

-- ---- its half step

-- no request stands: it says what it does next
pub asks_turn : {m : Machine} {d : ℕ} {e : Option Entry} (k : ControllerTable) (w : Pairs) (x : Listening) → IsReady m → IsTrue (is_living_in m d) → Listens (states_of m.controllers d)
    → k ≡ with_one m.controllers d x → TakesHalf half m (record m { controllers = k; wire = w }) d e → (e ≡ None → record m { controllers = k; wire = w } ≡ m)
    → TurnsController m (record m { controllers = k; wire = w }) d e
asks_turn {m} {d} {e} k w x ready lives heard put takes silent = record {
  takes = takes;
  living = living_stays m (record m { controllers = k; wire = w }) d e ready lives heard.0 takes;
  time = refl;
  half_steps = refl;
  names = refl;
  leaves = λ asks may. half_either d asks m (record m { controllers = k; wire = w }) (half_asks m k w d x put);
  silent = silent;
}

-- one stands, and is carried out: it hears the reply
pub hears_turn : (m now : Machine) (k : ControllerTable) (d : ℕ) (bytes : List ℕ) (r : Reply) → IsReady m → IsTrue (is_living_in m d) → Awaits (states_of m.controllers d)
    → (s : Serves m now d bytes r)
    → IsTable k (count_of now.controllers) (update (states_of now.controllers) d (after_answer (states_of now.controllers d) r)) (dead_of now.controllers)
    → k ≡ with_one now.controllers d (after_answer (states_of now.controllers d) r) → TurnsController m (record now { controllers = k }) d (Some (Async s.response))
hears_turn m now k d bytes r ready lives awaits s table put =
    let takes = served_hears m now k d bytes r lives awaits s table in
    record {
      takes = takes;
      living = living_stays m (record now { controllers = k }) d (Some (Async s.response)) ready lives awaits.0 takes;
      time = ap (λ (z : Machine). z.cycle) s.after;
      half_steps = ap (λ (z : Machine). z.half_steps) s.after;
      names = ap (λ (z : Machine). z.devices.names) s.after;
      leaves = λ asks may. half_not d asks m (record now { controllers = k }) (λ t. awaits_not (states_of m.controllers d) awaits (may t)) (half_hears m now k d bytes r _ s put);
      silent = λ none. absurd (none-some (Async s.response) (sym none));
    }
