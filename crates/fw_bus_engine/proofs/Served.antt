-- Once the standing request of a controller is carried out, its controller hears the reply, as in the run.
use Rattle.fw_bus_engine.proofs.Common.{◌≡◌, ℕ, ◌<◌, List, Some, refl, ap, sym, subst, IsTrue, update, Reply, Async, Awaits, half, Machine, TakesHalf, IsReady, is_living_in, ControllerTable, IsTable}
use Rattle.fw_bus_engine.proofs.Common.{count_of, states_of, dead_of, living_there}
use Rattle.fw_cmp.specs.Losses.{after_answer}
use Rattle.fw_bus_engine.specs.Serving.{Serves}
use Rattle.fw_bus_engine.proofs.HalfHears.{takes_hears}

-- the controllers are as before
pub same_table : (m now : Machine) (d : ℕ) (bytes : List ℕ) (r : Reply) → Serves m now d bytes r → now.controllers ≡ m.controllers
same_table m now d bytes r s = ap (λ (z : Machine). z.controllers) s.after

pub served_within : (m now : Machine) (d : ℕ) (bytes : List ℕ) (r : Reply) → IsReady m → IsTrue (is_living_in m d) → Serves m now d bytes r → d < count_of now.controllers
served_within m now d bytes r ready lives s = subst (λ (t : ControllerTable). d < count_of t) (sym (same_table m now d bytes r s)) (living_there m d ready lives).controller

pub served_awaits : (m now : Machine) (d : ℕ) (bytes : List ℕ) (r : Reply) → Awaits (states_of m.controllers d) → Serves m now d bytes r → Awaits (states_of now.controllers d)
served_awaits m now d bytes r stands s = subst (λ (t : ControllerTable). Awaits (states_of t d)) (sym (same_table m now d bytes r s)) stands

pub served_hears : (m now : Machine) (k : ControllerTable) (d : ℕ) (bytes : List ℕ) (r : Reply) → IsTrue (is_living_in m d) → Awaits (states_of m.controllers d) → (s : Serves m now d bytes r)
    → IsTable k (count_of now.controllers) (update (states_of now.controllers) d (after_answer (states_of now.controllers d) r)) (dead_of now.controllers)
    → TakesHalf half m (record now { controllers = k }) d (Some (Async s.response))
served_hears m now k d bytes r lives stands s table =
    let P : Machine → Type 0 = λ v.
    IsTable k (count_of v.controllers) (update (states_of v.controllers) d (after_answer (states_of v.controllers d) r)) (dead_of v.controllers)
    → TakesHalf half m (record v { controllers = k }) d (Some (Async s.response)) in
    subst P (sym s.after) (λ t. takes_hears m _ k d s.access s.to s.device s.own s.packet s.response r lives stands s.sent refl (sym s.carries) t) table
