-- The directory has the node number of a device whose controller lives.
use Rattle.fw_bus_engine.proofs.Common.{◌≡◌, ◌<◌, ◌≤◌, ℕ, Some, ap, sym, ◌∙◌, IsTrue, Directory, State, is_living, linked_number, number_in, IsGood, living_linked}
use Rattle.fw_bus_engine.proofs.Common.{Machine, StandsFor, IsReady, is_living_in, living_same, linked_on, number_of_node, on_within, node_at, few_nodes, arith}
use Rattle.fw_cmp_jobs.specs.Nodes.{node_of}
use Rattle.fw_model_run.proofs.Directories.{node_told, linked_number_is}
use Rattle.fw_model_run.proofs.Leads.{IsLinked, linked_of}
use Rattle.fw_bus_state.proofs.Latest.{number_low}

-- its number in the directory, and in the latest bus reset
pub record HasOwn (m : Machine) (d own : ℕ) : Type 0 where
  pub told : node_of m.directory d ≡ Some own
  pub number : (node_at m.devices.nodes d).number ≡ Some own
  pub low : own ≤ 62
  pub below : d < 63

has_own : (m : Machine) (s : State) (d : ℕ) → IsGood s → StandsFor m s → IsTrue (is_living_in m d) → (own : ℕ) × HasOwn m d own
has_own m s d g st lives =
    let living : IsTrue (is_living s d) = sym (living_same m s d g st) ∙ lives in
    let linked = living_linked s d living in
    let within = on_within m.devices.nodes s d st.devices.nodes g (linked_on s d linked) in
    let few = few_nodes m.devices.nodes s g st.devices.nodes in
    let x : IsLinked s d = linked_of s d g linked in
    let at : number_in s.account.latest d ≡ Some x.number = ap (λ o. number_in o d) x.is ∙ linked_number_is x.entry d x.number x.linked in (
      x.number,
      record {
        told = ap (λ (t : Directory). node_of t d) st.directory ∙ (node_told s d (omega (arith, within, few)) ∙ (ap (λ o. linked_number o d) x.is ∙ x.linked));
        number = number_of_node m.devices.nodes s d st.devices.nodes within ∙ at;
        low = number_low s d x.number g at;
        below = omega (arith, within, few);
      },
    )

pub own_known : (m : Machine) (d : ℕ) → IsReady m → IsTrue (is_living_in m d) → (own : ℕ) × HasOwn m d own
own_known m d r lives = has_own m r.state d r.good r.stands lives
