-- Which nodes have a link, and which controllers live: by the machine and by the run.
use Rattle.fw_bus_state.proofs.Common.{◌≡◌, inl, inr, nat_lt, ℕ, ◌<◌, ◌≤◌, ◌&&◌, ◌||◌, ◌==◌, List, [], ◌∷◌, length, Bool, true, false, cond, Option, Some, None, is_some, refl, ap, sym, subst, ◌∙◌}
use Rattle.fw_bus_state.proofs.Common.{arith, IsTrue, IsFalse, DeviceKind, Relay, Current, Nothing, Asking, Hearing}
use Rattle.fw_bus_state.proofs.Common.{Overtaken, Listening, next, ResetEntry, Network, kind_at, node_number, State, is_on}
use Rattle.fw_bus_state.proofs.Common.{number_in, numbers_to, IsGood, IsLatest, is_busy_at, Machine, StandsFor, is_living_in, count_of, states_of}
use Rattle.std.proofs.Common.{not}
use Rattle.fw_terms.specs.Devices.{code_of, has_link}
use Rattle.fw_terms.proofs.KindLaws.{linked_number as kind_number}
use Rattle.fw_terms.specs.Tables.{find_to}
use Rattle.fw_terms.proofs.Tables.{IsFirst, find_to_is}
use Rattle.fw_cmp.specs.Controllers.{IsHeard, IsStanding}
use Rattle.fw_cmp.specs.Losses.{MayTurn, Awaits, turn_of, deaf_turn, deaf_until}
use Rattle.fw_cmp.specs.declared.outcome.Next.TheVariants.{Deaf, Force}
use Rattle.fw_cmp.specs.Turns.{is_busy}
use Rattle.fw_devices.specs.Network.{is_node}
use Rattle.fw_tree.proofs.ReachLaws.{sound_made}
use Rattle.fw_model_run.specs.State.{is_linked, is_living, is_relay, living, linked_number, with_link}
use Rattle.fw_model_run.specs.HalfSteps.{has_request, is_unsettled}
use Rattle.fw_model_run.proofs.Buses.{linked_small}
use Rattle.fw_model_run.proofs.Leads.{linked_of}
use Rattle.fw_model_run.proofs.Idle.{deaf_busy}
use Rattle.fw_model_run.proofs.Truth.{quiet_at}
use Rattle.fw_bus_state.specs.Stands.{HasDevices, IsReady, is_linked_in, living_in, devices_at}
use Rattle.fw_bus_state.specs.Tables.{dead_of}
use Rattle.fw_bus_state.proofs.Nodes.{is_node_same, on_within, linked_on}

-- a relay alone has no link
link_number : (k : DeviceKind) (n : ℕ) → is_some (cond (code_of k == code_of Relay) None (Some n)) ≡ has_link k
link_number k n = ap is_some (kind_number k n) ∙ by (has_link k)
  where
    by : (b : Bool) → is_some (cond b (Some n) None) ≡ b
    by true = refl
    by false = refl

-- in a good state a device on the bus has a link exactly if its kind has one
linked_by_kind : (s : State) (d : ℕ) → IsGood s → (is_on s d && has_link (kind_at s.declared.kinds d)) ≡ is_linked s d
linked_by_kind s d g = go s.account.latest g.latest
  where
    of_number : (e : ResetEntry) → IsLatest (Some e) s.declared s.account → (o : Option ℕ) → node_number e.nodes d ≡ o
        → (is_some o && has_link (kind_at s.declared.kinds d)) ≡ is_some (with_link e.nodes o)
    of_number e h None at = refl
    of_number e h (Some n) at = sym (link_number (kind_at s.declared.kinds d) n) ∙ sym (ap (λ r. is_some (cond (is_relay r) None (Some n))) (h.1.numbers d n at))

    go : (o : Option ResetEntry) → IsLatest o s.declared s.account → (is_some (number_in o d) && has_link (kind_at s.declared.kinds d)) ≡ is_some (linked_number o d)
    go None h = refl
    go (Some e) h = of_number e h (node_number e.nodes d) refl

pub linked_same : (n : Network) (s : State) (d : ℕ) → IsGood s → HasDevices n (devices_at s) → is_linked_in n d ≡ is_linked s d
linked_same n s d g h =
    let on : is_node n.nodes d ≡ is_on s d = is_node_same n.nodes s h.nodes g d in
    let kinds = h.kinds in
    (λ i. on i && has_link (kind_at (kinds i) d)) ∙ linked_by_kind s d g

pub living_same : (m : Machine) (s : State) (d : ℕ) → IsGood s → StandsFor m s → is_living_in m d ≡ is_living s d
living_same m s d g st =
    let linked = linked_same m.devices s d g st.devices in
    let dead = st.table.dead_are in
    λ i. linked i && not (dead i d)

-- the living controllers are the same, in the same order
pub living_list : (m : Machine) (s : State) → IsGood s → StandsFor m s → living_in m ≡ living s
living_list m s g st =
    let names = st.devices.names in
    λ i. numbers_to (length (names i)) (λ d. living_same m s d g st i)

-- a device that has a link, on the bus, is declared
pub linked_within : (m : Machine) (s : State) (d : ℕ) → IsGood s → StandsFor m s → IsTrue (is_linked s d) → d < count_of m.controllers
linked_within m s d g st linked =
    let low = on_within m.devices.nodes s d st.devices.nodes g (linked_on s d linked) in
    let size = st.devices.nodes.size in
    let count = st.table.count_is in
    omega arith

-- it has one of the numbers 0 to 62
pub linked_low : (s : State) (d : ℕ) → IsGood s → IsTrue (is_linked s d) → d < 63
linked_low s d g linked = let x = linked_of s d g linked in linked_small s x.entry d x.number x.shows.1 x.linked

-- ---- of a machine that is ready

-- a device with a link is declared, and has its node and its controller
pub record IsThere (m : Machine) (d : ℕ) : Type 0 where
  pub controller : d < count_of m.controllers
  pub node : d < length m.devices.nodes
  pub name : d < length m.devices.names
  pub low : d < 63

pub linked_there : (m : Machine) (d : ℕ) → IsReady m → IsTrue (is_linked_in m.devices d) → IsThere m d
linked_there m d r linked =
    let s = r.state in
    let on : IsTrue (is_linked s d) = subst IsTrue (linked_same m.devices s d r.good r.stands.devices) linked in
    let within = linked_within m s d r.good r.stands on in
    let count = r.stands.table.count_is in
    let size = r.stands.devices.nodes.size in
    let names : length m.devices.names ≡ length s.declared.names = ap length r.stands.devices.names in
    record { controller = within; node = omega arith; name = omega arith; low = linked_low s d r.good on }

-- a device whose controller lives has a link
pub living_in_linked : (m : Machine) (d : ℕ) → IsTrue (is_living_in m d) → IsTrue (is_linked_in m.devices d)
living_in_linked m d lives = first (is_linked_in m.devices d) (not (dead_of m.controllers d)) lives
  where
    first : (a b : Bool) → IsTrue (a && b) → IsTrue a
    first true b e = refl
    first false b e = e

pub living_there : (m : Machine) (d : ℕ) → IsReady m → IsTrue (is_living_in m d) → IsThere m d
living_there m d r lives = linked_there m d r (living_in_linked m d lives)

-- a device that is declared is below 63
pub few_devices : (m : Machine) → IsReady m → length m.devices.names ≤ 63
few_devices m r =
    let names : length m.devices.names ≡ length r.state.declared.names = ap length r.stands.devices.names in
    let few = (sound_made r.state.declared.topology r.good.declared.made).few in
    let named = r.good.declared.named in
    omega arith

-- no device is there if their count is 0
pub no_names : (names : List (List ℕ)) (n : ℕ) → n ≡ length names → n ≡ 0 → names ≡ []
no_names [] n same zero_ = refl
no_names (x ∷ xs) n same zero_ = absurd (omega (arith, same, zero_))

-- some device is there if their count is not 0
pub some_names : (names : List (List ℕ)) (n : ℕ) → n ≡ length names → (n ≡ 0 → ⊥) → 0 < length names
some_names names n same some = grind (arith, same, some)

-- ---- whether there is something to do

-- what the controller says of itself
pub busy_same : (m : Machine) (s : State) (d : ℕ) (r : Bool) → IsGood s → StandsFor m s
    → (MayTurn (states_of m.controllers d) → r ≡ is_busy (turn_of m.cycle m.directory (states_of m.controllers d)))
    → (Awaits (states_of m.controllers d) → IsTrue r) → r ≡ is_busy_at s d
busy_same m s d r g st turns awaits = by_loss (states_of m.controllers d).lost refl
  where
    x : Listening
    x = states_of m.controllers d

    waits : (b : Bool) (until : ℕ) → is_busy (cond b (Deaf until) Force) ≡ true
    waits true until = refl
    waits false until = refl

    -- one that has lost a response is busy
    by_deaf : IsTrue x.lost → r ≡ is_busy_at s d
    by_deaf e =
        let busy : is_busy (turn_of m.cycle m.directory x) ≡ true =
        ap (λ b. is_busy (cond b (deaf_turn m.cycle (deaf_until x)) (next m.cycle m.directory x.state))) e ∙ waits (nat_lt m.cycle (deaf_until x)) (deaf_until x) in
        turns (inl e) ∙ (busy ∙ sym (deaf_busy s d g (sym (ap (λ (c : ℕ → Listening). (c d).lost) st.table.states_are) ∙ e)))

    -- one that has not is as the run has it
    same : IsFalse x.lost → x ≡ record { state = s.controllers d; asked_at = s.asked_at d; lost = false }
    same e = ap (λ (c : ℕ → Listening). c d) st.table.states_are ∙ quiet_at s d (sym (ap (λ (c : ℕ → Listening). (c d).lost) st.table.states_are) ∙ e)

    heard : IsFalse x.lost → (c : Current) → x.state.current ≡ c → r ≡ (has_request c || is_busy (turn_of m.cycle m.directory x))
    heard e Nothing f = turns (inr (subst IsHeard (sym f) tt))
    heard e (Asking j stage) f = turns (inr (subst IsHeard (sym f) tt))
    heard e (Hearing j stage) f = awaits (e, subst IsStanding (sym f) tt)
    heard e (Overtaken slot outcome) f = turns (inr (subst IsHeard (sym f) tt))

    by_loss : (b : Bool) → x.lost ≡ b → r ≡ is_busy_at s d
    by_loss true e = by_deaf e
    by_loss false e =
        let is = same e in
        let cycle = st.clock.cycle in
        let directory = st.directory in
        heard e x.state.current refl ∙ (λ i. has_request (is i).state.current || is_busy (turn_of (cycle i) (directory i) (is i)))

-- a living controller that has something to do
pub unsettled_at : (s : State) (d : ℕ) → d < length s.declared.names → is_living s d ≡ true → is_busy_at s d ≡ true → is_unsettled s ≡ true
unsettled_at s d lt lives busy =
    go (find_to (length s.declared.names) (λ k. is_living s k && is_busy_at s k))
    (find_to_is (length s.declared.names) (λ k. is_living s k && is_busy_at s k))
  where
    go : (o : Option ℕ) → IsFirst (length s.declared.names) (λ k. is_living s k && is_busy_at s k) o → is_some o ≡ true
    go None first = let e : (is_living s d && is_busy_at s d) ≡ false = first d lt in grind (arith, e, lives, busy)
    go (Some k) first = refl

-- none has
pub settled_all : (s : State) → ((d : ℕ) → d < length s.declared.names → (is_living s d && is_busy_at s d) ≡ false) → is_unsettled s ≡ false
settled_all s none =
    go (find_to (length s.declared.names) (λ k. is_living s k && is_busy_at s k))
    (find_to_is (length s.declared.names) (λ k. is_living s k && is_busy_at s k))
  where
    go : (o : Option ℕ) → IsFirst (length s.declared.names) (λ k. is_living s k && is_busy_at s k) o → is_some o ≡ false
    go None first = refl
    go (Some k) first = let e : (is_living s k && is_busy_at s k) ≡ false = none k first.0 in absurd (grind (arith, e, first.1))
