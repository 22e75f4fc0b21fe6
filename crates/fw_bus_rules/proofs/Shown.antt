-- The device whose register is shown, by the machine and by the run, and the cables that begin a bus reset.
use Rattle.std.proofs.Common.{◌≡◌, ℕ, ◌≤◌, ◌==◌, ◌&&◌, nat_le, not, List, true, cond, Option, Some, None, Ok, Err, is_some, IsTrue, IsFalse, refl, ap, sym, subst, ◌∙◌, arith}
use Rattle.std.proofs.lemmas.Bool.{true≢false, ne_eqb}
use Rattle.std.proofs.lemmas.Bool.Decides.{nat_tests}
use Rattle.std.proofs.lemmas.Option.{same_Some}
use Rattle.std.specs.Option.{ok_or, option_map}
use Rattle.fw_terms.specs.declared.device.DeviceKind.{DeviceKind}
use Rattle.fw_terms.specs.declared.device.DeviceKind.TheVariants.{Relay}
use Rattle.fw_terms.specs.Devices.{code_of, has_link}
use Rattle.fw_terms.proofs.KindLaws.{linked_number as kind_number}
use Rattle.fw_csr.specs.declared.reply.Reply.{Reply}
use Rattle.fw_log_entry.specs.declared.entry.ResetEntry.{ResetEntry}
use Rattle.fw_log_entry.specs.declared.nodes.NodeRow.{NodeRow}
use Rattle.fw_tree.specs.declared.facts.End.{End}
use Rattle.fw_tree.specs.declared.TreeFault.{TreeFault}
use Rattle.fw_tree.specs.Topology.{IsFault}
use Rattle.fw_script_command.specs.declared.command.Command.TheVariants as Commands
use Rattle.fw_devices.specs.Network.{device_named, kind_at}
use Rattle.fw_devices.specs.Entries.{device_of, node_device}
use Rattle.fw_order.specs.declared.limits.TheConstants.{MOST_RESETS}
use Rattle.fw_order.specs.declared.rule.RuleFault.TheVariants.{OffBus}
use Rattle.fw_model_run.specs.State.{State, device_in, is_linked, is_relay, linked_number, manager_in, with_link}
use Rattle.fw_model_run.specs.Good.{IsGood, IsLatest}
use Rattle.fw_model_run.specs.Spaces.{read_at}
use Rattle.fw_model_run.specs.Rules.{Decides}
use Rattle.fw_model_run.specs.Named.{IsShown, is_joining}
use Rattle.fw_bus_state.specs.declared.machine.Machine.{Machine}
use Rattle.fw_bus_state.specs.Orders.{joins_in}
use Rattle.fw_bus_state.specs.Stands.{StandsFor, manager_device, read_in}
use Rattle.fw_bus_rules.proofs.ConnectionRules.{is_named}
use Rattle.fw_bus_rules.proofs.TransactionRules.{show_off}
use Rattle.fw_bus_state.proofs.Nodes.{is_node_same, read_same}

-- ---- the manager

-- the row of a node with a link is of no relay
is_no_relay : (kind : DeviceKind) (n : ℕ) → IsTrue (has_link kind) → is_some (cond (code_of kind == code_of Relay) None (Some n)) ≡ true
is_no_relay kind n link = ap is_some (kind_number kind n) ∙ ap (λ b. is_some (cond b (Some n) None)) link

-- the device that manages the bus, by its entry: it has a link
record Manages (latest : Option ResetEntry) (n d : ℕ) : Type 0 where
  device : device_in latest n ≡ Some d
  linked : IsTrue (is_some (linked_number latest d))

manages : (s : State) (latest : Option ResetEntry) (n : ℕ) → IsLatest latest s.declared s.account → manager_in latest ≡ Some n → (d : ℕ) × Manages latest n d
manages s None n h is = absurd (let z : ⊥ = cc in z)
manages s (Some e) n h is =
    let w = h.1.manager n is in
    let row = h.1.numbers w.0 n w.1 in
    let linked = is_no_relay (kind_at s.declared.kinds w.0) n w.2 in
    let relay = ap (λ (o : Option NodeRow). is_some (cond (is_relay o) None (Some n))) row in (
      w.0,
      record {
        device = ap (λ (o : Option NodeRow). option_map (λ (r : NodeRow). r.device) o) row;
        linked = ap (λ o. is_some (with_link e.nodes o)) w.1 ∙ (relay ∙ linked);
      },
    )

-- the manager is a node with a link
manager_linked : (s : State) (d : ℕ) → IsGood s → IsShown s None d → IsTrue (is_linked s d)
manager_linked s d g is =
    let w = manages s s.account.latest is.0 g.latest is.1 in
    let same : w.0 ≡ d = same_Some w.0 d (sym w.1.device ∙ is.2) in
    subst (λ d. IsTrue (is_linked s d)) same w.1.linked

manager_device_shown : (latest : Option ResetEntry) (d : ℕ) → manager_device latest ≡ Some d → (n : ℕ) × (manager_in latest ≡ Some n) × (device_in latest n ≡ Some d)
manager_device_shown None d h = absurd (let z : ⊥ = cc in z)
manager_device_shown (Some e) d h = go e.manager refl h
  where
    go : (o : Option ℕ) → e.manager ≡ o → device_of e.nodes o ≡ Some d → (n : ℕ) × (e.manager ≡ Some n) × (node_device e.nodes n ≡ Some d)
    go None is h = absurd (let z : ⊥ = cc in z)
    go (Some n) is h = (n, is, h)

-- the machine's manager is the one that is shown
pub manager_shown : (m : Machine) (s : State) (d : ℕ) → StandsFor m s → m.devices.manager ≡ Some d → IsShown s None d
manager_shown m s d st is = manager_device_shown s.account.latest d (sym st.devices.manager ∙ is)

-- if the machine has none, the run has none
pub no_manager : (m : Machine) (s : State) → IsGood s → StandsFor m s → m.devices.manager ≡ None → manager_in s.account.latest ≡ None
no_manager m s g st none = go (manager_in s.account.latest) refl
  where
    device : (latest : Option ResetEntry) (n d : ℕ) → manager_in latest ≡ Some n → device_in latest n ≡ Some d → manager_device latest ≡ Some d
    device None n d is h = absurd (let z : ⊥ = cc in z)
    device (Some e) n d is h = ap (device_of e.nodes) is ∙ h

    go : (o : Option ℕ) → manager_in s.account.latest ≡ o → manager_in s.account.latest ≡ None
    go None is = is
    go (Some n) is =
        let w = manages s s.account.latest n g.latest is in
        let there = device s.account.latest n w.0 is w.1.device in
        let z : ⊥ = cc (sym none ∙ st.devices.manager ∙ there) in
        absurd z

-- a device off the bus, or without a link, was named
pub show_unlinked : (s : State) (name : Option (List ℕ)) (offset d : ℕ) → IsGood s → IsShown s name d → IsFalse (is_linked s d) → Decides s (Commands.Show name offset) (Err OffBus)
show_unlinked s None offset d g is off = absurd (true≢false (sym (manager_linked s d g is) ∙ off))
show_unlinked s (Some name) offset d g is off = show_off s name offset d is off

-- ---- registers

pub is_read : (m : Machine) (s : State) (d offset : ℕ) → IsGood s → StandsFor m s → IsTrue (is_linked s d) → (read_in m d offset).rcode ≡ 0 → IsTrue ((read_at s d offset).rcode == 0)
is_read m s d offset g st linked h = ap (λ k. k == 0) (sym (ap (λ (r : Reply). r.rcode) (read_same m s g st d offset linked)) ∙ h)

pub is_not_read : (m : Machine) (s : State) (d offset : ℕ) → IsGood s → StandsFor m s → IsTrue (is_linked s d) → ((read_in m d offset).rcode ≡ 0 → ⊥) → IsFalse ((read_at s d offset).rcode == 0)
is_not_read m s d offset g st linked h = ne_eqb (read_at s d offset).rcode 0 (λ is. h (ap (λ (r : Reply). r.rcode) (read_same m s g st d offset linked) ∙ is))

-- ---- cables

pub fault_same : (m : Machine) (s : State) (x y : End) (f : TreeFault) → StandsFor m s → IsFault m.devices.topology x y f → IsFault s.declared.topology x y f
fault_same m s x y f st h = subst (λ t. IsFault t x y f) st.devices.topology h

pub fault_back : (m : Machine) (s : State) (x y : End) (f : TreeFault) → StandsFor m s → IsFault s.declared.topology x y f → IsFault m.devices.topology x y f
fault_back m s x y f st h = subst (λ t. IsFault t x y f) (sym st.devices.topology) h

-- a cable joins a device to the bus by the machine as by the run
pub joins_same : (m : Machine) (s : State) (x y : End) → IsGood s → StandsFor m s → joins_in m x y ≡ is_joining s x y
joins_same m s x y g st =
    let p = is_node_same m.devices.nodes s st.devices.nodes g x.device in
    let q = is_node_same m.devices.nodes s st.devices.nodes g y.device in
    λ i. cond (p i) (not (q i)) (q i)

-- it begins no bus reset, or there are few
pub few_resets : (m : Machine) (s : State) (x y : End) → IsGood s → StandsFor m s → IsFalse (joins_in m x y && nat_le MOST_RESETS m.resets)
    → MOST_RESETS ≤ s.resets → IsTrue (is_joining s x y) → ⊥
few_resets m s x y g st few most joins =
    let begins : joins_in m x y ≡ true = joins_same m s x y g st ∙ joins in
    let resets = st.clock.resets in
    let many : nat_le MOST_RESETS m.resets ≡ true = grind (arith, nat_tests) in
    true≢false (sym (λ i. begins i && many i) ∙ few)

-- ---- what a command names

pub some_of : {T : Type 0} (o : Option ℕ) (f : T) (d : ℕ) → ok_or o f ≡ Ok d → o ≡ Some d
some_of None f d e = absurd (let z : ⊥ = cc in z)
some_of (Some x) f d e = cc

pub none_of : {T : Type 0} (o : Option ℕ) (f k : T) → ok_or o f ≡ Err k → (o ≡ None) × (k ≡ f)
none_of None f k e = (refl, cc)
none_of (Some x) f k e = absurd (let z : ⊥ = cc in z)

pub shown_by_none : (m : Machine) (s : State) (name : Option (List ℕ)) (d : ℕ) → StandsFor m s → name ≡ None → m.devices.manager ≡ Some d → IsShown s name d
shown_by_none m s name d st is manager = subst (λ name. IsShown s name d) (sym is) (manager_shown m s d st manager)

pub shown_by_name : (m : Machine) (s : State) (name : Option (List ℕ)) (one : List ℕ) (d : ℕ) → StandsFor m s → name ≡ Some one → device_named m.devices.names one ≡ Some d → IsShown s name d
shown_by_name m s name one d st is named = subst (λ name. IsShown s name d) (sym is) (is_named m s one d st named)
