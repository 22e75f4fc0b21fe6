-- What the machine shows is what the state has.
use Rattle.std.proofs.Common.{◌≡◌, ℕ, zero, suc, ◌<◌, ◌≤◌, ◌==◌, ◌&&◌, Bool, true, false, List, [], ◌∷◌, length, slice_get, get_or, Option, Some, None, refl, ap, sym, ◌∙◌, arith}
use Rattle.std.specs.Prelude.{option_and_then}
use Rattle.fw_terms.specs.declared.device.DeviceKind.{DeviceKind}
use Rattle.fw_cmp.specs.Controllers.{slot_at, break_waits}
use Rattle.fw_cmp.specs.Losses.{Listening}
use Rattle.fw_csr.specs.declared.reply.Reply.{Reply}
use Rattle.fw_devices.specs.Network.{device_named, is_node, kind_at, node_at}
use Rattle.fw_devices.proofs.NetworkLaws.{kind_of_node}
use Rattle.fw_bus_state.specs.declared.machine.Machine.{Machine}
use Rattle.fw_bus_state.specs.Stands.{IsReady, StandsFor, is_linked_in, read_in}
use Rattle.fw_bus_state.specs.Tables.{states_of}
use Rattle.fw_bus_state.proofs.Living.{linked_same}
use Rattle.fw_bus_state.proofs.Nodes.{is_node_same, read_same}
use Rattle.fw_model_run.specs.Good.{IsGood}
use Rattle.fw_model_run.specs.Spaces.{read_at}
use Rattle.fw_model_run.specs.State.{State, is_deaf, is_linked, is_on}
use Rattle.fw_check_causes.specs.Causes.{is_written, name_at, of_named}

-- ---- names

pub named_same : (m : Machine) (s : State) (name : List ℕ) → StandsFor m s → device_named m.devices.names name ≡ device_named s.declared.names name
named_same m s name st = ap (λ (names : List (List ℕ)). device_named names name) st.devices.names

pub of_none : {A : Type 0} (m : Machine) (s : State) (name : List ℕ) (f : ℕ → Option A) → StandsFor m s → device_named m.devices.names name ≡ None → of_named s name f ≡ None
of_none m s name f st e = ap (λ (o : Option ℕ). option_and_then f o) (sym (named_same m s name st) ∙ e)

pub of_some : {A : Type 0} (m : Machine) (s : State) (name : List ℕ) (d : ℕ) (f : ℕ → Option A) → StandsFor m s → device_named m.devices.names name ≡ Some d → of_named s name f ≡ f d
of_some m s name d f st e = ap (λ (o : Option ℕ). option_and_then f o) (sym (named_same m s name st) ∙ e)

get_there : (xs : List (List ℕ)) (d : ℕ) → d < length xs → slice_get xs d ≡ Some (get_or xs d [])
get_there [] d lt = absurd (omega arith)
get_there (x ∷ xs) zero lt = refl
get_there (x ∷ xs) (suc d) lt = get_there xs d (omega arith)

get_gone : (xs : List (List ℕ)) (d : ℕ) → length xs ≤ d → slice_get xs d ≡ None
get_gone [] d past = refl
get_gone (x ∷ xs) zero past = absurd (omega arith)
get_gone (x ∷ xs) (suc d) past = get_gone xs d (omega arith)

pub name_there : (m : Machine) (s : State) (d : ℕ) → StandsFor m s → d < length m.devices.names → name_at s d ≡ Some (get_or m.devices.names d [])
name_there m s d st lt = ap (λ (names : List (List ℕ)). slice_get names d) (sym st.devices.names) ∙ get_there m.devices.names d lt

pub name_gone : (m : Machine) (s : State) (d : ℕ) → StandsFor m s → length m.devices.names ≤ d → name_at s d ≡ None
name_gone m s d st past = ap (λ (names : List (List ℕ)). slice_get names d) (sym st.devices.names) ∙ get_gone m.devices.names d past

-- ---- devices

pub kind_same : (m : Machine) (s : State) (d : ℕ) → StandsFor m s → (node_at m.devices.nodes d).kind ≡ kind_at s.declared.kinds d
kind_same m s d st = sym (kind_of_node m.devices.nodes d) ∙ ap (λ (kinds : List DeviceKind). kind_at kinds d) st.devices.kinds

pub on_same : (m : Machine) (s : State) (d : ℕ) → IsGood s → StandsFor m s → is_node m.devices.nodes d ≡ is_on s d
on_same m s d g st = is_node_same m.devices.nodes s st.devices.nodes g d

-- a device that is declared has a node
pub declared_node : (m : Machine) (d : ℕ) → IsReady m → d < length m.devices.names → d < length m.devices.nodes
declared_node m d r lt = let names = ap length r.stands.devices.names in let nodes = r.stands.devices.nodes.size in omega (arith, names, nodes, lt)

-- ---- controllers

pub lost_same : (m : Machine) (s : State) (d : ℕ) → StandsFor m s → (states_of m.controllers d).lost ≡ is_deaf s d
lost_same m s d st = ap (λ (f : ℕ → Listening). (f d).lost) st.table.states_are

pub slot_same : (m : Machine) (s : State) (d i : ℕ) → StandsFor m s → slot_at (states_of m.controllers d).state i ≡ slot_at (s.controllers d) i
slot_same m s d i st = ap (λ (f : ℕ → Listening). slot_at (f d).state i) st.table.states_are

pub waits_same : (m : Machine) (s : State) (d i : ℕ) → StandsFor m s → break_waits (states_of m.controllers d).state i ≡ break_waits (s.controllers d) i
waits_same m s d i st = ap (λ (f : ℕ → Listening). break_waits (f d).state i) st.table.states_are

-- ---- registers

-- what the code finds is what the state has
pub written_same : (m : Machine) (s : State) (d offset : ℕ) → IsGood s → StandsFor m s → (is_linked_in m.devices d && ((read_in m d offset).rcode == 6)) ≡ is_written s d offset
written_same m s d offset g st = by (is_linked s d) refl
  where
    same : is_linked_in m.devices d ≡ is_linked s d
    same = linked_same m.devices s d g st.devices

    by : (b : Bool) → is_linked s d ≡ b → (is_linked_in m.devices d && ((read_in m d offset).rcode == 6)) ≡ is_written s d offset
    by true e =
        let read = read_same m s g st d offset e in
        ap (λ (b : Bool). b && ((read_in m d offset).rcode == 6)) same ∙ ap (λ (r : Reply). is_linked s d && (r.rcode == 6)) read
    by false e = ap (λ (b : Bool). b && ((read_in m d offset).rcode == 6)) (same ∙ e) ∙ sym (ap (λ (b : Bool). b && ((read_at s d offset).rcode == 6)) e)
