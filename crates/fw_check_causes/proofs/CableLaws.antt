-- Ends and cables of the machine are those of the state.
use Rattle.std.proofs.Common.{◌≡◌, ℕ, suc, ◌<◌, ◌≤◌, ◌⊎◌, inl, inr, not, nat_le, nat_lt, Bool, true, false, cond, List, Option, Some, None, ap, sym, ◌∙◌, arith}
use Rattle.std.specs.Prelude.{option_and_then, unwrap_or}
use Rattle.std.specs.Option.{option_map}
use Rattle.std.proofs.lemmas.Bool.Decides.{leb_tells}
use Rattle.fw_tree.specs.declared.facts.End.{End}
use Rattle.fw_tree.specs.Cables.{peer}
use Rattle.fw_tree.specs.Topology.{Topology, has_port, ports_of}
use Rattle.fw_devices.specs.Network.{device_named}
use Rattle.fw_bus_state.specs.declared.machine.Machine.{Machine}
use Rattle.fw_bus_state.specs.Stands.{StandsFor}
use Rattle.fw_model_run.specs.State.{State}
use Rattle.fw_check.specs.declared.why.Why.TheVariants.{NoPort, OnePort}
use Rattle.fw_check_causes.specs.Causes.{are_one, cable_at, end_of, far_end, joined, lacks_port, no_port, or_else, port_lack, port_used}
use Rattle.fw_check_causes.proofs.Seen.{named_same, of_none, of_some}

-- ---- ends

abbrev with_port : ℕ → Option ℕ → Option End
with_port port o = option_map (λ d. record { device = d; port = port }) o

pub end_there : (m : Machine) (s : State) (e : List ℕ × ℕ) (d : ℕ) → StandsFor m s → device_named m.devices.names e.0 ≡ Some d → end_of s e ≡ Some (record { device = d; port = e.1 })
end_there m s e d st is = ap (λ (o : Option ℕ). with_port e.1 o) (sym (named_same m s e.0 st) ∙ is)

pub end_gone : (m : Machine) (s : State) (e : List ℕ × ℕ) → StandsFor m s → device_named m.devices.names e.0 ≡ None → end_of s e ≡ None
end_gone m s e st is = ap (λ (o : Option ℕ). with_port e.1 o) (sym (named_same m s e.0 st) ∙ is)

-- ---- ports

ports_same : (m : Machine) (s : State) (d : ℕ) → StandsFor m s → ports_of s.declared.topology.devices d ≡ ports_of m.devices.topology.devices d
ports_same m s d st = ap (λ (t : Topology). ports_of t.devices d) (sym st.devices.topology)

pub lack_there : (m : Machine) (s : State) (number : ℕ) (e : List ℕ × ℕ) (d : ℕ) → StandsFor m s → device_named m.devices.names e.0 ≡ Some d
    → port_lack s number e ≡ Some (NoPort number e.0 (ports_of m.devices.topology.devices d))
lack_there m s number e d st is =
    of_some m s e.0 d (λ d. Some (NoPort number e.0 (ports_of s.declared.topology.devices d))) st is ∙ ap (λ (n : ℕ). Some (NoPort number e.0 n)) (ports_same m s d st)

pub lack_gone : (m : Machine) (s : State) (number : ℕ) (e : List ℕ × ℕ) → StandsFor m s → device_named m.devices.names e.0 ≡ None → port_lack s number e ≡ None
lack_gone m s number e st is = of_none m s e.0 (λ d. Some (NoPort number e.0 (ports_of s.declared.topology.devices d))) st is

abbrev lacking : State → Option End → Option Bool
lacking s o = option_map (λ (x : End). not (has_port s.declared.topology x)) o

pub lacks_there : (m : Machine) (s : State) (e : List ℕ × ℕ) (x : End) → StandsFor m s
    → end_of s e ≡ Some x → unwrap_or (lacks_port s e) false ≡ not (nat_lt x.port (ports_of m.devices.topology.devices x.device))
lacks_there m s e x st is = ap (λ (o : Option End). unwrap_or (lacking s o) false) is ∙ ap (λ (n : ℕ). not (nat_lt x.port n)) (ports_same m s x.device st)

pub tested : (n p : ℕ) → nat_le n p ≡ not (nat_lt p n)
tested n p = by (leb_tells n p) (leb_tells (suc p) n)
  where
    by : ((nat_le n p ≡ true) × (n ≤ p)) ⊎ ((nat_le n p ≡ false) × (p < n))
        → ((nat_lt p n ≡ true) × (suc p ≤ n)) ⊎ ((nat_lt p n ≡ false) × (n < suc p)) → nat_le n p ≡ not (nat_lt p n)
    by (inl a) (inl b) = absurd (omega (arith, a.1, b.1))
    by (inl a) (inr b) = a.0 ∙ sym (ap not b.0)
    by (inr a) (inl b) = a.0 ∙ sym (ap not b.0)
    by (inr a) (inr b) = absurd (omega (arith, a.1, b.1))

pub lacks_gone : (s : State) (e : List ℕ × ℕ) → end_of s e ≡ None → unwrap_or (lacks_port s e) false ≡ false
lacks_gone s e is = ap (λ (o : Option End). unwrap_or (lacking s o) false) is

pub first_lacks : (s : State) (a b : List ℕ × ℕ) → unwrap_or (lacks_port s a) false ≡ true → no_port s a b ≡ port_lack s 2 a
first_lacks s a b is = ap (λ (t : Bool). cond t (port_lack s 2 a) (port_lack s 3 b)) is

pub second_lacks : (s : State) (a b : List ℕ × ℕ) → unwrap_or (lacks_port s a) false ≡ false → no_port s a b ≡ port_lack s 3 b
second_lacks s a b is = ap (λ (t : Bool). cond t (port_lack s 2 a) (port_lack s 3 b)) is

-- ---- cables

peer_same : (m : Machine) (s : State) (x : End) → StandsFor m s → peer s.declared.topology.cables x.device x.port ≡ peer m.devices.topology.cables x.device x.port
peer_same m s x st = ap (λ (t : Topology). peer t.cables x.device x.port) (sym st.devices.topology)

pub far_there : (m : Machine) (s : State) (number : ℕ) (x y : End) → StandsFor m s → peer m.devices.topology.cables x.device x.port ≡ Some y → far_end s number x ≡ joined s number y
far_there m s number x y st is = ap (λ (o : Option End). option_and_then (joined s number) o) (peer_same m s x st ∙ is)

pub far_gone : (m : Machine) (s : State) (number : ℕ) (x : End) → StandsFor m s → peer m.devices.topology.cables x.device x.port ≡ None → far_end s number x ≡ None
far_gone m s number x st is = ap (λ (o : Option End). option_and_then (joined s number) o) (peer_same m s x st ∙ is)

pub cable_there : (s : State) (number : ℕ) (e : List ℕ × ℕ) (x : End) → end_of s e ≡ Some x → cable_at s number e ≡ far_end s number x
cable_there s number e x is = ap (λ (o : Option End). option_and_then (far_end s number) o) is

pub cable_gone : (s : State) (number : ℕ) (e : List ℕ × ℕ) → end_of s e ≡ None → cable_at s number e ≡ None
cable_gone s number e is = ap (λ (o : Option End). option_and_then (far_end s number) o) is

pub used_at_one : (s : State) (a b : List ℕ × ℕ) → are_one (end_of s a) (end_of s b) ≡ true → port_used s a b ≡ Some OnePort
used_at_one s a b is = ap (λ (t : Bool). cond t (Some OnePort) (or_else (cable_at s 2 a) (cable_at s 3 b))) is

pub used_at_two : (s : State) (a b : List ℕ × ℕ) → are_one (end_of s a) (end_of s b) ≡ false → port_used s a b ≡ or_else (cable_at s 2 a) (cable_at s 3 b)
used_at_two s a b is = ap (λ (t : Bool). cond t (Some OnePort) (or_else (cable_at s 2 a) (cable_at s 3 b))) is
