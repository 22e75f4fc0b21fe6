-- Rules of cables.
use Rattle.std.proofs.Common.{◌≡◌, ◌⊎◌, inl, inr, ℕ, zero, suc, ◌<◌, ◌==◌, ◌&&◌, ◌||◌, Bool, true, false, cond, List, [], ◌∷◌, length, Option, Some, None, refl, ap, sym, ◌∙◌, arith}
use Rattle.std.specs.Prelude.{option_and_then, unwrap_or, is_some}
use Rattle.std.specs.Option.{option_map}
use Rattle.fw_tree.specs.declared.facts.End.{End}
use Rattle.fw_tree.specs.declared.facts.PhyFacts.{PhyFacts}
use Rattle.fw_tree.specs.declared.TreeFault.TheVariants as Tree
use Rattle.fw_tree.specs.Cables.{peer}
use Rattle.fw_tree.specs.Topology.{has_cable, ports_of}
use Rattle.fw_tree.proofs.ReachLaws.{sound_made}
use Rattle.fw_script_command.specs.declared.command.Command.{Command}
use Rattle.fw_script_command.specs.declared.command.Command.TheVariants as Commands
use Rattle.fw_model_run.specs.Good.{IsGood}
use Rattle.fw_model_run.specs.Named.{HasTreeFault, IsEnd}
use Rattle.fw_model_run.specs.State.{State}
use Rattle.fw_check.specs.declared.why.Why.TheVariants.{NoPort, OnePort, PortUsed, OneDevice, Loop}
use Rattle.fw_check_causes.specs.Causes.{are_one, at_cable, cable_at, end_of, far_end, joined, lacks_port, loop, loop_with, name_at, no_port, or_else, port_lack, port_used}
use Rattle.fw_check_causes_laws.proofs.Somes.{Has, first_has, mapped, name_there, of_name, second_has}

-- ---- ports that are none

lacks : (s : State) (number : ℕ) (e : List ℕ × ℕ) (x : End) → IsEnd s e x → Has (port_lack s number e)
lacks s number e x is = of_name s e.0 x.device (λ d. Some (NoPort number e.0 (ports_of s.declared.topology.devices d))) is.0 refl

pub portless : (s : State) (c : Command) → HasTreeFault s Tree.NoPort c → Has (at_cable c (no_port s))
portless s (Commands.Cable a b) h = go (unwrap_or (lacks_port s a) false)
  where
    go : (t : Bool) → Has (cond t (port_lack s 2 a) (port_lack s 3 b))
    go true = lacks s 2 a h.0 h.2
    go false = lacks s 3 b h.1 h.3
portless s _ h = absurd h

-- ---- loops

pub looped : (s : State) (c : Command) → HasTreeFault s Tree.Loop c → Has (at_cable c (λ a b. loop s a.0 b.0))
looped s (Commands.Cable a b) h =
    of_name s a.0 h.0.device (λ d. loop_with s d a.0 b.0) h.2.0
    (of_name s b.0 h.1.device (λ e. Some (cond (e == h.0.device) (OneDevice a.0) (Loop a.0 b.0))) h.3.0 refl)
looped s _ h = absurd h

-- ---- ports with a cable

ports_below : (fs : List PhyFacts) (d p : ℕ) → p < ports_of fs d → d < length fs
ports_below [] d p lt = absurd (omega arith)
ports_below (f ∷ fs) zero p lt = omega arith
ports_below (f ∷ fs) (suc d) p lt = let below = ports_below fs d p lt in omega (arith, below)

-- what a cable leads to is declared
far_declared : (s : State) (x y : End) → IsGood s → peer s.declared.topology.cables x.device x.port ≡ Some y → y.device < length s.declared.names
far_declared s x y g e =
    let sound = sound_made s.declared.topology g.declared.made in
    let back = sound.cables.back x.device x.port y e in
    let below = ports_below s.declared.topology.devices y.device y.port (sound.placed y.device y.port (record { device = x.device; port = x.port }) back) in
    omega (arith, below, g.declared.named)

far_has : (s : State) (number : ℕ) (x : End) → IsGood s → has_cable (peer s.declared.topology.cables x.device x.port) ≡ true → Has (far_end s number x)
far_has s number x g t = go (peer s.declared.topology.cables x.device x.port) refl t
  where
    go : (o : Option End) → peer s.declared.topology.cables x.device x.port ≡ o → has_cable o ≡ true → Has (option_and_then (joined s number) o)
    go None e t = t
    go (Some y) e t = mapped (name_at s y.device) (λ name. PortUsed number name y.port) (name_there s y.device (far_declared s x y g e))

end_is : (s : State) (e : List ℕ × ℕ) (x : End) → IsEnd s e x → end_of s e ≡ Some x
end_is s e x is =
    ap (λ (o : Option ℕ). option_map (λ d. record { device = d; port = e.1 }) o) is.0 ∙ ap (λ (p : ℕ). Some (record { device = x.device; port = p })) (sym is.1)

at_port : (s : State) (number : ℕ) (e : List ℕ × ℕ) (x : End) → IsGood s → IsEnd s e x → has_cable (peer s.declared.topology.cables x.device x.port) ≡ true → Has (cable_at s number e)
at_port s number e x g is t = ap (λ (o : Option End). is_some (option_and_then (far_end s number) o)) (end_is s e x is) ∙ far_has s number x g t

one_is : (s : State) (a b : List ℕ × ℕ) (x y : End) → IsEnd s a x → IsEnd s b y → are_one (end_of s a) (end_of s b) ≡ ((x.device == y.device) && (x.port == y.port))
one_is s a b x y first second = ap (λ (o : Option End). are_one o (end_of s b)) (end_is s a x first) ∙ ap (λ (o : Option End). are_one (Some x) o) (end_is s b y second)

either : (p q r : Bool) → (p || q || r) ≡ true → r ≡ false → (p ≡ true) ⊎ (q ≡ true)
either true q r t f = inl refl
either false true r t f = inr refl
either false false r t f = let z : ⊥ = cc in absurd z

pub used : (s : State) (c : Command) → IsGood s → HasTreeFault s Tree.PortUsed c → Has (at_cable c (port_used s))
used s (Commands.Cable a b) g h = by (are_one (end_of s a) (end_of s b)) refl
  where
    x : End
    x = h.0

    y : End
    y = h.1

    of_cable : (has_cable (peer s.declared.topology.cables x.device x.port) ≡ true) ⊎ (has_cable (peer s.declared.topology.cables y.device y.port) ≡ true)
        → Has (or_else (cable_at s 2 a) (cable_at s 3 b))
    of_cable (inl t) = first_has (cable_at s 2 a) (cable_at s 3 b) (at_port s 2 a x g h.2 t)
    of_cable (inr t) = second_has (cable_at s 2 a) (cable_at s 3 b) (at_port s 3 b y g h.3 t)

    by : (t : Bool) → are_one (end_of s a) (end_of s b) ≡ t → Has (cond t (Some OnePort) (or_else (cable_at s 2 a) (cable_at s 3 b)))
    by true e = refl
    by false e = of_cable (either (has_cable (peer s.declared.topology.cables x.device x.port)) (has_cable (peer s.declared.topology.cables y.device y.port))
        ((x.device == y.device) && (x.port == y.port)) h.4.1 (sym (one_is s a b x y h.2 h.3) ∙ e))
used s _ g h = absurd h
