-- What is told of a rule has its name.
use Rattle.std.proofs.Common.{◌≡◌, ℕ, ◌+◌, ◌==◌, Bool, true, false, cond, List, [], ◌∷◌, Option, Some, None, is_some, refl}
use Rattle.std.specs.Prelude.{IfSome, option_and_then, unwrap_or}
use Rattle.std.specs.Option.{option_map}
use Rattle.fw_terms.specs.Devices.{is_capable}
use Rattle.fw_cmp.specs.Controllers.{break_waits, slot_at}
use Rattle.fw_tree.specs.declared.facts.End.{End}
use Rattle.fw_tree.specs.Cables.{peer}
use Rattle.fw_tree.specs.Topology.{ports_of}
use Rattle.fw_script_command.specs.declared.command.Command.{Command}
use Rattle.fw_script_command.specs.declared.command.Command.TheVariants as Commands
use Rattle.fw_devices.specs.Network.{device_named, kind_at}
use Rattle.fw_model_run.specs.Named.{controller_of}
use Rattle.fw_model_run.specs.State.{State, device_in, is_deaf, manager_in}
use Rattle.fw_order.specs.declared.rule.RuleFault.{RuleFault}
use Rattle.fw_order.specs.declared.rule.RuleFault.TheVariants as Rules
use Rattle.fw_check.specs.Whys.{rule_name}
use Rattle.fw_check.specs.declared.why.Why.{Why}
use Rattle.fw_check.specs.declared.why.Why.TheVariants.{UnknownName, NameTaken, NoDeck, NoPort, OnePort, PortUsed, OneDevice, Loop, NotController, NothingStands, OffBus}
use Rattle.fw_check.specs.declared.why.Why.TheVariants.{NoSuchConnection, NotCapable, NotCandidate, NoRegister}
use Rattle.fw_check_causes.specs.Causes.{are_one, at_cable, cable_at, dead, end_of, far_end, first_unknown, guarded, is_written, joined, lacks_port, loop, loop_with, name_at, name_taken}
use Rattle.fw_check_causes.specs.Causes.{no_controller, no_deck, no_node, no_port, no_register, no_register_of}
use Rattle.fw_check_causes.specs.Causes.{no_such_connection, not_candidate, not_capable, not_controller, not_shown, nothing_stands}
use Rattle.fw_check_causes.specs.Causes.{of_named, off, off_bus, or_else, port_lack, port_used, slot_state}
use Rattle.fw_check_causes_laws.specs.Told.{rule_word}

-- what stands, if anything does, has the rule's name
abbrev pub IsAs : RuleFault → Option Why → Type 0
IsAs r o = IfSome o (λ why. rule_name why ≡ rule_word r)

named : (r : RuleFault) (s : State) (name : List ℕ) (f : ℕ → Option Why) → ((d : ℕ) → IsAs r (f d)) → IsAs r (of_named s name f)
named r s name f h = go (device_named s.declared.names name)
  where
    go : (o : Option ℕ) → IsAs r (option_and_then f o)
    go None = tt
    go (Some d) = h d

pub mapped : {A : Type 0} (r : RuleFault) (o : Option A) (f : A → Why) → ((x : A) → rule_name (f x) ≡ rule_word r) → IsAs r (option_map f o)
mapped r None f h = tt
mapped r (Some x) f h = h x

-- ---- names

pub unknown : (s : State) (number : ℕ) (names : List (List ℕ)) → IsAs Rules.UnknownName (first_unknown s number names)
unknown s number [] = tt
unknown s number (name ∷ names) = at (first_unknown s (number + 1) names) (unknown s (number + 1) names) (is_some (device_named s.declared.names name))
  where
    at : (later : Option Why) → IsAs Rules.UnknownName later → (b : Bool) → IsAs Rules.UnknownName (cond b later (Some (UnknownName number name)))
    at later h true = h
    at later h false = refl

pub taken : (s : State) (c : Command) → IsAs Rules.NameTaken (name_taken s c)
taken s (Commands.Device name kind ports speed) = named Rules.NameTaken s name (λ d. Some (NameTaken (kind_at s.declared.kinds d))) (λ d. refl)
taken s _ = tt

pub deck : (s : State) (o : Option (List ℕ)) → IsAs Rules.NoDeck (no_deck s o)
deck s None = tt
deck s (Some name) = named Rules.NoDeck s name (λ d. Some (NoDeck name (kind_at s.declared.kinds d))) (λ d. refl)

-- ---- cables

pub ends : (r : RuleFault) (c : Command) (f : List ℕ × ℕ → List ℕ × ℕ → Option Why) → ((a b : List ℕ × ℕ) → IsAs r (f a b)) → IsAs r (at_cable c f)
ends r (Commands.Cable a b) f h = h a b
ends r _ f h = tt

lack : (s : State) (number : ℕ) (e : List ℕ × ℕ) → IsAs Rules.NoPort (port_lack s number e)
lack s number e = named Rules.NoPort s e.0 (λ d. Some (NoPort number e.0 (ports_of s.declared.topology.devices d))) (λ d. refl)

pub port : (s : State) (a b : List ℕ × ℕ) → IsAs Rules.NoPort (no_port s a b)
port s a b = go (unwrap_or (lacks_port s a) false)
  where
    go : (t : Bool) → IsAs Rules.NoPort (cond t (port_lack s 2 a) (port_lack s 3 b))
    go true = lack s 2 a
    go false = lack s 3 b

far : (s : State) (number : ℕ) (x : End) → IsAs Rules.PortUsed (far_end s number x)
far s number x = go (peer s.declared.topology.cables x.device x.port)
  where
    go : (o : Option End) → IsAs Rules.PortUsed (option_and_then (joined s number) o)
    go None = tt
    go (Some y) = mapped Rules.PortUsed (name_at s y.device) (λ name. PortUsed number name y.port) (λ name. refl)

at_port : (s : State) (number : ℕ) (e : List ℕ × ℕ) → IsAs Rules.PortUsed (cable_at s number e)
at_port s number e = go (end_of s e)
  where
    go : (o : Option End) → IsAs Rules.PortUsed (option_and_then (far_end s number) o)
    go None = tt
    go (Some x) = far s number x

either : (o p : Option Why) → IsAs Rules.PortUsed o → IsAs Rules.PortUsed p → IsAs Rules.PortUsed (or_else o p)
either None p h k = k
either (Some why) p h k = h

pub used : (s : State) (a b : List ℕ × ℕ) → IsAs Rules.PortUsed (port_used s a b)
used s a b = go (are_one (end_of s a) (end_of s b))
  where
    go : (t : Bool) → IsAs Rules.PortUsed (cond t (Some OnePort) (or_else (cable_at s 2 a) (cable_at s 3 b)))
    go true = refl
    go false = either (cable_at s 2 a) (cable_at s 3 b) (at_port s 2 a) (at_port s 3 b)

round_with : (s : State) (d : ℕ) (a b : List ℕ) → IsAs Rules.Loop (loop_with s d a b)
round_with s d a b = named Rules.Loop s b (λ e. Some (cond (e == d) (OneDevice a) (Loop a b))) (λ e. go (e == d))
  where
    go : (t : Bool) → rule_name (cond t (OneDevice a) (Loop a b)) ≡ rule_word Rules.Loop
    go true = refl
    go false = refl

pub round : (s : State) (a b : List ℕ × ℕ) → IsAs Rules.Loop (loop s a.0 b.0)
round s a b = named Rules.Loop s a.0 (λ d. loop_with s d a.0 b.0) (λ d. round_with s d a.0 b.0)

-- ---- controllers

dies : (s : State) (o : Option (List ℕ)) → IsAs Rules.NotController (dead s o)
dies s None = tt
dies s (Some name) = named Rules.NotController s name (λ d. option_map NotController (no_controller s name d)) (λ d. mapped Rules.NotController (no_controller s name d) NotController (λ why. refl))

pub controller : (s : State) (c : Command) → IsAs Rules.NotController (not_controller s c)
controller s (Commands.Start name) = dies s (Some name)
controller s c = dies s (controller_of c)

pub stands : (s : State) (c : Command) → IsAs Rules.NothingStands (nothing_stands s c)
stands s (Commands.Lose name) = named Rules.NothingStands s name (λ d. Some (NothingStands name (is_deaf s d))) (λ d. refl)
stands s _ = tt

gone : (s : State) (number : ℕ) (name : List ℕ) → IsAs Rules.OffBus (off s number name)
gone s number name = named Rules.OffBus s name (λ d. option_map (λ why. OffBus number why) (no_node s name d)) (λ d. mapped Rules.OffBus (no_node s name d) (λ why. OffBus number why) (λ why. refl))

pub bus : (s : State) (c : Command) → IsAs Rules.OffBus (off_bus s c)
bus s (Commands.Reset name) = gone s 2 name
bus s (Commands.Dub name) = gone s 2 name
bus s (Commands.Show (Some name) offset) = gone s 2 name
bus s (Commands.Command name other frame) = gone s 3 other
bus s (Commands.Read name other offset) = gone s 3 other
bus s (Commands.Swap name other offset argument new) = gone s 3 other
bus s _ = tt

pub connection : (s : State) (c : Command) → IsAs Rules.NoSuchConnection (no_such_connection s c)
connection s (Commands.Break name slot) =
    named Rules.NoSuchConnection s name (λ d. Some (NoSuchConnection slot (slot_state (slot_at (s.controllers d) slot) (break_waits (s.controllers d) slot)))) (λ d. refl)
connection s _ = tt

pub capable : (s : State) (c : Command) → IsAs Rules.NotCapable (not_capable s c)
capable s (Commands.Candidate name) = named Rules.NotCapable s name (λ d. Some (NotCapable name (kind_at s.declared.kinds d))) (λ d. refl)
capable s _ = tt

pub candidate : (s : State) (c : Command) → IsAs Rules.NotCandidate (not_candidate s c)
candidate s (Commands.Contend name count) = named Rules.NotCandidate s name (λ d. Some (NotCandidate name (is_capable (kind_at s.declared.kinds d)))) (λ d. refl)
candidate s _ = tt

-- ---- registers and limits

pub swapped : (c : Command) → IsAs Rules.Guarded (guarded c)
swapped (Commands.Swap name other offset argument new) = refl
swapped _ = tt

register_of : (s : State) (offset : ℕ) (o : Option ℕ) → IsAs Rules.NoRegister (no_register_of s offset o)
register_of s offset None = refl
register_of s offset (Some d) = mapped Rules.NoRegister (name_at s d) (λ name. NoRegister name offset (is_written s d offset)) (λ name. refl)

register : (s : State) (o : Option (List ℕ)) (offset : ℕ) → IsAs Rules.NoRegister (no_register s o offset)
register s (Some name) offset = named Rules.NoRegister s name (λ d. Some (NoRegister name offset (is_written s d offset))) (λ d. refl)
register s None offset = register_of s offset (option_and_then (λ n. device_in s.account.latest n) (manager_in s.account.latest))

pub shown : (s : State) (c : Command) → IsAs Rules.NoRegister (not_shown s c)
shown s (Commands.Show name offset) = register s name offset
shown s _ = tt
