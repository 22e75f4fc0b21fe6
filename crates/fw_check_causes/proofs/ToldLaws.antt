-- A word that is told has a number from 1.
use Rattle.std.proofs.Common.{◌≡◌, ℕ, ◌+◌, ◌<◌, ◌==◌, ◌&&◌, Bool, true, false, cond, nat_lt, List, [], ◌∷◌, length, Option, Some, None, is_some, sym, subst, arith}
use Rattle.std.specs.Prelude.{IfSome, option_and_then, unwrap_or}
use Rattle.std.specs.Option.{option_map}
use Rattle.fw_tree.specs.declared.facts.End.{End}
use Rattle.fw_tree.specs.Cables.{peer}
use Rattle.fw_tree.specs.Topology.{ports_of}
use Rattle.fw_terms.specs.Devices.{is_capable}
use Rattle.fw_script_command.specs.declared.command.Command.{Command}
use Rattle.fw_script_command.specs.declared.command.Command.TheVariants as Commands
use Rattle.fw_cmp.specs.Controllers.{slot_at, break_waits}
use Rattle.fw_devices.specs.Network.{device_named, kind_at}
use Rattle.fw_bus_state.specs.declared.machine.Machine.{Machine}
use Rattle.fw_bus_state.specs.Stands.{IsReady, StandsFor}
use Rattle.fw_model_run.specs.Good.{IsGood}
use Rattle.fw_model_run.specs.Named.{names_of, controller_of, deck_of}
use Rattle.fw_model_run.specs.State.{State, device_in, is_deaf, manager_in}
use Rattle.fw_order.specs.declared.limits.TheConstants.{MOST_WRITTEN_CYCLES}
use Rattle.fw_order.specs.declared.rule.RuleFault.{RuleFault}
use Rattle.fw_order.specs.declared.rule.RuleFault.TheVariants as Rules
use Rattle.fw_check.specs.Whys.{HasToldWord}
use Rattle.fw_check.specs.declared.why.Why.{Why}
use Rattle.fw_check.specs.declared.why.Why.TheVariants.{UnknownName, NameTaken, NoDeck, NoPort, OnePort, PortUsed, OneDevice, Loop, NotController, NothingStands, OffBus, NotOwnPlug}
use Rattle.fw_check.specs.declared.why.Why.TheVariants.{NoSuchConnection, TableFull, Busy, NotCapable, NotCandidate, NoRegister, Limit, TooLate}
use Rattle.fw_check.specs.declared.why.LimitOf.TheVariants.{WrittenCycles, Cycles}
use Rattle.fw_check_causes.specs.Causes.{are_one, at_cable, cable_at, cause, dead, end_of, far_end, first_unknown, guarded, is_written, joined, lacks_port, loop, loop_with, name_at, name_taken}
use Rattle.fw_check_causes.specs.Causes.{no_controller, no_deck, no_node, no_port, no_register, no_register_of}
use Rattle.fw_check_causes.specs.Causes.{no_such_connection, not_candidate, not_capable, not_controller, not_shown, nothing_stands}
use Rattle.fw_check_causes.specs.Causes.{of_named, off, off_bus, or_else, passed, port_lack, port_used, slot_state}

named : (s : State) (name : List ℕ) (f : ℕ → Option Why) → ((d : ℕ) → IfSome (f d) HasToldWord) → IfSome (of_named s name f) HasToldWord
named s name f h = go (device_named s.declared.names name)
  where
    go : (o : Option ℕ) → IfSome (option_and_then f o) HasToldWord
    go None = tt
    go (Some d) = h d

mapped : {A : Type 0} (o : Option A) (f : A → Why) → ((x : A) → HasToldWord (f x)) → IfSome (option_map f o) HasToldWord
mapped None f h = tt
mapped (Some x) f h = h x

-- ---- names

unknown_at : (number : ℕ) (name : List ℕ) (later : Option Why) → 0 < number → IfSome later HasToldWord → (b : Bool) → IfSome (cond b later (Some (UnknownName number name))) HasToldWord
unknown_at number name later lt h true = h
unknown_at number name later lt h false = lt

unknown : (s : State) (number : ℕ) (names : List (List ℕ)) → 0 < number → IfSome (first_unknown s number names) HasToldWord
unknown s number [] lt = tt
unknown s number (name ∷ names) lt =
    unknown_at number name (first_unknown s (number + 1) names) lt (unknown s (number + 1) names (omega arith)) (is_some (device_named s.declared.names name))

taken : (s : State) (c : Command) → IfSome (name_taken s c) HasToldWord
taken s (Commands.Device name kind ports speed) = named s name (λ d. Some (NameTaken (kind_at s.declared.kinds d))) (λ d. omega arith)
taken s _ = tt

deck : (s : State) (o : Option (List ℕ)) → IfSome (no_deck s o) HasToldWord
deck s None = tt
deck s (Some name) = named s name (λ d. Some (NoDeck name (kind_at s.declared.kinds d))) (λ d. omega arith)

-- ---- cables

ends : (c : Command) (f : List ℕ × ℕ → List ℕ × ℕ → Option Why) → ((a b : List ℕ × ℕ) → IfSome (f a b) HasToldWord) → IfSome (at_cable c f) HasToldWord
ends (Commands.Cable a b) f h = h a b
ends _ f h = tt

lack : (s : State) (number : ℕ) (e : List ℕ × ℕ) → 0 < number → IfSome (port_lack s number e) HasToldWord
lack s number e lt = named s e.0 (λ d. Some (NoPort number e.0 (ports_of s.declared.topology.devices d))) (λ d. lt)

port : (s : State) (a b : List ℕ × ℕ) → IfSome (no_port s a b) HasToldWord
port s a b = go (unwrap_or (lacks_port s a) false)
  where
    go : (t : Bool) → IfSome (cond t (port_lack s 2 a) (port_lack s 3 b)) HasToldWord
    go true = lack s 2 a (omega arith)
    go false = lack s 3 b (omega arith)

far : (s : State) (number : ℕ) (x : End) → 0 < number → IfSome (far_end s number x) HasToldWord
far s number x lt = go (peer s.declared.topology.cables x.device x.port)
  where
    go : (o : Option End) → IfSome (option_and_then (joined s number) o) HasToldWord
    go None = tt
    go (Some y) = mapped (name_at s y.device) (λ name. PortUsed number name y.port) (λ name. lt)

at_port : (s : State) (number : ℕ) (e : List ℕ × ℕ) → 0 < number → IfSome (cable_at s number e) HasToldWord
at_port s number e lt = go (end_of s e)
  where
    go : (o : Option End) → IfSome (option_and_then (far_end s number) o) HasToldWord
    go None = tt
    go (Some x) = far s number x lt

either : (o p : Option Why) → IfSome o HasToldWord → IfSome p HasToldWord → IfSome (or_else o p) HasToldWord
either None p h k = k
either (Some why) p h k = h

used : (s : State) (a b : List ℕ × ℕ) → IfSome (port_used s a b) HasToldWord
used s a b = go (are_one (end_of s a) (end_of s b))
  where
    go : (t : Bool) → IfSome (cond t (Some OnePort) (or_else (cable_at s 2 a) (cable_at s 3 b))) HasToldWord
    go true = tt
    go false = either (cable_at s 2 a) (cable_at s 3 b) (at_port s 2 a (omega arith)) (at_port s 3 b (omega arith))

round_with : (s : State) (d : ℕ) (a b : List ℕ) → IfSome (loop_with s d a b) HasToldWord
round_with s d a b = named s b (λ e. Some (cond (e == d) (OneDevice a) (Loop a b))) (λ e. go (e == d))
  where
    go : (t : Bool) → HasToldWord (cond t (OneDevice a) (Loop a b))
    go true = tt
    go false = tt

round : (s : State) (a b : List ℕ × ℕ) → IfSome (loop s a.0 b.0) HasToldWord
round s a b = named s a.0 (λ d. loop_with s d a.0 b.0) (λ d. round_with s d a.0 b.0)

-- ---- controllers

dies : (s : State) (o : Option (List ℕ)) → IfSome (dead s o) HasToldWord
dies s None = tt
dies s (Some name) = named s name (λ d. option_map NotController (no_controller s name d)) (λ d. mapped (no_controller s name d) NotController (λ why. omega arith))

controller : (s : State) (c : Command) → IfSome (not_controller s c) HasToldWord
controller s (Commands.Start name) = dies s (Some name)
controller s c = dies s (controller_of c)

stands : (s : State) (c : Command) → IfSome (nothing_stands s c) HasToldWord
stands s (Commands.Lose name) = named s name (λ d. Some (NothingStands name (is_deaf s d))) (λ d. omega arith)
stands s _ = tt

gone : (s : State) (number : ℕ) (name : List ℕ) → 0 < number → IfSome (off s number name) HasToldWord
gone s number name lt = named s name (λ d. option_map (λ why. OffBus number why) (no_node s name d)) (λ d. mapped (no_node s name d) (λ why. OffBus number why) (λ why. lt))

bus : (s : State) (c : Command) → IfSome (off_bus s c) HasToldWord
bus s (Commands.Reset name) = gone s 2 name (omega arith)
bus s (Commands.Dub name) = gone s 2 name (omega arith)
bus s (Commands.Show (Some name) offset) = gone s 2 name (omega arith)
bus s (Commands.Command name other frame) = gone s 3 other (omega arith)
bus s (Commands.Read name other offset) = gone s 3 other (omega arith)
bus s (Commands.Swap name other offset argument new) = gone s 3 other (omega arith)
bus s _ = tt

connection : (s : State) (c : Command) → IfSome (no_such_connection s c) HasToldWord
connection s (Commands.Break name slot) =
    named s name (λ d. Some (NoSuchConnection slot (slot_state (slot_at (s.controllers d) slot) (break_waits (s.controllers d) slot)))) (λ d. omega arith)
connection s _ = tt

capable : (s : State) (c : Command) → IfSome (not_capable s c) HasToldWord
capable s (Commands.Candidate name) = named s name (λ d. Some (NotCapable name (kind_at s.declared.kinds d))) (λ d. omega arith)
capable s _ = tt

candidate : (s : State) (c : Command) → IfSome (not_candidate s c) HasToldWord
candidate s (Commands.Contend name count) = named s name (λ d. Some (NotCandidate name (is_capable (kind_at s.declared.kinds d)))) (λ d. omega arith)
candidate s _ = tt

-- ---- registers and limits

swapped : (c : Command) → IfSome (guarded c) HasToldWord
swapped (Commands.Swap name other offset argument new) = omega arith
swapped _ = tt

register_of : (s : State) (offset : ℕ) (o : Option ℕ) → IfSome (no_register_of s offset o) HasToldWord
register_of s offset None = omega arith
register_of s offset (Some d) = mapped (name_at s d) (λ name. NoRegister name offset (is_written s d offset)) (λ name. omega arith)

register : (s : State) (o : Option (List ℕ)) (offset : ℕ) → IfSome (no_register s o offset) HasToldWord
register s (Some name) offset = named s name (λ d. Some (NoRegister name offset (is_written s d offset))) (λ d. omega arith)
register s None offset = register_of s offset (option_and_then (λ n. device_in s.account.latest n) (manager_in s.account.latest))

shown : (s : State) (c : Command) → IfSome (not_shown s c) HasToldWord
shown s (Commands.Show name offset) = register s name offset
shown s _ = tt

limits : (s : State) (c : Command) → IfSome (passed s c) HasToldWord
limits s (Commands.Cycles count) = go (nat_lt 0 (length s.declared.names) && nat_lt MOST_WRITTEN_CYCLES (s.written + count))
  where
    go : (t : Bool) → HasToldWord (cond t (Limit WrittenCycles s.written count) (Limit Cycles s.clock.cycle count))
    go true = tt
    go false = tt
limits s _ = tt

-- ---- the rules

pub told : (s : State) (c : Command) (r : RuleFault) → IfSome (cause s c r) HasToldWord
told s c Rules.UnknownName = unknown s 2 (names_of c) (omega arith)
told s c Rules.NameTaken = taken s c
told s c Rules.TooMany = tt
told s c Rules.NoDeck = deck s (deck_of c)
told s c Rules.NoPort = ends c (no_port s) (port s)
told s c Rules.PortUsed = ends c (port_used s) (used s)
told s c Rules.Loop = ends c (λ a b. loop s a.0 b.0) (round s)
told s c Rules.NotController = controller s c
told s c Rules.NothingStands = stands s c
told s c Rules.OffBus = bus s c
told s c Rules.NotOwnPlug = mapped (controller_of c) NotOwnPlug (λ name. omega arith)
told s c Rules.NoSuchConnection = connection s c
told s c Rules.TableFull = mapped (controller_of c) TableFull (λ name. tt)
told s c Rules.Busy = mapped (controller_of c) Busy (λ name. tt)
told s c Rules.NotCapable = capable s c
told s c Rules.NotCandidate = candidate s c
told s c Rules.Guarded = swapped c
told s c Rules.NoRegister = shown s c
told s c Rules.Limit = limits s c
told s c Rules.TooLate = mapped (name_at s 0) TooLate (λ name. tt)

pub told_of : (m : Machine) (c : Command) (r : RuleFault) (o : Option Why) → IsReady m → ((s : State) → IsGood s → StandsFor m s → o ≡ cause s c r) → IfSome o HasToldWord
told_of m c r o ready is = subst (λ (x : Option Why). IfSome x HasToldWord) (sym (is ready.state ready.good ready.stands)) (told ready.state c r)
