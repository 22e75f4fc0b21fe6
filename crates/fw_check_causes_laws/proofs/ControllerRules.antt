-- Rules of controllers, their connections and nodes.
use Rattle.std.proofs.Common.{◌≡◌, ℕ, ◌==◌, not, Bool, true, false, cond, List, Option, Some, None, refl}
use Rattle.std.specs.Prelude.{Ok, Err}
use Rattle.std.specs.Option.{option_map}
use Rattle.fw_terms.specs.Devices.{has_link}
use Rattle.fw_script_command.specs.declared.command.Command.{Command}
use Rattle.fw_script_command.specs.declared.command.Command.TheVariants as Commands
use Rattle.fw_cmp.specs.Controllers.{ControllerState, break_waits, slot_at}
use Rattle.fw_cmp.specs.Starts.{free_slot, is_crowded, start, start_at}
use Rattle.fw_cmp.specs.declared.outcome.StartFault.{StartFault}
use Rattle.fw_cmp.specs.declared.outcome.StartFault.TheVariants as Refusals
use Rattle.fw_devices.specs.Network.{kind_at}
use Rattle.fw_model_run.specs.Afterwards.{start_of}
use Rattle.fw_model_run.specs.Named.{IsNamed, IsNot, IsRefused, controller_of}
use Rattle.fw_model_run.specs.Rules.{HasNoController, HasNothing, IsOff}
use Rattle.fw_model_run.specs.State.{State, is_deaf, is_linked, is_living, is_on}
use Rattle.fw_order.specs.declared.order.Wanted.{Wanted}
use Rattle.fw_order.specs.declared.order.Wanted.TheVariants.{PlugToPlug, BroadcastOut, BroadcastIn}
use Rattle.fw_check.specs.declared.why.NoController.{NoController}
use Rattle.fw_check.specs.declared.why.NoController.TheVariants as NoControllers
use Rattle.fw_check.specs.declared.why.NoNode.TheVariants as NoNodes
use Rattle.fw_check.specs.declared.why.Why.TheVariants.{NotController, NothingStands, OffBus, NoSuchConnection}
use Rattle.fw_check_causes.specs.Causes.{dead, name_at, no_controller, no_node, no_such_connection, not_controller, nothing_stands, off, off_bus, slot_state}
use Rattle.fw_check_causes_laws.proofs.Somes.{Has, first_name, mapped, of_name}

-- ---- controllers

lives_not : (s : State) (name : List ℕ) (d : ℕ) → IsNamed s name d → Has (no_controller s name d)
lives_not s name d e = go (not (has_link (kind_at s.declared.kinds d))) (is_on s d)
  where
    away : Option NoController
    away = option_map (λ bus. NoControllers.Off name bus) (name_at s 0)

    go : (relay on : Bool) → Has (cond relay (Some (NoControllers.Relay name)) (cond on (Some (NoControllers.Died name)) away))
    go true on = refl
    go false true = refl
    go false false = mapped (name_at s 0) (λ bus. NoControllers.Off name bus) (first_name s name d e)

dies : (s : State) (test : ℕ → Bool) (o : Option (List ℕ)) → IsNot s test o → Has (dead s o)
dies s test None h = absurd h
dies s test (Some name) h =
    of_name s name h.0 (λ d. option_map NotController (no_controller s name d)) h.1 (mapped (no_controller s name h.0) NotController (lives_not s name h.0 h.1))

pub uncontrolled : (s : State) (c : Command) → HasNoController s c → Has (not_controller s c)
uncontrolled s (Commands.Start name) h = dies s (is_linked s) (Some name) h
uncontrolled s c h = dies s (is_living s) (controller_of c) h

pub idle : (s : State) (c : Command) → HasNothing s c → Has (nothing_stands s c)
idle s (Commands.Lose name) h = of_name s name h.0 (λ d. Some (NothingStands name (is_deaf s d))) h.1 refl
idle s _ h = absurd h

-- ---- nodes

silent : (s : State) (name : List ℕ) (d : ℕ) → IsNamed s name d → Has (no_node s name d)
silent s name d e = go (is_on s d)
  where
    go : (on : Bool) → Has (cond on (Some (NoNodes.Relay name)) (option_map (λ bus. NoNodes.Off name bus) (name_at s 0)))
    go true = refl
    go false = mapped (name_at s 0) (λ bus. NoNodes.Off name bus) (first_name s name d e)

gone : (s : State) (number : ℕ) (name : List ℕ) (test : ℕ → Bool) → IsNot s test (Some name) → Has (off s number name)
gone s number name test h =
    of_name s name h.0 (λ d. option_map (λ why. OffBus number why) (no_node s name d)) h.1 (mapped (no_node s name h.0) (λ why. OffBus number why) (silent s name h.0 h.1))

pub away : (s : State) (c : Command) → IsOff s c → Has (off_bus s c)
away s (Commands.Reset name) h = gone s 2 name (is_on s) h
away s (Commands.Dub name) h = gone s 2 name (is_on s) h
away s (Commands.Show (Some name) offset) h = gone s 2 name (is_linked s) h
away s (Commands.Command name other frame) h = gone s 3 other (is_linked s) h
away s (Commands.Read name other offset) h = gone s 3 other (is_linked s) h
away s (Commands.Swap name other offset argument new) h = gone s 3 other (is_linked s) h
away s _ h = absurd h

-- ---- connections

-- who refuses is named
pub refuser : (s : State) (c : Command) (f : StartFault) → IsRefused s c f → Has (controller_of c)
refuser s (Commands.Break name slot) f h = refl
refuser s (Commands.Connect name out into channel overhead) f h = refl
refuser s (Commands.Broadcast name out overhead) f h = refl
refuser s (Commands.Listen name into) f h = refl
refuser s _ f h = absurd h.2

-- a new connection is refused for other reasons
starts : (c : ControllerState) (o : Option ℕ) → start_at o c ≡ Err Refusals.NoSuchConnection → ⊥
starts c None e = cc
starts c (Some i) e = go (is_crowded c) e
  where
    go : (t : Bool) → cond t (Err Refusals.Busy) (Ok i) ≡ Err Refusals.NoSuchConnection → ⊥
    go true e = cc
    go false e = cc

owns : (c : ControllerState) (t : Bool) → cond t (start c) (Err Refusals.NotOwnPlug) ≡ Err Refusals.NoSuchConnection → ⊥
owns c true e = starts c (free_slot c) e
owns c false e = cc

new : (d : ℕ) (w : Wanted) (c : ControllerState) → start_of d w c ≡ Err Refusals.NoSuchConnection → ⊥
new d (PlugToPlug out into channel overhead) c e = starts c (free_slot c) e
new d (BroadcastOut out overhead) c e = owns c (out.device == d) e
new d (BroadcastIn into) c e = owns c (into.device == d) e

pub unbroken : (s : State) (c : Command) → IsRefused s c Refusals.NoSuchConnection → Has (no_such_connection s c)
unbroken s (Commands.Break name slot) h =
    of_name s name h.0 (λ d. Some (NoSuchConnection slot (slot_state (slot_at (s.controllers d) slot) (break_waits (s.controllers d) slot)))) h.1 refl
unbroken s (Commands.Connect name out into channel overhead) h = absurd (new h.0 h.1 (s.controllers h.0) h.3)
unbroken s (Commands.Broadcast name out overhead) h = absurd (new h.0 h.1 (s.controllers h.0) h.3)
unbroken s (Commands.Listen name into) h = absurd (new h.0 h.1 (s.controllers h.0) h.3)
unbroken s _ h = absurd h.2
