-- What stands against a command that breaks a rule: read of the state before its line, and of the line.
use Rattle.std.specs.Prelude.{ℕ, ◌+◌, ◌*◌, ◌==◌, ◌&&◌, not, nat_lt, List, [], ◌∷◌, length, slice_get, Bool, false, Option, Some, None, is_some, unwrap_or, option_and_then, if◌then◌else◌, ⊤}
use Rattle.std.specs.Option.{option_map}
use Rattle.fw_terms.specs.Devices.{has_link, is_capable}
use Rattle.fw_tree.specs.declared.facts.End.{End}
use Rattle.fw_tree.specs.Cables.{peer}
use Rattle.fw_tree.specs.Topology.{has_port, ports_of}
use Rattle.fw_script_command.specs.declared.command.Command.{Command}
use Rattle.fw_script_command.specs.declared.command.Command.TheVariants as Commands
use Rattle.fw_cmp_jobs.specs.declared.connection.Slot.{Slot}
use Rattle.fw_cmp_jobs.specs.declared.connection.Slot.TheVariants as Slots
use Rattle.fw_cmp.specs.Controllers.{slot_at, break_waits}
use Rattle.fw_devices.specs.Network.{device_named, kind_at}
use Rattle.fw_order.specs.declared.limits.TheConstants.{MOST_WRITTEN_CYCLES}
use Rattle.fw_order.specs.declared.rule.RuleFault.{RuleFault}
use Rattle.fw_order.specs.declared.rule.RuleFault.TheVariants as Rules
use Rattle.fw_model_run.specs.Named.{names_of, controller_of, deck_of}
use Rattle.fw_model_run.specs.Spaces.{read_at}
use Rattle.fw_model_run.specs.State.{State, device_in, manager_in, is_linked, is_on, is_deaf, living}
use Rattle.fw_check.specs.declared.why.Why.{Why}
use Rattle.fw_check.specs.declared.why.Why.TheVariants.{UnknownName, NameTaken, TooMany, NoDeck, NoPort, OnePort, PortUsed, OneDevice, Loop, NotController, NothingStands, OffBus, NotOwnPlug}
use Rattle.fw_check.specs.declared.why.Why.TheVariants.{NoSuchConnection, TableFull, Busy, NotCapable, NotCandidate, Guarded, NoManager, NoRegister, Limit, TooLate}
use Rattle.fw_check.specs.declared.why.NoController.{NoController}
use Rattle.fw_check.specs.declared.why.NoController.TheVariants as NoControllers
use Rattle.fw_check.specs.declared.why.NoNode.{NoNode}
use Rattle.fw_check.specs.declared.why.NoNode.TheVariants as NoNodes
use Rattle.fw_check.specs.declared.why.SlotState.{SlotState}
use Rattle.fw_check.specs.declared.why.SlotState.TheVariants.{Free, Making, BreakWaits, Breaking}
use Rattle.fw_check.specs.declared.why.LimitOf.TheVariants.{WrittenCycles, BusResets, HalfSteps, Cycles}

-- the name of a device
abbrev pub name_at : State → ℕ → Option (List ℕ)
name_at s d = slice_get s.declared.names d

-- what is so of the device with a name
abbrev pub of_named : {A : Type 0} → State → List ℕ → (ℕ → Option A) → Option A
of_named s name f = option_and_then f (device_named s.declared.names name)

-- the first of the names that no device has, of words that are numbered from this number on
abbrev pub first_unknown : State → ℕ → List (List ℕ) → Option Why
first_unknown s number [] = None
first_unknown s number (name ∷ names) = if is_some (device_named s.declared.names name) then first_unknown s (number + 1) names else Some (UnknownName number name)

-- ---- cables

-- a port of a named device
abbrev pub end_of : State → List ℕ × ℕ → Option End
end_of s e = option_map (λ d. record { device = d; port = e.1 }) (device_named s.declared.names e.0)

-- the device of an end lacks the port
abbrev pub lacks_port : State → List ℕ × ℕ → Option Bool
lacks_port s e = option_map (λ (x : End). not (has_port s.declared.topology x)) (end_of s e)

-- that it lacks the port of a word
abbrev pub port_lack : State → ℕ → List ℕ × ℕ → Option Why
port_lack s number e = of_named s e.0 (λ d. Some (NoPort number e.0 (ports_of s.declared.topology.devices d)))

-- the first end whose device lacks the port
abbrev pub no_port : State → List ℕ × ℕ → List ℕ × ℕ → Option Why
no_port s a b = if unwrap_or (lacks_port s a) false then port_lack s 2 a else port_lack s 3 b

-- a port at the other end of the cable of a word
abbrev pub joined : State → ℕ → End → Option Why
joined s number y = option_map (λ name. PortUsed number name y.port) (name_at s y.device)

-- the other end of the cable at a port
abbrev pub far_end : State → ℕ → End → Option Why
far_end s number x = option_and_then (joined s number) (peer s.declared.topology.cables x.device x.port)

-- the other end of the cable at a port of a word
abbrev pub cable_at : State → ℕ → List ℕ × ℕ → Option Why
cable_at s number e = option_and_then (far_end s number) (end_of s e)

-- the first that there is
abbrev pub or_else : Option Why → Option Why → Option Why
or_else (Some why) other = Some why
or_else None other = other

-- both ends are one port
abbrev pub are_one : Option End → Option End → Bool
are_one (Some x) (Some y) = (x.device == y.device) && (x.port == y.port)
are_one (Some x) None = false
are_one None y = false

-- both ends are one, or the first that has a cable
abbrev pub port_used : State → List ℕ × ℕ → List ℕ × ℕ → Option Why
port_used s a b = if are_one (end_of s a) (end_of s b) then Some OnePort else or_else (cable_at s 2 a) (cable_at s 3 b)

-- both ends are of this device, or of two that are joined
abbrev pub loop_with : State → ℕ → List ℕ → List ℕ → Option Why
loop_with s d a b = of_named s b (λ e. Some (if e == d then OneDevice a else Loop a b))

-- both ends are of one device, or of two that are joined
abbrev pub loop : State → List ℕ → List ℕ → Option Why
loop s a b = of_named s a (λ d. loop_with s d a b)

-- ---- controllers and nodes

-- why a device has no living controller
abbrev pub no_controller : State → List ℕ → ℕ → Option NoController
no_controller s name d =
    if not (has_link (kind_at s.declared.kinds d)) then Some (NoControllers.Relay name)
    else if is_on s d then Some (NoControllers.Died name)
    else option_map (λ bus. NoControllers.Off name bus) (name_at s 0)

-- why no node answers for a device
abbrev pub no_node : State → List ℕ → ℕ → Option NoNode
no_node s name d = if is_on s d then Some (NoNodes.Relay name) else option_map (λ bus. NoNodes.Off name bus) (name_at s 0)

-- of the device whose controller a command needs
abbrev pub dead : State → Option (List ℕ) → Option Why
dead s None = None
dead s (Some name) = of_named s name (λ d. option_map NotController (no_controller s name d))

-- of the device of a word that is to be on the bus
abbrev pub off : State → ℕ → List ℕ → Option Why
off s number name = of_named s name (λ d. option_map (λ why. OffBus number why) (no_node s name d))

-- why the connection of a slot cannot be broken, by what the slot holds, and whether a break of it waits
abbrev pub slot_state : Slot → Bool → SlotState
slot_state Slots.Free waits = Free
slot_state (Slots.Making conn asked overhead) waits = Making
slot_state (Slots.Established conn f) waits = if waits then BreakWaits else Breaking
slot_state (Slots.Restoring conn f over) waits = if waits then BreakWaits else Breaking
slot_state (Slots.Gone conn) waits = if waits then BreakWaits else Breaking

-- ---- registers

-- a register of a device is written alone: its node answers a read of it with type_error
abbrev pub is_written : State → ℕ → ℕ → Bool
is_written s d offset = is_linked s d && ((read_at s d offset).rcode == 6)

-- of the resource manager, if there is one
abbrev pub no_register_of : State → ℕ → Option ℕ → Option Why
no_register_of s offset None = Some NoManager
no_register_of s offset (Some d) = option_map (λ name. NoRegister name offset (is_written s d offset)) (name_at s d)

-- what is shown: the resource manager's register if no name stands
abbrev pub no_register : State → Option (List ℕ) → ℕ → Option Why
no_register s (Some name) offset = of_named s name (λ d. Some (NoRegister name offset (is_written s d offset)))
no_register s None offset = no_register_of s offset (option_and_then (λ n. device_in s.account.latest n) (manager_in s.account.latest))

-- ---- the rules

-- what the command is of its own: a case a command that may break the rule
abbrev pub name_taken : State → Command → Option Why
name_taken s (Commands.Device name kind ports speed) = of_named s name (λ d. Some (NameTaken (kind_at s.declared.kinds d)))
name_taken s _ = None

abbrev pub no_deck : State → Option (List ℕ) → Option Why
no_deck s None = None
no_deck s (Some name) = of_named s name (λ d. Some (NoDeck name (kind_at s.declared.kinds d)))

abbrev pub at_cable : Command → (List ℕ × ℕ → List ℕ × ℕ → Option Why) → Option Why
at_cable (Commands.Cable a b) f = f a b
at_cable _ f = None

abbrev pub not_controller : State → Command → Option Why
not_controller s (Commands.Start name) = dead s (Some name)
not_controller s c = dead s (controller_of c)

abbrev pub nothing_stands : State → Command → Option Why
nothing_stands s (Commands.Lose name) = of_named s name (λ d. Some (NothingStands name (is_deaf s d)))
nothing_stands s _ = None

abbrev pub off_bus : State → Command → Option Why
off_bus s (Commands.Reset name) = off s 2 name
off_bus s (Commands.Dub name) = off s 2 name
off_bus s (Commands.Show (Some name) offset) = off s 2 name
off_bus s (Commands.Command name other frame) = off s 3 other
off_bus s (Commands.Read name other offset) = off s 3 other
off_bus s (Commands.Swap name other offset argument new) = off s 3 other
off_bus s _ = None

abbrev pub no_such_connection : State → Command → Option Why
no_such_connection s (Commands.Break name slot) =
    of_named s name (λ d. Some (NoSuchConnection slot (slot_state (slot_at (s.controllers d) slot) (break_waits (s.controllers d) slot))))
no_such_connection s _ = None

abbrev pub not_capable : State → Command → Option Why
not_capable s (Commands.Candidate name) = of_named s name (λ d. Some (NotCapable name (kind_at s.declared.kinds d)))
not_capable s _ = None

abbrev pub not_candidate : State → Command → Option Why
not_candidate s (Commands.Contend name count) = of_named s name (λ d. Some (NotCandidate name (is_capable (kind_at s.declared.kinds d))))
not_candidate s _ = None

abbrev pub guarded : Command → Option Why
guarded (Commands.Swap name other offset argument new) = Some (Guarded offset)
guarded _ = None

abbrev pub not_shown : State → Command → Option Why
not_shown s (Commands.Show name offset) = no_register s name offset
not_shown s _ = None

-- the first limit that would be passed
abbrev pub passed : State → Command → Option Why
passed s (Commands.Cable a b) = Some (Limit BusResets s.resets 1)
passed s (Commands.Reset name) = Some (Limit BusResets s.resets 1)
passed s (Commands.Lose name) = Some (Limit BusResets s.resets 1)
passed s (Commands.Step name count) = Some (Limit HalfSteps s.half_steps count)
passed s (Commands.Contend name count) = Some (Limit HalfSteps s.half_steps count)
passed s (Commands.Settle rounds) = Some (Limit HalfSteps s.half_steps (rounds * length (living s)))
passed s (Commands.Wait cycles) = Some (Limit Cycles s.clock.cycle cycles)
passed s (Commands.Cycles count) =
    Some (if nat_lt 0 (length s.declared.names) && nat_lt MOST_WRITTEN_CYCLES (s.written + count) then Limit WrittenCycles s.written count else Limit Cycles s.clock.cycle count)
passed s _ = None

-- what stands against a command, by the first rule that it breaks
abbrev pub cause : State → Command → RuleFault → Option Why
cause s c Rules.UnknownName = first_unknown s 2 (names_of c)
cause s c Rules.NameTaken = name_taken s c
cause s c Rules.TooMany = Some TooMany
cause s c Rules.NoDeck = no_deck s (deck_of c)
cause s c Rules.NoPort = at_cable c (no_port s)
cause s c Rules.PortUsed = at_cable c (port_used s)
cause s c Rules.Loop = at_cable c (λ a b. loop s a.0 b.0)
cause s c Rules.NotController = not_controller s c
cause s c Rules.NothingStands = nothing_stands s c
cause s c Rules.OffBus = off_bus s c
cause s c Rules.NotOwnPlug = option_map NotOwnPlug (controller_of c)
cause s c Rules.NoSuchConnection = no_such_connection s c
cause s c Rules.TableFull = option_map TableFull (controller_of c)
cause s c Rules.Busy = option_map Busy (controller_of c)
cause s c Rules.NotCapable = not_capable s c
cause s c Rules.NotCandidate = not_candidate s c
cause s c Rules.Guarded = guarded c
cause s c Rules.NoRegister = not_shown s c
cause s c Rules.Limit = passed s c
cause s c Rules.TooLate = option_map TooLate (name_at s 0)

-- a rule of cables
abbrev pub IsOfCables : RuleFault → Type 0
IsOfCables Rules.NoPort = ⊤
IsOfCables Rules.PortUsed = ⊤
IsOfCables Rules.Loop = ⊤
IsOfCables _ = ⊥
