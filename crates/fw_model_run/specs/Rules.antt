-- The rules of commands: when a command breaks each of them, in which order they are tested, and what a command orders.
use Rattle.std.specs.Prelude.{ℕ, ◌≡◌, ◌<◌, ◌≤◌, ◌==◌, not, IsTrue, if◌then◌else◌}
use Rattle.std.specs.Prelude.{List, length, Some, Ok, Err}
use Rattle.std.specs.List.{list_any}
use Rattle.std.specs.declared.result.Result.{Result}
use Rattle.fw_terms.specs.Devices.{is_capable, kind_with}
use Rattle.fw_tape.specs.declared.system.TapeSystem.{TapeSystem}
use Rattle.fw_tape.specs.declared.system.TapeSystem.TheVariants.{Lines525, Lines625}
use Rattle.fw_tree.specs.declared.TreeFault.TheVariants as Tree
use Rattle.fw_script_command.specs.declared.command.Command.{Command}
use Rattle.fw_script_command.specs.declared.command.Command.TheVariants as Commands
use Rattle.fw_devices.specs.Network.{kind_at}
use Rattle.fw_model_run.specs.Bidding.{is_candidate}
use Rattle.fw_cmp.specs.declared.outcome.StartFault.TheVariants as Refusals
use Rattle.fw_order.specs.declared.order.Access.{Access}
use Rattle.fw_order.specs.declared.order.Access.TheVariants.{Read, Swap}
use Rattle.fw_order.specs.declared.order.Wanted.{Wanted}
use Rattle.fw_order.specs.declared.order.Order.{Order}
use Rattle.fw_order.specs.declared.order.Order.TheVariants as order
use Rattle.fw_order.specs.declared.rule.RuleFault.{RuleFault}
use Rattle.fw_order.specs.declared.rule.RuleFault.TheVariants.{UnknownName, NameTaken, TooMany, NoPort, PortUsed, Loop, NotController, OffBus}
use Rattle.fw_order.specs.declared.rule.RuleFault.TheVariants.{Guarded, NoRegister, Limit, TableFull, Busy, NoSuchConnection, NotOwnPlug, NoDeck, NothingStands, TooLate, NotCapable, NotCandidate}
use Rattle.fw_model_run.specs.State.{State, is_on, is_linked, has_deck, is_living}
use Rattle.fw_model_run.specs.HalfSteps.{has_request}
use Rattle.fw_model_run.specs.Afterwards.{start_of}
use Rattle.fw_model_run.specs.Named.{IsNamed, is_declared, names_of, controller_of, node_of, deck_of, IsNot, Ends}
use Rattle.fw_model_run.specs.Named.{HasTreeFault, IsWanted, IsRefused, is_guarded_in, IsShown, HasNoRegister, PassesLimit}

-- ---- the rules

-- the name of a new device is taken
abbrev pub TakesName : State → Command → Type 0
TakesName s (Commands.Device name kind ports speed) = IsTrue (is_declared s name)
TakesName s _ = ⊥

-- the bus has 63 devices already
abbrev pub IsTooMany : State → Command → Type 0
IsTooMany s (Commands.Device name kind ports speed) = 63 ≤ length s.declared.names
IsTooMany s _ = ⊥

-- a computer or a relay
abbrev pub HasNoDeck : State → Command → Type 0
HasNoDeck s c = IsNot s (has_deck s) (deck_of c)

-- the device has no living controller, or no link that one could be started at
abbrev pub HasNoController : State → Command → Type 0
HasNoController s (Commands.Start name) = IsNot s (is_linked s) (Some name)
HasNoController s c = IsNot s (is_living s) (controller_of c)

-- the device is off the bus, or has no link if one is needed
abbrev pub IsOff : State → Command → Type 0
IsOff s (Commands.Reset name) = IsNot s (is_on s) (Some name)
IsOff s (Commands.Dub name) = IsNot s (is_on s) (Some name)
IsOff s c = IsNot s (is_linked s) (node_of c)

-- only controllers' procedures, and candidates, swap there (own)
abbrev pub IsGuarded : State → Command → Type 0
IsGuarded s (Commands.Swap name other offset argument new) = IsTrue (is_guarded_in s.election.begun offset)
IsGuarded s _ = ⊥

-- no computer
abbrev pub IsNotCapable : State → Command → Type 0
IsNotCapable s (Commands.Candidate name) = IsNot s (λ d. is_capable (kind_at s.declared.kinds d)) (Some name)
IsNotCapable s _ = ⊥

-- the device is no candidate for the bus manager
abbrev pub IsNoCandidate : State → Command → Type 0
IsNoCandidate s (Commands.Contend name count) = IsNot s (is_candidate s) (Some name)
IsNoCandidate s _ = ⊥

-- no request is outstanding whose response could be lost
abbrev pub HasNothing : State → Command → Type 0
HasNothing s (Commands.Lose name) = IsNot s (λ d. has_request (s.controllers d).current) (Some name)
HasNothing s _ = ⊥

-- a device is declared before the channel is withheld
abbrev pub IsTooLate : State → Command → Type 0
IsTooLate s Commands.Withhold = 0 < length s.declared.names
IsTooLate s _ = ⊥

-- A command breaks a rule.
abbrev pub Breaks : State → Command → RuleFault → Type 0
Breaks s c UnknownName = IsTrue (list_any (λ name. not (is_declared s name)) (names_of c))
Breaks s c NameTaken = TakesName s c
Breaks s c TooMany = IsTooMany s c
Breaks s c NoDeck = HasNoDeck s c
Breaks s c NoPort = HasTreeFault s Tree.NoPort c
Breaks s c PortUsed = HasTreeFault s Tree.PortUsed c
Breaks s c Loop = HasTreeFault s Tree.Loop c
Breaks s c NotController = HasNoController s c
Breaks s c NothingStands = HasNothing s c
Breaks s c NotCapable = IsNotCapable s c
Breaks s c NotCandidate = IsNoCandidate s c
Breaks s c OffBus = IsOff s c
Breaks s c NotOwnPlug = IsRefused s c Refusals.NotOwnPlug
Breaks s c NoSuchConnection = IsRefused s c Refusals.NoSuchConnection
Breaks s c TableFull = IsRefused s c Refusals.TableFull
Breaks s c Busy = IsRefused s c Refusals.Busy
Breaks s c Guarded = IsGuarded s c
Breaks s c NoRegister = HasNoRegister s c
Breaks s c Limit = PassesLimit s c
Breaks s c TooLate = IsTooLate s c

-- the order in which they are tested
abbrev pub rank : RuleFault → ℕ
rank UnknownName = 1
rank NameTaken = 2
rank TooMany = 3
rank NoDeck = 4
rank NoPort = 5
rank PortUsed = 6
rank Loop = 7
rank NotController = 8
rank NothingStands = 9
rank OffBus = 10
rank NotOwnPlug = 11
rank NoSuchConnection = 12
rank TableFull = 13
rank Busy = 14
rank NotCapable = 15
rank NotCandidate = 16
rank Guarded = 17
rank NoRegister = 18
rank Limit = 19
rank TooLate = 20

-- ---- orders

-- the system whose pictures have so many lines
abbrev pub system_with : ℕ → TapeSystem
system_with lines = if lines == 525 then Lines525 else Lines625

-- a transaction from one named device to another, with this access
abbrev pub Transacts : State → List ℕ → List ℕ → Access → Order → Type 0
Transacts s name other access o = (d e : ℕ) × IsNamed s name d × IsNamed s other e × (o ≡ order.Transact (record { from = d; to = e; access = access }))

-- a new connection of a named device's controller, which does not refuse it, and the slot that it takes
abbrev pub Connects : State → Command → Order → Type 0
Connects s c o = (d : ℕ) × (w : Wanted) × IsWanted s c d w × (i : ℕ) × (start_of d w (s.controllers d) ≡ Ok i) × (o ≡ order.Connect d w i)

-- a command, with its devices by number
abbrev pub IsOrder : State → Command → Order → Type 0
IsOrder s Commands.Withhold o = o ≡ order.Withhold
IsOrder s (Commands.Device name kind ports speed) o = o ≡ order.Declare name (kind_with kind) ports speed
IsOrder s (Commands.Cable a b) o = Ends s (Commands.Cable a b) (λ x y. o ≡ order.Cable x y)
IsOrder s (Commands.Reset name) o = (d : ℕ) × IsNamed s name d × (o ≡ order.Reset d)
IsOrder s (Commands.Break name slot) o = (d : ℕ) × IsNamed s name d × (o ≡ order.Break d slot)
IsOrder s (Commands.Step name count) o = (d : ℕ) × IsNamed s name d × (o ≡ order.Step d count)
IsOrder s (Commands.Settle rounds) o = o ≡ order.Settle rounds
IsOrder s (Commands.Wait cycles) o = o ≡ order.Wait cycles
IsOrder s (Commands.Cycles count) o = o ≡ order.Cycles count
IsOrder s (Commands.Die name late) o = (d : ℕ) × IsNamed s name d × (o ≡ order.Die d late)
IsOrder s (Commands.Lose name) o = (d : ℕ) × IsNamed s name d × (o ≡ order.Lose d)
IsOrder s (Commands.Start name) o = (d : ℕ) × IsNamed s name d × (o ≡ order.Start d)
IsOrder s (Commands.Read name other offset) o = Transacts s name other (Read offset) o
IsOrder s (Commands.Swap name other offset argument new) o = Transacts s name other (Swap offset (record { argument = argument; new = new })) o
IsOrder s (Commands.Command name other frame) o = (d e : ℕ) × IsNamed s name d × IsNamed s other e × (o ≡ order.Command d e frame)
IsOrder s (Commands.Insert name tape system) o = (d : ℕ) × IsNamed s name d × (o ≡ order.Insert d tape (system_with system))
IsOrder s (Commands.Eject name) o = (d : ℕ) × IsNamed s name d × (o ≡ order.Eject d)
IsOrder s (Commands.Show name offset) o = (d : ℕ) × IsShown s name d × (o ≡ order.Show d offset)
IsOrder s (Commands.Candidate name) o = (d : ℕ) × IsNamed s name d × (o ≡ order.Candidate d)
IsOrder s (Commands.Contend name count) o = (d : ℕ) × IsNamed s name d × (o ≡ order.Contend d count)
IsOrder s (Commands.Dub name) o = (d : ℕ) × IsNamed s name d × (o ≡ order.Dub d)
IsOrder s Commands.End o = o ≡ order.End
IsOrder s c o = Connects s c o

-- What a command orders that breaks no rule, or the first rule that it breaks.
abbrev pub Decides : State → Command → Result Order RuleFault → Type 0
Decides s c (Ok o) = IsOrder s c o × ((g : RuleFault) → Breaks s c g → ⊥)
Decides s c (Err f) = Breaks s c f × ((g : RuleFault) → rank g < rank f → Breaks s c g → ⊥)
