-- What a command orders of the machine, or the first rule that it breaks.
use Rattle.std.specs.Prelude.{ℕ, ◌≡◌, ◌<◌, List, length, Some, None, Ok, Err, ◌⊎◌, IsTrue, IsFalse}
use Rattle.std.specs.declared.result.Result.{Result}
use Rattle.fw_script_command.specs.declared.command.Command.{Command}
use Rattle.fw_script_command.specs.Form.{HasForm}
use Rattle.fw_devices.specs.Network.{device_named}
use Rattle.fw_order.specs.declared.order.Access.{Access}
use Rattle.fw_order.specs.declared.order.Access.TheVariants.{Read, Swap}
use Rattle.fw_order.specs.declared.order.Order.{Order}
use Rattle.fw_order.specs.declared.order.Order.TheVariants as Orders
use Rattle.fw_model_run.specs.Afterwards.{start_of}
use Rattle.fw_order.specs.declared.order.Wanted.{Wanted}
use Rattle.fw_order.specs.declared.rule.RuleFault.{RuleFault}
use Rattle.fw_order.specs.declared.rule.RuleFault.TheVariants.{UnknownName, NoDeck, NotController, TableFull, Busy, NoSuchConnection, NotOwnPlug}
use Rattle.fw_script_command.specs.declared.command.Command.TheVariants as Commands
use Rattle.fw_cmp.specs.declared.outcome.StartFault.{StartFault}
use Rattle.fw_cmp.specs.declared.outcome.StartFault.TheVariants as Refusals
use Rattle.fw_model_run.specs.State.{State}
use Rattle.fw_model_run.specs.Good.{IsGood}
use Rattle.fw_model_run.specs.Rules.{Decides}
use Rattle.fw_bus_state.specs.declared.machine.Machine.{Machine}
use Rattle.fw_bus_state.specs.Tables.{states_of}
use Rattle.fw_bus_state.specs.Stands.{StandsFor, is_living_in}
use Rattle.fw_bus_state.specs.Orders.{has_deck_in}

-- a command that some line of a script gives
abbrev pub IsCommand : Command → Type 0
IsCommand c = (line : List ℕ) × HasForm c line

-- what a command orders, or the first rule that it breaks, in each good state that the machine stands for
abbrev pub Decided : Machine → Command → Result Order RuleFault → Type 0
Decided m c r = (s : State) → IsGood s → StandsFor m s → Decides s c r

-- the rule by which a controller refuses a job
abbrev pub rule_of : StartFault → RuleFault
rule_of Refusals.TableFull = TableFull
rule_of Refusals.Busy = Busy
rule_of Refusals.NoSuchConnection = NoSuchConnection
rule_of Refusals.NotOwnPlug = NotOwnPlug

-- a new connection of a device's controller is ordered, or that controller does not live, or refuses it
abbrev pub ConnectionDecided : Machine → ℕ → Wanted → Result Order RuleFault → Type 0
ConnectionDecided m d w (Ok o) = (i : ℕ) × (o ≡ Orders.Connect d w i) × IsTrue (is_living_in m d) × (start_of d w (states_of m.controllers d).state ≡ Ok i)
ConnectionDecided m d w (Err rule) =
    ((rule ≡ NotController) × IsFalse (is_living_in m d))
    ⊎ ((f : StartFault) × (rule ≡ rule_of f) × IsTrue (is_living_in m d) × (start_of d w (states_of m.controllers d).state ≡ Err f))

-- the deck or camcorder of a name, or why there is none
abbrev pub DeckDecided : Machine → List ℕ → Result ℕ RuleFault → Type 0
DeckDecided m name (Ok d) = (device_named m.devices.names name ≡ Some d) × (d < length m.devices.nodes) × IsTrue (has_deck_in m.devices d)
DeckDecided m name (Err rule) =
    ((rule ≡ UnknownName) × (device_named m.devices.names name ≡ None))
    ⊎ ((rule ≡ NoDeck) × ((d : ℕ) × (device_named m.devices.names name ≡ Some d) × IsFalse (has_deck_in m.devices d)))

-- the line of a transaction
abbrev pub command_of : List ℕ → List ℕ → Access → Command
command_of from to (Read offset) = Commands.Read from to offset
command_of from to (Swap offset swap) = Commands.Swap from to offset swap.argument swap.new
