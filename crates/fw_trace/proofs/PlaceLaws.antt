-- Only a command that asks for a connection is given a slot.
use Rattle.fw_trace.proofs.Common.{◌≡◌, ap, List, ℕ, false, Option, Some, None, Ok, Command}
use Rattle.std.specs.Option.{is_some}
use Rattle.fw_script_command.specs.declared.command.Command.TheVariants as Commands
use Rattle.fw_order.specs.declared.order.Order.{Order}
use Rattle.fw_model_run.specs.Rules.{Decides, IsOrder}
use Rattle.fw_model_run.specs.State.{State}
use Rattle.fw_trace_lines.specs.Jobs.{connection_of}
use Rattle.fw_trace.specs.Parts.{place_of}

no_slot : (s : State) (c : Command) (o : Order) → is_some (connection_of c) ≡ false → IsOrder s c o → place_of o ≡ None
no_slot s Commands.Withhold o n x = ap place_of x
no_slot s (Commands.Device name kind ports speed) o n x = ap place_of x
no_slot s (Commands.Cable a b) o n x = ap place_of x.4
no_slot s (Commands.Reset name) o n x = ap place_of x.2
no_slot s (Commands.Break name slot) o n x = ap place_of x.2
no_slot s (Commands.Step name count) o n x = ap place_of x.2
no_slot s (Commands.Settle rounds) o n x = ap place_of x
no_slot s (Commands.Wait cycles) o n x = ap place_of x
no_slot s (Commands.Cycles count) o n x = ap place_of x
no_slot s (Commands.Die name late) o n x = ap place_of x.2
no_slot s (Commands.Lose name) o n x = ap place_of x.2
no_slot s (Commands.Start name) o n x = ap place_of x.2
no_slot s (Commands.Read name other offset) o n x = ap place_of x.4
no_slot s (Commands.Swap name other offset argument new) o n x = ap place_of x.4
no_slot s (Commands.Command name other frame) o n x = ap place_of x.4
no_slot s (Commands.Insert name tape system) o n x = ap place_of x.2
no_slot s (Commands.Eject name) o n x = ap place_of x.2
no_slot s (Commands.Show name offset) o n x = ap place_of x.2
no_slot s (Commands.Candidate name) o n x = ap place_of x.2
no_slot s (Commands.Contend name count) o n x = ap place_of x.2
no_slot s (Commands.Dub name) o n x = ap place_of x.2
no_slot s Commands.End o n x = ap place_of x
no_slot s (Commands.Connect name out into channel overhead) o n x = absurd cc
no_slot s (Commands.Broadcast name out overhead) o n x = absurd cc
no_slot s (Commands.Listen name into) o n x = absurd cc

pub no_place : (s : State) (c : Command) (o : Order) → is_some (connection_of c) ≡ false → Decides s c (Ok o) → place_of o ≡ None
no_place s c o n d = no_slot s c o n d.0
