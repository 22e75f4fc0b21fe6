use Rattle.std.proofs.Common.{◌≡◌, subst}
use Rattle.fw_script_command.specs.declared.command.Command.{Command}
use Rattle.fw_script_command.specs.declared.command.Command.TheVariants.{Show}
use Rattle.fw_script_command.proofs.CommandLaws.{CommandFits, command_fits}
use Rattle.fw_bus_rules.specs.Decisions.{IsCommand}
use Rattle.fw_check_causes.proofs.registers.no_register.Goals as goal

-- the command as it was matched
matched_fits : (c d : Command) → c ≡ d → IsCommand c → CommandFits d
matched_fits c d is h = subst CommandFits is (command_fits c h.0 h.1)

pub no_register_of-requires : goal.no_register_of-requires
no_register_of-requires c = let a = c.in-Show-Some-default in matched_fits c.args.command.now (Show a.field-0 a.offset) a.is c.requires

pub no_register_of-requires-in-Some : goal.no_register_of-requires-in-Some
no_register_of-requires-in-Some c = let a = c.in-Show-None-default in matched_fits c.args.command.now (Show a.field-0 a.offset) a.is c.requires
