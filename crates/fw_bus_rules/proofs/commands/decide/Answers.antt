-- A command of a script has its numbers in their ranges.
use Rattle.std.proofs.Common.{◌≡◌, ◌<◌, ℕ, Option, Some, None, IfSome, subst, arith}
use Rattle.fw_cmp_jobs.specs.Fits.{AskedFits}
use Rattle.fw_script_command.specs.declared.command.Command.{Command}
use Rattle.fw_script_command.specs.declared.command.Command.TheVariants.{Device, Connect, Broadcast, Listen, Read, Swap, Show}
use Rattle.fw_script_command.proofs.CommandLaws.{CommandFits, command_fits}
use Rattle.fw_bus_rules.specs.Decisions.{IsCommand}
use Rattle.fw_bus_rules.proofs.commands.decide.Goals as goal

-- the command as it was matched
matched_fits : (c d : Command) → c ≡ d → IsCommand c → CommandFits d
matched_fits c d is h = subst CommandFits is (command_fits c h.0 h.1)

channel_fits : (o : Option ℕ) → IfSome o (λ ch. ch < 64) → AskedFits o
channel_fits None h = tt
channel_fits (Some ch) h = h

pub decide_device-requires-clause-kind : goal.decide_device-requires-clause-kind
decide_device-requires-clause-kind c = let a = c.in-Device in (matched_fits c.args.c.now (Device a.name a.kind a.ports a.speed) a.is c.requires.command).0

pub decide_connect-requires-clause-output : goal.decide_connect-requires-clause-output
decide_connect-requires-clause-output c = let a = c.in-Connect in (matched_fits c.args.c.now (Connect a.name a.output a.input a.channel a.overhead) a.is c.requires.command).0

pub decide_connect-requires-clause-input : goal.decide_connect-requires-clause-input
decide_connect-requires-clause-input c = let a = c.in-Connect in (matched_fits c.args.c.now (Connect a.name a.output a.input a.channel a.overhead) a.is c.requires.command).1

pub decide_connect-requires-clause-channel : goal.decide_connect-requires-clause-channel
decide_connect-requires-clause-channel c =
    let a = c.in-Connect in channel_fits a.channel (matched_fits c.args.c.now (Connect a.name a.output a.input a.channel a.overhead) a.is c.requires.command).2

pub decide_connect-requires-clause-overhead : goal.decide_connect-requires-clause-overhead
decide_connect-requires-clause-overhead c = let a = c.in-Connect in (matched_fits c.args.c.now (Connect a.name a.output a.input a.channel a.overhead) a.is c.requires.command).3

pub decide_broadcast-requires-clause-output : goal.decide_broadcast-requires-clause-output
decide_broadcast-requires-clause-output c = let a = c.in-Broadcast in (matched_fits c.args.c.now (Broadcast a.name a.output a.overhead) a.is c.requires.command).0

pub decide_broadcast-requires-clause-overhead : goal.decide_broadcast-requires-clause-overhead
decide_broadcast-requires-clause-overhead c = let a = c.in-Broadcast in (matched_fits c.args.c.now (Broadcast a.name a.output a.overhead) a.is c.requires.command).1

pub decide_listen-requires-clause-input : goal.decide_listen-requires-clause-input
decide_listen-requires-clause-input c = let a = c.in-Listen in matched_fits c.args.c.now (Listen a.name a.input) a.is c.requires.command

pub decide_transaction-requires : goal.decide_transaction-requires
decide_transaction-requires c = let a = c.in-Read in matched_fits c.args.c.now (Read a.from a.to a.offset) a.is c.requires.command

pub decide_transaction-requires-in-Swap : goal.decide_transaction-requires-in-Swap
decide_transaction-requires-in-Swap c = let a = c.in-Swap in (matched_fits c.args.c.now (Swap a.from a.to a.offset a.argument a.new) a.is c.requires.command, omega arith, omega arith)

pub decide_show-requires-clause-offset : goal.decide_show-requires-clause-offset
decide_show-requires-clause-offset c = let a = c.in-Show in matched_fits c.args.c.now (Show a.name a.offset) a.is c.requires.command
