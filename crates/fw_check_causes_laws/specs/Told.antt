-- What is told of a command that breaks a rule.
use Rattle.std.specs.Prelude.{◌≡◌, ℕ, List, codes, Some}
use Rattle.fw_script_command.specs.declared.command.Command.{Command}
use Rattle.fw_order.specs.declared.rule.RuleFault.{RuleFault}
use Rattle.fw_order.specs.declared.rule.RuleFault.TheVariants.{UnknownName, NameTaken, TooMany, NoDeck, NoPort, PortUsed, Loop, NotController, NothingStands, OffBus}
use Rattle.fw_order.specs.declared.rule.RuleFault.TheVariants.{NotOwnPlug, NoSuchConnection, TableFull, Busy, NotCapable, NotCandidate, Guarded, NoRegister, Limit, TooLate}
use Rattle.fw_model_run.specs.State.{State}
use Rattle.fw_check.specs.Whys.{rule_name}
use Rattle.fw_check.specs.declared.why.Why.{Why}
use Rattle.fw_check_causes.specs.Causes.{cause}

-- the name of a rule, which `run` notes of a command that it refuses by it
abbrev pub rule_word : RuleFault → List ℕ
rule_word UnknownName = codes "UnknownName"
rule_word NameTaken = codes "NameTaken"
rule_word TooMany = codes "TooMany"
rule_word NoDeck = codes "NoDeck"
rule_word NoPort = codes "NoPort"
rule_word PortUsed = codes "PortUsed"
rule_word Loop = codes "Loop"
rule_word NotController = codes "NotController"
rule_word NothingStands = codes "NothingStands"
rule_word OffBus = codes "OffBus"
rule_word NotOwnPlug = codes "NotOwnPlug"
rule_word NoSuchConnection = codes "NoSuchConnection"
rule_word TableFull = codes "TableFull"
rule_word Busy = codes "Busy"
rule_word NotCapable = codes "NotCapable"
rule_word NotCandidate = codes "NotCandidate"
rule_word Guarded = codes "Guarded"
rule_word NoRegister = codes "NoRegister"
rule_word Limit = codes "Limit"
rule_word TooLate = codes "TooLate"

-- something stands against the command, and what is told of it has this rule's name
pub record HasCause (s : State) (c : Command) (rule : RuleFault) : Type 0 where
  pub why : Why
  pub is : cause s c rule ≡ Some why
  pub named : rule_name why ≡ rule_word rule
