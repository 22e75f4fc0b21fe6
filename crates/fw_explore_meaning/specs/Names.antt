-- The names that texts and notes have for rules.
use Rattle.std.specs.Prelude.{ℕ, List, codes}
use Rattle.fw_order.specs.declared.rule.RuleFault.{RuleFault}
use Rattle.fw_order.specs.declared.rule.RuleFault.TheVariants as Rules

unfoldable pub rule_name : RuleFault → List ℕ
rule_name Rules.UnknownName = codes "UnknownName"
rule_name Rules.NameTaken = codes "NameTaken"
rule_name Rules.TooMany = codes "TooMany"
rule_name Rules.NoDeck = codes "NoDeck"
rule_name Rules.NoPort = codes "NoPort"
rule_name Rules.PortUsed = codes "PortUsed"
rule_name Rules.Loop = codes "Loop"
rule_name Rules.NotController = codes "NotController"
rule_name Rules.NothingStands = codes "NothingStands"
rule_name Rules.OffBus = codes "OffBus"
rule_name Rules.NotOwnPlug = codes "NotOwnPlug"
rule_name Rules.NoSuchConnection = codes "NoSuchConnection"
rule_name Rules.TableFull = codes "TableFull"
rule_name Rules.Busy = codes "Busy"
rule_name Rules.NotCapable = codes "NotCapable"
rule_name Rules.NotCandidate = codes "NotCandidate"
rule_name Rules.Guarded = codes "Guarded"
rule_name Rules.NoRegister = codes "NoRegister"
rule_name Rules.Limit = codes "Limit"
rule_name Rules.TooLate = codes "TooLate"
