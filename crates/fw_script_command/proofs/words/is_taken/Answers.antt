use Rattle.std.proofs.Common.{codes, arith, rules}
use Rattle.fw_script_command.specs.Words.{is_taken}
use Rattle.fw_script_command.proofs.WordLaws.{by_bytes}
use Rattle.fw_script_command.proofs.words.is_taken.Goals as goal

pub returns-in-manager-3 : goal.returns-in-manager-3
returns-in-manager-3 c = by_bytes is_taken c.args.word.now (codes "manager") (omega arith) (search rules)
