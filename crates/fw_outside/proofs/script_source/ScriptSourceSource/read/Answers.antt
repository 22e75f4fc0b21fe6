use Rattle.std.proofs.Common.{rules, arith, drop, sym, ◌+◌, length}
use Rattle.std.proofs.lemmas.Grind.{common_steps}
use Rattle.std.proofs.lemmas.List.{drop-drop}
use Rattle.fw_outside.proofs.Fronts.{reads_prefix}
use Rattle.fw_outside.proofs.script_source.ScriptSourceSource.read.Goals as goal

-- what was copied is a prefix of what was left
pub returns-clause-bytes : goal.returns-clause-bytes
returns-clause-bytes c =
    let n = c.copy_prefix-count.result in
    reads_prefix c.args.self.now (drop c.self.inside.at c.self.inside.bytes.items) c.copy_prefix-count.new.into
    (drop (c.self.inside.at + n) c.self.inside.bytes.items) n (length c.args.into.now)
    (sym c.self.view_is) (search rules) (grind (arith, common_steps)) (grind (arith, common_steps))
    (sym (drop-drop n c.self.inside.at c.self.inside.bytes.items))
