use Rattle.std.proofs.Common.{◌≡◌, ◌++◌}
use Rattle.fw_watch_remarks.specs.Parts.{any_to, owners_to}
use Rattle.fw_watch_remarks.proofs.parts.put_owners.Given as goal

abbrev pub invariant-loop-node : goal.invariant-loop-node
invariant-loop-node l = record {
  text : l.text.items ≡ l.fn.text.items ++ owners_to l.node l.owners;
  others : l.others ≡ any_to l.node l.owners;
}
