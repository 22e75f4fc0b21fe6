use Rattle.std.proofs.Common.{◌≡◌, map, length}
use Rattle.fw_text.specs.Names.{name_in}
use Rattle.fw_text.proofs.names.words_in.Given as goal

abbrev pub invariant-loop-table : goal.invariant-loop-table
invariant-loop-table l = record {
  first : name_in (map (λ r. (r.0, r.1.now)) l.table) l.key ≡ name_in (map (λ r. (r.0, r.1.now)) l.fn.table) l.key;
  second : name_in (map (λ r. (r.0, r.2.now)) l.table) l.key ≡ name_in (map (λ r. (r.0, r.2.now)) l.fn.table) l.key;
}

abbrev pub decreases-loop-table : goal.decreases-loop-table
decreases-loop-table l = length l.table
