use Rattle.std.proofs.Common.{◌≡◌, ◌++◌, true, flat_map, map, length}
use Rattle.std.specs.List.{list_all}
use Rattle.fw_log_registers.specs.Words.{told_field, is_field, field_at}
use Rattle.fw_log_registers.proofs.fields.put_fields.Given as goal

abbrev pub invariant-loop-fields : goal.invariant-loop-fields
invariant-loop-fields l = record {
  exact : list_all is_field (map (λ f. field_at f.0.now f.1 f.2 f.3) l.fields) ≡ true;
  told : l.text ++ flat_map (told_field l.told) (map (λ f. field_at f.0.now f.1 f.2 f.3) l.fields) ≡ l.fn.text ++ flat_map (told_field l.told) (map (λ f. field_at f.0.now f.1 f.2 f.3) l.fn.fields);
}

abbrev pub decreases-loop-fields : goal.decreases-loop-fields
decreases-loop-fields l = length l.fields
