use Rattle.fw_map.proofs.Common.{◌≡◌, ◌<◌, ◌≤◌, ℕ, length, slice_index, unwrap_or, field_in}
use Rattle.fw_map.proofs.fields.put_fields.Given as goal

abbrev pub invariant-loop-port : goal.invariant-loop-port
invariant-loop-port l = record {
  size : length l.fields ≡ 27;
  done : (p : ℕ) → p < l.port → slice_index l.fields p ≡ unwrap_or (field_in l.packet l.node p) (slice_index l.initial.fields p);
  rest : (p : ℕ) → l.port ≤ p → slice_index l.fields p ≡ slice_index l.initial.fields p;
}
