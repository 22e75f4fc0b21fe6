use Rattle.fw_map.proofs.Common.{◌≡◌, ◌==◌, counted, field_of, IsLast}
use Rattle.fw_map.proofs.fields.parent_ports.Given as goal

abbrev pub invariant-loop-port : goal.invariant-loop-port
invariant-loop-port l = record {
  count : l.count ≡ counted (λ p. field_of l.ids l.node p == 2) l.port;
  last : IsLast (λ p. field_of l.ids l.node p == 2) l.port l.last;
}
