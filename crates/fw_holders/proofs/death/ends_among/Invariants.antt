use Rattle.fw_holders.proofs.Common.{◌≡◌, ◌≤◌, sum_to, at_plug, ends_in}
use Rattle.std.proofs.Common.{◌*◌}
use Rattle.fw_holders.proofs.death.ends_among.Given as goal

abbrev pub invariant-loop-device : goal.invariant-loop-device
invariant-loop-device l = record {
  ends : l.ends ≡ sum_to l.device (λ d. sum_to 31 (λ n. ends_in l.counts l.seats l.controller (at_plug d n)));
  few : l.ends ≤ 7936 * l.device;
}
