use Rattle.fw_holders.proofs.Common.{◌≡◌, ◌≤◌, sum_to, at_plug, ends_in}
use Rattle.std.proofs.Common.{◌*◌}
use Rattle.fw_holders.proofs.death.ends_on.Given as goal

abbrev pub invariant-loop-plug : goal.invariant-loop-plug
invariant-loop-plug l = record {
  ends : l.ends ≡ sum_to l.plug (λ n. ends_in l.counts l.seats l.controller (at_plug l.device n));
  few : l.ends ≤ 256 * l.plug;
}
