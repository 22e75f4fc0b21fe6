use Rattle.fw_ledger.proofs.Common.{◌*◌, ◌/◌, ◌%◌, ℕ, slice_index, renewed_seats, no_seats, Seats}
use Rattle.fw_ledger.specs.Resets.{renewed_input}
use Rattle.fw_ledger.proofs.Renewals.{Renews}
use Rattle.fw_ledger.proofs.renew.renew_inputs.Given as goal

abbrev pub invariant-loop-device : goal.invariant-loop-device
invariant-loop-device l = record {
  words : Renews ℕ 0 (λ j w. renewed_input l.before l.now (j / 31) (j % 31) w) l.fn.words l.words (l.device * 31);
  seats : Renews Seats no_seats (λ j s. renewed_seats l.before l.now (j / 31) (j % 31) (slice_index l.fn.words j) s) l.fn.seats l.seats (l.device * 31);
}

abbrev pub invariant-loop-k : goal.invariant-loop-k
invariant-loop-k l = record {
  words : Renews ℕ 0 (λ j w. renewed_input l.before l.now (j / 31) (j % 31) w) l.fn.words l.words l.k;
  seats : Renews Seats no_seats (λ j s. renewed_seats l.before l.now (j / 31) (j % 31) (slice_index l.fn.words j) s) l.fn.seats l.seats l.k;
}
