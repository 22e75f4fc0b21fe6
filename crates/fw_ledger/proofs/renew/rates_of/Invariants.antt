use Rattle.fw_ledger.proofs.Common.{◌≡◌, ◌<◌, ℕ, true, false, nat_lt, length, slice_index}
use Rattle.fw_ledger.specs.Resets.{rate_of}
use Rattle.fw_ledger.proofs.renew.rates_of.Given as goal

abbrev pub invariant-loop-device : goal.invariant-loop-device
invariant-loop-device l = record {
  rates : (d n : ℕ) → d < l.device → nat_lt n (slice_index l.now d) ≡ true → nat_lt n (slice_index l.before d) ≡ false → slice_index l.rates d ≡ rate_of l.nodes l.ids d;
  long : length l.rates ≡ 63;
  small : (d : ℕ) → slice_index l.rates d < 4;
}
