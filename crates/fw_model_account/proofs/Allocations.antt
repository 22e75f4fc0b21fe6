-- The moves at BANDWIDTH_AVAILABLE and CHANNELS_AVAILABLE keep the account sound.
use Rattle.fw_model_account.proofs.Common.{PlugAt, ◌≡◌, ℕ, ◌+◌, ◌<◌, Option, Some, None, arith}
use Rattle.fw_model_account.proofs.Common.{nat_tests, update, Pending, Allocation, Account, allocated, AllocateChannel, AllocateUnits, ReleaseUnits}
use Rattle.fw_model_account.proofs.Common.{ReleaseChannel, after, IsSound}
use Rattle.fw_model_account.specs.Account.{total}
use Rattle.fw_model_account.specs.Moves.{CanAllocateChannel, CanAllocateUnits, CanReleaseUnits, CanReleaseChannel}
use Rattle.fw_terms.proofs.Tables.{sum_to_changed}
use Rattle.fw_model_account.proofs.Network.{not_both}
use Rattle.fw_model_account.proofs.Open.{open_is, not_withheld}

-- the units that are allocated, after a change at one channel
pub total_changed : (allocations : ℕ → Option Allocation) (ch : ℕ) (x : Option Allocation) → ch < 64 → total (update allocations ch x) + allocated (allocations ch) ≡ total allocations + allocated x
total_changed allocations ch x lt =
    let e = sum_to_changed 64 ch (λ j. allocated (update allocations ch x j)) (λ j. allocated (allocations j)) lt (λ j ne. grind (arith, nat_tests)) in
    grind (arith, nat_tests)

pub allocate_channel : (c : ℕ) (p : PlugAt) (ch : ℕ) (l : Account) → IsSound l → CanAllocateChannel c p ch l → IsSound (after c p (AllocateChannel ch) l)
allocate_channel c p ch l s h = record {
  load =
      let e = total_changed l.allocations ch (Some (record { holder = Pending c p; units = 0 })) h.within in
      omega (arith, s.load);
  bounded = λ d x e. grind (arith, nat_tests, s.bounded d x);
  allocated = λ q t. grind (arith, nat_tests, s.allocated q t);
  connected = λ d q u e. grind (arith, nat_tests, s.connected d q u);
  one_pending = λ d a b x y. grind (arith, nat_tests, s.one_pending d a b, h.no_pending a, h.no_pending b);
  for_addressed = λ d a q u e. grind (arith, nat_tests, s.for_addressed d a q u);
  reclaimable_load = s.reclaimable_load;
  reclaimable_bounded = s.reclaimable_bounded;
  reclaimable_once = s.reclaimable_once;
  reclaimable_ends = s.reclaimable_ends;
  there = s.there;
  continuing = s.continuing;
  reclaimed = λ t d x e. grind (arith, nat_tests, s.reclaimed t d x);
  counts = s.counts;
  controllers = s.controllers;
  range = s.range;
  settings_fit = s.settings_fit;
  channels_fit = s.channels_fit;
  withheld_unallocated = λ d w. grind (arith, nat_tests, s.withheld_unallocated d w, (open_is l.withheld l.allocations ch h.available).1);
  withheld_unclaimed = s.withheld_unclaimed;
  begins = λ e. absurd (not_both _ p ((s.begins e).addressed c) h.addressed);
  inputs_there = s.inputs_there;
}

pub allocate_units : (c : ℕ) (p : PlugAt) (ch u : ℕ) (l : Account) → IsSound l → CanAllocateUnits c p ch u l → IsSound (after c p (AllocateUnits ch u) l)
allocate_units c p ch u l s h = record {
  load =
      let e = total_changed l.allocations ch (Some (record { holder = Pending c p; units = u })) h.within in
      let f = h.fits in
      omega (arith, s.load);
  bounded = λ d x e. grind (arith, nat_tests, s.bounded d x);
  allocated = λ q t. grind (arith, nat_tests, s.allocated q t);
  connected = λ d q v e. grind (arith, nat_tests, s.connected d q v);
  one_pending = λ d a b x y. grind (arith, nat_tests, s.one_pending d a b);
  for_addressed = λ d a q v e. grind (arith, nat_tests, s.for_addressed d a q v);
  reclaimable_load = s.reclaimable_load;
  reclaimable_bounded = s.reclaimable_bounded;
  reclaimable_once = s.reclaimable_once;
  reclaimable_ends = s.reclaimable_ends;
  there = s.there;
  continuing = s.continuing;
  reclaimed = λ t d x e. grind (arith, nat_tests, s.reclaimed t d x);
  counts = s.counts;
  controllers = s.controllers;
  range = s.range;
  settings_fit = s.settings_fit;
  channels_fit = s.channels_fit;
  withheld_unallocated = λ d w. grind (arith, nat_tests, s.withheld_unallocated d w, not_withheld l ch _ s h.channel);
  withheld_unclaimed = s.withheld_unclaimed;
  begins = λ e. absurd (not_both _ p ((s.begins e).addressed c) h.addressed);
  inputs_there = s.inputs_there;
}

pub release_channel : (c : ℕ) (p : PlugAt) (ch : ℕ) (l : Account) → IsSound l → CanReleaseChannel c p ch l → IsSound (after c p (ReleaseChannel ch) l)
release_channel c p ch l s h = record {
  load =
      let e = total_changed l.allocations ch None h.within in
      omega (arith, s.load);
  bounded = λ d x e. grind (arith, nat_tests, s.bounded d x);
  allocated = λ q t. grind (arith, nat_tests, s.allocated q t);
  connected = λ d q v e. grind (arith, nat_tests, s.connected d q v);
  one_pending = λ d a b x y. grind (arith, nat_tests, s.one_pending d a b);
  for_addressed = λ d a q v e. grind (arith, nat_tests, s.for_addressed d a q v);
  reclaimable_load = s.reclaimable_load;
  reclaimable_bounded = s.reclaimable_bounded;
  reclaimable_once = s.reclaimable_once;
  reclaimable_ends = s.reclaimable_ends;
  there = s.there;
  continuing = s.continuing;
  reclaimed = λ t d x e. grind (arith, nat_tests, s.reclaimed t d x);
  counts = s.counts;
  controllers = s.controllers;
  range = s.range;
  settings_fit = s.settings_fit;
  channels_fit = s.channels_fit;
  withheld_unallocated = λ d w. grind (arith, nat_tests, s.withheld_unallocated d w);
  withheld_unclaimed = s.withheld_unclaimed;
  begins = λ e. absurd (not_both _ _ ((s.begins e).allocations ch) h.held);
  inputs_there = s.inputs_there;
}

pub release_units : (c : ℕ) (p : PlugAt) (ch u : ℕ) (l : Account) → IsSound l → CanReleaseUnits c p ch u l → IsSound (after c p (ReleaseUnits ch u) l)
release_units c p ch u l s h = record {
  load =
      let e = total_changed l.allocations ch (Some (record { holder = Pending c p; units = 0 })) h.within in
      omega (arith, s.load);
  bounded = λ d x e. grind (arith, nat_tests, s.bounded d x);
  allocated = λ q t. grind (arith, nat_tests, s.allocated q t);
  connected = λ d q v e. grind (arith, nat_tests, s.connected d q v);
  one_pending = λ d a b x y. grind (arith, nat_tests, s.one_pending d a b);
  for_addressed = λ d a q v e. grind (arith, nat_tests, s.for_addressed d a q v);
  reclaimable_load = s.reclaimable_load;
  reclaimable_bounded = s.reclaimable_bounded;
  reclaimable_once = s.reclaimable_once;
  reclaimable_ends = s.reclaimable_ends;
  there = s.there;
  continuing = s.continuing;
  reclaimed = λ t d x e. grind (arith, nat_tests, s.reclaimed t d x);
  counts = s.counts;
  controllers = s.controllers;
  range = s.range;
  settings_fit = s.settings_fit;
  channels_fit = s.channels_fit;
  withheld_unallocated = λ d w. grind (arith, nat_tests, s.withheld_unallocated d w, not_withheld l ch _ s h.held);
  withheld_unclaimed = s.withheld_unclaimed;
  begins = λ e. absurd (not_both _ _ ((s.begins e).allocations ch) h.held);
  inputs_there = s.inputs_there;
}
