-- A controller's death keeps the account sound.
use Rattle.fw_model_account.proofs.Common.{PlugAt, ◌≡◌, ℕ, ◌<◌, ◌≤◌, true, Option, Some, None, refl, sym, ap, ◌∙◌, ◌⊎◌, inl, inr, arith, nat_tests, update, Pending, Connected, Allocation, Connections}
use Rattle.fw_model_account.proofs.Common.{Account, counter, has_connection, is_there, is_pending, allocated, IsSound}
use Rattle.std.proofs.Common.{◌||◌}
use Rattle.fw_model_account.specs.Account.{Holder, Orphaned, Owner, Of, Dead}
use Rattle.fw_model_account.specs.Account.{total, is_pending_of, plug_of}
use Rattle.fw_model_account.specs.Events.{after_death, orphaned_allocation, orphaned_connections, orphaned_owner, orphaned_holder}
use Rattle.fw_model_account.proofs.Connections.{NoneBeyond}
use Rattle.std.proofs.lemmas.Bool.{cases_lt}
use Rattle.fw_terms.proofs.Tables.{sum_to_changed, sum_to_same}

pub orphaned_total : (c : ℕ) (allocations : ℕ → Option Allocation) → total (λ ch. orphaned_allocation c (allocations ch)) ≡ total allocations
orphaned_total c allocations = sum_to_same 64 (λ ch. allocated (orphaned_allocation c (allocations ch))) (λ ch. allocated (allocations ch)) (λ j lt. same (allocations j))
  where
    same : (x : Option Allocation) → allocated (orphaned_allocation c x) ≡ allocated x
    same None = refl
    same (Some x) = refl

pub orphaned_counter : (c : ℕ) (s : Connections) → NoneBeyond s → counter (orphaned_connections c s) ≡ counter s
orphaned_counter c s none = go (cases_lt c 63)
  where
    go : (c < 63) ⊎ (63 ≤ c) → counter (orphaned_connections c s) ≡ counter s
    go (inl lt) = let e = sum_to_changed 63 c (update s.counts c 0) s.counts lt (λ j ne. grind (arith, nat_tests)) in grind (arith, nat_tests)
    go (inr le) = omega (arith, none c le, sum_to_same 63 (update s.counts c 0) s.counts (λ j lt. grind (arith, nat_tests)))

orphaned_beyond : (c : ℕ) (s : Connections) → NoneBeyond s → NoneBeyond (orphaned_connections c s)
orphaned_beyond c s none = λ d le. grind (arith, nat_tests, none d le)

pub orphaned_there : (c : ℕ) (o : Option Owner) → is_there (orphaned_owner c o) ≡ is_there o
orphaned_there c None = refl
orphaned_there c (Some (Of d)) = refl
orphaned_there c (Some Dead) = refl

pub orphaned_has : (c : ℕ) (s : Connections) → NoneBeyond s → has_connection (orphaned_connections c s) ≡ has_connection s
orphaned_has c s none = grind (arith, orphaned_counter c s none, orphaned_there c s.broadcast)

-- what an allocation was before the death
orphaned_connected : (c : ℕ) (h : Holder) (q : PlugAt) → orphaned_holder c h ≡ Connected q → h ≡ Connected q
orphaned_connected c (Pending d p) q e = grind (arith, nat_tests)
orphaned_connected c (Connected p) q e = e
orphaned_connected c (Orphaned p) q e = grind arith

orphaned_pending : (c d : ℕ) (x : Option Allocation) → is_pending d (orphaned_allocation c x) ≡ true → is_pending d x ≡ true
orphaned_pending c d None e = e
orphaned_pending c d (Some x) e = go x.holder e
  where
    go : (h : Holder) → is_pending_of d (orphaned_holder c h) ≡ true → is_pending_of d h ≡ true
    go (Pending k p) e = grind (arith, nat_tests)
    go (Connected p) e = e
    go (Orphaned p) e = e

orphaned_plug : (c : ℕ) (h : Holder) → plug_of (orphaned_holder c h) ≡ plug_of h
orphaned_plug c (Pending d p) = grind (arith, nat_tests)
orphaned_plug c (Connected p) = refl
orphaned_plug c (Orphaned p) = refl

orphaned_addressed : (c d : ℕ) (h : Holder) (q : PlugAt) → orphaned_holder c h ≡ Pending d q → h ≡ Pending d q
orphaned_addressed c d (Pending k p) q e = grind (arith, nat_tests)
orphaned_addressed c d (Connected p) q e = e
orphaned_addressed c d (Orphaned p) q e = grind arith

orphaned_is : (c : ℕ) (x : Option Allocation) (y : Allocation) → orphaned_allocation c x ≡ Some y → (z : Allocation) × (x ≡ Some z) × (y.holder ≡ orphaned_holder c z.holder) × (y.units ≡ z.units)
orphaned_is c None y e = grind arith
orphaned_is c (Some x) y e = (x, refl, grind arith, grind arith)

pub death_keeps : (c : ℕ) (l : Account) → IsSound l → IsSound (after_death c l)
death_keeps c l s = record {
  load = rw (orphaned_total c l.allocations) s.load;
  bounded = λ d x e. let w = orphaned_is c (l.allocations d) x e in s.bounded d w.0 w.1;
  allocated = λ q t. rw (s.allocated q (sym (out q) ∙ t)) refl;
  connected = λ d q u e. let w = orphaned_is c (l.allocations d) (record { holder = Connected q; units = u }) e in grind (arith, out q, s.connected d q u, w, orphaned_connected c (w.0).holder q);
  one_pending = λ d a b x y. s.one_pending d a b (orphaned_pending c d (l.allocations a) x) (orphaned_pending c d (l.allocations b) y);
  for_addressed = λ d a q u e. let w = orphaned_is c (l.allocations a) (record { holder = Pending d q; units = u }) e in
      grind (arith, s.for_addressed d a q u, w, orphaned_addressed c d (w.0).holder q);
  reclaimable_once = s.reclaimable_once;
  reclaimable_load = s.reclaimable_load;
  reclaimable_bounded = s.reclaimable_bounded;
  reclaimable_ends = s.reclaimable_ends;
  begins = λ e. let b = s.begins e in record {
    no_second = b.no_second;
    allocations = λ ch. rw (b.allocations ch) refl;
    outputs = λ q. out q ∙ b.outputs q;
    inputs = λ q. into q ∙ b.inputs q;
    continues = b.continues;
    addressed = b.addressed;
    outstanding = λ d. grind (arith, nat_tests, b.outstanding d);
  };
  there = λ q t. s.there q (sym (ap (λ h. h || l.continues q) (out q)) ∙ t);
  inputs_there = λ q t. s.inputs_there q (sym (into q) ∙ t);
  continuing = λ q t. (out q ∙ (s.continuing q t).0, (s.continuing q t).1);
  reclaimed = λ t d x e. let w = orphaned_is c (l.allocations d) x e in grind (arith, w, s.reclaimed t d w.0 w.1, orphaned_plug c (w.0).holder);
  counts = λ q. (rw (orphaned_counter c (l.outputs q) (beyond_out q)) (s.counts q).0, rw (orphaned_counter c (l.inputs q) (beyond_in q)) (s.counts q).1);
  controllers = λ q d le. (orphaned_beyond c (l.outputs q) (beyond_out q) d le, orphaned_beyond c (l.inputs q) (beyond_in q) d le);
  range = s.range;
  settings_fit = s.settings_fit;
  channels_fit = s.channels_fit;
  withheld_unallocated = λ d w. rw (s.withheld_unallocated d w) refl;
  withheld_unclaimed = s.withheld_unclaimed;
}
  where
    beyond_out : (q : PlugAt) → NoneBeyond (l.outputs q)
    beyond_out q = λ d le. (s.controllers q d le).0

    beyond_in : (q : PlugAt) → NoneBeyond (l.inputs q)
    beyond_in q = λ d le. (s.controllers q d le).1

    out : (q : PlugAt) → has_connection (orphaned_connections c (l.outputs q)) ≡ has_connection (l.outputs q)
    out q = orphaned_has c (l.outputs q) (beyond_out q)

    into : (q : PlugAt) → has_connection (orphaned_connections c (l.inputs q)) ≡ has_connection (l.inputs q)
    into q = orphaned_has c (l.inputs q) (beyond_in q)
