-- While a second runs, what stands in the reclaimable list can be taken again.
use Rattle.fw_model_account.proofs.Common.{PlugAt, ◌≡◌, ◌≢◌, ◌⊎◌, inl, inr, ℕ, ◌≤◌, true, Option, Some, None, refl, arith, nat_tests, update, Account, Allocation, Pending, Connected, allocated}
use Rattle.fw_model_account.proofs.Common.{has_connection, units_of, IsSound}
use Rattle.std.proofs.lemmas.Bool.{cases_eq}
use Rattle.fw_model_account.specs.Account.{plug_of, remainder, flow_units}
use Rattle.fw_terms.proofs.Tables.{sum_to_le}
use Rattle.fw_model_account.proofs.Allocations.{total_changed}

-- the units fit beside all that is allocated
pub units_fit : (l : Account) (c : ℕ) (p : PlugAt) (ch u : ℕ) → IsSound l → l.reclaiming ≡ true → l.allocations ch ≡ Some (record { holder = Pending c p; units = 0 })
    → l.reclaimable ch ≡ Some (record { plug = p; units = u }) → u ≤ remainder l
units_fit l c p ch u s runs held listed =
    let lt = s.bounded ch _ held in
    let e = total_changed l.allocations ch (Some (record { holder = Pending c p; units = u })) lt in
    let none : allocated (l.allocations ch) ≡ 0 = rw held refl in
    let le = sum_to_le 64 (λ k. allocated (update l.allocations ch (Some (record { holder = Pending c p; units = u })) k)) (λ k. flow_units (l.reclaimable k)) (λ k kl. go k (cases_eq k ch)) in
    omega (arith, s.reclaimable_load, s.load)
  where
    below : (k : ℕ) (x : Option Allocation) → l.allocations k ≡ x → allocated x ≤ flow_units (l.reclaimable k)
    below k None e = omega arith
    below k (Some x) e = let r = s.reclaimed runs k x e in grind (arith, r)

    go : (k : ℕ) → (k ≡ ch) ⊎ (k ≢ ch) → allocated (update l.allocations ch (Some (record { holder = Pending c p; units = u })) k) ≤ flow_units (l.reclaimable k)
    go k (inl same) = grind (arith, nat_tests, listed)
    go k (inr ne) = grind (arith, nat_tests, below k (l.allocations k) refl)

-- who holds the channel restores the same plug
pub holder_is : (l : Account) (p : PlugAt) (ch u : ℕ) (x : Allocation) → IsSound l → l.reclaiming ≡ true → l.reclaimable ch ≡ Some (record { plug = p; units = u }) → l.allocations ch ≡ Some x
    → plug_of x.holder ≡ p
holder_is l p ch u x s runs listed held = grind (arith, s.reclaimed runs ch x held)

-- a plug that has a connection again has its channel again
pub channel_is : (l : Account) (p : PlugAt) (ch u : ℕ) → IsSound l → l.reclaiming ≡ true → l.reclaimable ch ≡ Some (record { plug = p; units = u }) → has_connection (l.outputs p) ≡ true
    → (l.settings p).channel ≡ ch
channel_is l p ch u s runs listed has =
    let r = s.reclaimed runs (l.settings p).channel (record { holder = Connected p; units = units_of (l.settings p) }) (s.allocated p has) in
    s.reclaimable_once _ ch p r.0 u r.1 listed
