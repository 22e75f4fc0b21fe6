-- The list of what is allocated has the units and channels of the registers; and with nothing pending, all is for flows.
use Rattle.fw_model_account.proofs.Common.{PlugAt, ◌&&◌, ◌≡◌, ◌⊎◌, inl, inr, ℕ, suc, ◌+◌, ◌<◌, ◌≤◌, ◌==◌, nat_lt, not}
use Rattle.fw_model_account.proofs.Common.{Bool, true, false, Option, Some, None, [], ◌∷◌, refl, sym, ◌∙◌, true≢false, arith}
use Rattle.fw_model_account.proofs.Common.{cond, nat_tests, sum_to, field, flag, units_of, Pending, Connected, Allocation, Account, allocated, is_open, is_pending, has_connection, word_of}
use Rattle.fw_model_account.proofs.Common.{BandwidthAvailable, ChannelsAvailable, IsSound}
use Rattle.std.proofs.Common.{zero, ◌||◌, ◌↔◌}
use Rattle.std.proofs.Common.{count_by}
use Rattle.std.proofs.lemmas.Bool.{cases_lt}
use Rattle.std.proofs.lemmas.List.Folds.{list_any-append}
use Rattle.std.proofs.lemmas.List.Sums.{sum_by-append}
use Rattle.fw_model_account.specs.Account.{Holder, Orphaned, total, is_free, is_withheld}
use Rattle.fw_model_account.specs.Moves.{HasNoPending}
use Rattle.fw_model_account.specs.Listing.{Channel, Units, resources_at, resources_below, resources, units_in, is_channel, is_channel_of, is_units_of, listed_units, lists_channel, IsAllocatedForFlows}
use Rattle.fw_model_account.proofs.Words.{free_bit}

-- ---- units

units_at : (ch : ℕ) (o : Option Allocation) → listed_units (resources_at ch o) ≡ allocated o
units_at ch None = refl
units_at ch (Some x) = go (x.units == 0) refl
  where
    go : (b : Bool) → (x.units == 0) ≡ b → listed_units (Channel ch x.holder ∷ cond b [] (Units x.units x.holder ∷ [])) ≡ x.units
    go true e = grind (arith, nat_tests)
    go false e = omega arith

units_below : (n : ℕ) (f : ℕ → Option Allocation) → listed_units (resources_below n f) ≡ sum_to n (λ ch. allocated (f ch))
unfolding resources_below sum_to
units_below zero f = refl
units_below (suc n) f = omega (arith, sum_by-append units_in (resources_below n f) (resources_at n (f n)), units_at n (f n), units_below n f)

pub listed_total : (l : Account) → listed_units (resources l) ≡ total l.allocations
listed_total l = units_below 64 l.allocations

pub units_listed : (l : Account) → IsSound l → listed_units (resources l) + word_of l BandwidthAvailable ≡ 4915
units_listed l s = omega (arith, listed_total l, s.load)

-- ---- channels

channel_listed_at : (ch n : ℕ) (o : Option Allocation) → lists_channel ch (resources_at n o) ≡ cond (n == ch) (not (is_free o)) false
channel_listed_at ch n None = grind arith
channel_listed_at ch n (Some x) = go (x.units == 0)
  where
    go : (b : Bool) → lists_channel ch (Channel n x.holder ∷ cond b [] (Units x.units x.holder ∷ [])) ≡ cond (n == ch) true false
    go true = grind arith
    go false = grind arith

channel_listed_below : (ch n : ℕ) (f : ℕ → Option Allocation) → lists_channel ch (resources_below n f) ≡ cond (nat_lt ch n) (not (is_free (f ch))) false
unfolding resources_below
channel_listed_below ch zero f = grind (arith, nat_tests)
channel_listed_below ch (suc n) f = list_any-append (is_channel ch) (resources_below n f) (resources_at n (f n)) ∙ go (cases_lt ch n) (channel_listed_below ch n f) (channel_listed_at ch n (f n))
  where
    go : (ch < n) ⊎ (n ≤ ch) → lists_channel ch (resources_below n f) ≡ cond (nat_lt ch n) (not (is_free (f ch))) false
        → lists_channel ch (resources_at n (f n)) ≡ cond (n == ch) (not (is_free (f n))) false
        → (lists_channel ch (resources_below n f) || lists_channel ch (resources_at n (f n))) ≡ cond (nat_lt ch (suc n)) (not (is_free (f ch))) false
    go (inl lt) a b = grind (arith, nat_tests)
    go (inr le) a b = grind (arith, nat_tests)

flag_open : (free withheld : Bool) → flag (free && not withheld) ≡ cond {A = ℕ} (not free || withheld) 0 1
flag_open true true = refl
flag_open true false = refl
flag_open false withheld = refl

-- a channel's bit is 0 exactly if the list names the channel, or it is withheld
pub channel_listed : (l : Account) (base i : ℕ) → i < 32 → base + i < 64
    → field (word_of l (ChannelsAvailable base)) i i ≡ cond {A = ℕ} (lists_channel (base + i) (resources l) || is_withheld l.withheld (base + i)) 0 1
channel_listed l base i lt within =
    let t : nat_lt (base + i) 64 ≡ true = grind (arith, nat_tests) in
    let e : lists_channel (base + i) (resources l) ≡ not (is_free (l.allocations (base + i))) = channel_listed_below (base + i) 64 l.allocations ∙ rw t refl in
    free_bit (λ k. is_open l.withheld l.allocations (base + k)) i lt ∙ rw e (flag_open (is_free (l.allocations (base + i))) (is_withheld l.withheld (base + i)))

-- ---- each channel once, and units only with a channel of their holder

once_at : (ch n : ℕ) (o : Option Allocation) → count_by (is_channel ch) (resources_at n o) ≤ cond {A = ℕ} (n == ch) 1 0
once_at ch n None = omega arith
once_at ch n (Some x) = go (x.units == 0)
  where
    go : (b : Bool) → count_by (is_channel ch) (Channel n x.holder ∷ cond b [] (Units x.units x.holder ∷ [])) ≤ cond {A = ℕ} (n == ch) 1 0
    go true = omega arith
    go false = omega arith

once_below : (ch n : ℕ) (f : ℕ → Option Allocation) → count_by (is_channel ch) (resources_below n f) ≤ cond {A = ℕ} (nat_lt ch n) 1 0
unfolding resources_below
once_below ch zero f = omega arith
once_below ch (suc n) f =
    let e = sum_by-append (λ r. cond {A = ℕ} (is_channel ch r) 1 0) (resources_below n f) (resources_at n (f n)) in
    rw e (go (cases_lt ch n) (once_below ch n f) (once_at ch n (f n)))
  where
    go : (ch < n) ⊎ (n ≤ ch) → count_by (is_channel ch) (resources_below n f) ≤ cond {A = ℕ} (nat_lt ch n) 1 0 → count_by (is_channel ch) (resources_at n (f n)) ≤ cond {A = ℕ} (n == ch) 1 0
        → count_by (is_channel ch) (resources_below n f) + count_by (is_channel ch) (resources_at n (f n)) ≤ cond {A = ℕ} (nat_lt ch (suc n)) 1 0
    go (inl lt) a b = grind (arith, nat_tests)
    go (inr le) a b = grind (arith, nat_tests)

pub channel_once : (l : Account) (ch : ℕ) → count_by (is_channel ch) (resources l) ≤ 1
channel_once l ch = let h = once_below ch 64 l.allocations in go (nat_lt ch 64) h
  where
    go : (b : Bool) → count_by (is_channel ch) (resources l) ≤ cond {A = ℕ} b 1 0 → count_by (is_channel ch) (resources l) ≤ 1
    go true h = h
    go false h = omega arith

paired_at : (test : Holder → Bool) (n : ℕ) (o : Option Allocation) → count_by (is_units_of test) (resources_at n o) ≤ count_by (is_channel_of test) (resources_at n o)
paired_at test n None = omega arith
paired_at test n (Some x) = go (x.units == 0)
  where
    go : (b : Bool) → count_by (is_units_of test) (Channel n x.holder ∷ cond b [] (Units x.units x.holder ∷ [])) ≤ count_by (is_channel_of test)
        (Channel n x.holder ∷ cond b [] (Units x.units x.holder ∷ []))
    go true = omega arith
    go false = omega arith

paired_below : (test : Holder → Bool) (n : ℕ) (f : ℕ → Option Allocation) → count_by (is_units_of test) (resources_below n f) ≤ count_by (is_channel_of test) (resources_below n f)
unfolding resources_below
paired_below test zero f = omega arith
paired_below test (suc n) f =
    let a = sum_by-append (λ r. cond {A = ℕ} (is_units_of test r) 1 0) (resources_below n f) (resources_at n (f n)) in
    let b = sum_by-append (λ r. cond {A = ℕ} (is_channel_of test r) 1 0) (resources_below n f) (resources_at n (f n)) in
    let h = paired_below test n f in
    let k = paired_at test n (f n) in
    omega arith

pub units_with_channel : (l : Account) (test : Holder → Bool) → count_by (is_units_of test) (resources l) ≤ count_by (is_channel_of test) (resources l)
units_with_channel l test = paired_below test 64 l.allocations

-- ---- flows

abbrev pub IsFlow : Account → ℕ → Allocation → Type 0
IsFlow l ch x = ((p : PlugAt) × (has_connection (l.outputs p) ≡ true) × ((l.settings p).channel ≡ ch) × (x ≡ record { holder = Connected p; units = units_of (l.settings p) }))
    ⊎ ((p : PlugAt) × (x.holder ≡ Orphaned p))

only_flows : (l : Account) → IsSound l → ((c : ℕ) → HasNoPending c l.allocations) → IsAllocatedForFlows l
only_flows l s none = record {
  each = λ ch x e. go ch x.holder x.units e;
  all = s.allocated;
}
  where
    is_own : (c : ℕ) (p : PlugAt) (ch u : ℕ) → l.allocations ch ≡ Some (record { holder = Pending c p; units = u }) → is_pending c (l.allocations ch) ≡ true
    is_own c p ch u e = rw e (grind (arith, nat_tests))

    go : (ch : ℕ) (h : Holder) (u : ℕ) → l.allocations ch ≡ Some (record { holder = h; units = u }) → IsFlow l ch (record { holder = h; units = u })
    go ch (Pending c p) u e = absurd (true≢false (sym (is_own c p ch u e) ∙ none c ch))
    go ch (Connected p) u e = let k = s.connected ch p u e in let own = s.allocated p k.0 in inl (p, k.0, sym k.1, grind arith)
    go ch (Orphaned p) u e = inr (p, refl)

none_pending_of : (l : Account) → IsAllocatedForFlows l → (c : ℕ) → HasNoPending c l.allocations
none_pending_of l h c ch = go (l.allocations ch) refl
  where
    held : (x : Allocation) → IsFlow l ch x → is_pending c (Some x) ≡ false
    held x (inl f) = rw f.3 refl
    held x (inr f) = rw f.1 refl

    go : (o : Option Allocation) → l.allocations ch ≡ o → is_pending c o ≡ false
    go None e = refl
    go (Some x) e = held x (h.each ch x e)

pub flows_alone : (l : Account) → IsSound l → ((c : ℕ) → HasNoPending c l.allocations) ↔ IsAllocatedForFlows l
flows_alone l s = (only_flows l s, none_pending_of l)
