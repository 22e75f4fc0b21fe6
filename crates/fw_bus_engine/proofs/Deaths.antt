-- What a controller's death leaves of the account: the words of registers are the same, since its units, channels and connections stay.
use Rattle.fw_bus_engine.proofs.Common.{◌≡◌, ℕ, ◌+◌, ◌-◌, ◌<◌, ◌&&◌, not, Option, Some, None, refl, ap, arith, nat_tests, update, Account, Register, BandwidthAvailable, ChannelsAvailable, OutputPlug}
use Rattle.fw_bus_engine.proofs.Common.{InputPlug, word_of}
use Rattle.fw_terms.proofs.Tables.{sum_to_changed, sum_to_same}
use Rattle.fw_model_account.specs.Account.{Allocation, Connections, Owner, Of, Dead, total, counter, is_free, is_there, is_withheld, allocated}
use Rattle.fw_model_account.specs.Events.{after_death, orphaned_allocation, orphaned_connections, orphaned_owner}
use Rattle.fw_model_account.specs.Words.{bits_word}
use Rattle.fw_plug.specs.Words.{in_word, out_word}

-- ---- channels and units

units_same : (c : ℕ) (x : Option Allocation) → allocated (orphaned_allocation c x) ≡ allocated x
units_same c None = refl
units_same c (Some x) = refl

free_same : (c : ℕ) (x : Option Allocation) → is_free (orphaned_allocation c x) ≡ is_free x
free_same c None = refl
free_same c (Some x) = refl

total_same : (c : ℕ) (allocations : ℕ → Option Allocation) → total (λ ch. orphaned_allocation c (allocations ch)) ≡ total allocations
total_same c allocations =
    sum_to_same 64 (λ ch. allocated (orphaned_allocation c (allocations ch))) (λ ch. allocated (allocations ch)) (λ j lt. units_same c (allocations j))

-- ---- connections

there_same : (c : ℕ) (o : Option Owner) → is_there (orphaned_owner c o) ≡ is_there o
there_same c None = refl
there_same c (Some (Of d)) = refl
there_same c (Some Dead) = refl

-- those of the controller are nobody's from then on
counter_same : (c : ℕ) (s : Connections) → c < 63 → counter (orphaned_connections c s) ≡ counter s
counter_same c s lt = let e = sum_to_changed 63 c (update s.counts c 0) s.counts lt (λ j ne. grind (arith, nat_tests)) in grind (arith, nat_tests)

-- ---- the words

pub death_words : (l : Account) (c : ℕ) → c < 63 → (r : Register) → word_of (after_death c l) r ≡ word_of l r
death_words l c lt BandwidthAvailable = ap (λ n. 4915 - n) (total_same c l.allocations)
death_words l c lt (ChannelsAvailable base) = λ j. bits_word (λ i. free_same c (l.allocations (base + i)) j && not (is_withheld l.withheld (base + i)))
death_words l c lt (OutputPlug p) =
    let count = counter_same c (l.outputs p) lt in
    let there = there_same c (l.outputs p).broadcast in
    λ i. out_word (record { broadcast = there i; counter = count i; settings = l.settings p })
death_words l c lt (InputPlug p) =
    let count = counter_same c (l.inputs p) lt in
    let there = there_same c (l.inputs p).broadcast in
    λ i. in_word (record { broadcast = there i; counter = count i; channel = l.input_channel p })
