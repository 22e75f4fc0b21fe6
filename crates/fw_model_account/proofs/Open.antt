-- A channel is open if it is free and not withheld, and what the registers show of that at a bus reset.
use Rattle.fw_model_account.proofs.Common.{◌≡◌, ℕ, ◌+◌, ◌&&◌, not, Bool, true, false, Option, Some, None}
use Rattle.fw_model_account.proofs.Common.{cond, refl, ap, arith, false≢true, PlugAt, sum_to, Account, Allocation, is_open, has_connection}
use Rattle.fw_model_account.proofs.Common.{bits_word, IsSound}
use Rattle.fw_model_account.specs.Account.{Flow, is_free, is_withheld, talks}
use Rattle.fw_model_account.proofs.Network.{not_both}

pub open_is : (withheld : Bool) (allocations : ℕ → Option Allocation) (ch : ℕ) → is_open withheld allocations ch ≡ true
    → (allocations ch ≡ None) × (is_withheld withheld ch ≡ false)
open_is withheld allocations ch e = go (allocations ch) (is_withheld withheld ch) e
  where
    go : (o : Option Allocation) (b : Bool) → (is_free o && not b) ≡ true → (o ≡ None) × (b ≡ false)
    go None false f = (refl, refl)
    go None true f = absurd (false≢true f)
    go (Some x) b f = absurd (false≢true f)

both_open : (a b : Bool) → a ≡ true → b ≡ false → (a && not b) ≡ true
both_open a b e f = rw (e, f) refl

pub opens : (withheld : Bool) (allocations : ℕ → Option Allocation) (ch : ℕ) → allocations ch ≡ None → is_withheld withheld ch ≡ false
    → is_open withheld allocations ch ≡ true
opens withheld allocations ch free apart = both_open (is_free (allocations ch)) (is_withheld withheld ch) (ap is_free free) apart

-- an allocated channel is not open
pub taken : (withheld : Bool) (allocations : ℕ → Option Allocation) (ch : ℕ) (x : Allocation) → allocations ch ≡ Some x
    → is_open withheld allocations ch ≡ false
taken withheld allocations ch x held = ap (λ o. is_free o && not (is_withheld withheld ch)) held

-- whether it is free decides, at one channel
pub same_open : (withheld : Bool) (f g : ℕ → Option Allocation) (ch : ℕ) → is_free (f ch) ≡ is_free (g ch) → is_open withheld f ch ≡ is_open withheld g ch
same_open withheld f g ch e = ap (λ b. b && not (is_withheld withheld ch)) e

-- what is allocated is not withheld
pub not_withheld : (l : Account) (ch : ℕ) (x : Allocation) → IsSound l → l.allocations ch ≡ Some x → is_withheld l.withheld ch ≡ false
not_withheld l ch x s held = go (is_withheld l.withheld ch) refl
  where
    go : (b : Bool) → is_withheld l.withheld ch ≡ b → b ≡ false
    go false e = refl
    go true e = absurd (not_both _ x (s.withheld_unallocated ch e) held)

-- nor is the channel of a flow that may be allocated again
pub not_claimed : (l : Account) (ch : ℕ) (f : Flow) → IsSound l → l.reclaimable ch ≡ Some f → is_withheld l.withheld ch ≡ false
not_claimed l ch f s listed = go (is_withheld l.withheld ch) refl
  where
    go : (b : Bool) → is_withheld l.withheld ch ≡ b → b ≡ false
    go false e = refl
    go true e = absurd (not_both _ f (s.withheld_unclaimed ch e) listed)

-- nor that of a talker
pub talks_apart : (l : Account) (p : PlugAt) → IsSound l → talks l p ≡ true → is_withheld l.withheld (l.settings p).channel ≡ false
talks_apart l p s t = go (has_connection (l.outputs p)) refl
  where
    go : (b : Bool) → has_connection (l.outputs p) ≡ b → is_withheld l.withheld (l.settings p).channel ≡ false
    go true e = not_withheld l _ _ s (s.allocated p e)
    go false e = not_claimed l _ _ s (s.continuing p (grind arith)).1

-- CHANNELS_AVAILABLE if nothing is allocated
pub high_starts : (withheld : Bool) → bits_word (λ i. is_open withheld (λ ch. None) (0 + i)) ≡ cond withheld 4294967294 4294967295
unfolding sum_to
high_starts true = refl
high_starts false = refl

pub low_starts : (withheld : Bool) → bits_word (λ i. is_open withheld (λ ch. None) (32 + i)) ≡ 4294967295
unfolding sum_to
low_starts true = refl
low_starts false = refl
