-- The manager's registers: a bit shows its channel open, and the words after an allocation or a release.
use Rattle.fw_model_controllers.proofs.Common.{PlugAt, ◌≡◌, ℕ, ◌+◌, ◌-◌, ◌<◌, Bool, true, false, Option, Some, None}
use Rattle.fw_model_controllers.proofs.Common.{refl, sym, ap, ◌∙◌, arith, nat_tests, Pending, Allocation, Account, allocated, remainder}
use Rattle.fw_model_controllers.proofs.Common.{is_open, AllocateChannel, AllocateUnits, ReleaseUnits, ReleaseChannel, after, IsSound, channel_word, update, half_of, is_bit}
use Rattle.fw_plug.specs.Words.{flag}
use Rattle.fw_words.specs.Quadlet.{field}
use Rattle.fw_model_account.proofs.Moves.{total_changed}
use Rattle.fw_model_account.proofs.Open.{opens, taken, same_open, not_withheld}
use Rattle.fw_model_account.proofs.Words.{free_bit, word_without}
use Rattle.fw_cmp_jobs.specs.Plugs.{with_bit, without_bit}

bit_shows : (b : Bool) (w i : ℕ) → field w i i ≡ flag b → is_bit w i ≡ b
bit_shows true w i e = grind (arith, nat_tests)
bit_shows false w i e = grind (arith, nat_tests)

-- a channel's bit shows whether it is open
pub open_shown : (l : Account) (ch : ℕ) → ch < 64 → is_bit (channel_word l (half_of ch)) (ch - half_of ch) ≡ is_open l.withheld l.allocations ch
open_shown l ch lt =
    let half = free_bit (λ i. is_open l.withheld l.allocations (half_of ch + i)) (ch - half_of ch) (grind (arith, nat_tests)) in
    let at : half_of ch + (ch - half_of ch) ≡ ch = grind (arith, nat_tests) in
    bit_shows _ (channel_word l (half_of ch)) (ch - half_of ch) half ∙ ap (is_open l.withheld l.allocations) at

-- a bit that shows its channel open
pub open_is : (l : Account) (ch : ℕ) → ch < 64 → is_bit (channel_word l (half_of ch)) (ch - half_of ch) ≡ true → is_open l.withheld l.allocations ch ≡ true
open_is l ch lt e = sym (open_shown l ch lt) ∙ e

-- a bit of a channel that is allocated
taken_is : (l : Account) (ch : ℕ) (x : Allocation) → ch < 64 → l.allocations ch ≡ Some x → is_bit (channel_word l (half_of ch)) (ch - half_of ch) ≡ false
taken_is l ch x lt held = open_shown l ch lt ∙ taken l.withheld l.allocations ch x held

pub bit_cleared : (l : Account) (c : ℕ) (p : PlugAt) (ch : ℕ) → ch < 64 → is_open l.withheld l.allocations ch ≡ true → is_bit (channel_word l (half_of ch)) (ch - half_of ch) ≡ true
    → channel_word (after c p (AllocateChannel ch) l) (half_of ch) ≡ without_bit (channel_word l (half_of ch)) (ch - half_of ch)
bit_cleared l c p ch lt was bit =
    let at : half_of ch + (ch - half_of ch) ≡ ch = grind (arith, nat_tests) in
    let new : Allocation = record { holder = Pending c p; units = 0 } in
    let now : ℕ → Option Allocation = update l.allocations ch (Some new) in
    let held : now ch ≡ Some new = grind (arith, nat_tests) in
    rw bit (omega (
      arith,
      word_without (λ i. is_open l.withheld l.allocations (half_of ch + i)) (λ i. is_open l.withheld now (half_of ch + i)) (ch - half_of ch) (grind (arith, nat_tests)) (rw at was)
          (rw at (taken l.withheld now ch new held)) (λ k ne. same_open l.withheld l.allocations now (half_of ch + k) (grind (arith, nat_tests))),
    ))

pub bit_set : (l : Account) (c : ℕ) (p : PlugAt) (ch u : ℕ) → IsSound l → ch < 64 → l.allocations ch ≡ Some (record { holder = Pending c p; units = u })
    → channel_word (after c p (ReleaseChannel ch) l) (half_of ch) ≡ with_bit (channel_word l (half_of ch)) (ch - half_of ch)
bit_set l c p ch u s lt held =
    let at : half_of ch + (ch - half_of ch) ≡ ch = grind (arith, nat_tests) in
    let now : ℕ → Option Allocation = update l.allocations ch None in
    let given : is_open l.withheld now ch ≡ true = opens l.withheld now ch (grind (arith, nat_tests)) (not_withheld l ch _ s held) in
    rw (taken_is l ch _ lt held) (word_without (λ i. is_open l.withheld now (half_of ch + i)) (λ i. is_open l.withheld l.allocations (half_of ch + i)) (ch - half_of ch) (grind (arith, nat_tests))
    (rw at given) (rw at (taken l.withheld l.allocations ch _ held)) (λ k ne. same_open l.withheld now l.allocations (half_of ch + k) (grind (arith, nat_tests))))

pub remainder_less : (l : Account) (c : ℕ) (p : PlugAt) (ch u : ℕ) → ch < 64 → l.allocations ch ≡ Some (record { holder = Pending c p; units = 0 })
    → remainder (after c p (AllocateUnits ch u) l) ≡ remainder l - u
remainder_less l c p ch u lt held = let e = total_changed l.allocations ch (Some (record { holder = Pending c p; units = u })) lt in let f : allocated (l.allocations ch) ≡ 0 = rw held refl in
    omega arith

pub remainder_more : (l : Account) (c : ℕ) (p : PlugAt) (ch u : ℕ) → IsSound l → ch < 64 → l.allocations ch ≡ Some (record { holder = Pending c p; units = u })
    → remainder (after c p (ReleaseUnits ch u) l) ≡ remainder l + u
remainder_more l c p ch u s lt held = let e = total_changed l.allocations ch (Some (record { holder = Pending c p; units = 0 })) lt in let f : allocated (l.allocations ch) ≡ u = rw held refl in
    omega (arith, s.load)
