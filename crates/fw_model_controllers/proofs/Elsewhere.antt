-- A move changes the word of one register.
use Rattle.fw_model_controllers.proofs.Common.{PlugAt, ◌≡◌, ◌≢◌, ℕ, ◌+◌, ◌-◌, ◌^◌, ◌<◌, Bool, true, false, Option, Some}
use Rattle.fw_model_controllers.proofs.Common.{refl, ap, ap₂, arith, cond, ◌⊎◌, inl, inr, nat_tests, cases_eq, update, update_plug}
use Rattle.fw_model_controllers.proofs.Common.{Allocation, Account, allocated, remainder, has_connection, is_open, Move, AllocateChannel, AllocateUnits, ConnectFirst, ConnectOverlaid, DisconnectInput}
use Rattle.fw_model_controllers.proofs.Common.{DisconnectOutput, ReleaseUnits, ReleaseChannel, Can, after, drop_connection, IsSound, word_of, channel_word, had_connection, half_of}
use Rattle.std.proofs.Common.{◌*◌}
use Rattle.fw_terms.proofs.Tables.{update_plug_at, sum_to_same}
use Rattle.fw_plug.specs.Words.{flag}
use Rattle.fw_plug.specs.Words.{units_of}
use Rattle.fw_model_account.specs.Account.{Connected, total, is_free}
use Rattle.fw_model_account.specs.Moves.{ConnectInput}
use Rattle.fw_model_account.specs.Moves.{made_pending}
use Rattle.fw_model_account.specs.Words.{Register, BandwidthAvailable, ChannelsAvailable, OutputPlug, InputPlug, bits_word}
use Rattle.fw_model_account.specs.Decode.{register_of_move}
use Rattle.fw_model_account.proofs.Moves.{total_changed}
use Rattle.fw_model_account.proofs.Open.{open_is, same_open}
use Rattle.fw_model_controllers.specs.InStep.{IsRegister}
use Rattle.fw_model_controllers.proofs.Words.{output_word, input_word}

-- ---- the manager's registers

bits_same : (f g : ℕ → Bool) → ((i : ℕ) → i < 32 → f i ≡ g i) → bits_word f ≡ bits_word g
bits_same f g same = sum_to_same 32 (λ i. flag (f (31 - i)) * 2 ^ i) (λ i. flag (g (31 - i)) * 2 ^ i) (λ i lt. ap (λ b. flag b * 2 ^ i) (same (31 - i) (omega arith)))

-- a channel stays free, or stays taken
half_same : (l : Account) (ch : ℕ) (x : Option Allocation) (base : ℕ) → is_free x ≡ is_free (l.allocations ch)
    → bits_word (λ i. is_open l.withheld (update l.allocations ch x) (base + i)) ≡ channel_word l base
half_same l ch x base e =
    bits_same (λ i. is_open l.withheld (update l.allocations ch x) (base + i)) (λ i. is_open l.withheld l.allocations (base + i))
    (λ i lt. same_open l.withheld (update l.allocations ch x) l.allocations (base + i) (go i (cases_eq (base + i) ch)))
  where
    go : (i : ℕ) → (base + i ≡ ch) ⊎ (base + i ≢ ch) → is_free (update l.allocations ch x (base + i)) ≡ is_free (l.allocations (base + i))
    go i (inl same) = grind (arith, nat_tests)
    go i (inr ne) = grind (arith, nat_tests)

other_half : (l : Account) (ch : ℕ) (x : Option Allocation) (base : ℕ) → (base ≡ 0) ⊎ (base ≡ 32) → ChannelsAvailable base ≢ ChannelsAvailable (half_of ch)
    → bits_word (λ i. is_open l.withheld (update l.allocations ch x) (base + i)) ≡ channel_word l base
other_half l ch x base half ne =
    bits_same (λ i. is_open l.withheld (update l.allocations ch x) (base + i)) (λ i. is_open l.withheld l.allocations (base + i))
    (λ i il. same_open l.withheld (update l.allocations ch x) l.allocations (base + i) (grind (arith, nat_tests, apart i il)))
  where
    at : (i : ℕ) → i < 32 → base + i ≡ ch → (base ≡ 0) ⊎ (base ≡ 32) → base ≡ half_of ch
    at i il e (inl z) = grind (arith, nat_tests)
    at i il e (inr z) = grind (arith, nat_tests)

    apart : (i : ℕ) → i < 32 → base + i ≢ ch
    apart i il e = ne (ap ChannelsAvailable (at i il e half))

rest_same : (l : Account) (ch : ℕ) (x : Option Allocation) → ch < 64 → allocated x ≡ allocated (l.allocations ch) → 4915 - total (update l.allocations ch x) ≡ remainder l
rest_same l ch x lt e = let t = total_changed l.allocations ch x lt in omega arith

-- ---- plugs

not_at : {A : Type 0} (f : PlugAt → A) (p : PlugAt) (v : A) (q : PlugAt) → q ≢ p → update_plug f p v q ≡ f q
not_at f p v q ne = grind (arith, update_plug_at f p v q)

other_output : (p q : PlugAt) → OutputPlug q ≢ OutputPlug p → q ≢ p
other_output p q ne e = ne (ap OutputPlug e)

other_input : (p q : PlugAt) → InputPlug q ≢ InputPlug p → q ≢ p
other_input p q ne e = ne (ap InputPlug e)

pub move_elsewhere : (c : ℕ) (p : PlugAt) (m : Move) (l : Account) (r : Register) → c < 63 → IsSound l → Can c p m l → IsRegister r → r ≢ register_of_move p m → word_of (after c p m l) r ≡ word_of l r
move_elsewhere c p (AllocateChannel ch) l BandwidthAvailable lt s h is ne = rest_same l ch _ h.within (rw (open_is l.withheld l.allocations ch h.available).0 refl)
move_elsewhere c p (AllocateChannel ch) l (ChannelsAvailable base) lt s h is ne = other_half l ch _ base is ne
move_elsewhere c p (AllocateChannel ch) l (OutputPlug q) lt s h is ne = refl
move_elsewhere c p (AllocateChannel ch) l (InputPlug q) lt s h is ne = refl
move_elsewhere c p (ReleaseChannel ch) l BandwidthAvailable lt s h is ne = rest_same l ch _ h.within (rw h.held refl)
move_elsewhere c p (ReleaseChannel ch) l (ChannelsAvailable base) lt s h is ne = other_half l ch _ base is ne
move_elsewhere c p (ReleaseChannel ch) l (OutputPlug q) lt s h is ne = refl
move_elsewhere c p (ReleaseChannel ch) l (InputPlug q) lt s h is ne = refl
move_elsewhere c p (AllocateUnits ch u) l BandwidthAvailable lt s h is ne = absurd (ne refl)
move_elsewhere c p (AllocateUnits ch u) l (ChannelsAvailable base) lt s h is ne = half_same l ch _ base (rw h.channel refl)
move_elsewhere c p (AllocateUnits ch u) l (OutputPlug q) lt s h is ne = refl
move_elsewhere c p (AllocateUnits ch u) l (InputPlug q) lt s h is ne = refl
move_elsewhere c p (ReleaseUnits ch u) l BandwidthAvailable lt s h is ne = absurd (ne refl)
move_elsewhere c p (ReleaseUnits ch u) l (ChannelsAvailable base) lt s h is ne = half_same l ch _ base (rw h.held refl)
move_elsewhere c p (ReleaseUnits ch u) l (OutputPlug q) lt s h is ne = refl
move_elsewhere c p (ReleaseUnits ch u) l (InputPlug q) lt s h is ne = refl
move_elsewhere c p (ConnectFirst kind ch overhead) l BandwidthAvailable lt s h is ne = rest_same l ch _ h.within refl
move_elsewhere c p (ConnectFirst kind ch overhead) l (ChannelsAvailable base) lt s h is ne = half_same l ch _ base (rw h.held refl)
move_elsewhere c p (ConnectFirst kind ch overhead) l (OutputPlug q) lt s h is ne = ap₂ output_word (not_at l.outputs p _ q (other_output p q ne)) (not_at l.settings p _ q (other_output p q ne))
move_elsewhere c p (ConnectFirst kind ch overhead) l (InputPlug q) lt s h is ne = refl
move_elsewhere c p (ConnectOverlaid kind) l BandwidthAvailable lt s h is ne = refl
move_elsewhere c p (ConnectOverlaid kind) l (ChannelsAvailable base) lt s h is ne = refl
move_elsewhere c p (ConnectOverlaid kind) l (OutputPlug q) lt s h is ne = ap (λ x. output_word x (l.settings q)) (not_at l.outputs p _ q (other_output p q ne))
move_elsewhere c p (ConnectOverlaid kind) l (InputPlug q) lt s h is ne = refl
move_elsewhere c p (ConnectInput kind ch) l BandwidthAvailable lt s h is ne = refl
move_elsewhere c p (ConnectInput kind ch) l (ChannelsAvailable base) lt s h is ne = refl
move_elsewhere c p (ConnectInput kind ch) l (OutputPlug q) lt s h is ne = refl
move_elsewhere c p (ConnectInput kind ch) l (InputPlug q) lt s h is ne = ap₂ input_word (not_at l.inputs p _ q (other_input p q ne)) (not_at l.input_channel p _ q (other_input p q ne))
move_elsewhere c p (DisconnectInput kind) l BandwidthAvailable lt s h is ne = refl
move_elsewhere c p (DisconnectInput kind) l (ChannelsAvailable base) lt s h is ne = refl
move_elsewhere c p (DisconnectInput kind) l (OutputPlug q) lt s h is ne = refl
move_elsewhere c p (DisconnectInput kind) l (InputPlug q) lt s h is ne = ap (λ x. input_word x (l.input_channel q)) (not_at l.inputs p _ q (other_input p q ne))
move_elsewhere c p (DisconnectOutput kind) l r lt s h is ne = go (has_connection (drop_connection c kind (l.outputs p))) r is ne
  where
    own : l.allocations (l.settings p).channel ≡ Some (record { holder = Connected p; units = units_of (l.settings p) })
    own = s.allocated p (had_connection c kind (l.outputs p) lt h.has)

    with_ : Bool → Account
    with_ b = record l { allocations = cond b l.allocations (made_pending c p (l.settings p).channel l); outputs = update_plug l.outputs p (drop_connection c kind (l.outputs p)) }

    go : (b : Bool) (r : Register) → IsRegister r → r ≢ OutputPlug p → word_of (with_ b) r ≡ word_of l r
    go true BandwidthAvailable is ne = refl
    go true (ChannelsAvailable base) is ne = refl
    go false BandwidthAvailable is ne = rest_same l (l.settings p).channel _ (s.bounded _ _ own) refl
    go false (ChannelsAvailable base) is ne = half_same l (l.settings p).channel _ base (rw own refl)
    go b (OutputPlug q) is ne = ap (λ x. output_word x (l.settings q)) (not_at l.outputs p _ q (other_output p q ne))
    go b (InputPlug q) is ne = refl
