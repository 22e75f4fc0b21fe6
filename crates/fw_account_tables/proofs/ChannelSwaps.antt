-- Swaps of CHANNELS_AVAILABLE.
use Rattle.fw_account_tables.proofs.Common.{PlugAt, ◌≡◌, ◌≢◌, ◌<◌, ◌+◌, ◌-◌, ◌*◌, ◌^◌, inl, inr, ◌==◌, ◌&&◌, not, nat_lt}
use Rattle.fw_account_tables.proofs.Common.{ℕ, true, false, Option, Some, None, length, slice_set, Vec, Global, cond, refl, sym}
use Rattle.fw_account_tables.proofs.Common.{◌∙◌, ap, arith, length-set, nat_tests, false≢true, update, flag, Account}
use Rattle.fw_account_tables.proofs.Common.{Allocation, is_free, is_open, Move, ChannelsAvailable, word_of, IsMove, allowed, IsSound}
use Rattle.fw_account_tables.proofs.Common.{StandsFor, Follows, allocation_of, moved_by, Charge, Free, Tables, moves_keep, same_open}
use Rattle.fw_terms.proofs.Tables.{sum_to_same}
use Rattle.fw_model_account.specs.Account.{Holder, Pending, Connected, Orphaned, allocated, is_withheld, is_pending_of}
use Rattle.fw_model_account.specs.Moves.{AllocateChannel, ReleaseChannel, with_allocation}
use Rattle.fw_model_account.specs.Words.{channel_word}
use Rattle.fw_model_account.specs.Decode.{can, at_addressed, held_for}
use Rattle.fw_account_tables.specs.Swaps.{IsHalf, half_of, with_half, holds_no_units}
use Rattle.fw_account_tables.specs.declared.tables.Charge.TheVariants.{Pending as PendingCharge}
use Rattle.fw_model_account.proofs.Allocations.{total_changed}
use Rattle.fw_model_account.proofs.Tests.{can_is, can_from}
use Rattle.fw_model_account.proofs.Open.{open_is, opens, taken, not_withheld}
use Rattle.fw_model_account.proofs.Words.{word_without}
use Rattle.fw_account_tables.proofs.Related.{related_set, update_same, update_other}
use Rattle.fw_account_tables.proofs.Swapping.{swap_taken, swap_refused}

-- ---- words

-- the half that the tables have
pub half_is : (t : Tables) (l : Account) (base : ℕ) → StandsFor t l → IsHalf base → half_of base t ≡ word_of l (ChannelsAvailable base)
half_is t l base h (inl e) = rw e h.resources.high
half_is t l base h (inr e) = rw e h.resources.low

-- a channel that was open is allocated
channel_cleared : (l : Account) (base i : ℕ) (x : Allocation) → is_open l.withheld l.allocations (base + i) ≡ true → i < 32
    → channel_word l base ≡ channel_word (with_allocation (base + i) (Some x) l) base + 2 ^ (31 - i)
channel_cleared l base i x was lt =
    let now : ℕ → Option Allocation = update l.allocations (base + i) (Some x) in
    word_without (λ k. is_open l.withheld l.allocations (base + k)) (λ k. is_open l.withheld now (base + k)) i lt was
    (taken l.withheld now (base + i) x (update_same l.allocations (base + i) (base + i) (Some x) refl))
    (λ j ne. same_open l.withheld l.allocations now (base + j)
    (ap is_free (sym (update_other l.allocations (base + i) (base + j) (Some x) (λ e. ne (omega arith))))))

-- one that was allocated becomes open
channel_given : (l : Account) (base i : ℕ) (x : Allocation) → IsSound l → l.allocations (base + i) ≡ Some x → i < 32
    → channel_word (with_allocation (base + i) None l) base ≡ channel_word l base + 2 ^ (31 - i)
channel_given l base i x s held lt =
    let now : ℕ → Option Allocation = update l.allocations (base + i) None in
    word_without (λ k. is_open l.withheld now (base + k)) (λ k. is_open l.withheld l.allocations (base + k)) i lt
    (opens l.withheld now (base + i) (update_same l.allocations (base + i) (base + i) None refl) (not_withheld l (base + i) x s held))
    (taken l.withheld l.allocations (base + i) x held)
    (λ j ne. same_open l.withheld now l.allocations (base + j)
    (ap is_free (update_other l.allocations (base + i) (base + j) None (λ e. ne (omega arith)))))

-- the other half keeps its word
other_half : (l : Account) (ch base : ℕ) (a : Option Allocation) → ((j : ℕ) → j < 32 → base + j ≢ ch)
    → channel_word l base ≡ channel_word (with_allocation ch a l) base
other_half l ch base a apart =
    sum_to_same 32 (λ i. flag (is_open l.withheld l.allocations (base + (31 - i))) * 2 ^ i)
    (λ i. flag (is_open l.withheld (update l.allocations ch a) (base + (31 - i))) * 2 ^ i)
    (λ j lt. ap (λ o. flag (is_free o && not (is_withheld l.withheld (base + (31 - j)))) * 2 ^ j) (sym (update_other l.allocations ch (base + (31 - j)) a (apart (31 - j) (omega arith)))))

half_high : (b word high : ℕ) (f : ℕ → ℕ) → IsHalf b → word ≡ f b → (b ≡ 32 → high ≡ f 0) → cond (b == 0) word high ≡ f 0
half_high b word high f (inl e) here there = let t : (b == 0) ≡ true = grind (arith, nat_tests) in rw t (here ∙ ap f e)
half_high b word high f (inr e) here there = let t : (b == 0) ≡ false = grind (arith, nat_tests) in rw t (there e)

half_low : (b word low : ℕ) (f : ℕ → ℕ) → IsHalf b → word ≡ f b → (b ≡ 0 → low ≡ f 32) → cond (b == 0) low word ≡ f 32
half_low b word low f (inl e) here there = let t : (b == 0) ≡ true = grind (arith, nat_tests) in rw t (there e)
half_low b word low f (inr e) here there = let t : (b == 0) ≡ false = grind (arith, nat_tests) in rw t (here ∙ ap f e)

pub half_within : (base i : ℕ) → IsHalf base → i < 32 → base + i < 64
half_within base i (inl e) lt = omega arith
half_within base i (inr e) lt = omega arith

-- ---- the tables after the move

channel_stands : (t : Tables) (l : Account) (base i word : ℕ) (x : Charge) (a : Option Allocation) (charges : Vec Charge Global) → StandsFor t l
    → IsHalf base → i < 32 → allocation_of x ≡ a → allocated a ≡ allocated (l.allocations (base + i))
    → word_of (with_allocation (base + i) a l) (ChannelsAvailable base) ≡ word → IsSound (with_allocation (base + i) a l)
    → charges.items ≡ slice_set t.charges.items (base + i) x
    → StandsFor (record (with_half base word t) { charges = charges }) (with_allocation (base + i) a l)
channel_stands t l base i word x a charges h half lt is units later sound e =
    let within = half_within base i half lt in
    let same = total_changed l.allocations (base + i) a within in
    let left = h.resources.left in
    record {
      sizes = record {
        charges = ap length e ∙ length-set t.charges.items (base + i) x ∙ h.sizes.charges;
        reclaimable = h.sizes.reclaimable;
        addressed = h.sizes.addressed;
        asked = h.sizes.asked;
        outputs = h.sizes.outputs;
        inputs = h.sizes.inputs;
        output_seats = h.sizes.output_seats;
        input_seats = h.sizes.input_seats;
        continues = h.sizes.continues;
      };
      latest = h.latest;
      plugs = h.plugs;
      withheld = h.withheld;
      resources = record {
        left = omega arith;
        high = half_high base word t.high (channel_word (with_allocation (base + i) a l)) half (sym later)
            (λ up. h.resources.high ∙ other_half l (base + i) 0 a (λ j jl k. absurd (omega arith)));
        low = half_low base word t.low (channel_word (with_allocation (base + i) a l)) half (sym later)
            (λ down. h.resources.low ∙ other_half l (base + i) 32 a (λ j jl k. absurd (omega arith)));
        charges = rw e (related_set (λ y o. allocation_of y ≡ o) t.charges.items (base + i) x Free 64 l.allocations a h.sizes.charges is h.resources.charges);
      };
      second = record { runs = h.second.runs; reclaimable = h.second.reclaimable; continues = h.second.continues };
      outputs = h.outputs;
      inputs = h.inputs;
      controllers = h.controllers;
      sound = sound;
    }

-- the register of the channel's half
half_register : (base i : ℕ) → IsHalf base → i < 32 → cond (nat_lt (base + i) 32) 0 32 ≡ base
half_register base i (inl e) lt = let t : nat_lt (base + i) 32 ≡ true = grind (arith, nat_tests) in rw t (sym e)
half_register base i (inr e) lt = let t : nat_lt (base + i) 32 ≡ false = grind (arith, nat_tests) in rw t (sym e)

-- no move at any plug
pub nowhere_moved : (t : Tables) (l : Account) (c base word new : ℕ) (o : Option PlugAt) (m : Move) → IsSound l
    → ((p : PlugAt) → o ≡ Some p → IsMove c p m (ChannelsAvailable base) word new l → ⊥)
    → Follows false t t (moved_by c (allowed l c (ChannelsAvailable base) word new (at_addressed o m)) l)
nowhere_moved t l c base word new None m s never = (refl, refl)
nowhere_moved t l c base word new (Some p) m s never = swap_refused t l c p m (ChannelsAvailable base) word new s (never p refl)

-- ---- a channel is allocated

pub channel_follows : (t : Tables) (l : Account) (c base i new : ℕ) (p : PlugAt) (charges : Vec Charge Global) → StandsFor t l → c < 63 → IsHalf base
    → i < 32 → l.addressed c ≡ Some p → can c p (AllocateChannel (base + i)) l ≡ true → half_of base t ≡ new + 2 ^ (31 - i)
    → charges.items ≡ slice_set t.charges.items (base + i) (PendingCharge c p 0)
    → Follows true t (record (with_half base new t) { charges = charges })
    (moved_by c (allowed l c (ChannelsAvailable base) (half_of base t) new (at_addressed (l.addressed c) (AllocateChannel (base + i)))) l)
channel_follows t l c base i new p charges h lt half low addressed may less e =
    let m : Move = AllocateChannel (base + i) in
    let x : Allocation = record { holder = Pending c p; units = 0 } in
    let able = can_is c p m l h.sound may in
    let is = half_is t l base h half in
    let free = (open_is l.withheld l.allocations (base + i) able.available).0 in
    let cleared = channel_cleared l base i x able.available low in
    let k : IsMove c p m (ChannelsAvailable base) (half_of base t) new l = record
    { can = able; place = ap (λ b. ChannelsAvailable b) (half_register base i half low); before = sym is; later = omega arith } in
    rw addressed (swap_taken t _ l c p m (ChannelsAvailable base) (half_of base t) new k
    (channel_stands t l base i new (PendingCharge c p 0) (Some x) charges h half low refl (rw free refl) k.later (moves_keep c p m l lt h.sound able) e))

pub channel_denied : (t : Tables) (l : Account) (c base i new : ℕ) (p : PlugAt) → StandsFor t l → IsHalf base → i < 32 → l.addressed c ≡ Some p
    → (can c p (AllocateChannel (base + i)) l ≡ true → half_of base t ≡ new + 2 ^ (31 - i) → ⊥)
    → Follows false t t (moved_by c (allowed l c (ChannelsAvailable base) (half_of base t) new (at_addressed (l.addressed c) (AllocateChannel (base + i)))) l)
channel_denied t l c base i new p h half low addressed never =
    rw addressed (swap_refused t l c p (AllocateChannel (base + i)) (ChannelsAvailable base) (half_of base t) new h.sound
    (λ k. never (can_from c p (AllocateChannel (base + i)) l k.can) (less k)))
  where
    less : IsMove c p (AllocateChannel (base + i)) (ChannelsAvailable base) (half_of base t) new l → half_of base t ≡ new + 2 ^ (31 - i)
    less k =
        let cleared = channel_cleared l base i (record { holder = Pending c p; units = 0 }) k.can.available low in
        let before = k.before in
        let later = k.later in
        omega arith

-- ---- a channel is given back

-- the channel is held with no units
no_units_is : (c : ℕ) (o : Option Allocation) → holds_no_units c o ≡ true → (p : PlugAt) × (o ≡ Some (record { holder = Pending c p; units = 0 }))
no_units_is c None e = absurd (false≢true e)
no_units_is c (Some x) e = go x.holder x.units e
  where
    go : (y : Holder) (u : ℕ) → (is_pending_of c y && (u == 0)) ≡ true
        → (p : PlugAt) × (◌≡◌ {A = Option Allocation} (Some (record { holder = y; units = u })) (Some (record { holder = Pending c p; units = 0 })))
    go (Pending d p) u f = (p, let same : c ≡ d = grind (arith, nat_tests) in let none : u ≡ 0 = grind (arith, nat_tests) in rw (same, none) refl)
    go (Connected p) u f = absurd (false≢true f)
    go (Orphaned p) u f = absurd (false≢true f)

no_units_self : (c : ℕ) (p : PlugAt) (o : Option Allocation) → o ≡ Some (record { holder = Pending c p; units = 0 }) → holds_no_units c o ≡ true
no_units_self c p o e = rw e (grind (arith, nat_tests))

pub release_follows : (t : Tables) (l : Account) (c base i new : ℕ) (charges : Vec Charge Global) → StandsFor t l → c < 63 → IsHalf base → i < 32
    → holds_no_units c (l.allocations (base + i)) ≡ true → new ≡ half_of base t + 2 ^ (31 - i)
    → charges.items ≡ slice_set t.charges.items (base + i) Free
    → Follows true t (record (with_half base new t) { charges = charges })
    (moved_by c (allowed l c (ChannelsAvailable base) (half_of base t) new
    (at_addressed (held_for (l.allocations (base + i))) (ReleaseChannel (base + i)))) l)
release_follows t l c base i new charges h lt half low has more e =
    let m : Move = ReleaseChannel (base + i) in
    let own = no_units_is c (l.allocations (base + i)) has in
    let is = half_is t l base h half in
    let given = channel_given l base i (record { holder = Pending c own.0; units = 0 }) h.sound own.1 low in
    let k : IsMove c own.0 m (ChannelsAvailable base) (half_of base t) new l = record {
      can = record { within = h.sound.bounded (base + i) _ own.1; held = own.1 };
      place = ap (λ b. ChannelsAvailable b) (half_register base i half low);
      before = sym is;
      later = omega arith;
    } in
    let to : held_for (l.allocations (base + i)) ≡ Some own.0 = ap held_for own.1 in
    rw to (swap_taken t _ l c own.0 m (ChannelsAvailable base) (half_of base t) new k
    (channel_stands t l base i new Free None charges h half low refl (rw own.1 refl) k.later (moves_keep c own.0 m l lt h.sound k.can) e))

pub release_denied : (t : Tables) (l : Account) (c base i new : ℕ) → StandsFor t l → IsHalf base → i < 32
    → (holds_no_units c (l.allocations (base + i)) ≡ true → new ≡ half_of base t + 2 ^ (31 - i) → ⊥)
    → Follows false t t (moved_by c (allowed l c (ChannelsAvailable base) (half_of base t) new
    (at_addressed (held_for (l.allocations (base + i))) (ReleaseChannel (base + i)))) l)
release_denied t l c base i new h half low never =
    nowhere_moved t l c base (half_of base t) new (held_for (l.allocations (base + i))) (ReleaseChannel (base + i)) h.sound
    (λ p at k. never (no_units_self c p (l.allocations (base + i)) k.can.held) (more p k))
  where
    more : (p : PlugAt) → IsMove c p (ReleaseChannel (base + i)) (ChannelsAvailable base) (half_of base t) new l → new ≡ half_of base t + 2 ^ (31 - i)
    more p k =
        let given = channel_given l base i (record { holder = Pending c p; units = 0 }) h.sound k.can.held low in
        let before = k.before in
        let later = k.later in
        omega arith

-- ---- the bit that changes
