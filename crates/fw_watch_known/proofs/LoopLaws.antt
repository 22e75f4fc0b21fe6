-- What loops make, one step more.
use Rattle.std.proofs.Common.{◌≡◌, refl, ℕ, zero, suc, ◌+◌, ◌*◌, ◌^◌, ◌<◌, ◌≤◌, Bool, true, false, cond, List, None, add-one, arith}
use Rattle.std.proofs.lemmas.Nat.{pow_pos}
use Rattle.fw_watch_remarks.specs.declared.known.Known.{Known}
use Rattle.fw_watch_remarks.specs.Knowing.{is_forgotten}
use Rattle.fw_watch_known.specs.declared.channel.Due.{Due}
use Rattle.fw_watch_known.specs.declared.channel.Channel.{Channel}
use Rattle.fw_watch_known.specs.Channels.{has_output, node_bit, owners_to, freshened_one, freshened, channel_at, next_late, late_to, is_taken, is_to_be_used, with_due, with_dues}

pub no_owners : (plugs : List Known) (k : ℕ) → owners_to 0 plugs k ≡ 0
unfolding owners_to
no_owners plugs k = refl

pub owners_more : (n : ℕ) (plugs : List Known) (k : ℕ) → owners_to (n + 1) plugs k ≡ owners_to n plugs k + node_bit n (has_output plugs k n)
unfolding owners_to
owners_more n plugs k = rw (add-one n) refl

bit_below : (b : Bool) (n m : ℕ) → n < m → n + cond b m 0 < 2 * m
bit_below true n m h = omega (arith, h)
bit_below false n m h = omega (arith, h)

-- the nodes below n have bits below n
pub owners_below : (n : ℕ) (plugs : List Known) (k : ℕ) → owners_to n plugs k < 2 ^ n
unfolding owners_to
owners_below zero plugs k = omega arith
owners_below (suc n) plugs k = omega (arith, bit_below (has_output plugs k n) (owners_to n plugs k) (2 ^ n) (owners_below n plugs k))

below_top : (n m : ℕ) → n ≤ m → 2 ^ n ≤ 2 ^ m
below_top zero m h = omega (arith, pow_pos m)
below_top (suc n) zero h = absurd (omega (arith, h))
below_top (suc n) (suc m) h = omega (arith, below_top n m (omega (arith, h)))

-- the nodes have bits that fit
pub owners_fit : (n : ℕ) (plugs : List Known) (k : ℕ) → n ≤ 63 → owners_to n plugs k < 2 ^ 64
owners_fit n plugs k h = omega (arith, owners_below n plugs k, below_top n 63 h)

pub none_freshened : (first : ℕ) (old now : Known) (c : List Channel) → freshened 0 first old now c ≡ c
unfolding freshened
none_freshened first old now c = refl

pub freshened_more : (n first : ℕ) (old now : Known) (c : List Channel)
    → freshened (n + 1) first old now c ≡ freshened_one (is_forgotten old now n) (first + n) (freshened n first old now c)
unfolding freshened
freshened_more n first old now c = rw (add-one n) refl

pub none_late : (c : List Channel) (cycle : ℕ) → late_to 0 c cycle ≡ None
unfolding late_to
none_late c cycle = refl

pub late_more : (n : ℕ) (c : List Channel) (cycle : ℕ) → late_to (n + 1) c cycle ≡ next_late (late_to n c cycle) n (channel_at c n).due cycle
unfolding late_to
late_more n c cycle = rw (add-one n) refl

pub no_dues : (first old new : ℕ) (due : Due) (plugs : List Known) (c : List Channel) → with_dues 0 first old new due plugs c ≡ c
unfolding with_dues
no_dues first old new due plugs c = refl

pub dues_more : (n first old new : ℕ) (due : Due) (plugs : List Known) (c : List Channel)
    → with_dues (n + 1) first old new due plugs c ≡ with_due (is_to_be_used (is_taken n old new) (first + n) plugs) (first + n) due (with_dues n first old new due plugs c)
unfolding with_dues
dues_more n first old new due plugs c = rw (add-one n) refl
