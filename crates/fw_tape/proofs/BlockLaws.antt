-- The blocks that are due in some cycles are those by the last of them but not by the first.
use Rattle.std.proofs.Common.{◌≡◌, ℕ, zero, suc, ◌+◌, ◌-◌, ◌*◌, ◌/◌, ◌≤◌, ◌<◌, Option, Some, None, Bool, true, false, is_some, option_map, IsTrue, cond, arith, refl, ap, subst, ◌∙◌}
use Rattle.std.proofs.lemmas.Bool.Decides.{nat_tests}
use Rattle.fw_tape.specs.declared.system.TapeSystem.{TapeSystem}
use Rattle.fw_tape.specs.declared.system.TapeSystem.TheVariants.{Lines525, Lines625}
use Rattle.fw_tape.specs.declared.transport.Transport.{Transport}
use Rattle.fw_tape.specs.declared.transport.Transport.TheVariants.{Play, Reverse, Record}
use Rattle.fw_tape.specs.declared.cassette.Cassette.{Cassette}
use Rattle.fw_tape.specs.Systems.{share_cycles, share_blocks, blocks_due}
use Rattle.fw_tape.specs.Motion.{passed_on}
use Rattle.fw_tape.specs.Blocks.{is_due, due_among, blocks_among, next_block, block_now, IsCycleOf}

-- a cycle more makes at most one block more due
pub due_step : (s : TapeSystem) (k : ℕ) → (blocks_due s k ≤ blocks_due s (k + 1)) × (blocks_due s (k + 1) ≤ blocks_due s k + 1)
due_step Lines525 k = (omega arith, omega arith)
due_step Lines625 k = (omega arith, omega arith)

due_next : (s : TapeSystem) (k : ℕ) → blocks_due s k + cond (is_due s (k + 1)) 1 0 ≡ blocks_due s (k + 1)
due_next s k =
    let step = due_step s k in
    let before : k + 1 - 1 ≡ k = omega arith in
    rw before (grind (arith, nat_tests, step.0, step.1))

due_among_next : (s : TapeSystem) (k n : ℕ) → due_among s k (suc n) ≡ due_among s k n + cond (is_due s (k + n + 1)) 1 0
unfolding due_among
due_among_next s k n = refl

due_among_none : (s : TapeSystem) (k : ℕ) → due_among s k zero ≡ 0
unfolding due_among
due_among_none s k = refl

pub due_among_is : (s : TapeSystem) (k n : ℕ) → blocks_due s k + due_among s k n ≡ blocks_due s (k + n)
due_among_is s k zero =
    let e : k ≡ k + 0 = omega arith in
    let same : blocks_due s k ≡ blocks_due s (k + 0) = ap (blocks_due s) e in
    omega (arith, due_among_none s k, same)
due_among_is s k (suc n) =
    let e : k + n + 1 ≡ k + suc n = omega arith in
    let same : blocks_due s (k + n + 1) ≡ blocks_due s (k + suc n) = ap (blocks_due s) e in
    omega (arith, due_among_is s k n, due_among_next s k n, due_next s (k + n), same)

-- the cycle of a block is the first in which the share reaches it
pub block_has_cycle : (s : TapeSystem) (b : ℕ) → (k : ℕ) × IsCycleOf s b k
block_has_cycle Lines525 b =
    let before : ((b + 1) * 2002 + 1874) / 1875 - 1 ≡ ((b + 1) * 2002 - 1) / 1875 = omega arith in
    let below : ((b + 1) * 2002 - 1) / 1875 * 1875 / 2002 ≤ b = omega arith in
    let count : ((b + 1) * 2002 + 1874) / 1875 * 1875 / 2002 ≡ b + 1 = omega arith in
    (((b + 1) * 2002 + 1874) / 1875, record { due = rw before (grind (arith, nat_tests, below, count)); count = count })
block_has_cycle Lines625 b =
    let before : ((b + 1) * 16 + 14) / 15 - 1 ≡ ((b + 1) * 16 - 1) / 15 = omega arith in
    let below : ((b + 1) * 16 - 1) / 15 * 15 / 16 ≤ b = omega arith in
    let count : ((b + 1) * 16 + 14) / 15 * 15 / 16 ≡ b + 1 = omega arith in
    (((b + 1) * 16 + 14) / 15, record { due = rw before (grind (arith, nat_tests, below, count)); count = count })

rises : (s : TapeSystem) (k : ℕ) → IsTrue (is_due s k) → blocks_due s (k - 1) < blocks_due s k
rises s k due = grind (arith, nat_tests)

pub one_cycle : (s : TapeSystem) (b j k : ℕ) → IsCycleOf s b j → IsCycleOf s b k → j ≡ k
one_cycle Lines525 b j k h g =
    let first : (j - 1) * 1875 / 2002 < j * 1875 / 2002 = rises Lines525 j h.due in
    let other : (k - 1) * 1875 / 2002 < k * 1875 / 2002 = rises Lines525 k g.due in
    omega (arith, first, other, h.count, g.count)
one_cycle Lines625 b j k h g =
    let first : (j - 1) * 15 / 16 < j * 15 / 16 = rises Lines625 j h.due in
    let other : (k - 1) * 15 / 16 < k * 15 / 16 = rises Lines625 k g.due in
    omega (arith, first, other, h.count, g.count)

pub share_is_due : (s : TapeSystem) (k : ℕ) → due_among s k (share_cycles s) ≡ share_blocks s
share_is_due Lines525 k =
    let all : k * 1875 / 2002 + due_among Lines525 k 2002 ≡ (k + 2002) * 1875 / 2002 = due_among_is Lines525 k 2002 in
    omega (arith, all)
share_is_due Lines625 k =
    let all : k * 15 / 16 + due_among Lines625 k 16 ≡ (k + 16) * 15 / 16 = due_among_is Lines625 k 16 in
    omega (arith, all)

pub due_in_parts : (s : TapeSystem) (k m n : ℕ) → due_among s k (m + n) ≡ due_among s k m + due_among s (k + m) n
due_in_parts s k m n =
    let e : k + m + n ≡ k + (m + n) = omega arith in
    let same : blocks_due s (k + m + n) ≡ blocks_due s (k + (m + n)) = ap (blocks_due s) e in
    omega (arith, due_among_is s k (m + n), due_among_is s k m, due_among_is s (k + m) n, same)

pub blocks_in_parts : (c : Cassette) (t : Transport) (m n : ℕ)
    → let d : Cassette = record c { transport = t } in blocks_among (Some d) (m + n) ≡ blocks_among (Some d) m + blocks_among (Some (passed_on m d)) n
blocks_in_parts c Play m n = due_in_parts c.system c.passed m n
blocks_in_parts c _ m n = refl

sum : (c : Cassette) (t : Transport) (m n : ℕ) → let d : Cassette = record c { transport = t; passed = c.passed + (m + n) } in d ≡ record c { transport = t; passed = c.passed + m + n }
sum c t m n = let e : c.passed + (m + n) ≡ c.passed + m + n = omega arith in λ i. record c { transport = t; passed = e i }

pub passed_in_parts : (c : Cassette) (t : Transport) (m n : ℕ) → let d : Cassette = record c { transport = t } in passed_on (m + n) d ≡ passed_on n (passed_on m d)
passed_in_parts c Play m n = sum c Play m n
passed_in_parts c Record m n = sum c Record m n
passed_in_parts c Reverse m n = sum c Reverse m n
passed_in_parts c _ m n = refl

-- ---- one cycle

given_at : (c : Cassette) (t : Transport) → let d : Cassette = record c { transport = t } in block_now (Some (passed_on 1 d)) ≡ next_block (Some d)
given_at c Play = refl
given_at c _ = refl

pub given_now : (t : Option Cassette) → block_now (option_map (passed_on 1) t) ≡ next_block t
given_now None = refl
given_now (Some c) = given_at c c.transport

one_due : (s : TapeSystem) (k : ℕ) → due_among s k 1 ≡ cond (is_due s (k + 1)) 1 0
one_due s k =
    let e : k + 0 + 1 ≡ k + 1 = omega arith in
    let first = due_among_next s k 0 in
    let none = due_among_none s k in
    subst (λ j. due_among s k 1 ≡ cond (is_due s j) 1 0) e (omega (arith, first, none))

counted_by : {A : Type 0} (b : Bool) (x : A) → let n : ℕ = cond b 1 0 in n ≡ cond (is_some (cond b (Some x) None)) 1 0
counted_by true x = refl
counted_by false x = refl

counted_at : (c : Cassette) (t : Transport)
    → let d : Cassette = record c { transport = t } in blocks_among (Some d) 1 ≡ cond (is_some (next_block (Some d))) 1 0
counted_at c Play = one_due c.system c.passed ∙ counted_by (is_due c.system (c.passed + 1)) _
counted_at c _ = refl

pub counted_one : (t : Option Cassette) → blocks_among t 1 ≡ cond (is_some (next_block t)) 1 0
counted_one None = refl
counted_one (Some c) = counted_at c c.transport
