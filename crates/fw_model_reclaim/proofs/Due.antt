-- What is due to a controller is what is due to its slots.
use Rattle.fw_model_reclaim.proofs.Common.{PlugAt, ConnectionKind, ◌≡◌, ℕ, ◌+◌, ◌<◌, ◌≤◌, true, false, not, ◌&&◌, arith, cond, eqb, nat_tests, sum_to_zero, Slot, Current, Nothing, Asking, Hearing}
use Rattle.fw_model_reclaim.proofs.Common.{Overtaken, Job, Stage, ControllerState, slot_at, count_of, is_current_slot, Side, Output, Input, due_to, slot_due, is_at, has_plug, IsAtSlot}
use Rattle.fw_terms.specs.Tables.{sum_to}
use Rattle.fw_terms.proofs.Tables.{sum_to_le, sum_to_changed, sum_to_plus}
use Rattle.fw_model_reclaim.specs.Due.{stands_at, reclaims_at, is_back_at, current_at}

three : (a b d : ℕ → ℕ) (x : ℕ) → sum_to 32 b ≡ x → (sum_to 32 a + x) + sum_to 32 d ≡ sum_to 32 (λ i. (a i + b i) + d i)
three a b d x e = omega (arith, sum_to_plus 32 (λ i. a i + b i) d, sum_to_plus 32 a b)

one_place : (k x : ℕ) → k < 32 → sum_to 32 (λ i. cond (eqb k i) x 0) ≡ x
one_place k x lt =
    let e = sum_to_changed 32 k (λ i. cond (eqb k i) x 0) (λ i. 0) lt (λ j ne. grind (arith, nat_tests)) in
    grind (arith, nat_tests, sum_to_zero 32)

current_sum : (side : Side) (cur : Current) (kind : ConnectionKind) (q : PlugAt) → IsAtSlot cur
    → sum_to 32 (λ i. cond (is_current_slot cur i) (current_at side cur kind q) 0) ≡ current_at side cur kind q
current_sum Output Nothing kind q at = sum_to_zero 32
current_sum Output (Asking j s) kind q at = one_place j.slot _ at
current_sum Output (Hearing j s) kind q at = one_place j.slot _ at
current_sum Output (Overtaken k o) kind q at = sum_to_zero 32
current_sum Input Nothing kind q at = sum_to_zero 32
current_sum Input (Asking j s) kind q at = one_place j.slot _ at
current_sum Input (Hearing j s) kind q at = one_place j.slot _ at
current_sum Input (Overtaken k o) kind q at = sum_to_zero 32

pub due_sum : (c : ControllerState) (side : Side) (kind : ConnectionKind) (q : PlugAt) → IsAtSlot c.current → due_to c side kind q ≡ sum_to 32 (λ i. slot_due side c.current (slot_at c i) i kind q)
due_sum c Output kind q at = three (λ i. count_of (not (is_current_slot c.current i) && stands_at Output (slot_at c i) kind q))
    (λ i. cond (is_current_slot c.current i) (current_at Output c.current kind q) 0) (λ i. count_of (not (is_back_at Output c.current i) && reclaims_at Output (slot_at c i) kind q)) _
    (current_sum Output c.current kind q at)
due_sum c Input kind q at = three (λ i. count_of (not (is_current_slot c.current i) && stands_at Input (slot_at c i) kind q))
    (λ i. cond (is_current_slot c.current i) (current_at Input c.current kind q) 0) (λ i. count_of (not (is_back_at Input c.current i) && reclaims_at Input (slot_at c i) kind q)) _
    (current_sum Input c.current kind q at)

-- if no slot has more due than before, the controller has not
pub due_less : (c d : ControllerState) (side : Side) (kind : ConnectionKind) (q : PlugAt) → IsAtSlot c.current → IsAtSlot d.current
    → ((i : ℕ) → i < 32 → slot_due side d.current (slot_at d i) i kind q ≤ slot_due side c.current (slot_at c i) i kind q) → due_to d side kind q ≤ due_to c side kind q
due_less c d side kind q at bt le = omega (
  arith,
  due_sum c side kind q at,
  due_sum d side kind q bt,
  sum_to_le 32 (λ i. slot_due side d.current (slot_at d i) i kind q) (λ i. slot_due side c.current (slot_at c i) i kind q) le,
)

-- ---- one slot

-- what is due to a slot that is not the current job's
abbrev pub resting : Side → Slot → ConnectionKind → PlugAt → ℕ
resting side slot kind q = count_of (stands_at side slot kind q) + count_of (reclaims_at side slot kind q)

-- what is due to the slot of a job at this stage
abbrev pub working : Side → Job → Stage → Slot → ConnectionKind → PlugAt → ℕ
working side j s slot kind q = count_of (is_at side s && has_plug side j.connection kind q) + count_of (not (is_at side s) && reclaims_at side slot kind q)

pub due_resting : (side : Side) (cur : Current) (slot : Slot) (i : ℕ) (kind : ConnectionKind) (q : PlugAt) → is_current_slot cur i ≡ false → slot_due side cur slot i kind q ≡ resting side slot kind q
due_resting Output Nothing slot i kind q e = omega arith
due_resting Output (Asking j s) slot i kind q e = rw e (omega arith)
due_resting Output (Hearing j s) slot i kind q e = rw e (omega arith)
due_resting Output (Overtaken k o) slot i kind q e = omega arith
due_resting Input Nothing slot i kind q e = omega arith
due_resting Input (Asking j s) slot i kind q e = rw e (omega arith)
due_resting Input (Hearing j s) slot i kind q e = rw e (omega arith)
due_resting Input (Overtaken k o) slot i kind q e = omega arith

pub due_asking : (side : Side) (j : Job) (s : Stage) (slot : Slot) (kind : ConnectionKind) (q : PlugAt) → slot_due side (Asking j s) slot j.slot kind q ≡ working side j s slot kind q
due_asking Output j s slot kind q = let e : eqb j.slot j.slot ≡ true = grind (arith, nat_tests) in rw e (omega arith)
due_asking Input j s slot kind q = let e : eqb j.slot j.slot ≡ true = grind (arith, nat_tests) in rw e (omega arith)

pub due_hearing : (side : Side) (j : Job) (s : Stage) (slot : Slot) (kind : ConnectionKind) (q : PlugAt) → slot_due side (Hearing j s) slot j.slot kind q ≡ working side j s slot kind q
due_hearing Output j s slot kind q = let e : eqb j.slot j.slot ≡ true = grind (arith, nat_tests) in rw e (omega arith)
due_hearing Input j s slot kind q = let e : eqb j.slot j.slot ≡ true = grind (arith, nat_tests) in rw e (omega arith)
