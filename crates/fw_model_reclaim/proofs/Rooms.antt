-- A restoring in its own second finds room at its plugs.
use Rattle.fw_model_reclaim.proofs.Common.{PlugAt, ConnectionKind, ◌≡◌, ℕ, ◌<◌, Bool, true, false, Some, not, ◌&&◌}
use Rattle.fw_model_reclaim.proofs.Common.{refl, ap, ◌∙◌, arith, nat_tests, sum_to_same, sum_to_zero, Connection, Flow, Slot, Free}
use Rattle.fw_model_reclaim.proofs.Common.{Making, Established, Restoring, Gone, Hearing, Job, Stage, kind_of, output_of, input_of, ControllerState, slot_at, count_of, due_to, Side, Output, Input}
use Rattle.fw_terms.proofs.Tables.{sum_to_at}
use Rattle.fw_cmp.specs.Holdings.{is_at_output, is_at_input, is_back_at_output, is_back_at_input, reclaims_output, reclaims_input, outputs_wanted, inputs_wanted}
use Rattle.fw_model_reclaim.specs.Due.{held_by, wanted_by}
use Rattle.fw_model_reclaim.proofs.Frames.{output_has, input_has}

-- ---- a connection that is to come back is wanted

output_wanted : (c : ControllerState) (j : Job) (s : Stage) (f : Flow) (p : PlugAt) → j.slot < 32 → c.current ≡ Hearing j s → slot_at c j.slot ≡ Restoring j.connection f false
    → output_of j.connection ≡ Some p → is_at_output s ≡ false → 0 < outputs_wanted c (kind_of j.connection) p
output_wanted c j s f p lt e is has away =
    let back : is_back_at_output c.current j.slot ≡ false = ap (λ x. is_back_at_output x j.slot) e ∙ grind (arith, nat_tests, away) in
    let comes : reclaims_output (slot_at c j.slot) (kind_of j.connection) p ≡ true = ap (λ x. reclaims_output x (kind_of j.connection) p) is ∙ output_has j.connection p has in
    let one : count_of (not (is_back_at_output c.current j.slot) && reclaims_output (slot_at c j.slot) (kind_of j.connection) p) ≡ 1 = rw (back, comes) refl in
    let at = sum_to_at 32 j.slot (λ i. count_of (not (is_back_at_output c.current i) && reclaims_output (slot_at c i) (kind_of j.connection) p)) lt in
    omega arith

input_wanted : (c : ControllerState) (j : Job) (s : Stage) (f : Flow) (q : PlugAt) → j.slot < 32 → c.current ≡ Hearing j s → slot_at c j.slot ≡ Restoring j.connection f false
    → input_of j.connection ≡ Some q → is_at_input s ≡ false → 0 < inputs_wanted c (kind_of j.connection) q
input_wanted c j s f q lt e is has away =
    let back : is_back_at_input c.current j.slot ≡ false = ap (λ x. is_back_at_input x j.slot) e ∙ grind (arith, nat_tests, away) in
    let comes : reclaims_input (slot_at c j.slot) (kind_of j.connection) q ≡ true = ap (λ x. reclaims_input x (kind_of j.connection) q) is ∙ input_has j.connection q has in
    let one : count_of (not (is_back_at_input c.current j.slot) && reclaims_input (slot_at c j.slot) (kind_of j.connection) q) ≡ 1 = rw (back, comes) refl in
    let at = sum_to_at 32 j.slot (λ i. count_of (not (is_back_at_input c.current i) && reclaims_input (slot_at c i) (kind_of j.connection) q)) lt in
    omega arith

pub output_due : (c : ControllerState) (j : Job) (s : Stage) (f : Flow) (p : PlugAt) → j.slot < 32 → c.current ≡ Hearing j s → slot_at c j.slot ≡ Restoring j.connection f false
    → output_of j.connection ≡ Some p → is_at_output s ≡ false → held_by c Output (kind_of j.connection) p < due_to c Output (kind_of j.connection) p
output_due c j s f p lt e is has away = omega (arith, output_wanted c j s f p lt e is has away)

pub input_due : (c : ControllerState) (j : Job) (s : Stage) (f : Flow) (q : PlugAt) → j.slot < 32 → c.current ≡ Hearing j s → slot_at c j.slot ≡ Restoring j.connection f false
    → input_of j.connection ≡ Some q → is_at_input s ≡ false → held_by c Input (kind_of j.connection) q < due_to c Input (kind_of j.connection) q
input_due c j s f q lt e is has away = omega (arith, input_wanted c j s f q lt e is has away)

-- ---- outside of a reclaim second nothing is wanted

unwanted_output : (x : Slot) (kind : ConnectionKind) (q : PlugAt) → ((conn : Connection) (f : Flow) → x ≡ Restoring conn f false → ⊥) → reclaims_output x kind q ≡ false
unwanted_output Free kind q never = refl
unwanted_output (Making conn asked overhead) kind q never = refl
unwanted_output (Established conn f) kind q never = refl
unwanted_output (Restoring conn f true) kind q never = refl
unwanted_output (Restoring conn f false) kind q never = absurd (never conn f refl)
unwanted_output (Gone conn) kind q never = refl

unwanted_input : (x : Slot) (kind : ConnectionKind) (q : PlugAt) → ((conn : Connection) (f : Flow) → x ≡ Restoring conn f false → ⊥) → reclaims_input x kind q ≡ false
unwanted_input Free kind q never = refl
unwanted_input (Making conn asked overhead) kind q never = refl
unwanted_input (Established conn f) kind q never = refl
unwanted_input (Restoring conn f true) kind q never = refl
unwanted_input (Restoring conn f false) kind q never = absurd (never conn f refl)
unwanted_input (Gone conn) kind q never = refl

none_of : (a b : Bool) → b ≡ false → count_of (a && b) ≡ 0
none_of true b e = ap count_of e
none_of false b e = refl

pub nothing_wanted : (c : ControllerState) (side : Side) (kind : ConnectionKind) (q : PlugAt) → ((i : ℕ) (conn : Connection) (f : Flow) → slot_at c i ≡ Restoring conn f false → ⊥)
    → wanted_by c side kind q ≡ 0
nothing_wanted c Output kind q none = sum_to_same 32 (λ i. count_of (not (is_back_at_output c.current i) && reclaims_output (slot_at c i) kind q)) (λ i. 0)
    (λ i lt. none_of (not (is_back_at_output c.current i)) (reclaims_output (slot_at c i) kind q) (unwanted_output (slot_at c i) kind q (none i))) ∙ sum_to_zero 32
nothing_wanted c Input kind q none = sum_to_same 32 (λ i. count_of (not (is_back_at_input c.current i) && reclaims_input (slot_at c i) kind q)) (λ i. 0)
    (λ i lt. none_of (not (is_back_at_input c.current i)) (reclaims_input (slot_at c i) kind q) (unwanted_input (slot_at c i) kind q (none i))) ∙ sum_to_zero 32
