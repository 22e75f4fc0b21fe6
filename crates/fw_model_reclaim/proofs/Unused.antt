-- Controllers with no connection and no job: those beyond the devices.
use Rattle.fw_model_reclaim.proofs.Common.{PlugAt, ConnectionKind, ◌≡◌, ℕ, ◌<◌, ◌≤◌, Bool, true, false, refl, sym, ap, subst, ◌∙◌, arith, sum_to_same, sum_to_zero, Free, ControllerState, first_state}
use Rattle.fw_model_reclaim.proofs.Common.{slot_at, is_current_slot, slot_reset, current_reset, lost_reset, state_reset, Becomes, IsAtSlot, due_to, slot_due, Side, Output, Input}
use Rattle.fw_cmp.specs.Resets.{after_second, slots_reset}
use Rattle.fw_cmp_jobs.specs.Slots.{slot_over}
use Rattle.fw_model_reclaim.specs.Due.{held_by}
use Rattle.fw_model_reclaim.specs.Worlds.{IsUnused}
use Rattle.fw_model_reclaim.proofs.Due.{resting, due_sum, due_resting}
use Rattle.fw_model_reclaim.proofs.Events.{free_slots}
use Rattle.fw_model_reclaim.proofs.Slots.{slot_mapped}

free_none : (side : Side) (kind : ConnectionKind) (q : PlugAt) → resting side Free kind q ≡ 0
free_none Output kind q = refl
free_none Input kind q = refl

-- nothing is due to it, so it has nothing
pub nothing_due : (c : ControllerState) (side : Side) (kind : ConnectionKind) (q : PlugAt) → IsUnused c → due_to c side kind q ≡ 0
nothing_due c side kind q u = due_sum c side kind q (subst (λ x. IsAtSlot x) (sym u.idle) tt)
    ∙ (sum_to_same 32 (λ i. slot_due side c.current (slot_at c i) i kind q) (λ i. 0)
    (λ i lt. due_resting side c.current (slot_at c i) i kind q (ap (λ x. is_current_slot x i) u.idle) ∙ (ap (λ x. resting side x kind q) (u.free i) ∙ free_none side kind q)) ∙ sum_to_zero 32)

pub nothing_held : (c : ControllerState) (side : Side) (kind : ConnectionKind) (q : PlugAt) → IsUnused c → held_by c side kind q ≡ 0
nothing_held c side kind q u = omega (arith, nothing_due c side kind q u)

pub first_unused : IsUnused first_state
first_unused = record { free = free_slots; idle = refl }

pub reset_unused : (epoch : ℕ) (lost : Bool) (c : ControllerState) → IsUnused c → IsUnused (state_reset epoch lost c)
reset_unused epoch true c u = subst (λ x. IsUnused (slots_reset (lost_reset epoch c x))) (sym u.idle) (record { free = λ i. slot_mapped c slot_reset i refl ∙ ap slot_reset (u.free i); idle = u.idle })
reset_unused epoch false c u = subst (λ x. IsUnused (slots_reset (current_reset epoch c x))) (sym u.idle)
    (record { free = λ i. slot_mapped c slot_reset i refl ∙ ap slot_reset (u.free i); idle = u.idle })

pub second_unused : (c : ControllerState) → IsUnused c → IsUnused (after_second c)
second_unused c u = record { free = λ i. slot_mapped c slot_over i refl ∙ ap slot_over (u.free i); idle = u.idle }

-- another controller changed
pub beyond_after : (before after : ℕ → ControllerState) (c : ℕ) (x : ControllerState) → c < 63 → Becomes before c x after → ((e : ℕ) → 63 ≤ e → IsUnused (before e)) → (e : ℕ) → 63 ≤ e
    → IsUnused (after e)
beyond_after before after c x lt b u e far = subst IsUnused (sym (b.others e (λ is. absurd (omega (arith, is))))) (u e far)
