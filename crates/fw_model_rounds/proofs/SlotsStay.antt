-- A half step makes no slot one that is to be restored.
use Rattle.fw_model_rounds.proofs.Common.{◌≡◌, ◌≢◌, ℕ, ◌<◌, true, false, Option, Some, None, refl, sym, subst, arith, ◌⊎◌, inl, inr, cases_eq, option_map, slice_index_or, Slot, Free, Current, Nothing}
use Rattle.fw_model_rounds.proofs.Common.{Asking, Hearing, Overtaken, Directory, Job, Target, Stage, Begin, ControllerState, slot_at, is_restoring, restoring_job, target_of, swap_of, access_at}
use Rattle.fw_model_rounds.proofs.Common.{after_answer, after_asking, ready, resumed, waiting_break, after_half_step}
use Rattle.std.specs.Prelude.{slice_set}
use Rattle.fw_cmp.specs.Turns.{slot_after}
use Rattle.fw_model_rounds.proofs.Slots.{picks, Picks, Rests, idle, other_item, none_restored}
use Rattle.fw_model_rounds.proofs.ToCome.{after_restores}
use Rattle.fw_model_rounds.proofs.Within.{asking}

-- each slot that is to be restored was so before
abbrev pub SlotsStay : ControllerState → ControllerState → Type 0
SlotsStay c r = (i : ℕ) → is_restoring (slot_at r i) ≡ true → slot_at r i ≡ slot_at c i

freed : (c : ControllerState) (k : ℕ) (v : Slot) → is_restoring v ≡ false → SlotsStay c (record c { slots = slice_set c.slots k v })
freed c k v none i is = go (cases_eq i k)
  where
    not_there : i ≡ k → ⊥
    not_there e =
        let here : is_restoring (slice_index_or (slice_set c.slots k v) k Free) ≡ true = subst (λ (n : ℕ). is_restoring (slice_index_or (slice_set c.slots k v) n Free) ≡ true) e is in
        grind (arith, none_restored c.slots k v none)

    go : (i ≡ k) ⊎ (i ≢ k) → slice_index_or (slice_set c.slots k v) i Free ≡ slot_at c i
    go (inl e) = absurd (not_there e)
    go (inr ne) = other_item c.slots k i v ne

asked_stay : (c : ControllerState) (j : Job) (r : Stage) (o : Option Target) → SlotsStay c (after_asking (asking c j r) j r (option_map (access_at (swap_of j r)) o))
asked_stay c j r None = freed c j.slot (slot_after (asking c j r) j r) (after_restores (asking c j r) j r)
asked_stay c j r (Some t) = λ i is. refl

asking_stay : (now : ℕ) (d : Directory) (c : ControllerState) (j : Job) (s : Stage) → SlotsStay c (after_answer (ready now d (asking c j s)))
asking_stay now d c j s = asked_stay c j (resumed d (slot_at c j.slot) j s) (target_of j (resumed d (slot_at c j.slot) j s))

idle_stay : (now : ℕ) (d : Directory) (c : ControllerState) → Picks now d c ⊎ Rests now d c → SlotsStay c (after_answer (ready now d (idle c)))
idle_stay now d c (inl p) = subst (λ (r : ControllerState). SlotsStay c (after_answer r)) (sym p.ready) (asking_stay now d c (restoring_job p.slot p.holds.connection p.holds.flow) Begin)
idle_stay now d c (inr r) = subst (λ (x : ControllerState). SlotsStay c (after_answer x)) (sym r.ready) (λ i is. refl)

pub turn_stays : (words : Target → ℕ) (now : ℕ) (d : Directory) (c : ControllerState) (current : Current) → now < d.over_at → waiting_break c ≡ None
    → SlotsStay c (after_half_step words now d (record c { current = current }))
turn_stays words now d c Nothing lt none = idle_stay now d c (picks now d c none lt)
turn_stays words now d c (Asking j s) lt none = asking_stay now d c j s
turn_stays words now d c (Hearing j s) lt none = λ i is. refl
turn_stays words now d c (Overtaken i o) lt none = λ i is. refl
