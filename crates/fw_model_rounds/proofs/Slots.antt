-- A controller's slots after a change at one, and the job that it picks.
use Rattle.fw_model_rounds.proofs.Common.{◌≡◌, ◌≢◌, ℕ, zero, suc, ◌<◌, Bool, true, false, Option, Some, None, List}
use Rattle.fw_model_rounds.proofs.Common.{[], ◌∷◌, refl, ap, ◌∙◌, arith, ◌⊎◌, inl, inr, cond, nat_tests, slice_index_or, Connection}
use Rattle.fw_model_rounds.proofs.Common.{Flow, Slot, Free, Making, Established, Restoring, Gone, Nothing, Asking, Directory, Job, Begin, ControllerState, slot_at, is_restoring, restoring_job, ready}
use Rattle.fw_model_rounds.proofs.Common.{waiting_break}
use Rattle.std.proofs.Common.{ltb}
use Rattle.std.specs.Prelude.{slice_set}
use Rattle.std.proofs.lemmas.List.{get_or-set_other}
use Rattle.fw_terms.proofs.Tables.{find_to_is, IsFirst}
use Rattle.fw_cmp.specs.Jobs.{current_for, going, takes_next, takes_waiting, to_restore, is_empty, takes_task}

-- ---- slots

pub other_item : (xs : List Slot) (k i : ℕ) (v : Slot) → i ≢ k → slice_index_or (slice_set xs k v) i Free ≡ slice_index_or xs i Free
other_item xs k i v ne = get_or-set_other xs k i v Free ne

-- a slot that is changed to one with nothing to restore
pub none_restored : (xs : List Slot) (k : ℕ) (v : Slot) → is_restoring v ≡ false → is_restoring (slice_index_or (slice_set xs k v) k Free) ≡ false
none_restored [] k v e = refl
none_restored (x ∷ xs) zero v e = e
none_restored (x ∷ xs) (suc k) v e = none_restored xs k v e

-- ---- the job that is picked

pub record Restores (slot : Slot) : Type 0 where
  pub connection : Connection
  pub flow : Flow
  pub over : Bool
  pub is : slot ≡ Restoring connection flow over

pub restores_is : (slot : Slot) → is_restoring slot ≡ true → Restores slot
restores_is Free e = grind arith
restores_is (Making conn asked overhead) e = grind arith
restores_is (Established conn f) e = grind arith
restores_is (Restoring conn f over) e = record { connection = conn; flow = f; over = over; is = refl }
restores_is (Gone conn) e = grind arith

abbrev pub idle : ControllerState → ControllerState
idle c = record c { current = Nothing }

abbrev pub asks : ControllerState → Job → ControllerState
asks c j = record c { current = Asking j Begin }

-- the controller goes on with the first slot that is to be restored
pub record Picks (now : ℕ) (d : Directory) (c : ControllerState) : Type 0 where
  pub slot : ℕ
  pub below : slot < 32
  pub holds : Restores (slot_at c slot)
  pub ready : ready now d (idle c) ≡ ready now d (asks c (restoring_job slot holds.connection holds.flow))

-- or has none, and rests
pub record Rests (now : ℕ) (d : Directory) (c : ControllerState) : Type 0 where
  pub none : (i : ℕ) → i < 32 → is_restoring (slot_at c i) ≡ false
  pub ready : ready now d (idle c) ≡ idle c

-- the controller as it would answer with this slot to restore, and with this in the slot
abbrev picks_slot : ℕ → Directory → ControllerState → Option ℕ → ControllerState
picks_slot now d c o = going d (takes_next o now d (idle c))

abbrev holds_slot : Directory → ControllerState → ℕ → Slot → ControllerState
holds_slot d c i slot = going d (record c { current = current_for i slot })

abbrev waits_slot : Directory → ControllerState → ControllerState
waits_slot d p = going d p

pub picks : (now : ℕ) (d : Directory) (c : ControllerState) → waiting_break c ≡ None → now < d.over_at → Picks now d c ⊎ Rests now d c
picks now d c none lt = go (to_restore c) refl (find_to_is 32 (λ i. is_restoring (slot_at c i)))
  where
    found : (i : ℕ) → to_restore c ≡ Some i → i < 32 → Restores (slot_at c i) → Picks now d c
    found i e below r = record { slot = i; below = below; holds = r; ready = ap (picks_slot now d c) e ∙ ap (holds_slot d c i) r.is }

    -- a new connection is not begun while the reclaim second runs
    rests : (b l : Bool) → l ≡ true → waits_slot d (cond b (idle c) (cond l (idle c) (takes_task (idle c) 0))) ≡ idle c
    rests true l e = refl
    rests false true e = refl
    rests false false e = grind arith

    empty : to_restore c ≡ None → ready now d (idle c) ≡ idle c
    empty e = ap (picks_slot now d c) e ∙ ap (λ (o : Option ℕ). waits_slot d (takes_waiting o now d (idle c))) none ∙ rests (is_empty c.waiting) (ltb now d.over_at) (grind (arith, nat_tests))

    go : (o : Option ℕ) → to_restore c ≡ o → IsFirst 32 (λ i. is_restoring (slot_at c i)) o → Picks now d c ⊎ Rests now d c
    go (Some i) e f = inl (found i e f.0 (restores_is (slot_at c i) f.1))
    go None e f = inr (record { none = f; ready = empty e })
