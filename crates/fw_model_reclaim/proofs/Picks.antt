-- Which job becomes current, and the controller after its whole turn.
use Rattle.fw_model_reclaim.proofs.Common.{◌≡◌, inl, inr, ℕ, Bool, true, false, Option, Some, None, List, [], ◌∷◌}
use Rattle.fw_model_reclaim.proofs.Common.{refl, sym, ap, subst, arith, cond, ltb, get_or, nat_tests, Account, Slot, Free, Making}
use Rattle.fw_model_reclaim.proofs.Common.{Established, Restoring, Gone, Nothing, Asking, Directory, WaitingJob, Job, Restore}
use Rattle.fw_model_reclaim.proofs.Common.{Break, Begin, ControllerState, slot_at, break_waits, breaks_slot, is_making, to_restore}
use Rattle.fw_model_reclaim.proofs.Common.{takes_next, MatchesFor, CourseFor}
use Rattle.std.proofs.Common.{zero, suc}
use Rattle.std.specs.Prelude.{slice_get}
use Rattle.std.proofs.lemmas.Option.{slice_get-get_or}
use Rattle.std.proofs.lemmas.List.Quantifiers.{position-Some}
use Rattle.std.specs.Prelude.{remove, ⊤}
use Rattle.std.specs.List.{list_any}
use Rattle.std.proofs.lemmas.List.Folds.{list_any_at}
use Rattle.fw_terms.proofs.Tables.{IsFirst, find_to_is}
use Rattle.fw_cmp_jobs.specs.Slots.{is_restoring}
use Rattle.fw_cmp.specs.Jobs.{current_for, takes_task, slot_of_task, is_break, waiting_break, takes_making, takes_waiting, is_empty}
use Rattle.fw_model_reclaim.specs.Restores.{BreaksFit}
use Rattle.fw_model_reclaim.proofs.Begins.{OnCourseOrBegins}

-- no break of a slot waits more than before
abbrev pub NoMoreBreaks : ControllerState → ControllerState → Type 0
NoMoreBreaks c p = (i : ℕ) → break_waits c i ≡ false → break_waits p i ≡ false

-- No job becomes current, or one for what its slot holds. In a reclaim second a break becomes current only if one waited.
pub data Picks (l : Account) (c p : ControllerState) : Type 0 where
  Rests : p.current ≡ Nothing → p.slots ≡ c.slots → NoMoreBreaks c p → Picks l c p
  Takes : (j : Job) → p.current ≡ Asking j Begin → p.slots ≡ c.slots → MatchesFor j.purpose j (slot_at c j.slot) → (l.reclaiming ≡ true → OnCourseOrBegins j.purpose (slot_at c j.slot) Begin)
      → NoMoreBreaks c p → (l.reclaiming ≡ true → j.purpose ≡ Break → break_waits c j.slot ≡ true) → Picks l c p

abbrev pub IsBroken : Slot → Type 0
IsBroken (Established conn f) = ⊤
IsBroken (Gone conn) = ⊤
IsBroken _ = ⊥

-- a slot's job; in a reclaim second no new connection begins, and a break only if one waited
slot_picked : (l : Account) (c p : ControllerState) (i : ℕ) (x : Slot) → p.current ≡ Nothing → p.slots ≡ c.slots → NoMoreBreaks c p → slot_at c i ≡ x → (l.reclaiming ≡ true → is_making x ≡ false)
    → (l.reclaiming ≡ true → IsBroken x → break_waits c i ≡ true) → Picks l c (record p { current = current_for i x })
slot_picked l c p i Free idle same fewer e busy broken = Rests refl same fewer
slot_picked l c p i (Making conn asked overhead) idle same fewer e busy broken = Takes _ refl same e (λ runs. absurd (grind (arith, busy runs))) fewer (λ runs why. absurd (grind (arith, why)))
slot_picked l c p i (Established conn f) idle same fewer e busy broken = Takes _ refl same (inl (f, e)) (λ runs. inr (refl, refl)) fewer (λ runs why. broken runs tt)
slot_picked l c p i (Restoring conn f over) idle same fewer e busy broken =
    Takes _ refl same (f, over, e, refl) (λ runs. inl (subst (λ x. CourseFor Restore x Begin) (sym e) (begins over))) fewer (λ runs why. absurd (grind (arith, why)))
  where
    begins : (b : Bool) → CourseFor Restore (Restoring conn f b) Begin
    begins true = refl
    begins false = tt
slot_picked l c p i (Gone conn) idle same fewer e busy broken = Takes _ refl same (inr e) (λ runs. inr (refl, refl)) fewer (λ runs why. broken runs tt)

-- ---- a waiting job is taken from the list

none_removed : (test : WaitingJob → Bool) (xs : List WaitingJob) (k : ℕ) → list_any test xs ≡ false → list_any test (remove xs k) ≡ false
none_removed test [] zero e = refl
none_removed test [] (suc k) e = refl
none_removed test (x ∷ xs) zero e = grind (arith, e)
none_removed test (x ∷ xs) (suc k) e = let rest = none_removed test xs k (grind (arith, e)) in grind (arith, e, rest)

-- the job of a waiting task
task_taken : (l : Account) (c : ControllerState) (k : ℕ) → c.current ≡ Nothing → (l.reclaiming ≡ true → is_making (slot_at c (slot_of_task (slice_get c.waiting k))) ≡ false)
    → (l.reclaiming ≡ true → break_waits c (slot_of_task (slice_get c.waiting k)) ≡ true) → Picks l c (takes_task c k)
task_taken l c k idle busy broken = slot_picked l c (record c { waiting = remove c.waiting k }) (slot_of_task (slice_get c.waiting k)) (slot_at c (slot_of_task (slice_get c.waiting k))) idle refl
    (λ i none. none_removed (breaks_slot i) c.waiting k none) refl busy (λ runs is. broken runs)

restoring_unmade : (x : Slot) → is_restoring x ≡ true → is_making x ≡ false
restoring_unmade (Restoring conn f over) e = refl
restoring_unmade _ e = absurd (grind arith)

restoring_whole : (x : Slot) → is_restoring x ≡ true → IsBroken x → ⊥
restoring_whole (Established conn f) e is = grind (arith, e)
restoring_whole (Gone conn) e is = grind (arith, e)
restoring_whole _ e is = is

break_taken : (l : Account) (c : ControllerState) (k : ℕ) → c.current ≡ Nothing → BreaksFit c → waiting_break c ≡ Some k → Picks l c (takes_task c k)
break_taken l c k idle fits e =
    let none : WaitingJob = record { slot = 0; breaks = false } in
    let at = position-Some is_break c.waiting k none e in
    let is = slice_get-get_or c.waiting k none at.0 in
    let same : slot_of_task (slice_get c.waiting k) ≡ (get_or c.waiting k none).slot = ap slot_of_task is in
    task_taken l c k idle (λ runs. subst (λ o. is_making (slot_at c (slot_of_task o)) ≡ false) (sym is) (fits k (get_or c.waiting k none) is at.1))
    (λ runs. subst (λ i. break_waits c i ≡ true) (sym same) (list_any_at (breaks_slot (get_or c.waiting k none).slot) c.waiting k none at.0 (grind (arith, nat_tests, at.1))))

making_taken : (l : Account) (now : ℕ) (d : Directory) (c : ControllerState) → c.current ≡ Nothing → (l.reclaiming ≡ true → ltb now d.over_at ≡ true) → Picks l c (takes_making now d c)
making_taken l now d c idle early = go c.waiting
  where
    begins : (b : Bool) → ltb now d.over_at ≡ b → Picks l c (cond b c (takes_task c 0))
    begins true e = Rests idle refl (λ i none. none)
    begins false e = task_taken l c 0 idle (λ runs. absurd (grind (arith, early runs, e))) (λ runs. absurd (grind (arith, early runs, e)))

    go : (w : List WaitingJob) → Picks l c (cond (is_empty w) c (cond (ltb now d.over_at) c (takes_task c 0)))
    go [] = Rests idle refl (λ i none. none)
    go (t ∷ ts) = begins (ltb now d.over_at) refl

pub picks : (l : Account) (now : ℕ) (d : Directory) (c : ControllerState) → c.current ≡ Nothing → BreaksFit c → (l.reclaiming ≡ true → ltb now d.over_at ≡ true)
    → Picks l c (takes_next (to_restore c) now d c)
picks l now d c idle fits early = first (to_restore c) refl
  where
    second : (o : Option ℕ) → waiting_break c ≡ o → Picks l c (takes_waiting o now d c)
    second (Some k) e = break_taken l c k idle fits e
    second None e = making_taken l now d c idle early

    first : (o : Option ℕ) → to_restore c ≡ o → Picks l c (takes_next o now d c)
    first (Some i) e = let is = subst (λ o. IsFirst 32 (λ k. is_restoring (slot_at c k)) o) e (find_to_is 32 (λ k. is_restoring (slot_at c k))) in
        slot_picked l c c i (slot_at c i) idle refl (λ k none. none) refl (λ runs. restoring_unmade (slot_at c i) is.1) (λ runs broken. absurd (restoring_whole (slot_at c i) is.1 broken))
    first None e = second (waiting_break c) refl
