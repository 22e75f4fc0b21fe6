-- The jobs of one slot, as the waiting jobs, the current job and the slot change.
use Rattle.fw_cmp.proofs.Common.{
  ◌≡◌,
  ◌≢◌,
  ℕ,
  ◌+◌,
  ◌<◌,
  ◌≤◌,
  ◌||◌,
  Bool,
  true,
  false,
  List,
  [],
  ◌∷◌,
  ◌++◌,
  length,
  get_or,
  refl,
  ap,
  ◌∙◌,
  arith,
  Slot,
  Free,
  Making,
  Established,
  Restoring,
  Gone,
  Current,
}
use Rattle.fw_cmp.proofs.Common.{WaitingJob, count_of, breaks_waiting, break_runs, SlotHasJobs, IsMaking}
use Rattle.std.proofs.Common.{eq-eqb}
use Rattle.std.specs.Prelude.{◌==◌}
use Rattle.std.specs.List.{remove, list_any}
use Rattle.std.proofs.lemmas.Bool.{ne_eqb}
use Rattle.std.proofs.lemmas.List.Sums.{sum_by-append, sum_by-remove}
use Rattle.fw_cmp.specs.Controllers.{makes_slot, breaks_slot, makes_waiting}
use Rattle.fw_cmp_jobs.specs.Slots.{is_making, is_gone, is_breakable}

abbrev pub making_task : ℕ → WaitingJob
making_task i = record { slot = i; breaks = false }

abbrev pub breaking_task : ℕ → WaitingJob
breaking_task i = record { slot = i; breaks = true }

-- ---- waiting jobs

pub makes_pushed : (ts : List WaitingJob) (t : WaitingJob) (i : ℕ) → makes_waiting (ts ++ t ∷ []) i ≡ makes_waiting ts i + count_of (makes_slot i t)
makes_pushed ts t i = sum_by-append (λ u. count_of (makes_slot i u)) ts (t ∷ []) ∙ omega arith

pub breaks_pushed : (ts : List WaitingJob) (t : WaitingJob) (i : ℕ) → breaks_waiting (ts ++ t ∷ []) i ≡ breaks_waiting ts i + count_of (breaks_slot i t)
breaks_pushed ts t i = sum_by-append (λ u. count_of (breaks_slot i u)) ts (t ∷ []) ∙ omega arith

pub makes_removed : (ts : List WaitingJob) (p i : ℕ) (d : WaitingJob) → p < length ts → makes_waiting (remove ts p) i + count_of (makes_slot i (get_or ts p d)) ≡ makes_waiting ts i
makes_removed ts p i d lt = sum_by-remove (λ u. count_of (makes_slot i u)) ts p d lt

pub breaks_removed : (ts : List WaitingJob) (p i : ℕ) (d : WaitingJob) → p < length ts → breaks_waiting (remove ts p) i + count_of (breaks_slot i (get_or ts p d)) ≡ breaks_waiting ts i
breaks_removed ts p i d lt = sum_by-remove (λ u. count_of (breaks_slot i u)) ts p d lt

-- no break of a slot waits
pub breaks_none : (ts : List WaitingJob) (i : ℕ) → list_any (breaks_slot i) ts ≡ false → breaks_waiting ts i ≡ 0
breaks_none [] i e = refl
breaks_none (t ∷ ts) i e = grind (arith, breaks_none ts i)

one_more : (b r : Bool) (n : ℕ) → b || r ≡ true → (r ≡ true → 1 ≤ n) → 1 ≤ count_of b + n
one_more true r n e h = omega arith
one_more false r n e h = omega (arith, h e)

-- a break of a slot waits
pub breaks_some : (ts : List WaitingJob) (i : ℕ) → list_any (breaks_slot i) ts ≡ true → 1 ≤ breaks_waiting ts i
breaks_some [] i e = cc
breaks_some (t ∷ ts) i e =
    let parts : breaks_waiting (t ∷ ts) i ≡ breaks_waiting (t ∷ []) i + breaks_waiting ts i = sum_by-append (λ u. count_of (breaks_slot i u)) (t ∷ []) ts in
    let some : 1 ≤ count_of (breaks_slot i t) + breaks_waiting ts i = one_more (breaks_slot i t) (list_any (breaks_slot i) ts) (breaks_waiting ts i) e (breaks_some ts i) in
    omega arith

pub same_count : (i : ℕ) → count_of (i == i) ≡ 1
same_count i = ap count_of (eq-eqb i i refl)

pub other_count : (i k : ℕ) → i ≢ k → count_of (i == k) ≡ 0
other_count i k ne = ap count_of (ne_eqb i k ne)

-- ---- slots

pub making_count : (s : Slot) → IsMaking s → count_of (is_making s) ≡ 1
making_count (Making conn asked overhead) h = refl
making_count Free h = absurd h
making_count (Established conn f) h = absurd h
making_count (Restoring conn f over) h = absurd h
making_count (Gone conn) h = absurd h

pub making_alone : (s : Slot) → IsMaking s → (is_breakable s || is_gone s ≡ false) × (is_gone s ≡ false)
making_alone (Making conn asked overhead) h = (refl, refl)
making_alone Free h = absurd h
making_alone (Established conn f) h = absurd h
making_alone (Restoring conn f over) h = absurd h
making_alone (Gone conn) h = absurd h

-- ---- starts

-- a new connection takes a free slot, and waits
pub made_here : (ts : List WaitingJob) (now : Current) (i : ℕ) (s : Slot) → IsMaking s → SlotHasJobs ts now i Free → SlotHasJobs (ts ++ making_task i ∷ []) now i s
made_here ts now i s making h = record {
  makes = omega (arith, makes_pushed ts (making_task i) i, same_count i, making_count s making, h.makes);
  breaks = omega (arith, breaks_pushed ts (making_task i) i, h.breaks);
  gone = rw (making_alone s making).1 (omega arith);
}

pub made_elsewhere : (ts : List WaitingJob) (now : Current) (i k : ℕ) (s : Slot) → i ≢ k → SlotHasJobs ts now k s → SlotHasJobs (ts ++ making_task i ∷ []) now k s
made_elsewhere ts now i k s ne h = record {
  makes = omega (arith, makes_pushed ts (making_task i) k, other_count i k ne, h.makes);
  breaks = omega (arith, breaks_pushed ts (making_task i) k, h.breaks);
  gone = omega (arith, breaks_pushed ts (making_task i) k, h.gone);
}

pub broken_here : (ts : List WaitingJob) (now : Current) (i : ℕ) (s : Slot) → is_breakable s ≡ true → list_any (breaks_slot i) ts ≡ false → break_runs now i ≡ false → SlotHasJobs ts now i s
    → SlotHasJobs (ts ++ breaking_task i ∷ []) now i s
broken_here ts now i s b none idle h = record {
  makes = omega (arith, makes_pushed ts (breaking_task i) i, h.makes);
  breaks = rw (b, idle) (omega (arith, breaks_pushed ts (breaking_task i) i, same_count i, breaks_none ts i none));
  gone = omega (arith, breaks_pushed ts (breaking_task i) i, h.gone);
}

pub broken_elsewhere : (ts : List WaitingJob) (now : Current) (i k : ℕ) (s : Slot) → i ≢ k → SlotHasJobs ts now k s → SlotHasJobs (ts ++ breaking_task i ∷ []) now k s
broken_elsewhere ts now i k s ne h = record {
  makes = omega (arith, makes_pushed ts (breaking_task i) k, h.makes);
  breaks = omega (arith, breaks_pushed ts (breaking_task i) k, other_count i k ne, h.breaks);
  gone = omega (arith, breaks_pushed ts (breaking_task i) k, h.gone);
}
