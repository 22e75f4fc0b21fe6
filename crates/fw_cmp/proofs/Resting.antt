-- A controller has nothing to do exactly if it has no job, none waits and no connection is to be restored; and it waits
-- exactly if the end of the reclaim second holds a new connection back.
use Rattle.fw_cmp.proofs.Common.{◌≡◌, ℕ, ◌<◌, Bool, true, false, not, ◌&&◌, ◌||◌, List, [], ◌∷◌, length, get_or, refl, ap, sym, subst, ◌∙◌, arith, Option, Some, None, if◌then◌else◌, nat_tests}
use Rattle.fw_cmp.proofs.Common.{
  find_to_is,
  IsFirst,
  Slot,
  Free,
  Current,
  Nothing,
  Asking,
  Hearing,
  Overtaken,
  WaitingJob,
  Directory,
  Idle,
  Waiting,
  ControllerState,
  is_restoring,
  IsHeard,
  Fits,
  rests,
}
use Rattle.fw_cmp.proofs.Common.{answer_of, next, after_answer, after_next, is_empty, going}
use Rattle.std.proofs.Common.{is_some}
use Rattle.std.specs.Prelude.{nat_lt}
use Rattle.fw_cmp.specs.Causes.{HasNoJob, IsAtRest, IsHeldBack}
use Rattle.fw_cmp.specs.Turns.{is_busy}
use Rattle.fw_cmp.specs.Jobs.{to_restore, waiting_break, takes_task, takes_making, takes_waiting, takes_next, can_pick}
use Rattle.fw_cmp.proofs.Busy.{rest_busy, job_busy}
use Rattle.fw_cmp.proofs.Picking.{at_rest}
use Rattle.fw_cmp_jobs.proofs.Restoring.{none_to_restore}

-- the three parts of what can be picked
either : (a b e : Bool) → a || b || e ≡ false → (a ≡ false) × (b ≡ false) × (e ≡ false)
either false false false h = (refl, refl, refl)
either true b e h = cc
either false true e h = cc
either false false true h = cc

nothing_of : (o : Option ℕ) → is_some o ≡ false → o ≡ None
nothing_of None e = refl
nothing_of (Some k) e = cc

-- what is left if nothing can be picked
pub record Unpicked (now : ℕ) (d : Directory) (ss : List Slot) (ts : List WaitingJob) : Type 0 where
  pub restoring : to_restore (at_rest ss ts) ≡ None
  pub breaks : waiting_break (at_rest ss ts) ≡ None
  pub makings : (not (is_empty ts) && not (nat_lt now d.over_at)) ≡ false

unpicked : (now : ℕ) (d : Directory) (ss : List Slot) (ts : List WaitingJob) → can_pick now d ss ts ≡ false → Unpicked now d ss ts
unpicked now d ss ts e =
    let parts = either (is_some (to_restore (at_rest ss ts))) (is_some (waiting_break (at_rest ss ts))) (not (is_empty ts) && not (nat_lt now d.over_at)) e in
    record { restoring = nothing_of (to_restore (at_rest ss ts)) parts.0; breaks = nothing_of (waiting_break (at_rest ss ts)) parts.1; makings = parts.2 }

making_stays : (c : ControllerState) (a b : Bool) → (not a && not b) ≡ false → (if a then c else (if b then c else takes_task c 0)) ≡ c
making_stays c true b e = refl
making_stays c false true e = refl
making_stays c false false e = cc

next_stays : (now : ℕ) (d : Directory) (c : ControllerState) (o p : Option ℕ) → o ≡ None → p ≡ None → takes_making now d c ≡ c → takes_waiting p now d c ≡ c
    × takes_next o now d c ≡ takes_waiting (waiting_break c) now d c
next_stays now d c None None a b e = (e, refl)
next_stays now d c (Some i) p a b e = cc
next_stays now d c None (Some k) a b e = cc

-- if nothing can be picked, the controller rests
pub rests_next : (now : ℕ) (d : Directory) (ss : List Slot) (ts : List WaitingJob) → Unpicked now d ss ts → next now d (at_rest ss ts) ≡ rests d ts
rests_next now d ss ts h =
    let c : ControllerState = at_rest ss ts in
    let parts = next_stays now d c (to_restore c) (waiting_break c) h.restoring h.breaks (making_stays c (is_empty ts) (nat_lt now d.over_at) h.makings) in
    ap (λ (p : ControllerState). answer_of now d (going d p)) (parts.1 ∙ parts.0)

-- a controller that has nothing to send and nothing to end has no current job, and nothing can be picked
record Rests (now : ℕ) (d : Directory) (c : ControllerState) : Type 0 where
  pub current : c.current ≡ Nothing
  pub unpicked : Unpicked now d c.slots c.waiting

rests_from : (now : ℕ) (d : Directory) (ss : List Slot) (ts : List WaitingJob) (cur : Current) → Fits (record { slots = ss; waiting = ts; current = cur }) → IsHeard cur
    → is_busy (next now d (record { slots = ss; waiting = ts; current = cur })) ≡ false → Rests now d (record { slots = ss; waiting = ts; current = cur })
rests_from now d ss ts Nothing h heard e = record { current = refl; unpicked = unpicked now d ss ts (sym (rest_busy now d ss ts h) ∙ e) }
rests_from now d ss ts (Asking j s) h heard e = let busy : is_busy (next now d (record { slots = ss; waiting = ts; current = Asking j s })) ≡ true =
    job_busy now d ss ts (Asking j s) (λ x. cc) heard in cc
rests_from now d ss ts (Hearing j s) h heard e = absurd heard
rests_from now d ss ts (Overtaken i o) h heard e = let busy : is_busy (next now d (record { slots = ss; waiting = ts; current = Overtaken i o })) ≡ true =
    job_busy now d ss ts (Overtaken i o) (λ x. cc) heard in cc

-- the same, of the controller as it rests
rested : (now : ℕ) (d : Directory) (c : ControllerState) → Rests now d c → next now d c ≡ rests d c.waiting
rested now d c h = subst (λ (x : Current). next now d (record c { current = x }) ≡ rests d c.waiting) (sym h.current) (rests_next now d c.slots c.waiting h.unpicked)

no_job : (now : ℕ) (d : Directory) (c : ControllerState) → Fits c → Rests now d c → HasNoJob c
no_job now d c fits h = record {
  current = h.current;
  restoring = none_to_restore c.slots fits.slots (subst (λ (o : Option ℕ). IsFirst 32 (λ i. is_restoring (get_or c.slots i Free)) o) h.unpicked.restoring
      (find_to_is 32 (λ i. is_restoring (get_or c.slots i Free))));
}

none_found : (ss : List Slot) (o : Option ℕ) → IsFirst 32 (λ i. is_restoring (get_or ss i Free)) o → ((i : ℕ) → is_restoring (get_or ss i Free) ≡ false) → o ≡ None
none_found ss None first none = refl
none_found ss (Some k) first none = let clash : is_restoring (get_or ss k Free) ≡ false = none k in let found : is_restoring (get_or ss k Free) ≡ true = first.1 in cc

-- ---- nothing to do

idle_empty : (d : Directory) (ts : List WaitingJob) → rests d ts ≡ Idle → ts ≡ []
idle_empty d [] e = refl
idle_empty d (t ∷ ts) e = cc

pub idle_means : (now : ℕ) (d : Directory) (c : ControllerState) → Fits c → IsHeard c.current → next now d c ≡ Idle → IsAtRest c
idle_means now d c fits heard e =
    let h : Rests now d c = rests_from now d c.slots c.waiting c.current fits heard (ap is_busy e) in
    record { no_job = no_job now d c fits h; waiting = idle_empty d c.waiting (sym (rested now d c h) ∙ e) }

rest_unpicked : (now : ℕ) (d : Directory) (ss : List Slot) → ((i : ℕ) → is_restoring (get_or ss i Free) ≡ false) → Unpicked now d ss []
rest_unpicked now d ss none = record { restoring = none_found ss (to_restore (at_rest ss [])) (find_to_is 32 (λ i. is_restoring (get_or ss i Free))) none; breaks = refl; makings = refl }

pub rest_idles : (now : ℕ) (d : Directory) (c : ControllerState) → IsAtRest c → next now d c ≡ Idle
rest_idles now d c h =
    let none : Unpicked now d c.slots c.waiting = rw h.waiting (rest_unpicked now d c.slots h.no_job.restoring) in
    rested now d c (record { current = h.no_job.current; unpicked = none }) ∙ ap (rests d) h.waiting

-- ---- held back

some_waiting : (d : Directory) (ts : List WaitingJob) (until : ℕ) → rests d ts ≡ Waiting until → (0 < length ts) × (until ≡ d.over_at)
some_waiting d [] until e = cc
some_waiting d (t ∷ ts) until e = (omega arith, cc)

early_makings : (now at : ℕ) (ts : List WaitingJob) → 0 < length ts → (not (is_empty ts) && not (nat_lt now at)) ≡ false → now < at
early_makings now at [] some e = absurd (omega arith)
early_makings now at (t ∷ ts) some e = grind (arith, nat_tests)

pub waiting_means : (now : ℕ) (d : Directory) (c : ControllerState) (until : ℕ) → Fits c → IsHeard c.current → next now d c ≡ Waiting until → IsHeldBack now d c × (until ≡ d.over_at)
waiting_means now d c until fits heard e =
    let h : Rests now d c = rests_from now d c.slots c.waiting c.current fits heard (ap is_busy e) in
    let parts : (0 < length c.waiting) × (until ≡ d.over_at) = some_waiting d c.waiting until (sym (rested now d c h) ∙ e) in
    (record { no_job = no_job now d c fits h; breaks = h.unpicked.breaks; some = parts.0; early = early_makings now d.over_at c.waiting parts.0 h.unpicked.makings }, parts.1)

late_makings : (now at : ℕ) (ts : List WaitingJob) → now < at → (not (is_empty ts) && not (nat_lt now at)) ≡ false
late_makings now at [] lt = refl
late_makings now at (t ∷ ts) lt = grind (arith, nat_tests)

waits : (d : Directory) (ts : List WaitingJob) → 0 < length ts → rests d ts ≡ Waiting d.over_at
waits d [] some = absurd (omega arith)
waits d (t ∷ ts) some = refl

pub held_back_waits : (now : ℕ) (d : Directory) (c : ControllerState) → IsHeldBack now d c → next now d c ≡ Waiting d.over_at
held_back_waits now d c h =
    let none : Unpicked now d c.slots c.waiting = record {
      restoring = none_found c.slots (to_restore c) (find_to_is 32 (λ i. is_restoring (get_or c.slots i Free))) h.no_job.restoring;
      breaks = h.breaks;
      makings = late_makings now d.over_at c.waiting h.early;
    } in
    rested now d c (record { current = h.no_job.current; unpicked = none }) ∙ waits d c.waiting h.some

-- ---- a turn that does nothing

rest_stays : (now : ℕ) (d : Directory) (ss : List Slot) (ts : List WaitingJob) → Unpicked now d ss ts → after_next now d (at_rest ss ts) ≡ at_rest ss ts
rest_stays now d ss ts h =
    let c : ControllerState = at_rest ss ts in
    let parts = next_stays now d c (to_restore c) (waiting_break c) h.restoring h.breaks (making_stays c (is_empty ts) (nat_lt now d.over_at) h.makings) in
    ap (λ (p : ControllerState). after_answer (going d p)) (parts.1 ∙ parts.0)

-- a controller that has nothing to send and nothing to end stays as it is
pub idle_stays : (now : ℕ) (d : Directory) (c : ControllerState) → Fits c → IsHeard c.current → is_busy (next now d c) ≡ false → after_next now d c ≡ c
idle_stays now d c fits heard e =
    let h : Rests now d c = rests_from now d c.slots c.waiting c.current fits heard e in
    subst (λ (x : Current). after_next now d (record c { current = x }) ≡ record c { current = x }) (sym h.current) (rest_stays now d c.slots c.waiting h.unpicked)

-- so does one that has no job
pub rest_same : (now : ℕ) (d : Directory) (c : ControllerState) → IsAtRest c → after_next now d c ≡ c
rest_same now d c h =
    let none : Unpicked now d c.slots c.waiting = rw h.waiting (rest_unpicked now d c.slots h.no_job.restoring) in
    subst (λ (x : Current). after_next now d (record c { current = x }) ≡ record c { current = x }) (sym h.no_job.current) (rest_stays now d c.slots c.waiting none)
