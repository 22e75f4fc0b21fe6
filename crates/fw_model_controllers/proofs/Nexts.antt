-- A controller in its turn stays in step: it takes a job or goes on, and its request goes out or its job ends.
use Rattle.fw_model_controllers.proofs.Common.{◌≡◌, ◌≢◌, ℕ, ◌<◌, ◌≤◌, Bool, true, false, Option, Some, None, List, [], ◌∷◌}
use Rattle.fw_model_controllers.proofs.Common.{length, cond, refl, ap, subst, sym, ◌∙◌, arith, ◌⊎◌, inl, inr, option_map, nat_tests}
use Rattle.fw_model_controllers.proofs.Common.{cases_lt, find_to_is, IsFirst, ResetEntry, output_addressed, Access, Target, JobFits, StageFits, CanGoOn, target_of, swap_of, addressee_of, has_manager}
use Rattle.fw_model_controllers.proofs.Common.{outstanding_of, Account, Request, asked, Slot, Free, Making, Established, Restoring, Gone}
use Rattle.fw_model_controllers.proofs.Common.{Current, Nothing, Asking, Hearing, Overtaken, Directory, Job, Make, Restore}
use Rattle.fw_model_controllers.proofs.Common.{Break, Stage, ControllerState, slot_at, job_for, restoring_job, breaking_job, Fits, after_asking, after_answer, ControllerInStep, IsDirectory}
use Rattle.std.proofs.Common.{IsSome}
use Rattle.std.proofs.Common.{get_or, slice_get, remove, position, ltb}
use Rattle.std.proofs.lemmas.List.{get_or_past}
use Rattle.std.proofs.lemmas.List.Elements.{All-get_or}
use Rattle.std.proofs.lemmas.List.Quantifiers.{position-Some}
use Rattle.std.proofs.lemmas.Option.{slice_get-get_or}
use Rattle.fw_cmp.specs.Holdings.{StageReached, CurrentReached}
use Rattle.fw_cmp_jobs.specs.Requests.{access_at}
use Rattle.fw_cmp.proofs.Ready.{ready_reached}
use Rattle.fw_model_controllers.specs.Registers.{plug_addressed}
use Rattle.fw_model_controllers.specs.Requests.{IsManager, request_to, requested_of, requested}
use Rattle.fw_model_controllers.proofs.Carried.{hearing}
use Rattle.fw_model_controllers.proofs.Fits.{ready_fits}
use Rattle.fw_model_controllers.proofs.Requests.{plug_is}
use Rattle.fw_cmp.specs.declared.current.WaitingJob.{WaitingJob}
use Rattle.fw_cmp.specs.Controllers.{IsHeard}
use Rattle.fw_cmp_jobs.specs.Slots.{is_restoring, making_job}
use Rattle.fw_cmp.specs.Jobs.{job_current, takes_slot, slot_of_task, takes_task, to_restore, is_break, waiting_break, is_empty}
use Rattle.fw_cmp.specs.Jobs.{takes_making, takes_waiting, takes_next, picked, resumed_current, going, ready}
use Rattle.fw_cmp.proofs.Jobs.{makes_removed, breaks_removed}
use Rattle.fw_cmp.proofs.Picking.{Suits, task_of, suits}
use Rattle.fw_model_controllers.specs.Controllers.{TurnInStep}
use Rattle.fw_model_controllers.proofs.Asks.{asks, unasked_ends}
use Rattle.fw_model_controllers.proofs.Seconds.{waiting_in_step}
use Rattle.fw_model_controllers.proofs.Turns.{IsTold, at_rest, asking, begins_at, resumes}
use Rattle.fw_model_controllers.proofs.Addressees.{target_is, addressee_there, number_at, node_is, began}

-- ---- what the controller is told

managed : (latest : Option ResetEntry) (n : ℕ) → IsManager latest n → has_manager latest ≡ true
managed None n m = absurd m
managed (Some r) n m = rw m refl

manager_told : (l : Account) (now : ℕ) (dir : Directory) → IsDirectory l now dir → IsTold l dir
manager_told l now dir told n e = managed l.latest n (told.manager n e)

-- ---- the job of a slot

job_slot : (k : ℕ) (slot : Slot) (j : Job) → job_for k slot ≡ Some j → j.slot ≡ k
job_slot k Free j is = absurd (grind arith)
job_slot k (Making conn asked overhead) j is = let same : making_job k conn asked overhead ≡ j = cc in ap (λ (y : Job). y.slot) (sym same)
job_slot k (Established conn f) j is = let same : breaking_job k conn ≡ j = cc in ap (λ (y : Job). y.slot) (sym same)
job_slot k (Restoring conn f over) j is = let same : restoring_job k conn f ≡ j = cc in ap (λ (y : Job). y.slot) (sym same)
job_slot k (Gone conn) j is = let same : breaking_job k conn ≡ j = cc in ap (λ (y : Job). y.slot) (sym same)

-- new connections are made outside of the second
abbrev pub IsCalm : Account → ℕ → Slot → Type 0
IsCalm l k slot = (j : Job) → job_for k slot ≡ Some j → j.purpose ≡ Make → l.reclaiming ≡ false

-- the job of a slot becomes current, and goes on
slot_turn : (l : Account) (d : ℕ) (c : ControllerState) (dir : Directory) (k : ℕ) → ControllerInStep l d (at_rest c) → IsTold l dir → k < 32 → IsCalm l k (slot_at c k)
    → ControllerInStep l d (going dir (takes_slot (at_rest c) k))
slot_turn l d c dir k x told lt calm = go (job_for k (slot_at c k)) refl
  where
    go : (o : Option Job) → job_for k (slot_at c k) ≡ o → ControllerInStep l d (going dir (record c { current = job_current o }))
    go None e = x
    go (Some j) e = begins_at l d c dir k (slot_at c j.slot) j x told lt (ap (slot_at c) (sym (job_slot k (slot_at c k) j e)))
        (subst (λ n. job_for k (slot_at c n) ≡ Some j) (sym (job_slot k (slot_at c k) j e)) e) (calm j e)

-- a job that restores, or breaks, makes nothing
restoring_calm : (l : Account) (k : ℕ) (slot : Slot) → is_restoring slot ≡ true → IsCalm l k slot
restoring_calm l k Free e j is f = absurd (grind arith)
restoring_calm l k (Making conn asked overhead) e j is f = absurd (grind arith)
restoring_calm l k (Established conn g) e j is f = absurd (grind arith)
restoring_calm l k (Restoring conn g over) e j is f = let same : restoring_job k conn g ≡ j = cc in let no_ : Restore ≡ Make = ap (λ (y : Job). y.purpose) same ∙ f in absurd (grind arith)
restoring_calm l k (Gone conn) e j is f = absurd (grind arith)

breaking_calm : (l : Account) (k : ℕ) (slot : Slot) → Suits true slot → IsCalm l k slot
breaking_calm l k Free e j is f = absurd e
breaking_calm l k (Making conn asked overhead) e j is f = absurd e
breaking_calm l k (Established conn g) e j is f = let same : breaking_job k conn ≡ j = cc in let no_ : Break ≡ Make = ap (λ (y : Job). y.purpose) same ∙ f in absurd (grind arith)
breaking_calm l k (Restoring conn g over) e j is f = absurd e
breaking_calm l k (Gone conn) e j is f = let same : breaking_job k conn ≡ j = cc in let no_ : Break ≡ Make = ap (λ (y : Job). y.purpose) same ∙ f in absurd (grind arith)

-- ---- waiting jobs

no_task : WaitingJob
no_task = task_of 0 false

task_turn : (l : Account) (d : ℕ) (c : ControllerState) (dir : Directory) (p : ℕ) → ControllerInStep l d (at_rest c) → IsTold l dir → Fits (at_rest c) → p < length c.waiting
    → IsCalm l (get_or c.waiting p no_task).slot (slot_at c (get_or c.waiting p no_task).slot) → ControllerInStep l d (going dir (takes_task (at_rest c) p))
task_turn l d c dir p x told fits lt calm =
    subst (λ n. ControllerInStep l d (going dir (takes_slot (at_rest (record c { waiting = remove c.waiting p })) n))) (sym (ap slot_of_task (slice_get-get_or c.waiting p no_task lt)))
    (slot_turn l d (record c { waiting = remove c.waiting p }) dir (get_or c.waiting p no_task).slot (waiting_in_step l d (at_rest c) (remove c.waiting p) x) told
    (All-get_or (λ (t : WaitingJob). t.slot < 32) c.waiting p no_task lt fits.waiting) calm)

-- no connection is to be restored
abbrev pub NoneToRestore : ControllerState → Type 0
NoneToRestore c = (i : ℕ) → is_restoring (slot_at c i) ≡ false

-- the connection of a break that waits stands, or is gone
break_suits : (c : ControllerState) (p : ℕ) → Fits (at_rest c) → NoneToRestore c → p < length c.waiting → (get_or c.waiting p no_task).breaks ≡ true
    → Suits true (slot_at c (get_or c.waiting p no_task).slot)
break_suits c p fits none lt e =
    let t : WaitingJob = get_or c.waiting p no_task in
    subst (λ b. Suits b (slot_at c t.slot)) e (suits t.breaks t.slot c.waiting (slot_at c t.slot) (omega (arith, makes_removed c.waiting p t.slot no_task lt))
    (omega (arith, breaks_removed c.waiting p t.slot no_task lt)) (none t.slot) (fits.jobs t.slot))

making_turn : (l : Account) (d now : ℕ) (c : ControllerState) (dir : Directory) → ControllerInStep l d (at_rest c) → IsDirectory l now dir → Fits (at_rest c) → (ts : List WaitingJob) → c.waiting ≡ ts
    → ControllerInStep l d (going dir (takes_making now dir (at_rest c)))
making_turn l d now c dir x told fits ts e = go (is_empty c.waiting) refl (ltb now dir.over_at) refl
  where
    some : is_empty c.waiting ≡ false → (us : List WaitingJob) → c.waiting ≡ us → 0 < length c.waiting
    some f [] g = let no_ : is_empty [] ≡ false = ap is_empty (sym g) ∙ f in absurd (grind arith)
    some f (t ∷ us) g = rw g (omega arith)

    calm : ltb now dir.over_at ≡ false → l.reclaiming ≡ false
    calm f = quiet l.reclaiming refl
      where
        quiet : (b : Bool) → l.reclaiming ≡ b → b ≡ false
        quiet true g = let lt : now < dir.over_at = told.second g in absurd (grind (arith, nat_tests))
        quiet false g = refl

    go : (b : Bool) → is_empty c.waiting ≡ b → (k : Bool) → ltb now dir.over_at ≡ k → ControllerInStep l d (going dir (cond b (at_rest c) (cond k (at_rest c) (takes_task (at_rest c) 0))))
    go true f k g = x
    go false f true g = x
    go false f false g = task_turn l d c dir 0 x (manager_told l now dir told) fits (some f c.waiting refl) (λ j is h. calm g)

waiting_turn : (l : Account) (d now : ℕ) (c : ControllerState) (dir : Directory) → ControllerInStep l d (at_rest c) → IsDirectory l now dir → Fits (at_rest c) → NoneToRestore c → (o : Option ℕ)
    → position is_break c.waiting ≡ o → ControllerInStep l d (going dir (takes_waiting o now dir (at_rest c)))
waiting_turn l d now c dir x told fits none (Some p) e =
    let at = position-Some is_break c.waiting p no_task e in
    task_turn l d c dir p x (manager_told l now dir told) fits at.0
    (breaking_calm l (get_or c.waiting p no_task).slot (slot_at c (get_or c.waiting p no_task).slot) (break_suits c p fits none at.0 at.1))
waiting_turn l d now c dir x told fits none None e = making_turn l d now c dir x told fits c.waiting refl

none_to_restore : (c : ControllerState) → length c.slots ≡ 32 → IsFirst 32 (λ i. is_restoring (slot_at c i)) None → NoneToRestore c
none_to_restore c full first i = go (cases_lt i 32)
  where
    go : (i < 32) ⊎ (32 ≤ i) → is_restoring (slot_at c i) ≡ false
    go (inl lt) = first i lt
    go (inr le) = ap is_restoring (get_or_past c.slots i Free (omega arith))

next_turn : (l : Account) (d now : ℕ) (c : ControllerState) (dir : Directory) → ControllerInStep l d (at_rest c) → IsDirectory l now dir → Fits (at_rest c) → (o : Option ℕ)
    → IsFirst 32 (λ i. is_restoring (slot_at c i)) o → ControllerInStep l d (going dir (takes_next o now dir (at_rest c)))
next_turn l d now c dir x told fits (Some i) first = slot_turn l d c dir i x (manager_told l now dir told) first.0 (restoring_calm l i (slot_at c i) first.1)
next_turn l d now c dir x told fits None first = waiting_turn l d now c dir x told fits (none_to_restore c fits.slots first) (position is_break c.waiting) refl

-- ---- the turn

-- the controller as it answers
ready_at : (l : Account) (d now : ℕ) (c : ControllerState) (dir : Directory) (current : Current) → ControllerInStep l d (record c { current = current }) → IsDirectory l now dir
    → Fits (record c { current = current }) → ControllerInStep l d (ready now dir (record c { current = current }))
ready_at l d now c dir Nothing x told fits = next_turn l d now c dir x told fits (to_restore (at_rest c)) (find_to_is 32 (λ i. is_restoring (slot_at c i)))
ready_at l d now c dir (Asking j s) x told fits = resumes l d c dir j s x (manager_told l now dir told)
ready_at l d now c dir (Hearing j s) x told fits = x
ready_at l d now c dir (Overtaken i o) x told fits = x

-- a controller that waits for no answer waits for none when it is ready
job_heard : (o : Option Job) → IsHeard (job_current o)
job_heard None = tt
job_heard (Some j) = tt

waiting_heard : (o : Option ℕ) (now : ℕ) (dir : Directory) (c : ControllerState) → IsHeard (takes_waiting o now dir (at_rest c)).current
waiting_heard (Some k) now dir c = job_heard (job_for (slot_of_task (slice_get c.waiting k)) (slot_at c (slot_of_task (slice_get c.waiting k))))
waiting_heard None now dir c = go (is_empty c.waiting) (ltb now dir.over_at)
  where
    go : (a b : Bool) → IsHeard (cond a (at_rest c) (cond b (at_rest c) (takes_task (at_rest c) 0))).current
    go true b = tt
    go false true = tt
    go false false = job_heard (job_for (slot_of_task (slice_get c.waiting 0)) (slot_at c (slot_of_task (slice_get c.waiting 0))))

next_heard : (o : Option ℕ) (now : ℕ) (dir : Directory) (c : ControllerState) → IsHeard (takes_next o now dir (at_rest c)).current
next_heard (Some i) now dir c = job_heard (job_for i (slot_at c i))
next_heard None now dir c = waiting_heard (waiting_break (at_rest c)) now dir c

goes_heard : (dir : Directory) (c : ControllerState) (current : Current) → IsHeard current → IsHeard (resumed_current c dir current)
goes_heard dir c Nothing h = tt
goes_heard dir c (Asking j s) h = tt
goes_heard dir c (Hearing j s) h = h
goes_heard dir c (Overtaken i o) h = tt

picked_heard : (now : ℕ) (dir : Directory) (c : ControllerState) (current : Current) → IsHeard current → IsHeard (picked now dir (record c { current = current })).current
picked_heard now dir c Nothing h = next_heard (to_restore (at_rest c)) now dir c
picked_heard now dir c (Asking j s) h = h
picked_heard now dir c (Hearing j s) h = h
picked_heard now dir c (Overtaken i o) h = h

pub ready_heard : (now : ℕ) (dir : Directory) (c : ControllerState) → IsHeard c.current → IsHeard (ready now dir c).current
ready_heard now dir c h = goes_heard dir (picked now dir c) (picked now dir c).current (picked_heard now dir c c.current h)

-- what follows, whatever is current
pub record Follows (l : Account) (d : ℕ) (dir : Directory) (c : ControllerState) : Type 0 where
  pub asks : (request : Request) → outstanding_of dir c.current ≡ Some request → (l.latest ≢ None) × ControllerInStep (asked d request l) d c
  pub rests : outstanding_of dir c.current ≡ None → ControllerInStep l d c

-- a request goes to its node
sent : (l : Account) (d now : ℕ) (dir : Directory) (c : ControllerState) (j : Job) (s : Stage) (t : Target) → ControllerInStep l d (asking c j s) → IsDirectory l now dir → JobFits j → StageFits j s
    → StageReached dir j s → target_of j s ≡ Some t → Follows l d dir (hearing c j s)
sent l d now dir c j s t x told job fits reached e = record {
  asks = λ request f. go (addressee_of dir t) refl request (at f);
  rests = λ f. absurd (none (addressee_of dir t) (addressee_there dir j s t fits reached e) (at f));
}
  where
    a : Access
    a = record { target = t; swap = swap_of j s }

    at : {o : Option Request} → outstanding_of dir (Hearing j s) ≡ o → requested_of (addressee_of dir t) a ≡ o
    at f = ap (λ x. requested dir (option_map (access_at (swap_of j s)) x)) (sym e) ∙ f

    none : (n : Option ℕ) → IsSome n → requested_of n a ≡ None → ⊥
    none None h f = grind arith
    none (Some n) h f = grind arith

    go : (n : Option ℕ) → addressee_of dir t ≡ n → (request : Request) → requested_of n a ≡ Some request → (l.latest ≢ None) × ControllerInStep (asked d request l) d (hearing c j s)
    go None g request f = absurd (grind arith)
    go (Some n) g request f =
        let same : request_to n a ≡ request = cc in
        let node = node_is l now dir t n told g in (
          began l.latest t n node,
          asks l d c j s t request e (subst (λ (y : Request). output_addressed l.latest y.target y.address ≡ plug_addressed t) same
              (plug_is l.latest t n node (number_at j t job.connection (target_is j s t fits e)))) x,
        )

follows_asking : (l : Account) (d now : ℕ) (dir : Directory) (c : ControllerState) (j : Job) (s : Stage) → ControllerInStep l d (asking c j s) → IsDirectory l now dir → length c.slots ≡ 32 → JobFits j
    → StageFits j s → StageReached dir j s → Follows l d dir (after_answer (asking c j s))
follows_asking l d now dir c j s x told full job fits reached = go (target_of j s) refl
  where
    go : (o : Option Target) → target_of j s ≡ o → Follows l d dir (after_asking (asking c j s) j s (option_map (access_at (swap_of j s)) o))
    go None e = record { asks = λ request f. absurd (grind arith); rests = λ f. unasked_ends l d c j s full e x }
    go (Some t) e = sent l d now dir c j s t x told job fits reached e

follows : (l : Account) (d now : ℕ) (dir : Directory) (c : ControllerState) (current : Current) → ControllerInStep l d (record c { current = current }) → IsDirectory l now dir
    → Fits (record c { current = current }) → CurrentReached dir current → IsHeard current → Follows l d dir (after_answer (record c { current = current }))
follows l d now dir c Nothing x told fits reached heard = record { asks = λ request f. absurd (grind arith); rests = λ f. x }
follows l d now dir c (Asking j s) x told fits reached heard = follows_asking l d now dir c j s x told fits.slots fits.current.job fits.current.stage reached
follows l d now dir c (Hearing j s) x told fits reached heard = absurd heard
follows l d now dir c (Overtaken i o) x told fits reached heard = record { asks = λ request f. absurd (grind arith); rests = λ f. record { current = x.current; slots = x.slots } }

pub turn_in_step : (l : Account) (d now : ℕ) (c : ControllerState) (dir : Directory) → ControllerInStep l d c → IsDirectory l now dir → Fits c → CanGoOn dir c → IsHeard c.current
    → TurnInStep l d now dir c
turn_in_step l d now c dir x told fits goes heard =
    let f = follows l d now dir (ready now dir c) (ready now dir c).current (ready_at l d now c dir c.current x told fits) told (ready_fits now dir c fits) (ready_reached now dir c fits goes)
    (ready_heard now dir c heard) in
    record { asks = f.asks; rests = f.rests }
