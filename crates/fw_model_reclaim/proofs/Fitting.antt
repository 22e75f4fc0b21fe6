-- What is due at each plug goes on to fit it, through each change of the whole.
use Rattle.fw_model_reclaim.proofs.Common.{PlugAt, ConnectionKind, PointToPoint, Broadcast, ◌≡◌, ◌≢◌, ◌⊎◌, inl, inr, ℕ, ◌<◌, ◌≤◌}
use Rattle.fw_model_reclaim.proofs.Common.{Bool, true, false, Option, Some, None, length, refl, sym, ap, subst, ◌∙◌}
use Rattle.fw_model_reclaim.proofs.Common.{arith, eqb, Ok, cases_eq, nat_tests, Reply, ResetEntry, Account, account_reset, after}
use Rattle.fw_model_reclaim.proofs.Common.{IsSound, Slot, Free, Making, Current, Nothing, Asking, Hearing, Overtaken}
use Rattle.fw_model_reclaim.proofs.Common.{Job, StartFault, ControllerState, first_state, slot_at, with_slot, is_making}
use Rattle.fw_model_reclaim.proofs.Common.{is_current_slot, after_hear, state_reset, heard, hear_reply, started, break_started}
use Rattle.fw_model_reclaim.proofs.Common.{break_fault, with_task, after_next, Becomes, due_to, held_in, slot_due, IsAtSlot, Restores, Carries, Unchanged, Moved, MatchesFor, CourseFor, CurrentMatches}
use Rattle.fw_model_reclaim.proofs.Common.{CurrentCourse, Side, Output, Input, connections_at, orphaned_of, AreSeated, World}
use Rattle.fw_model_reclaim.proofs.Common.{CanReclaim, Change, Turn, Answer, BusReset, SecondOver, Death, NewConnection}
use Rattle.fw_model_reclaim.proofs.Common.{BreakOf, Withholding, Elsewhere, Happens}
use Rattle.fw_model_account.specs.Packets.{ended}
use Rattle.fw_model_reclaim.specs.Due.{due_in}
use Rattle.fw_model_reclaim.specs.Seats.{Fits}
use Rattle.fw_model_reclaim.specs.Worlds.{SendsRequest, SendsNothing, TakesTurn, HearsAnswer, IsReset, Dies}
use Rattle.fw_model_reclaim.proofs.Due.{resting, due_less, due_resting}
use Rattle.fw_model_reclaim.proofs.DueHeard.{working_heard}
use Rattle.fw_model_reclaim.proofs.DueResets.{due_reset}
use Rattle.fw_model_reclaim.proofs.DueSteps.{due_heard}
use Rattle.fw_model_reclaim.proofs.DueTurns.{due_next}
use Rattle.fw_model_reclaim.proofs.Given.{takes_free, making_is}
use Rattle.fw_model_reclaim.proofs.Living.{turn_agrees, ended_agrees, answer_carries, answer_leaves, carried, facts_in, seated_all, turn_meets}
use Rattle.fw_model_reclaim.proofs.Nexts.{used}
use Rattle.fw_model_reclaim.proofs.Orphans.{orphans_less}
use Rattle.fw_model_reclaim.proofs.Rooms.{nothing_wanted}
use Rattle.fw_model_reclaim.proofs.Seats.{fits_less, fits_seats, fits_death}
use Rattle.fw_model_reclaim.proofs.Slots.{slot_set_same, slot_set_other}
use Rattle.fw_model_reclaim.proofs.Unused.{nothing_due, first_unused}

-- ---- tables of controllers

-- no more is due than before
abbrev pub NoMoreDue : World → World → Type 0
NoMoreDue w v = (c : ℕ) (side : Side) (kind : ConnectionKind) (q : PlugAt) → due_in v.controllers c side kind q ≤ due_in w.controllers c side kind q

abbrev pub NoMoreOrphans : Account → Account → Type 0
NoMoreOrphans l m = (side : Side) (kind : ConnectionKind) (q : PlugAt) → orphaned_of kind (connections_at m side q) ≤ orphaned_of kind (connections_at l side q)

-- one controller has no more due than before
one_less : (w v : World) (c : ℕ) (after : ControllerState) → Becomes w.controllers c after v.controllers
    → ((side : Side) (kind : ConnectionKind) (q : PlugAt) → due_to after side kind q ≤ due_to (w.controllers c) side kind q) → NoMoreDue w v
one_less w v c after b less d side kind q = go (cases_eq d c)
  where
    go : (d ≡ c) ⊎ (d ≢ c) → due_in v.controllers d side kind q ≤ due_in w.controllers d side kind q
    go (inl e) =
        let new : due_in v.controllers d side kind q ≡ due_to after side kind q = ap (λ y. due_to y side kind q) (ap v.controllers e ∙ b.new) in
        let old : due_in w.controllers d side kind q ≡ due_to (w.controllers c) side kind q = ap (λ y. due_to (w.controllers y) side kind q) e in
        omega (arith, less side kind q)
    go (inr ne) = let same : due_in v.controllers d side kind q ≡ due_in w.controllers d side kind q = ap (λ y. due_to y side kind q) (b.others d ne) in omega arith

same_orphans : (l m : Account) → m ≡ l → NoMoreOrphans l m
same_orphans l m e side kind q = let same : orphaned_of kind (connections_at m side q) ≡ orphaned_of kind (connections_at l side q) = ap (λ x. orphaned_of kind (connections_at x side q)) e in
    omega arith

-- a request that goes out changes no plug
turn_orphans : (w : World) (c now : ℕ) (m : Account) → SendsRequest w c now m ⊎ SendsNothing w c now m → NoMoreOrphans w.account m
turn_orphans w c now m (inl x) Output kind q = let same : orphaned_of kind (m.outputs q) ≡ orphaned_of kind (w.account.outputs q) = ap (λ (y : Account). orphaned_of kind (y.outputs q)) x.account in
    omega arith
turn_orphans w c now m (inl x) Input kind q = let same : orphaned_of kind (m.inputs q) ≡ orphaned_of kind (w.account.inputs q) = ap (λ (y : Account). orphaned_of kind (y.inputs q)) x.account in
    omega arith
turn_orphans w c now m (inr x) side kind q = same_orphans w.account m x.account side kind q

ended_orphans : (l m : Account) (c : ℕ) → m ≡ ended c l → NoMoreOrphans l m
ended_orphans l m c e Output kind q = let same : orphaned_of kind (m.outputs q) ≡ orphaned_of kind (l.outputs q) = ap (λ (y : Account). orphaned_of kind (y.outputs q)) e in omega arith
ended_orphans l m c e Input kind q = let same : orphaned_of kind (m.inputs q) ≡ orphaned_of kind (l.inputs q) = ap (λ (y : Account). orphaned_of kind (y.inputs q)) e in omega arith

-- ---- outside of a second

-- nothing is wanted, so what is due stands
outside : (v : World) → IsSound v.account → AreSeated v.account (held_in v.controllers) → ((c : ℕ) → Restores v.account (v.controllers c)) → v.account.reclaiming ≡ false
    → Fits v.account (due_in v.controllers)
outside v sound seated each over = fits_seats v.account (held_in v.controllers) (due_in v.controllers) sound seated (λ c side kind q. go c side kind q)
  where
    go : (c : ℕ) (side : Side) (kind : ConnectionKind) (q : PlugAt) → due_in v.controllers c side kind q ≤ held_in v.controllers c side kind q
    go c side kind q = let none = nothing_wanted (v.controllers c) side kind q (λ i conn f is. absurd (grind (arith, over, ((each c).restoring i conn f is).second))) in omega arith

-- ---- in a second

turn_less : (w v : World) (c now : ℕ) → CanReclaim w → TakesTurn w c now v → w.account.reclaiming ≡ true → NoMoreDue w v
turn_less w v c now h t runs = one_less w v c (after_next now w.directory (w.controllers c)) t.turn.becomes
    (λ side kind q. due_next w.account now w.directory (w.controllers c) side kind q runs (turn_meets w v c now h t))

-- the stage after the answer is on its course
heard_course : (w v : World) (c : ℕ) (r : Reply) → (t : HearsAnswer w c r v) → v.account.reclaiming ≡ true → Restores v.account (after_hear (w.controllers c) r)
    → CourseFor t.job.purpose (slot_at (w.controllers c) t.job.slot) (hear_reply t.job t.stage r)
heard_course w v c r t runs k = subst (λ x. CurrentCourse (w.controllers c) (heard x r)) t.current (here (k.course runs))
  where
    here : CurrentCourse (after_hear (w.controllers c) r) (heard (w.controllers c).current r) → CurrentCourse (w.controllers c) (heard (w.controllers c).current r)
    here o = go (heard (w.controllers c).current r) o
      where
        go : (x : Current) → CurrentCourse (after_hear (w.controllers c) r) x → CurrentCourse (w.controllers c) x
        go Nothing o = o
        go (Asking j s) o = o
        go (Hearing j s) o = o
        go (Overtaken k n) o = o

answer_less : (w v : World) (c : ℕ) (r : Reply) → CanReclaim w → (t : HearsAnswer w c r v) → w.account.reclaiming ≡ true → v.account.reclaiming ≡ true
    → Restores v.account (after_hear (w.controllers c) r) → NoMoreDue w v
answer_less w v c r h t runs later k = one_less w v c (after_hear (w.controllers c) r) t.becomes
    (λ side kind q. due_heard (w.controllers c) t.job t.stage r side kind q t.current lt
    (working_heard side t.job t.stage (slot_at (w.controllers c) t.job.slot) r kind q t.job.purpose match (course ((h.each c).course runs)) (heard_course w v c r t later k)))
  where
    lt : t.job.slot < 32
    lt = subst (λ x. IsAtSlot x) t.current (facts_in w c h).at_slot

    match : MatchesFor t.job.purpose t.job (slot_at (w.controllers c) t.job.slot)
    match = subst (λ x. CurrentMatches (w.controllers c) x) t.current (h.each c).matches

    course : CurrentCourse (w.controllers c) (w.controllers c).current → CourseFor t.job.purpose (slot_at (w.controllers c) t.job.slot) t.stage
    course o = subst (λ x. CurrentCourse (w.controllers c) x) t.current o

reset_less : (w v : World) (entry : ResetEntry) (epoch : ℕ) (lost : ℕ → Bool) → CanReclaim w → IsReset w entry epoch lost v → NoMoreDue w v
reset_less w v entry epoch lost h t c side kind q =
    let new : due_in v.controllers c side kind q ≡ due_to (state_reset epoch (lost c) (w.controllers c)) side kind q = ap (λ x. due_to x side kind q) (t.each c) in
    omega (arith, due_reset epoch (lost c) (w.controllers c) side kind q (facts_in w c h).slots (facts_in w c h).at_slot (h.each c).matches)

reset_orphans : (w v : World) (entry : ResetEntry) (epoch : ℕ) (lost : ℕ → Bool) → IsReset w entry epoch lost v → NoMoreOrphans w.account v.account
reset_orphans w v entry epoch lost t side kind q = let new : orphaned_of kind (connections_at v.account side q) ≡ 0 = ap (λ x. orphaned_of kind (connections_at x side q)) t.account ∙ none side kind in
    omega arith
  where
    none : (side : Side) (kind : ConnectionKind) → orphaned_of kind (connections_at (account_reset entry w.account) side q) ≡ 0
    none Output PointToPoint = refl
    none Output Broadcast = refl
    none Input PointToPoint = refl
    none Input Broadcast = refl

making_none : (side : Side) (x : Slot) (kind : ConnectionKind) (q : PlugAt) → is_making x ≡ true → resting side x kind q ≡ 0
making_none Output (Making conn asked overhead) kind q e = refl
making_none Input (Making conn asked overhead) kind q e = refl
making_none side _ kind q e = absurd (grind arith)

break_same : (c : ControllerState) (i : ℕ) (side : Side) (kind : ConnectionKind) (q : PlugAt) → due_to (break_started c i) side kind q ≤ due_to c side kind q
break_same c i side kind q = go (break_fault c i) side
  where
    go : (o : Option StartFault) (side : Side) → due_to (elim o as
        (λ x. ControllerState) [ None ↦ with_task c (record { slot = i; breaks = true }) | Some fault ↦ c ]) side kind q ≤ due_to c side kind q
    go None Output = omega arith
    go None Input = omega arith
    go (Some fault) side = omega arith

-- a free slot is no job's
free_idle : (c : ControllerState) (i : ℕ) → slot_at c i ≡ Free → CurrentMatches c c.current → is_current_slot c.current i ≡ false
free_idle c i free m = go c.current m
  where
    other : (j : Job) → MatchesFor j.purpose j (slot_at c j.slot) → eqb j.slot i ≡ false
    other j m = by (cases_eq j.slot i)
      where
        by : (j.slot ≡ i) ⊎ (j.slot ≢ i) → eqb j.slot i ≡ false
        by (inl e) = absurd (used j.purpose j (slot_at c j.slot) m (ap (slot_at c) e ∙ free))
        by (inr ne) = grind (arith, nat_tests)

    go : (x : Current) → CurrentMatches c x → is_current_slot x i ≡ false
    go Nothing m = refl
    go (Asking j s) m = other j m
    go (Hearing j s) m = other j m
    go (Overtaken k o) m = refl

new_less : (c : ControllerState) (i : ℕ) (x : Slot) (side : Side) (kind : ConnectionKind) (q : PlugAt) → length c.slots ≡ 32 → i < 32 → IsAtSlot c.current → slot_at c i ≡ Free → is_making x ≡ true
    → CurrentMatches c c.current → due_to (started (Ok i) x c) side kind q ≤ due_to c side kind q
new_less c i x side kind q few lt at free making m = due_less c (started (Ok i) x c) side kind q at at (λ k kl. go k (cases_eq k i))
  where
    go : (k : ℕ) → (k ≡ i) ⊎ (k ≢ i) → slot_due side c.current (slot_at (with_slot c i x) k) k kind q ≤ slot_due side c.current (slot_at c k) k kind q
    go k (inl e) =
        let now : slot_at (with_slot c i x) k ≡ x = ap (slot_at (with_slot c i x)) e ∙ slot_set_same c i x (omega arith) in
        let idle : is_current_slot c.current k ≡ false = ap (is_current_slot c.current) e ∙ free_idle c i free m in
        let none : slot_due side c.current (slot_at (with_slot c i x) k) k kind q ≡ 0 =
        due_resting side c.current (slot_at (with_slot c i x) k) k kind q idle ∙ (ap (λ y. resting side y kind q) now ∙ making_none side x kind q making) in
        omega arith
    go k (inr ne) = let same : slot_due side c.current (slot_at (with_slot c i x) k) k kind q ≡ slot_due side c.current (slot_at c k) k kind q =
        ap (λ y. slot_due side c.current y k kind q) (slot_set_other c i k x ne) in omega arith

death_fits : (w v : World) (c : ℕ) → CanReclaim w → Dies w c v → Fits v.account (due_in v.controllers)
death_fits w v c h t = subst (λ a. Fits a (due_in v.controllers)) (sym t.account)
    (fits_death w.account (held_in w.controllers) (due_in w.controllers) (due_in v.controllers) c t.device (seated_all w h) (λ side kind q. omega arith) (λ side kind q. gone side kind q)
    (λ d side kind q ne. ap (λ x. due_to x side kind q) (t.becomes.others d ne)) h.fits)
  where
    gone : (side : Side) (kind : ConnectionKind) (q : PlugAt) → due_in v.controllers c side kind q ≡ 0
    gone side kind q = ap (λ x. due_to x side kind q) t.becomes.new ∙ nothing_due first_state side kind q first_unused

-- ---- each change

-- the second that runs afterwards ran before, but at a reset
ran : (l m : Account) → m.reclaiming ≡ l.reclaiming → m.reclaiming ≡ true → l.reclaiming ≡ true
ran l m e runs = sym e ∙ runs

less_fits : (w v : World) → CanReclaim w → NoMoreOrphans w.account v.account → NoMoreDue w v → Fits v.account (due_in v.controllers)
less_fits w v h orphans less = fits_less w.account v.account (due_in w.controllers) (due_in v.controllers) orphans less h.fits

carried_orphans : (w v : World) (c : ℕ) (r : Reply) → CanReclaim w → (t : HearsAnswer w c r v) → NoMoreOrphans w.account v.account
carried_orphans w v c r h t side kind q = omega (arith, ended_orphans (carried w c r v t) v.account c t.account side kind q, go (answer_carries w v c r h t))
  where
    go : Carries w.account c t.job t.stage (carried w c r v t) → orphaned_of kind (connections_at (carried w c r v t) side q) ≤ orphaned_of kind (connections_at w.account side q)
    go (Unchanged e) = same_orphans w.account (carried w c r v t) e side kind q
    go (Moved p move is can e) = omega (arith, orphans_less c p move w.account side kind q, same_orphans (after c p move w.account) (carried w c r v t) e side kind q)

own_after : (w v : World) (c : ℕ) (x : ControllerState) → Becomes w.controllers c x v.controllers → ((e : ℕ) → Restores v.account (v.controllers e)) → Restores v.account x
own_after w v c x b each = subst (λ y. Restores v.account y) b.new (each c)

-- in a second
pub inside : (w v : World) (x : Change) → CanReclaim w → Happens w x v → ((e : ℕ) → Restores v.account (v.controllers e)) → v.account.reclaiming ≡ true → Fits v.account (due_in v.controllers)
inside w v (Turn c now) h t each runs = less_fits w v h (turn_orphans w c now v.account t.turn.says)
    (turn_less w v c now h t (ran w.account v.account (turn_agrees w c now v.account t.turn.says).reclaiming runs))
inside w v (Answer c r) h t each runs = less_fits w v h (carried_orphans w v c r h t)
    (answer_less w v c r h t (ran w.account v.account ((ended_agrees (carried w c r v t) v.account c t.account).reclaiming ∙ (answer_leaves w v c r h t).reclaiming) runs) runs
    (own_after w v c (after_hear (w.controllers c) r) t.becomes each))
inside w v (BusReset entry epoch lost) h t each runs = less_fits w v h (reset_orphans w v entry epoch lost t) (reset_less w v entry epoch lost h t)
inside w v SecondOver h t each runs = absurd (grind (arith, ap (λ (a : Account). a.reclaiming) t.account, runs))
inside w v (Death c) h t each runs = death_fits w v c h t
inside w v (NewConnection c i slot) h t each runs = less_fits w v h (same_orphans w.account v.account t.account)
    (one_less w v c (started (Ok i) slot (w.controllers c)) t.becomes
    (λ side kind q. new_less (w.controllers c) i slot side kind q (facts_in w c h).slots (takes_free (w.controllers c) i t.starts).0 (facts_in w c h).at_slot
    (takes_free (w.controllers c) i t.starts).1 (making_is slot t.making) (h.each c).matches))
inside w v (BreakOf c i) h t each runs = less_fits w v h (same_orphans w.account v.account t.account)
    (one_less w v c (break_started (w.controllers c) i) t.becomes (λ side kind q. break_same (w.controllers c) i side kind q))
inside w v Withholding h t each runs = absurd (let none = (h.step.sound.begins t.first).no_second in grind (arith, ap (λ (a : Account). a.reclaiming) t.account, runs, none))
inside w v Elsewhere h t each runs = subst (λ y. Fits y.account (due_in y.controllers)) (sym t) h.fits

pub fits_after : (w v : World) (x : Change) → CanReclaim w → Happens w x v → IsSound v.account → AreSeated v.account (held_in v.controllers) → ((e : ℕ) → Restores v.account (v.controllers e))
    → Fits v.account (due_in v.controllers)
fits_after w v x h t sound seated each = go v.account.reclaiming refl
  where
    go : (b : Bool) → v.account.reclaiming ≡ b → Fits v.account (due_in v.controllers)
    go true e = inside w v x h t each e
    go false e = outside v sound seated each e
