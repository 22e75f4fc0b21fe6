-- A controller after a bus reset, and after the end of a reclaim second.
use Rattle.fw_model_reclaim.proofs.Common.{PlugAt, ◌≡◌, inl, inr, ℕ, ◌<◌, Bool, true, false, Option, Some, None, length, is_some, refl, sym, ap, subst, ◌∙◌, arith, ResetEntry, Account, has_connection}
use Rattle.fw_model_reclaim.proofs.Common.{account_reset, IsSound, Connection, PlugToPlug, BroadcastOut, BroadcastIn, Flow, Slot, Free}
use Rattle.fw_model_reclaim.proofs.Common.{Making, Established, Restoring, Gone, Current, Nothing, Asking, Hearing}
use Rattle.fw_model_reclaim.proofs.Common.{Overtaken, Ending, Job, Purpose, Make, Restore, Break, Stage, Begin}
use Rattle.fw_model_reclaim.proofs.Common.{Made, Ended, kind_of, output_of, input_of, ControllerState, slot_at, with_slot, overtaken}
use Rattle.fw_model_reclaim.proofs.Common.{current_reset, lost_reset, slot_reset, after_reset, after_lost_reset, state_reset, IsAtSlot, KeepsFlow, IsRestorable, Restores, MatchesFor, CourseFor}
use Rattle.fw_model_reclaim.proofs.Common.{CurrentMatches, CurrentCourse, IsAtWork, Output, Input}
use Rattle.fw_cmp_jobs.specs.declared.outcome.Outcome.TheVariants.{Reset}
use Rattle.fw_cmp.specs.Holdings.{outputs_held, inputs_held, current_outputs, current_inputs}
use Rattle.fw_cmp.specs.Resets.{decided, slots_reset}
use Rattle.fw_model_reclaim.proofs.Slots.{slot_set_same, slot_mapped}
use Rattle.fw_model_reclaim.specs.Worlds.{Grows}
use Rattle.fw_model_reclaim.proofs.ResetSlots.{Origin, Stood, WasOwn, JustMade, origin, lost_origin}
use Rattle.fw_model_reclaim.proofs.Resets.{stood_restorable, stays_own}
use Rattle.fw_model_reclaim.proofs.Frames.{within, output_counted, input_counted, has_at_output, has_at_input, output_has, input_has}
use Rattle.fw_model_reclaim.proofs.Kept.{Seated, standing_used}

-- ---- what a reset makes of a job, by what the job is to do

abbrev pub interrupted_for : Purpose → ℕ → ControllerState → Job → ControllerState
interrupted_for why epoch c j = elim why [
  | Make ↦ with_slot (record c { current = Overtaken j.slot (Reset epoch) }) j.slot Free
  | Restore ↦ record c { current = Asking j Begin }
  | Break ↦ with_slot (record c { current = Overtaken j.slot (Reset epoch) }) j.slot Free
]

abbrev pub decided_for : Purpose → ControllerState → Job → ControllerState
decided_for why c j = elim why [ Make ↦ c | Restore ↦ c | Break ↦ with_slot c j.slot (Gone j.connection) ]

-- ---- the current job goes on

-- the job is for what its slot holds, and on its course
abbrev pub GoesOn : ControllerState → Current → Type 0
GoesOn c cur = CurrentMatches c cur × CurrentCourse c cur

-- the slot of a restoring is as it was
restoring_slot : (c : ControllerState) (j : Job) (f : Flow) (over : Bool) → slot_at c j.slot ≡ Restoring j.connection f over → slot_at (slots_reset c) j.slot ≡ Restoring j.connection f over
restoring_slot c j f over e = slot_mapped c slot_reset j.slot refl ∙ ap slot_reset e

begins_again : (over : Bool) (conn : Connection) (f : Flow) → CourseFor Restore (Restoring conn f over) Begin
begins_again true conn f = refl
begins_again false conn f = tt

interrupted_goes : (epoch : ℕ) (c : ControllerState) (j : Job) (why : Purpose) → j.purpose ≡ why → MatchesFor why j (slot_at c j.slot)
    → GoesOn (slots_reset (interrupted_for why epoch c j)) (interrupted_for why epoch c j).current
interrupted_goes epoch c j Make e m = (tt, tt)
interrupted_goes epoch c j Restore e m =
    let at = restoring_slot c j m.0 m.1 m.2 in
    subst (λ w. MatchesFor w j (slot_at (slots_reset c) j.slot) × CourseFor w (slot_at (slots_reset c) j.slot) Begin) (sym e)
    ((m.0, m.1, at, m.3), subst (λ x. CourseFor Restore x Begin) (sym at) (begins_again m.1 j.connection m.0))
interrupted_goes epoch c j Break e m = (tt, tt)

-- a decided job: that of a restoring in its own second is not decided to end without its connection
abbrev pub NotLost : ControllerState → Job → Type 0
NotLost c j = (f : Flow) → slot_at c j.slot ≡ Restoring j.connection f false → ⊥

stays_decided : (c : ControllerState) (j : Job) (e : Ending) (f : Flow) (over : Bool) → slot_at c j.slot ≡ Restoring j.connection f over → NotLost c j
    → CourseFor Restore (Restoring j.connection f over) (Ended e)
stays_decided c j e f true at ok = refl
stays_decided c j e f false at ok = absurd (ok f at)

decided_goes : (c : ControllerState) (j : Job) (e : Ending) (why : Purpose) → j.slot < length c.slots → MatchesFor why j (slot_at c j.slot) → NotLost c j
    → MatchesFor why j (slot_at (slots_reset (decided_for why c j)) j.slot) × CourseFor why (slot_at (slots_reset (decided_for why c j)) j.slot) (Ended e)
decided_goes c j e Make lt m ok = (slot_mapped c slot_reset j.slot refl ∙ ap slot_reset m, refl)
decided_goes c j e Restore lt m ok =
    let at = restoring_slot c j m.0 m.1 m.2 in
    ((m.0, m.1, at, m.3), subst (λ x. CourseFor Restore x (Ended e)) (sym at) (stays_decided c j e m.0 m.1 m.2 ok))
decided_goes c j e Break lt m ok = (inr (slot_mapped (with_slot c j.slot (Gone j.connection)) slot_reset j.slot refl ∙ ap slot_reset (slot_set_same c j.slot (Gone j.connection) lt)), refl)

pub decided_current : (c : ControllerState) (j : Job) (why : Purpose) → (decided_for why c j).current ≡ c.current
decided_current c j Make = refl
decided_current c j Restore = refl
decided_current c j Break = refl

-- the same, for the job whose request is outstanding or not
working_goes : (epoch : ℕ) (c : ControllerState) (j : Job) (s : Stage) → j.slot < length c.slots → MatchesFor j.purpose j (slot_at c j.slot) → ((e : Ending) → s ≡ Ended e → NotLost c j)
    → ((e : Ending) → s ≡ Ended e → IsAtWork c.current j (Ended e)) → GoesOn (slots_reset (overtaken epoch c j s)) (overtaken epoch c j s).current
working_goes epoch c j (Made f) lt m ok at = (tt, tt)
working_goes epoch c j (Ended e) lt m ok at = go (at e refl)
  where
    right : MatchesFor j.purpose j (slot_at (slots_reset (decided c j)) j.slot) × CourseFor j.purpose (slot_at (slots_reset (decided c j)) j.slot) (Ended e)
    right = decided_goes c j e j.purpose lt m (ok e refl)

    go : IsAtWork c.current j (Ended e) → GoesOn (slots_reset (decided c j)) (decided c j).current
    go (inl is) = subst (λ x. GoesOn (slots_reset (decided c j)) x) (sym (decided_current c j j.purpose ∙ is)) right
    go (inr is) = subst (λ x. GoesOn (slots_reset (decided c j)) x) (sym (decided_current c j j.purpose ∙ is)) right
working_goes epoch c j s lt m ok at = interrupted_goes epoch c j j.purpose refl m

-- ---- a controller after a reset

-- the plugs of a connection that its job has made are set to its flow
abbrev pub MadeKeeps : Account → ControllerState → Type 0
MadeKeeps l c = (j : Job) (f : Flow) → IsAtWork c.current j (Made f) → KeepsFlow l j.connection f

pub made_output : (c : ControllerState) (j : Job) (f : Flow) (p : PlugAt) → IsAtWork c.current j (Made f) → output_of j.connection ≡ Some p → 0 < outputs_held c (kind_of j.connection) p
made_output c j f p at e = let one : current_outputs c.current (kind_of j.connection) p ≡ 1 = go at in omega arith
  where
    go : IsAtWork c.current j (Made f) → current_outputs c.current (kind_of j.connection) p ≡ 1
    go (inl is) = ap (λ x. current_outputs x (kind_of j.connection) p) is ∙ rw (output_has j.connection p e) refl
    go (inr is) = ap (λ x. current_outputs x (kind_of j.connection) p) is ∙ rw (output_has j.connection p e) refl

pub made_input : (c : ControllerState) (j : Job) (f : Flow) (q : PlugAt) → IsAtWork c.current j (Made f) → input_of j.connection ≡ Some q → 0 < inputs_held c (kind_of j.connection) q
made_input c j f q at e = let one : current_inputs c.current (kind_of j.connection) q ≡ 1 = go at in omega arith
  where
    go : IsAtWork c.current j (Made f) → current_inputs c.current (kind_of j.connection) q ≡ 1
    go (inl is) = ap (λ x. current_inputs x (kind_of j.connection) q) is ∙ rw (input_has j.connection q e) refl
    go (inr is) = ap (λ x. current_inputs x (kind_of j.connection) q) is ∙ rw (input_has j.connection q e) refl

never_standing : (x : Slot) (conn : Connection) (f : Flow) → slot_reset x ≡ Established conn f → ⊥
never_standing Free conn f e = grind arith
never_standing (Making k a o) conn f e = grind arith
never_standing (Established k g) conn f e = grind arith
never_standing (Restoring k g o) conn f e = grind arith
never_standing (Gone k) conn f e = grind arith

-- what a reset finds of a controller
pub record MeetsReset (l : Account) (r : ResetEntry) (d : ℕ) (c : ControllerState) : Type 0 where
  pub sound : IsSound l
  pub after : IsSound (account_reset r l)
  pub grows : Grows l r
  pub slots : length c.slots ≡ 32
  pub at_slot : IsAtSlot c.current
  pub seated : Seated l d c
  pub made : MadeKeeps l c
  pub restores : Restores l c

-- if a second runs, or a plug is connected, there was a reset before
pub begun_in_second : (l : Account) → IsSound l → l.reclaiming ≡ true → is_some l.latest ≡ true
begun_in_second l s runs = go l.latest refl
  where
    go : (o : Option ResetEntry) → l.latest ≡ o → is_some o ≡ true
    go None e = absurd (grind (arith, runs, (s.begins e).no_second))
    go (Some r) e = refl

begun_connected : (l : Account) (conn : Connection) → IsSound l → ((p : PlugAt) → output_of conn ≡ Some p → has_connection (l.outputs p) ≡ true)
    → ((q : PlugAt) → input_of conn ≡ Some q → has_connection (l.inputs q) ≡ true) → is_some l.latest ≡ true
begun_connected l conn s out into = go l.latest refl
  where
    none : l.latest ≡ None → (k : Connection) → k ≡ conn → ⊥
    none e (PlugToPlug p q) is = grind (arith, out p (ap output_of (sym is)), (s.begins e).outputs p)
    none e (BroadcastOut p) is = grind (arith, out p (ap output_of (sym is)), (s.begins e).outputs p)
    none e (BroadcastIn q) is = grind (arith, into q (ap input_of (sym is)), (s.begins e).inputs q)

    go : (o : Option ResetEntry) → l.latest ≡ o → is_some o ≡ true
    go None e = absurd (none e conn refl)
    go (Some r) e = refl

-- a connection that was at its plugs
connected_restorable : (l : Account) (r : ResetEntry) (d : ℕ) (c : ControllerState) (conn : Connection) (f : Flow) → MeetsReset l r d c
    → ((p : PlugAt) → output_of conn ≡ Some p → has_connection (l.outputs p) ≡ true) → ((q : PlugAt) → input_of conn ≡ Some q → has_connection (l.inputs q) ≡ true) → KeepsFlow l conn f
    → IsRestorable (account_reset r l) conn f
connected_restorable l r d c conn f h out into k = stood_restorable l r conn f h.sound h.after (begun_connected l conn h.sound out into) h.grows out into k

origin_restorable : (l : Account) (r : ResetEntry) (d : ℕ) (c : ControllerState) (i : ℕ) (conn : Connection) (f : Flow) → MeetsReset l r d c → Origin c i conn f
    → IsRestorable (account_reset r l) conn f
origin_restorable l r d c i conn f h (Stood stood idle) =
    let lt = within c i (Established conn f) h.slots stood (standing_used conn f) in
    connected_restorable l r d c conn f h (λ p e. has_at_output l d c (kind_of conn) p h.sound (h.seated Output (kind_of conn) p) (output_counted c i conn f p lt stood idle e))
    (λ q e. has_at_input l d c (kind_of conn) q h.sound (h.seated Input (kind_of conn) q) (input_counted c i conn f q lt stood idle e)) (h.restores.standing i conn f stood idle)
origin_restorable l r d c i conn f h (WasOwn was) = let own = h.restores.restoring i conn f was in stays_own l r conn f (begun_in_second l h.sound own.second) h.grows own
origin_restorable l r d c i conn f h (JustMade j at is same) =
    subst (λ x. IsRestorable (account_reset r l) x f) same (connected_restorable l r d c j.connection f h
    (λ p e. has_at_output l d c (kind_of j.connection) p h.sound (h.seated Output (kind_of j.connection) p) (made_output c j f p at e))
    (λ q e. has_at_input l d c (kind_of j.connection) q h.sound (h.seated Input (kind_of j.connection) q) (made_input c j f q at e)) (h.made j f at))

-- a restoring in its own second is not decided to end without its connection
not_lost : (l : Account) (c : ControllerState) (j : Job) (e : Ending) → Restores l c → IsAtWork c.current j (Ended e) → NotLost c j
not_lost l c j e k at f is = lost (go at)
  where
    course : CurrentCourse c c.current
    course = k.course (k.restoring j.slot j.connection f is).second

    match : CurrentMatches c c.current
    match = k.matches

    go : IsAtWork c.current j (Ended e) → MatchesFor j.purpose j (slot_at c j.slot) × CourseFor j.purpose (slot_at c j.slot) (Ended e)
    go (inl w) = (subst (λ x. CurrentMatches c x) w match, subst (λ x. CurrentCourse c x) w course)
    go (inr w) = (subst (λ x. CurrentMatches c x) w match, subst (λ x. CurrentCourse c x) w course)

    by : (why : Purpose) → MatchesFor why j (Restoring j.connection f false) → CourseFor why (Restoring j.connection f false) (Ended e) → ⊥
    by Make m o = grind (arith, m)
    by Restore m o = o
    by Break (inl m) o = grind (arith, m.1)
    by Break (inr m) o = grind (arith, m)

    lost : MatchesFor j.purpose j (slot_at c j.slot) × CourseFor j.purpose (slot_at c j.slot) (Ended e) → ⊥
    lost both = by j.purpose (subst (λ x. MatchesFor j.purpose j x) is both.0) (subst (λ x. CourseFor j.purpose x (Ended e)) is both.1)

current_goes : (epoch : ℕ) (l : Account) (r : ResetEntry) (d : ℕ) (c : ControllerState) → MeetsReset l r d c → GoesOn (after_reset epoch c) (after_reset epoch c).current
current_goes epoch l r d c h = go c.current refl h.at_slot h.restores.matches
  where
    ended_at_work : (j : Job) (s : Stage) (e : Ending) → s ≡ Ended e → IsAtWork c.current j s → IsAtWork c.current j (Ended e)
    ended_at_work j s e is at = subst (λ x. IsAtWork c.current j x) is at

    go : (cur : Current) → c.current ≡ cur → IsAtSlot cur → CurrentMatches c cur → GoesOn (slots_reset (current_reset epoch c cur)) (current_reset epoch c cur).current
    go Nothing e at m = subst (λ x. GoesOn (slots_reset c) x) (sym e) (tt, tt)
    go (Asking j s) e at m = working_goes epoch c j s (omega (arith, h.slots)) m (λ n is. not_lost l c j n h.restores (ended_at_work j s n is (inl e))) (λ n is. ended_at_work j s n is (inl e))
    go (Hearing j s) e at m = working_goes epoch c j s (omega (arith, h.slots)) m (λ n is. not_lost l c j n h.restores (ended_at_work j s n is (inr e))) (λ n is. ended_at_work j s n is (inr e))
    go (Overtaken k o) e at m = subst (λ x. GoesOn (slots_reset c) x) (sym e) (tt, tt)

-- the same if the response to its request was lost
lost_goes : (epoch : ℕ) (l : Account) (r : ResetEntry) (d : ℕ) (c : ControllerState) → MeetsReset l r d c → GoesOn (after_lost_reset epoch c) (after_lost_reset epoch c).current
lost_goes epoch l r d c h = go c.current refl h.at_slot h.restores.matches
  where
    go : (cur : Current) → c.current ≡ cur → IsAtSlot cur → CurrentMatches c cur → GoesOn (slots_reset (lost_reset epoch c cur)) (lost_reset epoch c cur).current
    go Nothing e at m = subst (λ x. GoesOn (slots_reset c) x) (sym e) (tt, tt)
    go (Asking j s) e at m = interrupted_goes epoch c j j.purpose refl m
    go (Hearing j s) e at m = interrupted_goes epoch c j j.purpose refl m
    go (Overtaken k o) e at m = subst (λ x. GoesOn (slots_reset c) x) (sym e) (tt, tt)

restores_heard : (epoch : ℕ) (l : Account) (r : ResetEntry) (d : ℕ) (c : ControllerState) → MeetsReset l r d c → Restores (account_reset r l) (after_reset epoch c)
restores_heard epoch l r d c h = record {
  matches = (current_goes epoch l r d c h).0;
  standing = λ i conn f e idle. absurd (never_standing (slot_at (current_reset epoch c c.current) i) conn f (sym (slot_mapped (current_reset epoch c c.current) slot_reset i refl) ∙ e));
  restoring = λ i conn f e. origin_restorable l r d c i conn f h (origin epoch c i conn f h.slots h.at_slot h.restores.matches e);
  course = λ runs. (current_goes epoch l r d c h).1;
}

restores_lost : (epoch : ℕ) (l : Account) (r : ResetEntry) (d : ℕ) (c : ControllerState) → MeetsReset l r d c → Restores (account_reset r l) (after_lost_reset epoch c)
restores_lost epoch l r d c h = record {
  matches = (lost_goes epoch l r d c h).0;
  standing = λ i conn f e idle. absurd (never_standing (slot_at (lost_reset epoch c c.current) i) conn f (sym (slot_mapped (lost_reset epoch c c.current) slot_reset i refl) ∙ e));
  restoring = λ i conn f e. origin_restorable l r d c i conn f h (lost_origin epoch c i conn f h.slots h.at_slot h.restores.matches e);
  course = λ runs. (lost_goes epoch l r d c h).1;
}

pub restores_reset : (epoch : ℕ) (lost : Bool) (l : Account) (r : ResetEntry) (d : ℕ) (c : ControllerState) → MeetsReset l r d c → Restores (account_reset r l) (state_reset epoch lost c)
restores_reset epoch true l r d c h = restores_lost epoch l r d c h
restores_reset epoch false l r d c h = restores_heard epoch l r d c h
