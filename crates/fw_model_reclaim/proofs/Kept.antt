-- A controller keeps what its connections rest on, through its own half steps and through those of others.
use Rattle.fw_model_reclaim.proofs.Common.{PlugAt, ConnectionKind, ◌≡◌, ◌≢◌, inl, ℕ, true, false, length, refl, sym}
use Rattle.fw_model_reclaim.proofs.Common.{subst, ◌∙◌, arith, Account, IsSound, Connection, Flow, Free, Established, Reply, Current}
use Rattle.fw_model_reclaim.proofs.Common.{Nothing, Asking, Hearing, Overtaken, Job, Target, Stage, after_hear}
use Rattle.fw_model_reclaim.proofs.Common.{IsAnswer, kind_of, ControllerState, slot_at, is_current_slot, connections_of, Side, Output}
use Rattle.fw_model_reclaim.proofs.Common.{Input, connections_at, KeepsFlow, LeavesPlugs, Restores, Carries, MatchesFor, CourseFor, CurrentMatches, CurrentCourse}
use Rattle.fw_cmp.specs.Resets.{heard as heard_by}
use Rattle.fw_model_reclaim.specs.Due.{held_by}
use Rattle.fw_model_reclaim.proofs.Heard.{Asked}
use Rattle.fw_model_reclaim.proofs.Courses.{MayGoOn, course_heard}
use Rattle.fw_model_reclaim.proofs.Moved.{carried_leaves}
use Rattle.fw_model_reclaim.proofs.Frames.{within, output_counted, input_counted, has_at_output, has_at_input, keeps_flow, stays_restorable}

-- a slot that holds a connection is not free
pub standing_used : (conn : Connection) (f : Flow) → Established conn f ≢ Free
standing_used conn f = λ e. grind arith

-- controller d has the connections that its slots and its job say
abbrev pub Seated : Account → ℕ → ControllerState → Type 0
Seated l d c = (side : Side) (kind : ConnectionKind) (q : PlugAt) → connections_of d kind (connections_at l side q) ≡ held_by c side kind q

standing_keeps : (l m : Account) (d : ℕ) (c : ControllerState) (i : ℕ) (conn : Connection) (f : Flow) → IsSound l → length c.slots ≡ 32 → Seated l d c → LeavesPlugs l m
    → slot_at c i ≡ Established conn f
    → is_current_slot c.current i ≡ false → KeepsFlow l conn f → KeepsFlow m conn f
standing_keeps l m d c i conn f s few at leaves e idle k =
    let lt = within c i (Established conn f) few e (standing_used conn f) in
    keeps_flow l m conn f leaves (λ p has. inl (has_at_output l d c (kind_of conn) p s (at Output (kind_of conn) p) (output_counted c i conn f p lt e idle has)))
    (λ q has. inl (has_at_input l d c (kind_of conn) q s (at Input (kind_of conn) q) (input_counted c i conn f q lt e idle has))) k

-- if another controller changes the account
pub restores_other : (l m : Account) (d : ℕ) (c : ControllerState) → IsSound l → length c.slots ≡ 32 → Seated l d c → LeavesPlugs l m → Restores l c → Restores m c
restores_other l m d c s few at leaves r = record {
  matches = r.matches;
  standing = λ i conn f e idle. standing_keeps l m d c i conn f s few at leaves e idle (r.standing i conn f e idle);
  restoring = λ i conn f e. stays_restorable l m conn f leaves (r.restoring i conn f e);
  course = λ runs. r.course (sym leaves.reclaiming ∙ runs);
}

-- if its own request is answered
pub restores_heard : (l m : Account) (d : ℕ) (c : ControllerState) (j : Job) (s : Stage) (r : Reply) (t : Target) → IsSound l → length c.slots ≡ 32 → Seated l d c → c.current ≡ Hearing j s
    → Carries l d j s m → (l.reclaiming ≡ true → MayGoOn l d j (slot_at c j.slot) s) → Asked j s t → IsAnswer l t r → Restores l c → Restores m (after_hear c r)
restores_heard l m d c j s r t sound few at e carries may asked answer k = record {
  matches = subst (λ x. CurrentMatches c (heard_by x r)) (sym e) match;
  standing = λ i conn f is idle. old.standing i conn f is (same_idle i ∙ idle);
  restoring = old.restoring;
  course = λ runs. subst (λ x. CurrentCourse c (heard_by x r)) (sym e)
      (course_heard l d j s (slot_at c j.slot) r t j.purpose match (course (sym leaves.reclaiming ∙ runs)) (may (sym leaves.reclaiming ∙ runs)) asked answer);
}
  where
    match : MatchesFor j.purpose j (slot_at c j.slot)
    match = subst (λ x. CurrentMatches c x) e k.matches

    course : l.reclaiming ≡ true → CourseFor j.purpose (slot_at c j.slot) s
    course runs = subst (λ x. CurrentCourse c x) e (k.course runs)

    leaves : LeavesPlugs l m
    leaves = carried_leaves l d j s (slot_at c j.slot) m match course (λ conn f is. k.restoring j.slot conn f is) carries

    old : Restores m c
    old = restores_other l m d c sound few at leaves k

    same_idle : (i : ℕ) → is_current_slot c.current i ≡ is_current_slot (heard_by c.current r) i
    same_idle i = go c.current
      where
        go : (x : Current) → is_current_slot x i ≡ is_current_slot (heard_by x r) i
        go Nothing = refl
        go (Asking j s) = refl
        go (Hearing j s) = refl
        go (Overtaken k o) = refl
