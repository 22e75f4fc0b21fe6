-- What a job does in a reclaim second after an answer.
use Rattle.fw_model_reclaim.proofs.Common.{◌≡◌, ℕ, Bool, true, false, refl, sym, subst, arith, cond, eqb, Reply, Account, restoring_job, Connection, Flow, Slot, Restoring, Job, Purpose, Make, Restore}
use Rattle.fw_model_reclaim.proofs.Common.{Break, Then, EndsAs, Again, Ending, Target, Stage, Begin, ReadInput, ReadInputToLeave, LeaveInput, ReadOutputToLeave, LeaveOutput, ReadBandwidthToRelease}
use Rattle.fw_model_reclaim.proofs.Common.{RaiseBandwidth, ReadChannelsToRelease, RestoreChannel, Ended, is_listen, goes_on, decide_leave_out}
use Rattle.fw_model_reclaim.proofs.Common.{output_left, decide_raise, hear, hear_reply, refuse, IsAnswer}
use Rattle.fw_model_reclaim.proofs.Common.{MatchesFor, CourseFor, IsOnCourse, is_ended, is_still, is_leaving}
use Rattle.fw_cmp_jobs.specs.Decisions.{input_left, decide_leave_in}
use Rattle.fw_model_reclaim.specs.Restores.{is_final}
use Rattle.fw_model_reclaim.proofs.Heard.{heard, Asked}
use Rattle.fw_model_reclaim.specs.Rooms.{IsRestoring}

-- ---- a job that does nothing

ended_heard : (j : Job) (s : Stage) (r : Reply) → is_ended s ≡ true → is_ended (hear_reply j s r) ≡ true
ended_heard j (Ended e) r h = go (eqb r.rcode 0)
  where
    go : (b : Bool) → is_ended (cond b (hear j (Ended e) r.value) (refuse j (Ended e) r.rcode)) ≡ true
    go true = refl
    go false = refl
ended_heard j _ r h = absurd (grind arith)

still_heard : (j : Job) (s : Stage) (r : Reply) → is_still s ≡ true → is_still (hear_reply j s r) ≡ true
still_heard j (Ended e) r h = go (eqb r.rcode 0)
  where
    go : (b : Bool) → is_still (cond b (hear j (Ended e) r.value) (refuse j (Ended e) r.rcode)) ≡ true
    go true = refl
    go false = refl
still_heard j Begin r h = go (eqb r.rcode 0)
  where
    go : (b : Bool) → is_still (cond b (hear j Begin r.value) (refuse j Begin r.rcode)) ≡ true
    go true = refl
    go false = refl
still_heard j _ r h = absurd (grind arith)

-- ---- a break

either : (b : Bool) (x y : Stage) → is_leaving x ≡ true → is_leaving y ≡ true → is_leaving (cond b x y) ≡ true
either true x y first second = first
either false x y first second = second

leaving_next : (next : Then) → is_final next ≡ true → is_leaving (goes_on next) ≡ true
leaving_next (EndsAs e) h = refl
leaving_next Again h = h

input_leaving : (j : Job) (ch u : ℕ) → is_leaving (input_left j ch u) ≡ true
input_leaving j ch u = either (is_listen j.connection) _ _ refl refl

leave_in : (j : Job) (ch u v : ℕ) → is_leaving (decide_leave_in j ch u v) ≡ true
leave_in j ch u v = either _ (LeaveInput ch u v) (input_left j ch u) refl (input_leaving j ch u)

leave_out : (j : Job) (e : Ending) (ch u v : ℕ) → is_leaving (decide_leave_out j e ch u v) ≡ true
leave_out j e ch u v = either _ (LeaveOutput e ch u v) (Ended e) refl refl

output_leaving : (j : Job) (e : Ending) (ch u w : ℕ) → is_leaving (output_left j e ch u w) ≡ true
output_leaving j e ch u w = either _ (Ended e) (ReadBandwidthToRelease (EndsAs e) ch u) refl refl

raising : (next : Then) (ch u v : ℕ) → is_final next ≡ true → is_leaving (decide_raise next ch u v) ≡ true
raising next ch u v h = either _ (RaiseBandwidth next ch u v) (ReadChannelsToRelease next ch) h h

leaving_hear : (j : Job) (s : Stage) (v : ℕ) → is_leaving s ≡ true → is_leaving (hear j s v) ≡ true
leaving_hear j (ReadInputToLeave ch u) v h = leave_in j ch u v
leaving_hear j (LeaveInput ch u arg) v h = either (eqb v arg) (input_left j ch u) (decide_leave_in j ch u v) (input_leaving j ch u) (leave_in j ch u v)
leaving_hear j (ReadOutputToLeave e ch u) v h = leave_out j e ch u v
leaving_hear j (LeaveOutput e ch u arg) v h = either (eqb v arg) (output_left j e ch u arg) (decide_leave_out j e ch u v) (output_leaving j e ch u arg) (leave_out j e ch u v)
leaving_hear j (ReadBandwidthToRelease next ch u) v h = raising next ch u v h
leaving_hear j (RaiseBandwidth next ch u arg) v h = either (eqb v arg) (ReadChannelsToRelease next ch) (decide_raise next ch u v) h (raising next ch u v h)
leaving_hear j (ReadChannelsToRelease next ch) v h = h
leaving_hear j (RestoreChannel next ch arg) v h = either (eqb v arg) (goes_on next) (RestoreChannel next ch v) (leaving_next next h) h
leaving_hear j (Ended e) v h = refl
leaving_hear j _ v h = absurd (grind arith)

leaving_refused : (j : Job) (s : Stage) (rcode : ℕ) → is_leaving s ≡ true → is_leaving (refuse j s rcode) ≡ true
leaving_refused j (ReadInput f) rcode h = absurd (grind arith)
leaving_refused j _ rcode h = refl

leaving_heard : (j : Job) (s : Stage) (r : Reply) → is_leaving s ≡ true → is_leaving (hear_reply j s r) ≡ true
leaving_heard j s r h = either (eqb r.rcode 0) (hear j s r.value) (refuse j s r.rcode) (leaving_hear j s r.value h) (leaving_refused j s r.rcode h)

-- ---- any job

-- a restoring in its slot's own second may go on
abbrev pub MayGoOn : Account → ℕ → Job → Slot → Stage → Type 0
MayGoOn l c j slot s = (conn : Connection) (f : Flow) → slot ≡ Restoring conn f false → j ≡ restoring_job j.slot conn f → IsOnCourse f s → IsRestoring l c j.slot conn f s

restoring_heard : (l : Account) (c : ℕ) (j : Job) (s : Stage) (slot : Slot) (r : Reply) (t : Target) → MatchesFor Restore j slot → CourseFor Restore slot s → MayGoOn l c j slot s → Asked j s t
    → IsAnswer l t r → CourseFor Restore slot (hear_reply j s r)
restoring_heard l c j s slot r t m course may asked answer = go m.0 m.1 m.2 m.3 (subst (λ x. CourseFor Restore x s) m.2 course)
  where
    go : (f : Flow) (over : Bool) → slot ≡ Restoring j.connection f over → j ≡ restoring_job j.slot j.connection f → CourseFor Restore (Restoring j.connection f over) s
        → CourseFor Restore slot (hear_reply j s r)
    go f true e is on = subst (λ x. CourseFor Restore x (hear_reply j s r)) (sym e) (still_heard j s r on)
    go f false e is on = subst (λ x. CourseFor Restore x (hear_reply j s r)) (sym e)
        (subst (λ x. IsOnCourse f (hear_reply x s r)) (sym is) (heard l c j.slot j.connection f s r t (may j.connection f e is on) on (subst (λ x. Asked x s t) is asked) answer))

-- the answer to its request leaves a job on its course
pub course_heard : (l : Account) (c : ℕ) (j : Job) (s : Stage) (slot : Slot) (r : Reply) (t : Target) (why : Purpose) → MatchesFor why j slot → CourseFor why slot s → MayGoOn l c j slot s
    → Asked j s t → IsAnswer l t r → CourseFor why slot (hear_reply j s r)
course_heard l c j s slot r t Make m course may asked answer = ended_heard j s r course
course_heard l c j s slot r t Restore m course may asked answer = restoring_heard l c j s slot r t m course may asked answer
course_heard l c j s slot r t Break m course may asked answer = leaving_heard j s r course
