-- In a reclaim second an answer makes nothing more due to the slot of the job.
use Rattle.fw_model_reclaim.proofs.Common.{PlugAt, ConnectionKind, ◌≡◌, ◌⊎◌, inl, inr, ℕ, ◌+◌, ◌≤◌, Bool, true, false, Option}
use Rattle.fw_model_reclaim.proofs.Common.{not, ◌&&◌, refl, ap, subst, ◌∙◌, arith, cond, eqb, Reply, count_of, Connection}
use Rattle.fw_model_reclaim.proofs.Common.{Flow, Slot, Making, Restoring, Job, Purpose, Make, Restore, Break}
use Rattle.fw_model_reclaim.proofs.Common.{Then, EndsAs, Again, Stage, Begin, ReadInputToLeave, LeaveInput, ReadOutputToLeave, LeaveOutput}
use Rattle.fw_model_reclaim.proofs.Common.{ReadBandwidthToRelease, RaiseBandwidth, ReadChannelsToRelease, RestoreChannel, Ended, goes_on, decide_leave_out, output_left, decide_raise, hear, hear_reply}
use Rattle.fw_model_reclaim.proofs.Common.{refuse, Side, Output, Input, is_at, has_plug, MatchesFor, CourseFor, is_ended, is_still, is_leaving}
use Rattle.fw_model_reclaim.specs.Due.{reclaims_at}
use Rattle.fw_model_reclaim.proofs.Due.{working}

-- ---- small sums

pub less_both : (a b h : Bool) → (a ≡ true → b ≡ true) → count_of (a && h) ≤ count_of (b && h)
less_both true true h le = omega arith
less_both true false h le = absurd (grind (arith, le refl))
less_both false true h le = omega arith
less_both false false h le = omega arith

-- at its plug, or still to come there
pub whole_share : (at h : Bool) → count_of (at && h) + count_of (not at && h) ≡ count_of h
whole_share true h = omega arith
whole_share false h = omega arith

-- ---- the slot of a job

-- a restoring in its own second has its connection due at each stage
pub own_share : (side : Side) (j : Job) (s : Stage) (f : Flow) (kind : ConnectionKind) (q : PlugAt)
    → working side j s (Restoring j.connection f false) kind q ≡ count_of (has_plug side j.connection kind q)
own_share Output j s f kind q = whole_share (is_at Output s) (has_plug Output j.connection kind q)
own_share Input j s f kind q = whole_share (is_at Input s) (has_plug Input j.connection kind q)

-- a slot that reclaims nothing has due what its job has at the plug
pub plain_share : (side : Side) (j : Job) (s : Stage) (slot : Slot) (kind : ConnectionKind) (q : PlugAt) → reclaims_at side slot kind q ≡ false
    → working side j s slot kind q ≡ count_of (is_at side s && has_plug side j.connection kind q)
plain_share side j s slot kind q e = let none : count_of (not (is_at side s) && reclaims_at side slot kind q) ≡ 0 = go (not (is_at side s)) (reclaims_at side slot kind q) e in omega arith
  where
    go : (a b : Bool) → b ≡ false → count_of (a && b) ≡ 0
    go true b e = ap count_of e
    go false b e = refl

-- a stage that is at no plug
pub nowhere : (side : Side) (j : Job) (s : Stage) (slot : Slot) (kind : ConnectionKind) (q : PlugAt) → reclaims_at side slot kind q ≡ false → is_at side s ≡ false → working side j s slot kind q ≡ 0
nowhere side j s slot kind q plain e = plain_share side j s slot kind q plain ∙ ap (λ b. count_of (b && has_plug side j.connection kind q)) e

pub ended_nowhere : (side : Side) (s : Stage) → is_ended s ≡ true → is_at side s ≡ false
ended_nowhere Output (Ended e) h = refl
ended_nowhere Input (Ended e) h = refl
ended_nowhere side _ h = absurd (grind arith)

pub still_nowhere : (side : Side) (s : Stage) → is_still s ≡ true → is_at side s ≡ false
still_nowhere Output Begin h = refl
still_nowhere Input Begin h = refl
still_nowhere Output (Ended e) h = refl
still_nowhere Input (Ended e) h = refl
still_nowhere side _ h = absurd (grind arith)

pub making_reclaims : (side : Side) (slot : Slot) (conn : Connection) (asked : Option ℕ) (overhead : ℕ) (kind : ConnectionKind) (q : PlugAt) → slot ≡ Making conn asked overhead
    → reclaims_at side slot kind q ≡ false
making_reclaims Output slot conn asked overhead kind q e = ap (λ x. reclaims_at Output x kind q) e
making_reclaims Input slot conn asked overhead kind q e = ap (λ x. reclaims_at Input x kind q) e

pub over_reclaims : (side : Side) (slot : Slot) (conn : Connection) (f : Flow) (kind : ConnectionKind) (q : PlugAt) → slot ≡ Restoring conn f true → reclaims_at side slot kind q ≡ false
over_reclaims Output slot conn f kind q e = ap (λ x. reclaims_at Output x kind q) e
over_reclaims Input slot conn f kind q e = ap (λ x. reclaims_at Input x kind q) e

pub breaking_reclaims : (side : Side) (slot : Slot) (j : Job) (kind : ConnectionKind) (q : PlugAt) → MatchesFor Break j slot → reclaims_at side slot kind q ≡ false
breaking_reclaims Output slot j kind q (inl m) = ap (λ x. reclaims_at Output x kind q) m.1
breaking_reclaims Output slot j kind q (inr m) = ap (λ x. reclaims_at Output x kind q) m
breaking_reclaims Input slot j kind q (inl m) = ap (λ x. reclaims_at Input x kind q) m.1
breaking_reclaims Input slot j kind q (inr m) = ap (λ x. reclaims_at Input x kind q) m

-- ---- a break comes to no plug

apart : (side : Side) (b : Bool) (x y : Stage) → is_at side x ≡ false → is_at side y ≡ false → is_at side (cond b x y) ≡ false
apart side true x y first second = first
apart side false x y first second = second

goes_nowhere : (side : Side) (next : Then) → is_at side (goes_on next) ≡ false
goes_nowhere Output (EndsAs e) = refl
goes_nowhere Output Again = refl
goes_nowhere Input (EndsAs e) = refl
goes_nowhere Input Again = refl

-- from these stages no answer leads to a plug of the side
heard_nowhere : (side : Side) (j : Job) (s : Stage) (r : Reply) → is_at side (hear j s r.value) ≡ false → is_at side (refuse j s r.rcode) ≡ false → is_at side (hear_reply j s r) ≡ false
heard_nowhere side j s r first second = apart side (eqb r.rcode 0) (hear j s r.value) (refuse j s r.rcode) first second

-- if a break is after an answer, it was before
abbrev pub Falls : Side → Job → Stage → Reply → Type 0
Falls side j s r = (is_at side s ≡ true) ⊎ (is_at side (hear_reply j s r) ≡ false)

leaving_falls : (side : Side) (j : Job) (s : Stage) (r : Reply) → is_leaving s ≡ true → Falls side j s r
leaving_falls Output j (ReadInputToLeave ch u) r h = inl refl
leaving_falls Output j (LeaveInput ch u arg) r h = inl refl
leaving_falls Output j (ReadOutputToLeave e ch u) r h = inl refl
leaving_falls Output j (LeaveOutput e ch u arg) r h = inl refl
leaving_falls Output j (ReadBandwidthToRelease next ch u) r h =
    inr (heard_nowhere Output j (ReadBandwidthToRelease next ch u) r (apart Output _ (RaiseBandwidth next ch u r.value) (ReadChannelsToRelease next ch) refl refl) refl)
leaving_falls Output j (RaiseBandwidth next ch u arg) r h = inr
    (heard_nowhere Output j (RaiseBandwidth next ch u arg) r (apart Output (eqb r.value arg) (ReadChannelsToRelease next ch) (decide_raise next ch u r.value) refl
    (apart Output _ (RaiseBandwidth next ch u r.value) (ReadChannelsToRelease next ch) refl refl)) refl)
leaving_falls Output j (ReadChannelsToRelease next ch) r h = inr (heard_nowhere Output j (ReadChannelsToRelease next ch) r refl refl)
leaving_falls Output j (RestoreChannel next ch arg) r h = inr
    (heard_nowhere Output j (RestoreChannel next ch arg) r (apart Output (eqb r.value arg) (goes_on next) (RestoreChannel next ch r.value) (goes_nowhere Output next) refl) refl)
leaving_falls Output j (Ended e) r h = inr (heard_nowhere Output j (Ended e) r refl refl)
leaving_falls Input j (ReadInputToLeave ch u) r h = inl refl
leaving_falls Input j (LeaveInput ch u arg) r h = inl refl
leaving_falls Input j (ReadOutputToLeave e ch u) r h = inr (heard_nowhere Input j (ReadOutputToLeave e ch u) r (apart Input _ (LeaveOutput e ch u r.value) (Ended e) refl refl) refl)
leaving_falls Input j (LeaveOutput e ch u arg) r h = inr (heard_nowhere Input j (LeaveOutput e ch u arg) r
    (apart Input (eqb r.value arg) (output_left j e ch u arg) (decide_leave_out j e ch u r.value) (apart Input _ (Ended e) (ReadBandwidthToRelease (EndsAs e) ch u) refl refl)
    (apart Input _ (LeaveOutput e ch u r.value) (Ended e) refl refl)) refl)
leaving_falls Input j (ReadBandwidthToRelease next ch u) r h =
    inr (heard_nowhere Input j (ReadBandwidthToRelease next ch u) r (apart Input _ (RaiseBandwidth next ch u r.value) (ReadChannelsToRelease next ch) refl refl) refl)
leaving_falls Input j (RaiseBandwidth next ch u arg) r h = inr
    (heard_nowhere Input j (RaiseBandwidth next ch u arg) r (apart Input (eqb r.value arg) (ReadChannelsToRelease next ch) (decide_raise next ch u r.value) refl
    (apart Input _ (RaiseBandwidth next ch u r.value) (ReadChannelsToRelease next ch) refl refl)) refl)
leaving_falls Input j (ReadChannelsToRelease next ch) r h = inr (heard_nowhere Input j (ReadChannelsToRelease next ch) r refl refl)
leaving_falls Input j (RestoreChannel next ch arg) r h = inr
    (heard_nowhere Input j (RestoreChannel next ch arg) r (apart Input (eqb r.value arg) (goes_on next) (RestoreChannel next ch r.value) (goes_nowhere Input next) refl) refl)
leaving_falls Input j (Ended e) r h = inr (heard_nowhere Input j (Ended e) r refl refl)
leaving_falls side j _ r h = absurd (grind arith)

-- ---- an answer

-- two stages of one job, in a reclaim second
pub falls_less : (side : Side) (j : Job) (s t : Stage) (slot : Slot) (kind : ConnectionKind) (q : PlugAt) → reclaims_at side slot kind q ≡ false → (is_at side s ≡ true) ⊎ (is_at side t ≡ false)
    → working side j t slot kind q ≤ working side j s slot kind q
falls_less side j s t slot kind q plain how = omega (
  arith,
  plain_share side j s slot kind q plain,
  plain_share side j t slot kind q plain,
  less_both (is_at side t) (is_at side s) (has_plug side j.connection kind q) (λ e. go how e),
)
  where
    go : (is_at side s ≡ true) ⊎ (is_at side t ≡ false) → is_at side t ≡ true → is_at side s ≡ true
    go (inl is) e = is
    go (inr no_more) e = absurd (grind (arith, e, no_more))

pub working_heard : (side : Side) (j : Job) (s : Stage) (slot : Slot) (r : Reply) (kind : ConnectionKind) (q : PlugAt) (why : Purpose) → MatchesFor why j slot → CourseFor why slot s
    → CourseFor why slot (hear_reply j s r) → working side j (hear_reply j s r) slot kind q ≤ working side j s slot kind q
working_heard side j s slot r kind q Make m course later = falls_less side j s (hear_reply j s r) slot kind q (making_reclaims side slot j.connection j.asked j.overhead kind q m)
    (inr (ended_nowhere side (hear_reply j s r) later))
working_heard side j s slot r kind q Restore m course later = restoring m.0 m.1 m.2
  where
    restoring : (f : Flow) (over : Bool) → slot ≡ Restoring j.connection f over → working side j (hear_reply j s r) slot kind q ≤ working side j s slot kind q
    restoring f true e = falls_less side j s (hear_reply j s r) slot kind q (over_reclaims side slot j.connection f kind q e)
        (inr (still_nowhere side (hear_reply j s r) (subst (λ x. CourseFor Restore x (hear_reply j s r)) e later)))
    restoring f false e =
        let before : working side j s slot kind q ≡ count_of (has_plug side j.connection kind q) = ap (λ x. working side j s x kind q) e ∙ own_share side j s f kind q in
        let after : working side j (hear_reply j s r) slot kind q ≡ count_of (has_plug side j.connection kind q) =
        ap (λ x. working side j (hear_reply j s r) x kind q) e ∙ own_share side j (hear_reply j s r) f kind q in
        omega arith
working_heard side j s slot r kind q Break m course later = falls_less side j s (hear_reply j s r) slot kind q (breaking_reclaims side slot j kind q m) (leaving_falls side j s r course)
