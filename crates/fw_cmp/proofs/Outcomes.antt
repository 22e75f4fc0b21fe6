-- A job ends with an outcome only if its cause holds.
use Rattle.fw_cmp.proofs.Common.{◌≡◌, ℕ, Bool, true, false, List, get_or, refl, ap, subst, Option, Some, None, inl, inr, ⊤, if◌then◌else◌, Connection, Flow, Slot, Free, Making, Established, Restoring}
use Rattle.fw_cmp.proofs.Common.{Gone, Current, Nothing, Asking, Hearing, Overtaken, WaitingJob, Directory, Job, Purpose, Make, Restore, Break, Ending, Idle, Waiting, Access, Stage, Begin, ReadOutput}
use Rattle.fw_cmp.proofs.Common.{ReadChannels, SwapChannels, ReadBandwidth, SwapBandwidth, ConnectOutput, OverlayOutput, ReadInput, ConnectInput, ReadInputToLeave, LeaveInput, ReadOutputToLeave}
use Rattle.fw_cmp.proofs.Common.{LeaveOutput, ReadBandwidthToRelease, RaiseBandwidth, ReadChannelsToRelease, RestoreChannel, Made, Ended, is_listen, restores, ControllerState, slot_at, CurrentFits}
use Rattle.fw_cmp.proofs.Common.{Fits, access_of, rests, answer_of, next, current_for, is_late, begun, resumed, resumed_current, picked, ready, is_empty}
use Rattle.std.specs.Option.{option_map}
use Rattle.fw_words.specs.declared.swap.Swap.{Swap}
use Rattle.fw_cmp_jobs.specs.declared.connection.Connection.TheVariants.{PlugToPlug, BroadcastOut, BroadcastIn}
use Rattle.fw_cmp_jobs.specs.declared.job.Ending.TheVariants.{Broken, NoChannel, NoUnits, PlugFull, InputBusy, NoPlug, NoManager, Absent, Late}
use Rattle.fw_cmp_jobs.specs.declared.outcome.Outcome.TheVariants as outcome
use Rattle.fw_cmp_jobs.specs.declared.request.Target.TheVariants.{OutputPlug, InputPlug}
use Rattle.fw_cmp_jobs.specs.Connections.{output_of, input_of}
use Rattle.fw_cmp_jobs.specs.Fits.{StageFits, HasOutput, HasInput}
use Rattle.fw_cmp.specs.Outcomes.{EndsBy, EndsWithCause}
use Rattle.fw_cmp_jobs.specs.Requests.{access_at, addressee_of, swap_of}
use Rattle.fw_cmp.specs.Turns.{sending, asks_or_ends}
use Rattle.fw_cmp_jobs.specs.Jobs.{outcome_for, made_outcome, outcome_of}
use Rattle.fw_cmp_jobs.specs.Jobs.{own_flow, absent_of, begin_managed, begin_present, begin_making, begin_leaving, begin_breaking}
use Rattle.fw_cmp.proofs.Picking.{picked_slots, picked_holds}

-- ---- the stages that make no request

-- a stage that fits makes a request, or its outcome has its cause
abbrev MakesNone : Job → Stage → Type 0
MakesNone j s = access_of j s ≡ None

output_asked : (s : Option Swap) (conn : Connection) → HasOutput conn → option_map (access_at s) (option_map OutputPlug (output_of conn)) ≡ None → ⊥
output_asked s (PlugToPlug out into) h e = cc
output_asked s (BroadcastOut out) h e = cc
output_asked s (BroadcastIn into) h e = cc

input_asked : (s : Option Swap) (conn : Connection) → HasInput conn → option_map (access_at s) (option_map InputPlug (input_of conn)) ≡ None → ⊥
input_asked s (PlugToPlug out into) h e = cc
input_asked s (BroadcastOut out) h e = absurd h
input_asked s (BroadcastIn into) h e = cc

-- how a job ends that came to a stage without a request
abbrev Caused : ℕ → Directory → Slot → Job → Stage → Stage → Type 0
Caused now d slot j s r = StageFits j r → MakesNone j r → EndsBy now d slot j s (outcome_of now j r)

asks_on : (now : ℕ) (d : Directory) (slot : Slot) (j : Job) (s : Stage) → Caused now d slot j s ReadOutput
asks_on now d slot j s h e = absurd (output_asked (swap_of j ReadOutput) j.connection h e)

listens_on : (now : ℕ) (d : Directory) (slot : Slot) (j : Job) (s : Stage) (f : Flow) → Caused now d slot j s (ReadInput f)
listens_on now d slot j s f h e = absurd (input_asked (swap_of j (ReadInput f)) j.connection h.0 e)

-- ---- as it begins

managed : (now : ℕ) (d : Directory) (slot : Slot) (j : Job) (o : Option ℕ) → d.manager ≡ o → is_listen j.connection ≡ false → Caused now d slot j Begin (begin_managed o)
managed now d slot j None m l h e = inr (refl, m, l)
managed now d slot j (Some n) m l h e = asks_on now d slot j Begin h e

making : (now : ℕ) (d : Directory) (slot : Slot) (j : Job) → Caused now d slot j Begin (begin_making d j)
making now d slot j = go (absent_of d j.connection) refl
  where
    listening : (b : Bool) → is_listen j.connection ≡ b → Caused now d slot j Begin (if b then ReadInput (own_flow j) else begin_managed d.manager)
    listening true l h e = listens_on now d slot j Begin (own_flow j) h e
    listening false l h e = managed now d slot j d.manager refl l h e

    go : (o : Option ℕ) → absent_of d j.connection ≡ o → Caused now d slot j Begin (elim o [ Some device ↦ Ended (Absent device) | None ↦ begin_present d j ])
    go (Some device) a h e = inr (refl, a)
    go None a h e = listening (is_listen j.connection) refl h e

leaving : (now : ℕ) (d : Directory) (slot : Slot) (j : Job) (conn : Connection) (f : Flow) → Caused now d slot j Begin (begin_leaving conn f)
leaving now d slot j (PlugToPlug out into) f h e = absurd (input_asked (swap_of j (begin_leaving (PlugToPlug out into) f)) j.connection h.0 e)
leaving now d slot j (BroadcastOut out) f h e = absurd (output_asked (swap_of j (begin_leaving (BroadcastOut out) f)) j.connection h.0 e)
leaving now d slot j (BroadcastIn into) f h e = absurd (input_asked (swap_of j (begin_leaving (BroadcastIn into) f)) j.connection h.0 e)

breaking : (now : ℕ) (d : Directory) (slot : Slot) (j : Job) → j.purpose ≡ Break → Caused now d slot j Begin (begin_breaking slot)
breaking now d (Established conn f) j p h e = leaving now d (Established conn f) j conn f h e
breaking now d Free j p h e = inr (refl, p, refl)
breaking now d (Making conn asked overhead) j p h e = inr (refl, p, refl)
breaking now d (Restoring conn f over) j p h e = inr (refl, p, refl)
breaking now d (Gone conn) j p h e = inr (refl, p, refl)

beginning : (now : ℕ) (d : Directory) (slot : Slot) (j : Job) (p : Purpose) → j.purpose ≡ p
    → Caused now d slot j Begin (elim p [ Make ↦ begin_making d j | Restore ↦ begin_making d j | Break ↦ begin_breaking slot ])
beginning now d slot j Make is h e = making now d slot j h e
beginning now d slot j Restore is h e = making now d slot j h e
beginning now d slot j Break is h e = breaking now d slot j is h e

-- ---- as it was decided

made : (now : ℕ) (d : Directory) (slot : Slot) (j : Job) (f : Flow) → EndsBy now d slot j (Made f) (made_outcome j f)
made now d slot j f = go (restores j) refl
  where
    go : (b : Bool) → restores j ≡ b → EndsBy now d slot j (Made f) (if b then outcome.Restored f.channel else outcome.Connected f.channel)
    go true e = (e, refl)
    go false e = (e, refl)

ended_as : (now : ℕ) (d : Directory) (slot : Slot) (j : Job) (x : Ending) → EndsBy now d slot j (Ended x) (outcome_for now x)
ended_as now d slot j Broken = inl refl
ended_as now d slot j (NoChannel w) = refl
ended_as now d slot j (NoUnits left) = refl
ended_as now d slot j (PlugFull w) = refl
ended_as now d slot j (InputBusy w) = refl
ended_as now d slot j (NoPlug rcode) = refl
ended_as now d slot j NoManager = inl refl
ended_as now d slot j (Absent device) = inl refl
ended_as now d slot j Late = (refl, inl refl)

-- ---- at any stage

begun_cause : (now : ℕ) (d : Directory) (slot : Slot) (j : Job) (s : Stage) → Caused now d slot j s (begun d slot j s)
begun_cause now d slot j Begin h e = beginning now d slot j j.purpose refl h e
begun_cause now d slot j ReadOutput h e = asks_on now d slot j ReadOutput h e
begun_cause now d slot j (ReadChannels base w) h e = cc
begun_cause now d slot j (SwapChannels ch arg w) h e = cc
begun_cause now d slot j (ReadBandwidth ch w) h e = cc
begun_cause now d slot j (SwapBandwidth ch u arg w) h e = cc
begun_cause now d slot j (ConnectOutput ch u arg) h e = absurd (output_asked (swap_of j (ConnectOutput ch u arg)) j.connection h.0 e)
begun_cause now d slot j (OverlayOutput arg) h e = absurd (output_asked (swap_of j (OverlayOutput arg)) j.connection h.0 e)
begun_cause now d slot j (ReadInput f) h e = listens_on now d slot j (ReadInput f) f h e
begun_cause now d slot j (ConnectInput f arg) h e = absurd (input_asked (swap_of j (ConnectInput f arg)) j.connection h.0 e)
begun_cause now d slot j (ReadInputToLeave ch u) h e = absurd (input_asked (swap_of j (ReadInputToLeave ch u)) j.connection h.0 e)
begun_cause now d slot j (LeaveInput ch u arg) h e = absurd (input_asked (swap_of j (LeaveInput ch u arg)) j.connection h.0 e)
begun_cause now d slot j (ReadOutputToLeave x ch u) h e = absurd (output_asked (swap_of j (ReadOutputToLeave x ch u)) j.connection h.0 e)
begun_cause now d slot j (LeaveOutput x ch u arg) h e = absurd (output_asked (swap_of j (LeaveOutput x ch u arg)) j.connection h.0 e)
begun_cause now d slot j (ReadBandwidthToRelease next ch u) h e = cc
begun_cause now d slot j (RaiseBandwidth next ch u arg) h e = cc
begun_cause now d slot j (ReadChannelsToRelease next ch) h e = cc
begun_cause now d slot j (RestoreChannel next ch arg) h e = cc
begun_cause now d slot j (Made f) h e = made now d slot j f
begun_cause now d slot j (Ended x) h e = ended_as now d slot j x

resumed_cause : (now : ℕ) (d : Directory) (slot : Slot) (j : Job) (s : Stage) → Caused now d slot j s (resumed d slot j s)
resumed_cause now d slot j s = go (is_late slot j s) refl
  where
    go : (b : Bool) → is_late slot j s ≡ b → Caused now d slot j s (if b then Ended Late else begun d slot j s)
    go true late h e = (refl, inr late)
    go false late h e = begun_cause now d slot j s h e

-- ---- the controller

sends_no_end : (now : ℕ) (d : Directory) (c : ControllerState) (o : Option ℕ) (a : Access) → EndsWithCause now d c (sending o a)
sends_no_end now d c None a = tt
sends_no_end now d c (Some to) a = tt

rests_no_end : (now : ℕ) (d : Directory) (c : ControllerState) (ts : List WaitingJob) → EndsWithCause now d c (rests d ts)
rests_no_end now d c ts = go (is_empty ts)
  where
    go : (b : Bool) → EndsWithCause now d c (if b then Idle else Waiting d.over_at)
    go true = tt
    go false = tt

asked_cause : (now : ℕ) (d : Directory) (c : ControllerState) (j : Job) (s r : Stage) → (picked now d c).current ≡ Asking j s → Caused now d (slot_at c j.slot) j s r → StageFits j r
    → (o : Option Access) → access_of j r ≡ o → EndsWithCause now d c (asks_or_ends now d j r o)
asked_cause now d c j s r p cause fits None e = inr (j, (s, record { current = p; of_slot = refl; cause = cause fits e }))
asked_cause now d c j s r p cause fits (Some a) e = sends_no_end now d c (addressee_of d a.target) a

-- what a reset left is what the controller was at
abbrev WasOvertaken : Current → Current → Type 0
WasOvertaken cur (Overtaken i o) = cur ≡ Overtaken i o
WasOvertaken cur _ = ⊤

for_slot : (cur : Current) (i : ℕ) (s : Slot) → WasOvertaken cur (current_for i s)
for_slot cur i Free = tt
for_slot cur i (Making conn asked overhead) = tt
for_slot cur i (Established conn f) = tt
for_slot cur i (Restoring conn f over) = tt
for_slot cur i (Gone conn) = tt

itself : (cur : Current) → WasOvertaken cur cur
itself Nothing = tt
itself (Asking j s) = tt
itself (Hearing j s) = tt
itself (Overtaken i o) = refl

going_cause : (now : ℕ) (d : Directory) (c p : ControllerState) (cur : Current) → (picked now d c).current ≡ cur → p.slots ≡ c.slots → WasOvertaken c.current cur
    → CurrentFits (record p { current = resumed_current p d cur }) (resumed_current p d cur) → EndsWithCause now d c (answer_of now d (record p { current = resumed_current p d cur }))
going_cause now d c p Nothing e same was fits = rests_no_end now d c p.waiting
going_cause now d c p (Hearing j s) e same was fits = tt
going_cause now d c p (Overtaken i o) e same was fits = inl was
going_cause now d c p (Asking j s) e same was fits =
    let r : Stage = resumed d (slot_at p j.slot) j s in
    let slot : slot_at p j.slot ≡ slot_at c j.slot = ap (λ (ss : List Slot). get_or ss j.slot Free) same in
    asked_cause now d c j s r e (subst (λ (x : Slot). Caused now d x j s r) slot (resumed_cause now d (slot_at p j.slot) j s)) fits.stage (access_of j r) refl

pub ends_with_cause : (now : ℕ) (d : Directory) (c : ControllerState) → Fits (ready now d c) → EndsWithCause now d c (next now d c)
ends_with_cause now d c h =
    let p : ControllerState = picked now d c in
    going_cause now d c p p.current refl (picked_slots now d c) (picked_holds (WasOvertaken c.current) (for_slot c.current) now d c.slots c.waiting c.current (itself c.current)) h.current
