-- The current job goes on from its stage: what a controller keeps, and where its requests go.
use Rattle.fw_cmp.proofs.Common.{◌≡◌, ℕ, Bool, true, false, List, refl, ap, Option, Some, None, if◌then◌else◌, Connection, Flow, Slot, Free, Making, Established, Restoring, Gone, Current, Nothing}
use Rattle.fw_cmp.proofs.Common.{
  Asking,
  Hearing,
  Overtaken,
  WaitingJob,
  Directory,
  Job,
  Purpose,
  Make,
  Restore,
  Break,
  Stage,
  Begin,
  ReadOutput,
  ReadChannels,
  SwapChannels,
  ReadBandwidth,
  SwapBandwidth,
}
use Rattle.fw_cmp.proofs.Common.{ConnectOutput, OverlayOutput, ReadInput, ConnectInput, ReadInputToLeave, LeaveInput, ReadOutputToLeave, LeaveOutput, ReadBandwidthToRelease, RaiseBandwidth}
use Rattle.fw_cmp.proofs.Common.{ReadChannelsToRelease, RestoreChannel, Made, Ended, is_listen, ControllerState, slot_at, job_for, SlotHasJobs, CurrentFits, Fits, CurrentReached, CanGoOn, is_late}
use Rattle.fw_cmp.proofs.Common.{begun, resumed, resumed_current, going}
use Rattle.std.proofs.Common.{IsSome}
use Rattle.std.specs.Prelude.{IsFalse}
use Rattle.fw_cmp_jobs.specs.declared.connection.Connection.TheVariants.{PlugToPlug, BroadcastOut, BroadcastIn}
use Rattle.fw_cmp_jobs.specs.declared.job.Ending.TheVariants as ending
use Rattle.fw_cmp_jobs.specs.Nodes.{node_of}
use Rattle.fw_cmp.specs.Holdings.{IsReached, StageReached}
use Rattle.fw_cmp_jobs.specs.Jobs.{own_flow, without_node, absent_of, begin_managed, begin_present, begin_making, begin_leaving, begin_breaking}

-- ---- what is kept

jobs_going : (c : ControllerState) (d : Directory) (ts : List WaitingJob) (cur : Current) (k : ℕ) (s : Slot) → SlotHasJobs ts cur k s → SlotHasJobs ts (resumed_current c d cur) k s
jobs_going c d ts Nothing k s h = h
jobs_going c d ts (Asking j t) k s h = record { makes = h.makes; breaks = h.breaks; gone = h.gone }
jobs_going c d ts (Hearing j t) k s h = h
jobs_going c d ts (Overtaken i o) k s h = h

pub going_fits : (d : Directory) (c : ControllerState) → Fits c → CurrentFits (going d c) (resumed_current c d c.current) → Fits (going d c)
going_fits d c h current = record {
  slots = h.slots;
  each = h.each;
  waiting = h.waiting;
  few = h.few;
  current = current;
  jobs = λ k. jobs_going c d c.waiting c.current k (slot_at c k) (h.jobs k);
}

-- ---- where requests go

present : (device : ℕ) (o : Option ℕ) → elim o as (λ _. Option ℕ) [ None ↦ Some device | Some n ↦ None ] ≡ None → IsSome o
present device None e = cc
present device (Some n) e = refl

first_none : (a b : Option ℕ) → elim a as (λ _. Option ℕ) [ Some device ↦ Some device | None ↦ b ] ≡ None → (a ≡ None) × (b ≡ None)
first_none None b e = (refl, e)
first_none (Some x) b e = cc

-- the devices of a connection's plugs are on the bus if none is absent
reached_present : (d : Directory) (conn : Connection) → absent_of d conn ≡ None → (IsFalse (is_listen conn) → IsSome d.manager) → IsReached d conn
reached_present d (PlugToPlug out into) e m =
    let parts = first_none (without_node d (Some out)) (without_node d (Some into)) e in
    record {
      output = λ p is. let same : out ≡ p = cc in rw (← same) (present out.device (node_of d out.device) parts.0);
      input = λ p is. let same : into ≡ p = cc in rw (← same) (present into.device (node_of d into.device) parts.1);
      manager = m;
    }
reached_present d (BroadcastOut out) e m =
    let parts = first_none (without_node d (Some out)) None e in
    record {
      output = λ p is. let same : out ≡ p = cc in rw (← same) (present out.device (node_of d out.device) parts.0);
      input = λ p is. cc;
      manager = m;
    }
reached_present d (BroadcastIn into) e m = record {
  output = λ p is. cc;
  input = λ p is. let same : into ≡ p = cc in rw (← same) (present into.device (node_of d into.device) e);
  manager = m;
}

reached_managed : (d : Directory) (j : Job) → absent_of d j.connection ≡ None → (o : Option ℕ) → d.manager ≡ o → StageReached d j (begin_managed o)
reached_managed d j e None m = tt
reached_managed d j e (Some n) m = reached_present d j.connection e (λ _. rw m refl)

reached_making : (d : Directory) (j : Job) → StageReached d j (begin_making d j)
reached_making d j = go (absent_of d j.connection) refl
  where
    listening : absent_of d j.connection ≡ None → (b : Bool) → is_listen j.connection ≡ b → StageReached d j (if b then ReadInput (own_flow j) else begin_managed d.manager)
    listening e true b = reached_present d j.connection e (λ f. let clash : is_listen j.connection ≡ false = f in cc)
    listening e false b = reached_managed d j e d.manager refl

    go : (o : Option ℕ) → absent_of d j.connection ≡ o → StageReached d j (elim o [ Some device ↦ Ended (ending.Absent device) | None ↦ begin_present d j ])
    go (Some device) e = tt
    go None e = listening e (is_listen j.connection) refl

reached_leaving : (d : Directory) (j : Job) (conn : Connection) (f : Flow) → conn ≡ j.connection → IsReached d conn → StageReached d j (begin_leaving conn f)
reached_leaving d j (PlugToPlug out into) f e h = rw e at h
reached_leaving d j (BroadcastOut out) f e h = rw e at h
reached_leaving d j (BroadcastIn into) f e h = rw e at h

reached_breaking : (d : Directory) (j : Job) (s : Slot) → job_for j.slot s ≡ Some j → ((conn : Connection) (f : Flow) → s ≡ Established conn f → IsReached d conn) → StageReached d j (begin_breaking s)
reached_breaking d j (Established conn f) e h = reached_leaving d j conn f
    (let same : Some (record { slot = j.slot; connection = conn; purpose = Break; asked = None; overhead = 0; units = None }) ≡ Some j = e in
    ap (λ (o : Option Job). elim o [ Some k ↦ k.connection | None ↦ conn ]) same) (h conn f refl)
reached_breaking d j Free e h = tt
reached_breaking d j (Making conn asked overhead) e h = tt
reached_breaking d j (Restoring conn f over) e h = tt
reached_breaking d j (Gone conn) e h = tt

reached_begin : (d : Directory) (j : Job) (s : Slot) (p : Purpose) → job_for j.slot s ≡ Some j → ((conn : Connection) (f : Flow) → s ≡ Established conn f → IsReached d conn) →
    StageReached d j (elim p [ Make ↦ begin_making d j | Restore ↦ begin_making d j | Break ↦ begin_breaking s ])
reached_begin d j s Make e h = reached_making d j
reached_begin d j s Restore e h = reached_making d j
reached_begin d j s Break e h = reached_breaking d j s e h

reached_begun : (d : Directory) (j : Job) (s : Slot) (t : Stage) → job_for j.slot s ≡ Some j → ((conn : Connection) (f : Flow) → s ≡ Established conn f → IsReached d conn) → StageReached d j t
    → StageReached d j (begun d s j t)
reached_begun d j s Begin e h r = reached_begin d j s j.purpose e h
reached_begun d j s ReadOutput e h r = r
reached_begun d j s (ReadChannels base w) e h r = r
reached_begun d j s (SwapChannels ch arg w) e h r = r
reached_begun d j s (ReadBandwidth ch w) e h r = r
reached_begun d j s (SwapBandwidth ch u arg w) e h r = r
reached_begun d j s (ConnectOutput ch u arg) e h r = r
reached_begun d j s (OverlayOutput arg) e h r = r
reached_begun d j s (ReadInput f) e h r = r
reached_begun d j s (ConnectInput f arg) e h r = r
reached_begun d j s (ReadInputToLeave ch u) e h r = r
reached_begun d j s (LeaveInput ch u arg) e h r = r
reached_begun d j s (ReadOutputToLeave x ch u) e h r = r
reached_begun d j s (LeaveOutput x ch u arg) e h r = r
reached_begun d j s (ReadBandwidthToRelease next ch u) e h r = r
reached_begun d j s (RaiseBandwidth next ch u arg) e h r = r
reached_begun d j s (ReadChannelsToRelease next ch) e h r = r
reached_begun d j s (RestoreChannel next ch arg) e h r = r
reached_begun d j s (Made f) e h r = r
reached_begun d j s (Ended x) e h r = r

reached_resumed : (d : Directory) (j : Job) (s : Slot) (t : Stage) → job_for j.slot s ≡ Some j → ((conn : Connection) (f : Flow) → s ≡ Established conn f → IsReached d conn) → StageReached d j t
    → StageReached d j (resumed d s j t)
reached_resumed d j s t e h r = go (is_late s j t)
  where
    go : (b : Bool) → StageReached d j (if b then Ended ending.Late else begun d s j t)
    go true = tt
    go false = reached_begun d j s t e h r

current_reached : (d : Directory) (c : ControllerState) (cur : Current) → CurrentFits c cur → ((i : ℕ) (conn : Connection) (f : Flow) → slot_at c i ≡ Established conn f → IsReached d conn)
    → CurrentReached d cur → CurrentReached d (resumed_current c d cur)
current_reached d c Nothing fits h r = r
current_reached d c (Asking j t) fits h r = reached_resumed d j (slot_at c j.slot) t fits.of_slot (h j.slot) r
current_reached d c (Hearing j t) fits h r = r
current_reached d c (Overtaken i o) fits h r = r

pub going_reached : (d : Directory) (c : ControllerState) → Fits c → CanGoOn d c → CurrentReached d (going d c).current
going_reached d c fits h = current_reached d c c.current fits.current h.standing h.current
