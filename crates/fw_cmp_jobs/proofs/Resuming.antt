-- A job that has begun and is not late goes on from the stage at which it stands; one that begins, or is late, does not.
use Rattle.fw_cmp_jobs.proofs.Common.{◌≡◌, false, Bool, refl, ap, ◌∙◌, if◌then◌else◌, Slot, Directory, Job, Stage, Begin, ReadOutput, ReadChannels, SwapChannels, ReadBandwidth}
use Rattle.fw_cmp_jobs.proofs.Common.{SwapBandwidth, ConnectOutput, OverlayOutput, ReadInput, ConnectInput, ReadInputToLeave, LeaveInput, ReadOutputToLeave, LeaveOutput, ReadBandwidthToRelease}
use Rattle.fw_cmp_jobs.proofs.Common.{RaiseBandwidth, ReadChannelsToRelease, RestoreChannel, Made, Ended, is_late, begun, resumed}
use Rattle.fw_cmp_jobs.proofs.Common.{true, ℕ, Option, None, Some, ◌≢◌, ◌&&◌, subst, sym, false≢true, Flow, Free, Making, Established, Restoring, Gone, is_listen, restores}
use Rattle.fw_cmp_jobs.specs.Jobs.{absent_of, own_flow, begin_managed, begin_making, begin_leaving, begin_breaking, begin, is_over}
use Rattle.fw_cmp_jobs.specs.declared.connection.Connection.{Connection}
use Rattle.fw_cmp_jobs.specs.declared.connection.Connection.TheVariants.{PlugToPlug, BroadcastOut, BroadcastIn}
use Rattle.fw_cmp_jobs.specs.declared.job.Purpose.{Purpose}
use Rattle.fw_cmp_jobs.specs.declared.job.Purpose.TheVariants.{Make, Restore, Break}
use Rattle.fw_cmp_jobs.specs.declared.job.Ending.TheVariants as ending

begun_stays : (d : Directory) (s : Slot) (j : Job) (t : Stage) → (t ≡ Begin → ⊥) → begun d s j t ≡ t
begun_stays d s j Begin ne = absurd (ne refl)
begun_stays d s j ReadOutput ne = refl
begun_stays d s j (ReadChannels base w) ne = refl
begun_stays d s j (SwapChannels ch arg w) ne = refl
begun_stays d s j (ReadBandwidth ch w) ne = refl
begun_stays d s j (SwapBandwidth ch u arg w) ne = refl
begun_stays d s j (ConnectOutput ch u arg) ne = refl
begun_stays d s j (OverlayOutput arg) ne = refl
begun_stays d s j (ReadInput f) ne = refl
begun_stays d s j (ConnectInput f arg) ne = refl
begun_stays d s j (ReadInputToLeave ch u) ne = refl
begun_stays d s j (LeaveInput ch u arg) ne = refl
begun_stays d s j (ReadOutputToLeave x ch u) ne = refl
begun_stays d s j (LeaveOutput x ch u arg) ne = refl
begun_stays d s j (ReadBandwidthToRelease next ch u) ne = refl
begun_stays d s j (RaiseBandwidth next ch u arg) ne = refl
begun_stays d s j (ReadChannelsToRelease next ch) ne = refl
begun_stays d s j (RestoreChannel next ch arg) ne = refl
begun_stays d s j (Made f) ne = refl
begun_stays d s j (Ended x) ne = refl

pub resumed_stays : (d : Directory) (s : Slot) (j : Job) (t : Stage) → (t ≡ Begin → ⊥) → is_late s j t ≡ false → resumed d s j t ≡ t
resumed_stays d s j t ne e = ap (λ (b : Bool). if b then Ended ending.Late else begun d s j t) e ∙ begun_stays d s j t ne

-- ---- one that begins, or is late, does not

managed : (m : Option ℕ) → begin_managed m ≡ Begin → ⊥
managed None e = let z : ⊥ = cc in z
managed (Some n) e = let z : ⊥ = cc in z

making : (d : Directory) (j : Job) → begin_making d j ≡ Begin → ⊥
making d j = go (absent_of d j.connection) (is_listen j.connection)
  where
    go : (o : Option ℕ) (b : Bool) → elim o [ Some device ↦ Ended (ending.Absent device) | None ↦ if b then ReadInput (own_flow j) else begin_managed d.manager ] ≡ Begin → ⊥
    go (Some device) b e = let z : ⊥ = cc in z
    go None true e = let z : ⊥ = cc in z
    go None false e = managed d.manager e

leaving : (conn : Connection) (f : Flow) → begin_leaving conn f ≡ Begin → ⊥
leaving (PlugToPlug out into) f e = let z : ⊥ = cc in z
leaving (BroadcastOut out) f e = let z : ⊥ = cc in z
leaving (BroadcastIn into) f e = let z : ⊥ = cc in z

breaking : (s : Slot) → begin_breaking s ≡ Begin → ⊥
breaking Free e = let z : ⊥ = cc in z
breaking (Making conn asked overhead) e = let z : ⊥ = cc in z
breaking (Established conn f) e = leaving conn f e
breaking (Restoring conn f over) e = let z : ⊥ = cc in z
breaking (Gone conn) e = let z : ⊥ = cc in z

begins_on : (d : Directory) (s : Slot) (j : Job) → begin d s j ≡ Begin → ⊥
begins_on d s j = go j.purpose
  where
    go : (p : Purpose) → elim p [ Make ↦ begin_making d j | Restore ↦ begin_making d j | Break ↦ begin_breaking s ] ≡ Begin → ⊥
    go Make e = making d j e
    go Restore e = making d j e
    go Break e = breaking s e

pub late_moves : (d : Directory) (s : Slot) (j : Job) (t : Stage) → is_late s j t ≡ true → resumed d s j t ≢ t
late_moves d s j t e h =
    let ends : resumed d s j t ≡ Ended ending.Late = ap (λ (b : Bool). if b then Ended ending.Late else begun d s j t) e in
    not_late (restores j) (is_over s) (subst (λ (x : Stage). is_late s j x ≡ true) (sym h ∙ ends) e)
  where
    not_late : (a b : Bool) → (a && (b && false)) ≡ true → ⊥
    not_late true true f = false≢true f
    not_late true false f = false≢true f
    not_late false b f = false≢true f

pub begin_moves : (d : Directory) (s : Slot) (j : Job) (t : Stage) → t ≡ Begin → resumed d s j t ≢ t
begin_moves d s j t is = subst (λ (x : Stage). resumed d s j x ≢ x) (sym is) (go (is_late s j Begin))
  where
    go : (b : Bool) → (if b then Ended ending.Late else begin d s j) ≡ Begin → ⊥
    go true e = let z : ⊥ = cc in z
    go false e = begins_on d s j e
