-- A restoring in its own second makes a request, or it has made its connection.
use Rattle.fw_model_reclaim.proofs.Common.{◌≡◌, inr, ℕ, true, false, Option, Some, None, is_some, refl, sym}
use Rattle.fw_model_reclaim.proofs.Common.{ap, subst, ◌∙◌, arith, restoring_job, Connection, PlugToPlug, BroadcastOut, BroadcastIn, Flow}
use Rattle.fw_model_reclaim.proofs.Common.{Restoring, Directory, Job, Target, Access, Stage, Begin, ReadOutput, ReadChannels, SwapChannels, ReadBandwidth, SwapBandwidth, ConnectOutput, OverlayOutput}
use Rattle.fw_model_reclaim.proofs.Common.{ReadInput, ConnectInput, ReadInputToLeave, LeaveInput, ReadOutputToLeave, LeaveOutput, ReadBandwidthToRelease, RaiseBandwidth, ReadChannelsToRelease}
use Rattle.fw_model_reclaim.proofs.Common.{RestoreChannel, Made, Ended, output_of, input_of, StageFits, HasInput, IsReached}
use Rattle.fw_model_reclaim.proofs.Common.{target_of, access_of, begin_managed, begin_present, begun, resumed, IsOnCourse}
use Rattle.std.specs.Option.{option_map}
use Rattle.fw_cmp_jobs.specs.declared.request.Target.TheVariants.{OutputPlug, InputPlug}
use Rattle.fw_cmp_jobs.specs.declared.job.Ending.TheVariants.{Absent}
use Rattle.fw_cmp_jobs.specs.Fits.{HasOutput}
use Rattle.fw_cmp_jobs.specs.Requests.{swap_of, access_at}
use Rattle.fw_cmp_jobs.specs.Jobs.{begin_making}
use Rattle.fw_model_reclaim.proofs.Begins.{nobody_absent, not_late, never_late}
use Rattle.fw_model_reclaim.proofs.Heard.{output_there, input_there}

-- a stage that has a target makes a request
makes_request : (j : Job) (t : Stage) (x : Target) → target_of j t ≡ Some x → access_of j t ≡ None → ⊥
makes_request j t x e none = let some : access_of j t ≡ Some (access_at (swap_of j t) x) = ap (option_map (access_at (swap_of j t))) e in
    absurd (go (access_of j t) (access_at (swap_of j t) x) some none)
  where
    go : (o : Option Access) (a : Access) → o ≡ Some a → o ≡ None → ⊥
    go o a e g = cc

at_output : (i : ℕ) (conn : Connection) (f : Flow) (t : Stage) → HasOutput conn → target_of (restoring_job i conn f) t ≡ option_map OutputPlug (output_of conn)
    → access_of (restoring_job i conn f) t ≡ None → ⊥
at_output i conn f t has is none = let p = output_there conn has in makes_request (restoring_job i conn f) t (OutputPlug p.0) (is ∙ ap (option_map OutputPlug) p.1) none

at_input : (i : ℕ) (conn : Connection) (f : Flow) (t : Stage) → HasInput conn → target_of (restoring_job i conn f) t ≡ option_map InputPlug (input_of conn)
    → access_of (restoring_job i conn f) t ≡ None → ⊥
at_input i conn f t has is none = let q = input_there conn has in makes_request (restoring_job i conn f) t (InputPlug q.0) (is ∙ ap (option_map InputPlug) q.1) none

-- a restoring that begins reads a register
reads_first : (d : Directory) (i : ℕ) (conn : Connection) (f : Flow) → IsReached d conn → access_of (restoring_job i conn f) (begin_present d (restoring_job i conn f)) ≡ None → ⊥
reads_first d i (PlugToPlug out into) f r none = go d.manager (r.manager refl) none
  where
    go : (o : Option ℕ) → is_some o ≡ true → access_of (restoring_job i (PlugToPlug out into) f) (begin_managed o) ≡ None → ⊥
    go None e none = grind (arith, e)
    go (Some n) e none = grind (arith, none)
reads_first d i (BroadcastOut out) f r none = go d.manager (r.manager refl) none
  where
    go : (o : Option ℕ) → is_some o ≡ true → access_of (restoring_job i (BroadcastOut out) f) (begin_managed o) ≡ None → ⊥
    go None e none = grind (arith, e)
    go (Some n) e none = grind (arith, none)
reads_first d i (BroadcastIn into) f r none = grind (arith, none)

begin_reads : (d : Directory) (i : ℕ) (conn : Connection) (f : Flow) → IsReached d conn → access_of (restoring_job i conn f) (begin_making d (restoring_job i conn f)) ≡ None → ⊥
begin_reads d i conn f r none = reads_first d i conn f r (subst
    (λ o. access_of (restoring_job i conn f) (elim o as (λ x. Stage) [ Some device ↦ Ended (Absent device) | None ↦ begin_present d (restoring_job i conn f) ]) ≡ None) (nobody_absent d conn r) none)

begun_made : (d : Directory) (i : ℕ) (conn : Connection) (f : Flow) (s : Stage) → IsReached d conn → StageFits (restoring_job i conn f) s → IsOnCourse f s
    → access_of (restoring_job i conn f) (begun d (Restoring conn f false) (restoring_job i conn f) s) ≡ None → begun d (Restoring conn f false) (restoring_job i conn f) s ≡ Made f
begun_made d i conn f Begin r fits on none = absurd (begin_reads d i conn f r none)
begun_made d i conn f ReadOutput r fits on none = absurd (at_output i conn f ReadOutput fits refl none)
begun_made d i conn f (ReadChannels base w) r fits on none = absurd (makes_request (restoring_job i conn f) (ReadChannels base w) _ refl none)
begun_made d i conn f (SwapChannels ch arg w) r fits on none = absurd (makes_request (restoring_job i conn f) (SwapChannels ch arg w) _ refl none)
begun_made d i conn f (ReadBandwidth ch w) r fits on none = absurd (makes_request (restoring_job i conn f) (ReadBandwidth ch w) _ refl none)
begun_made d i conn f (SwapBandwidth ch u arg w) r fits on none = absurd (makes_request (restoring_job i conn f) (SwapBandwidth ch u arg w) _ refl none)
begun_made d i conn f (ConnectOutput ch u arg) r fits on none = absurd (at_output i conn f (ConnectOutput ch u arg) fits.0 refl none)
begun_made d i conn f (OverlayOutput arg) r fits on none = absurd (at_output i conn f (OverlayOutput arg) fits.0 refl none)
begun_made d i conn f (ReadInput g) r fits on none = absurd (at_input i conn f (ReadInput g) fits.0 refl none)
begun_made d i conn f (ConnectInput g arg) r fits on none = absurd (at_input i conn f (ConnectInput g arg) fits.0 refl none)
begun_made d i conn f (Made g) r fits on none = ap (λ x. Made x) on
begun_made d i conn f (Ended e) r fits on none = absurd on
begun_made d i conn f (ReadInputToLeave ch u) r fits on none = absurd on
begun_made d i conn f (LeaveInput ch u arg) r fits on none = absurd on
begun_made d i conn f (ReadOutputToLeave e ch u) r fits on none = absurd on
begun_made d i conn f (LeaveOutput e ch u arg) r fits on none = absurd on
begun_made d i conn f (ReadBandwidthToRelease next ch u) r fits on none = absurd on
begun_made d i conn f (RaiseBandwidth next ch u arg) r fits on none = absurd on
begun_made d i conn f (ReadChannelsToRelease next ch) r fits on none = absurd on
begun_made d i conn f (RestoreChannel next ch arg) r fits on none = absurd on

-- if it makes no request, it has made its connection
pub ends_made : (d : Directory) (i : ℕ) (conn : Connection) (f : Flow) (s : Stage) → IsReached d conn → StageFits (restoring_job i conn f) s → IsOnCourse f s
    → access_of (restoring_job i conn f) (resumed d (Restoring conn f false) (restoring_job i conn f) s) ≡ None → resumed d (Restoring conn f false) (restoring_job i conn f) s ≡ Made f
ends_made d i conn f s r fits on none =
    let same = not_late d (Restoring conn f false) (restoring_job i conn f) s (never_late (Restoring conn f false) (restoring_job i conn f) s (inr refl)) in
    same ∙ begun_made d i conn f s r fits on (ap (access_of (restoring_job i conn f)) (sym same) ∙ none)
