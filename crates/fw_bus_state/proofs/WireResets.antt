-- What a bus reset, a death, and what controllers are asked for make of the wire.
use Rattle.fw_bus_state.proofs.Common.{◌≡◌, ◌≢◌, ◌⊎◌, inl, inr, ℕ, [], Bool, true, false, Option, Some, None, refl, ap, sym, ◌∙◌, cases_eq, update, Current, Nothing, Asking, Hearing}
use Rattle.fw_bus_state.proofs.Common.{Overtaken, ControllerState, State, directory_of}
use Rattle.std.specs.Prelude.{Ok, Err}
use Rattle.std.specs.declared.result.Result.{Result}
use Rattle.fw_cmp_jobs.specs.declared.connection.Slot.{Slot}
use Rattle.fw_cmp_jobs.specs.declared.job.Job.{Job}
use Rattle.fw_cmp_jobs.specs.declared.job.Ending.{Ending}
use Rattle.fw_cmp_jobs.specs.declared.job.Purpose.{Purpose}
use Rattle.fw_cmp_jobs.specs.declared.job.Purpose.TheVariants.{Make, Restore, Break}
use Rattle.fw_cmp.specs.declared.outcome.StartFault.{StartFault}
use Rattle.fw_cmp_jobs.specs.declared.stage.Stage.{Stage}
use Rattle.fw_cmp_jobs.specs.declared.stage.Stage.TheVariants.{Begin, ReadOutput, ReadChannels, SwapChannels, ReadBandwidth, SwapBandwidth, ConnectOutput}
use Rattle.fw_cmp_jobs.specs.declared.stage.Stage.TheVariants.{OverlayOutput, ReadInput, ConnectInput, ReadInputToLeave, LeaveInput, ReadOutputToLeave, LeaveOutput}
use Rattle.fw_cmp_jobs.specs.declared.stage.Stage.TheVariants.{ReadBandwidthToRelease, RaiseBandwidth, ReadChannelsToRelease, RestoreChannel, Made, Ended}
use Rattle.fw_cmp_jobs.specs.Requests.{access_of}
use Rattle.fw_cmp.specs.Works.{standing_in}
use Rattle.fw_cmp.specs.Resets.{interrupted, decided, overtaken, current_reset, lost_reset, state_reset}
use Rattle.fw_cmp.specs.Starts.{started, with_task, break_fault, break_started}
use Rattle.fw_model_run.proofs.Turns.{update_new, update_others}
use Rattle.fw_bus_state.specs.Wires.{HasWire, controller_asks, packet_for}
use Rattle.fw_bus_state.proofs.Wires.{no_requests}

-- ---- no request is outstanding after a bus reset

interrupted_quiet : (epoch : ℕ) (c : ControllerState) (j : Job) → standing_in (interrupted epoch c j).current ≡ None
interrupted_quiet epoch c j = go j.purpose
  where
    go : (p : Purpose) → standing_in (interrupted epoch c (record j { purpose = p })).current ≡ None
    go Make = refl
    go Restore = refl
    go Break = refl

decided_stays : (c : ControllerState) (j : Job) → (decided c j).current ≡ c.current
decided_stays c j = go j.purpose
  where
    go : (p : Purpose) → (decided c (record j { purpose = p })).current ≡ c.current
    go Make = refl
    go Restore = refl
    go Break = refl

overtaken_quiet : (epoch : ℕ) (c : ControllerState) (j : Job) (s : Stage) → ((e : Ending) → s ≡ Ended e → standing_in c.current ≡ None)
    → standing_in (overtaken epoch c j s).current ≡ None
overtaken_quiet epoch c j (Made f) h = refl
overtaken_quiet epoch c j (Ended e) h = ap standing_in (decided_stays c j) ∙ h e refl
overtaken_quiet epoch c j Begin h = interrupted_quiet epoch c j
overtaken_quiet epoch c j ReadOutput h = interrupted_quiet epoch c j
overtaken_quiet epoch c j (ReadChannels base w) h = interrupted_quiet epoch c j
overtaken_quiet epoch c j (SwapChannels ch arg w) h = interrupted_quiet epoch c j
overtaken_quiet epoch c j (ReadBandwidth ch w) h = interrupted_quiet epoch c j
overtaken_quiet epoch c j (SwapBandwidth ch u arg w) h = interrupted_quiet epoch c j
overtaken_quiet epoch c j (ConnectOutput ch u arg) h = interrupted_quiet epoch c j
overtaken_quiet epoch c j (OverlayOutput arg) h = interrupted_quiet epoch c j
overtaken_quiet epoch c j (ReadInput f) h = interrupted_quiet epoch c j
overtaken_quiet epoch c j (ConnectInput f arg) h = interrupted_quiet epoch c j
overtaken_quiet epoch c j (ReadInputToLeave ch u) h = interrupted_quiet epoch c j
overtaken_quiet epoch c j (LeaveInput ch u arg) h = interrupted_quiet epoch c j
overtaken_quiet epoch c j (ReadOutputToLeave x ch u) h = interrupted_quiet epoch c j
overtaken_quiet epoch c j (LeaveOutput x ch u arg) h = interrupted_quiet epoch c j
overtaken_quiet epoch c j (ReadBandwidthToRelease next ch u) h = interrupted_quiet epoch c j
overtaken_quiet epoch c j (RaiseBandwidth next ch u arg) h = interrupted_quiet epoch c j
overtaken_quiet epoch c j (ReadChannelsToRelease next ch) h = interrupted_quiet epoch c j
overtaken_quiet epoch c j (RestoreChannel next ch arg) h = interrupted_quiet epoch c j

reset_quiet : (epoch : ℕ) (c : ControllerState) (x : Current) → c.current ≡ x → standing_in (current_reset epoch c x).current ≡ None
reset_quiet epoch c Nothing e = ap standing_in e
reset_quiet epoch c (Overtaken i o) e = ap standing_in e
reset_quiet epoch c (Asking j s) e = overtaken_quiet epoch c j s (λ x same. ap standing_in e)
reset_quiet epoch c (Hearing j s) e = overtaken_quiet epoch c j s (λ x same. ap standing_in e ∙ ap (access_of j) same)

-- a wire on which nothing lies, if no request is outstanding
pub wire_empty : (t : State) → ((d : ℕ) → standing_in (t.controllers d).current ≡ None) → HasWire [] t
wire_empty t quiet = no_requests t.account.latest (controller_asks t) (λ d. ap (packet_for t.account.latest (directory_of t) d) (quiet d))

-- nor if the job counts as one whose answer was not heard
lost_quiet : (epoch : ℕ) (c : ControllerState) (x : Current) → c.current ≡ x → standing_in (lost_reset epoch c x).current ≡ None
lost_quiet epoch c Nothing e = ap standing_in e
lost_quiet epoch c (Overtaken i o) e = ap standing_in e
lost_quiet epoch c (Asking j s) e = interrupted_quiet epoch c j
lost_quiet epoch c (Hearing j s) e = interrupted_quiet epoch c j

pub reset_stands_none : (epoch : ℕ) (lost : Bool) (c : ControllerState) → standing_in (state_reset epoch lost c).current ≡ None
reset_stands_none epoch true c = lost_quiet epoch c c.current refl
reset_stands_none epoch false c = reset_quiet epoch c c.current refl

-- ---- what a controller is asked for leaves what it is at

pub given_current : (r : Result ℕ StartFault) (x : Slot) (c : ControllerState) → (started r x c).current ≡ c.current
given_current (Ok i) x c = refl
given_current (Err e) x c = refl

pub break_current : (c : ControllerState) (i : ℕ) → (break_started c i).current ≡ c.current
break_current c i = go (break_fault c i)
  where
    go : (o : Option StartFault) → (elim o as (λ (x : Option StartFault). ControllerState) [ None ↦ with_task c (record { slot = i; breaks = true }) | Some fault ↦ c ]).current ≡ c.current
    go None = refl
    go (Some fault) = refl

-- one controller of the table that is at the same
pub same_currents : (f : ℕ → ControllerState) (d : ℕ) (c : ControllerState) → c.current ≡ (f d).current → (k : ℕ) → (update f d c k).current ≡ (f k).current
same_currents f d c same k = go (cases_eq k d)
  where
    go : (k ≡ d) ⊎ (k ≢ d) → (update f d c k).current ≡ (f k).current
    go (inl e) =
        ap (λ (x : ControllerState). x.current) (ap (update f d c) e ∙ update_new f d c) ∙ (same ∙ ap (λ j. (f j).current) (sym e))
    go (inr ne) = ap (λ (x : ControllerState). x.current) (update_others f d c k ne)
