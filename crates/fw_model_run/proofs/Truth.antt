-- Controllers as they are go by their own definitions.
use Rattle.fw_model_run.proofs.Common.{◌≡◌, ℕ, Bool, true, false, Option, Some, None, is_some, cond, refl, ap, sym, ◌∙◌, arith, IsTrue, ◌==◌, Ok, Reply, ResetEntry, Current, Nothing, Asking, Hearing}
use Rattle.fw_model_run.proofs.Common.{Overtaken, Slot, Stage, ControllerState, IsHeard, new_controller, after_hear, heard}
use Rattle.fw_model_run.proofs.Common.{break_fault, break_started, next, Wanted, PlugToPlug, BroadcastOut, BroadcastIn}
use Rattle.fw_model_run.proofs.Common.{after_loss, after_reset_entry, after_death, with_connection, slot_of, start_of, IsGood, half, half_of, asks, after_half, has_request, with_controller, State}
use Rattle.fw_model_run.proofs.Common.{directory_of, is_deaf, is_living}
use Rattle.std.specs.Prelude.{Err}
use Rattle.std.specs.declared.result.Result.{Result}
use Rattle.fw_cmp.specs.declared.outcome.StartFault.{StartFault}
use Rattle.fw_cmp.specs.Losses.{first_listening, turn_of, deaf_turn, deaf_until, after_turn, after_loss as lost, after_bus_reset, with_state}
use Rattle.fw_cmp.specs.Resets.{state_reset, after_reset, after_lost_reset}
use Rattle.fw_cmp.specs.Starts.{start, started, with_task, start_at, free_slot}
use Rattle.fw_model_run.specs.Afterwards.{stage_of}
use Rattle.fw_model_run.specs.HalfSteps.{HalfStep}
use Rattle.fw_model_run.specs.Truth.{standing, in_truth, controller_at, deaf_says}
use Rattle.fw_model_run.proofs.HalfSteps.{stands_quiet}
use Rattle.fw_model_run.proofs.Hears.{heard_of, half_hears, reply_heard}
use Rattle.fw_model_run.proofs.Turns.{update_new}
use Rattle.fw_cmp.specs.declared.outcome.StartFault.TheVariants.{NotOwnPlug}

-- ---- one that has lost a response

pub deaf_turns : (s : State) (d : ℕ) → IsTrue (is_deaf s d) → turn_of s.clock.cycle (directory_of s) (controller_at s d) ≡ deaf_says s d
deaf_turns s d deaf = ap (λ b. cond b (deaf_turn s.clock.cycle (deaf_until (controller_at s d))) (next s.clock.cycle (directory_of s) (controller_at s d).state)) deaf

-- ---- one that has lost none

quiet_standing : (c : Current) (lost : Option Stage) → is_some lost ≡ false → standing c lost ≡ c
quiet_standing Nothing lost e = refl
quiet_standing (Asking j after) None e = refl
quiet_standing (Asking j after) (Some stage) e = absurd (grind (arith, e))
quiet_standing (Hearing j stage) lost e = refl
quiet_standing (Overtaken i o) lost e = refl

quiet_truth : (c : ControllerState) (lost : Option Stage) → is_some lost ≡ false → in_truth c lost ≡ c
quiet_truth c lost e = ap (λ x. record c { current = x }) (quiet_standing c.current lost e)

pub quiet_at : (s : State) (d : ℕ) → is_deaf s d ≡ false → controller_at s d ≡ record { state = s.controllers d; asked_at = s.asked_at d; lost = false }
quiet_at s d quiet = λ i. record { state = quiet_truth (s.controllers d) (s.lost d) quiet i; asked_at = s.asked_at d; lost = quiet i }

-- its turn
half_asks : (s : State) (d : ℕ) (c : Current) → IsHeard c → half_of s d c ≡ asks s d
half_asks s d Nothing h = refl
half_asks s d (Asking j stage) h = refl
half_asks s d (Hearing j stage) h = absurd h
half_asks s d (Overtaken i o) h = refl

pub quiet_turns : (s : State) (d : ℕ) → is_deaf s d ≡ false → IsHeard (s.controllers d).current → controller_at (after_half s d) d ≡ after_turn s.clock.cycle (directory_of s) (controller_at s d)
quiet_turns s d quiet heard = quiet_at (after_half s d) d quiet ∙ (new ∙ sym (ap (after_turn s.clock.cycle (directory_of s)) (quiet_at s d quiet)))
  where
    is : half s d ≡ asks s d
    is = half_asks s d (s.controllers d).current heard

    new : record { state = (after_half s d).controllers d; asked_at = (after_half s d).asked_at d; lost = false }
        ≡ after_turn s.clock.cycle (directory_of s) (record { state = s.controllers d; asked_at = s.asked_at d; lost = false })
    new =
        let c = update_new s.controllers d (half s d).controller ∙ ap (λ (h : HalfStep). h.controller) is in
        let a = update_new s.asked_at d (half s d).asked_at ∙ ap (λ (h : HalfStep). h.asked_at) is in
        λ i. record { state = c i; asked_at = a i; lost = false }

-- ---- a loss

pub loses_as : (s : State) (d : ℕ) → IsGood s → IsTrue (is_living s d) → IsTrue (has_request (s.controllers d).current) → controller_at (after_loss s d) d ≡ lost (controller_at s d)
loses_as s d g lives stands = go (s.controllers d).current refl stands
  where
    quiet : is_deaf s d ≡ false
    quiet = stands_quiet s d g stands

    go : (c : Current) → (s.controllers d).current ≡ c → IsTrue (has_request c) → controller_at (after_loss s d) d ≡ lost (controller_at s d)
    go Nothing e on = absurd (grind arith)
    go (Asking j stage) e on = absurd (grind arith)
    go (Overtaken i o) e on = absurd (grind arith)
    go (Hearing j stage) e on =
        let x = heard_of s d j stage g lives e in
        let h = half_hears s d j stage g e x in
        let r : Reply = reply_heard s d j stage x in
        let told : (after_loss s d).controllers d ≡ after_hear (s.controllers d) r = update_new s.controllers d (half s d).controller ∙ ap (λ (y : HalfStep). y.controller) h.half_is in
        let kept : (after_loss s d).lost d ≡ Some stage = update_new s.lost d (stage_of (s.controllers d).current) ∙ ap stage_of e in
        let asked : (after_loss s d).asked_at d ≡ s.asked_at d = update_new s.asked_at d (half s d).asked_at ∙ ap (λ (y : HalfStep). y.asked_at) h.half_is in
        let state : in_truth ((after_loss s d).controllers d) ((after_loss s d).lost d) ≡ s.controllers d =
        (λ i. in_truth (told i) (kept i)) ∙ (ap (λ c. record (s.controllers d) { current = standing (heard c r) (Some stage) }) e ∙ ap (λ c. record (s.controllers d) { current = c }) (sym e)) in
        (λ i. record { state = state i; asked_at = asked i; lost = is_some (kept i) }) ∙ sym (ap lost (quiet_at s d quiet))

-- ---- bus resets

-- a job that no answer has decided does not depend on where it stands
unheard_same : (epoch : ℕ) (c : ControllerState) (cur : Current) (o : Option Stage)
    → after_lost_reset epoch (record c { current = standing cur o }) ≡ after_lost_reset epoch (record c { current = cur })
unheard_same epoch c Nothing o = refl
unheard_same epoch c (Asking j after) None = refl
unheard_same epoch c (Asking j after) (Some stage) = refl
unheard_same epoch c (Hearing j stage) o = refl
unheard_same epoch c (Overtaken i x) o = refl

pub resets_as : (s : State) (e : ResetEntry) (d : ℕ) → controller_at (after_reset_entry s e) d ≡ after_bus_reset e.epoch (controller_at s d)
resets_as s e d = quiet_at (after_reset_entry s e) d refl ∙ (λ i. record { state = state i; asked_at = s.asked_at d; lost = false })
  where
    go : (b : Bool) → is_deaf s d ≡ b → state_reset e.epoch b (s.controllers d) ≡ state_reset e.epoch b (in_truth (s.controllers d) (s.lost d))
    go true f = sym (unheard_same e.epoch (s.controllers d) (s.controllers d).current (s.lost d))
    go false f = ap (after_reset e.epoch) (sym (quiet_truth (s.controllers d) (s.lost d) f))

    state : state_reset e.epoch (is_deaf s d) (s.controllers d) ≡ state_reset e.epoch (is_deaf s d) (in_truth (s.controllers d) (s.lost d))
    state = go (is_deaf s d) refl

-- ---- what is asked for

start_truth : (c : ControllerState) (o : Option Stage) → start (in_truth c o) ≡ start c
start_truth c o = go (free_slot c)
  where
    go : (free : Option ℕ) → start_at free (in_truth c o) ≡ start_at free c
    go None = refl
    go (Some i) = refl

pub start_same : (d : ℕ) (w : Wanted) (c : ControllerState) (o : Option Stage) → start_of d w (in_truth c o) ≡ start_of d w c
start_same d (PlugToPlug out into channel overhead) c o = start_truth c o
start_same d (BroadcastOut out overhead) c o = ap (λ r. cond (out.device == d) r (Err NotOwnPlug)) (start_truth c o)
start_same d (BroadcastIn into) c o = ap (λ r. cond (into.device == d) r (Err NotOwnPlug)) (start_truth c o)

given_truth : (r : Result ℕ StartFault) (slot : Slot) (c : ControllerState) (o : Option Stage) → in_truth (started r slot c) o ≡ started r slot (in_truth c o)
given_truth (Ok i) slot c o = refl
given_truth (Err f) slot c o = refl

pub starts_as : (s : State) (d : ℕ) (w : Wanted) → controller_at (with_connection s d w) d
    ≡ with_state (controller_at s d) (started (start_of d w (controller_at s d).state) (slot_of w) (controller_at s d).state)
starts_as s d w =
    let c : ControllerState = s.controllers d in
    let state : in_truth ((with_connection s d w).controllers d) (s.lost d) ≡ started (start_of d w (in_truth c (s.lost d))) (slot_of w) (in_truth c (s.lost d)) =
    ap (λ x. in_truth x (s.lost d)) (update_new s.controllers d (started (start_of d w c) (slot_of w) c))
    ∙ (given_truth (start_of d w c) (slot_of w) c (s.lost d) ∙ ap (λ r. started r (slot_of w) (in_truth c (s.lost d))) (sym (start_same d w c (s.lost d)))) in
    ap (with_state (controller_at s d)) state

fault_same : (c : ControllerState) (cur : Current) (o : Option Stage) (i : ℕ) → break_fault (record c { current = standing cur o }) i ≡ break_fault (record c { current = cur }) i
fault_same c Nothing o i = refl
fault_same c (Asking j after) None i = refl
fault_same c (Asking j after) (Some stage) i = refl
fault_same c (Hearing j stage) o i = refl
fault_same c (Overtaken k x) o i = refl

pub breaks_as : (s : State) (d i : ℕ) → break_fault (controller_at s d).state i ≡ break_fault (s.controllers d) i
breaks_as s d i = fault_same (s.controllers d) (s.controllers d).current (s.lost d) i

-- a break, by whether it is refused
abbrev breaking : ControllerState → ℕ → Option StartFault → ControllerState
breaking c i o = elim o as (λ x. ControllerState) [ None ↦ with_task c (record { slot = i; breaks = true }) | Some fault ↦ c ]

breaking_truth : (c : ControllerState) (i : ℕ) (f : Option StartFault) (o : Option Stage) → in_truth (breaking c i f) o ≡ breaking (in_truth c o) i f
breaking_truth c i None o = refl
breaking_truth c i (Some fault) o = refl

pub breaking_as : (s : State) (d i : ℕ) → controller_at (with_controller s d (break_started (s.controllers d) i)) d ≡ with_state (controller_at s d) (break_started (controller_at s d).state i)
breaking_as s d i =
    let c : ControllerState = s.controllers d in
    let state : in_truth ((with_controller s d (break_started c i)).controllers d) (s.lost d) ≡ break_started (in_truth c (s.lost d)) i =
    ap (λ x. in_truth x (s.lost d)) (update_new s.controllers d (break_started c i))
    ∙ (breaking_truth c i (break_fault c i) (s.lost d) ∙ ap (breaking (in_truth c (s.lost d)) i) (sym (breaks_as s d i))) in
    ap (with_state (controller_at s d)) state

-- ---- deaths

pub dies_as : (s : State) (d : ℕ) → controller_at (after_death s d) d ≡ first_listening
dies_as s d =
    let c = update_new s.controllers d new_controller in
    let a = update_new s.asked_at d 0 in
    let l = update_new s.lost d None in
    λ i. record { state = in_truth (c i) (l i); asked_at = a i; lost = is_some (l i) }
