-- The requests for whose answer controllers wait.
use Rattle.fw_model_controllers.proofs.Common.{◌≡◌, ◌≢◌, ℕ, Bool, true, false, None, refl, ap, ◌∙◌}
use Rattle.fw_model_controllers.proofs.Common.{arith, nat_tests, PlugAt, update, Account, Move, AllocateChannel, AllocateUnits, ConnectFirst, ConnectOverlaid}
use Rattle.fw_model_controllers.proofs.Common.{DisconnectInput, DisconnectOutput, ReleaseUnits, ReleaseChannel, after, Free, Gone, Current}
use Rattle.fw_model_controllers.proofs.Common.{Nothing, Asking, Hearing, Overtaken, Directory, Job, Purpose, Make}
use Rattle.fw_model_controllers.proofs.Common.{Restore, Break, Stage, Begin, Made, Ended, ControllerState, with_slot, outstanding_of}
use Rattle.fw_model_account.specs.Moves.{ConnectInput}
use Rattle.fw_cmp_jobs.specs.declared.outcome.Outcome.TheVariants.{Reset}
use Rattle.fw_cmp.specs.Controllers.{IsHeard}
use Rattle.fw_cmp.specs.Resets.{interrupted, decided, overtaken, lost_reset, state_reset, after_reset as controller_reset}
use Rattle.fw_model_controllers.specs.Together.{IsGiven, connection, break}
use Rattle.fw_model_controllers.proofs.Carried.{IsCarried, still, moved}
use Rattle.fw_model_controllers.proofs.Given.{break_is_task}

-- ---- the table of outstanding requests

pub update_here : {A : Type 0} (f : ℕ → A) (d : ℕ) (v : A) → update f d v d ≡ v
update_here f d v = grind (arith, nat_tests)

pub update_there : {A : Type 0} (f : ℕ → A) (d k : ℕ) (v : A) → k ≢ d → update f d v k ≡ f k
update_there f d k v ne = grind (arith, nat_tests)

move_outstanding : (c : ℕ) (p : PlugAt) (m : Move) (l : Account) (k : ℕ) → (after c p m l).outstanding k ≡ l.outstanding k
move_outstanding c p (AllocateChannel ch) l k = refl
move_outstanding c p (AllocateUnits ch u) l k = refl
move_outstanding c p (ConnectFirst kind ch overhead) l k = refl
move_outstanding c p (ConnectOverlaid kind) l k = refl
move_outstanding c p (ConnectInput kind ch) l k = refl
move_outstanding c p (DisconnectInput kind) l k = refl
move_outstanding c p (DisconnectOutput kind) l k = refl
move_outstanding c p (ReleaseUnits ch u) l k = refl
move_outstanding c p (ReleaseChannel ch) l k = refl

pub carried_outstanding : (l m : Account) (c : ℕ) → IsCarried c l m → (k : ℕ) → m.outstanding k ≡ l.outstanding k
carried_outstanding l m c (still e) k = ap (λ (x : Account). x.outstanding k) e
carried_outstanding l m c (moved p move can e) k = ap (λ (x : Account). x.outstanding k) e ∙ move_outstanding c p move l k

-- ---- a controller that waits for no answer

pub heard_none : (dir : Directory) (current : Current) → IsHeard current → outstanding_of dir current ≡ None
heard_none dir Nothing h = refl
heard_none dir (Asking j s) h = refl
heard_none dir (Hearing j s) h = absurd h
heard_none dir (Overtaken i o) h = refl

-- ---- a reset

interrupted_quiet : (dir : Directory) (epoch : ℕ) (c : ControllerState) (j : Job) → outstanding_of dir (interrupted epoch c j).current ≡ None
interrupted_quiet dir epoch c j = go j.purpose
  where
    go : (p : Purpose) → outstanding_of dir (elim p as (λ _. ControllerState) [
      | Make ↦ with_slot (record c { current = Overtaken j.slot (Reset epoch) }) j.slot Free
      | Restore ↦ record c { current = Asking j Begin }
      | Break ↦ with_slot (record c { current = Overtaken j.slot (Reset epoch) }) j.slot Free
    ]).current ≡ None
    go Make = refl
    go Restore = refl
    go Break = refl

decided_quiet : (dir : Directory) (c : ControllerState) (j : Job) → outstanding_of dir c.current ≡ None → outstanding_of dir (decided c j).current ≡ None
decided_quiet dir c j x = go j.purpose
  where
    go : (p : Purpose) → outstanding_of dir (elim p as (λ _. ControllerState) [ Make ↦ c | Restore ↦ c | Break ↦ with_slot c j.slot (Gone j.connection) ]).current ≡ None
    go Make = x
    go Restore = x
    go Break = x

asking_reset : (dir : Directory) (epoch : ℕ) (c : ControllerState) (j : Job) (s : Stage) → outstanding_of dir (overtaken epoch (record c { current = Asking j s }) j s).current ≡ None
asking_reset dir epoch c j (Made f) = refl
asking_reset dir epoch c j (Ended e) = decided_quiet dir (record c { current = Asking j (Ended e) }) j refl
asking_reset dir epoch c j s = interrupted_quiet dir epoch (record c { current = Asking j s }) j

hearing_reset : (dir : Directory) (epoch : ℕ) (c : ControllerState) (j : Job) (s : Stage) → outstanding_of dir (overtaken epoch (record c { current = Hearing j s }) j s).current ≡ None
hearing_reset dir epoch c j (Made f) = refl
hearing_reset dir epoch c j (Ended e) = decided_quiet dir (record c { current = Hearing j (Ended e) }) j refl
hearing_reset dir epoch c j s = interrupted_quiet dir epoch (record c { current = Hearing j s }) j

current_outstanding : (dir : Directory) (epoch : ℕ) (c : ControllerState) (current : Current) → outstanding_of dir (controller_reset epoch (record c { current = current })).current ≡ None
current_outstanding dir epoch c Nothing = refl
current_outstanding dir epoch c (Asking j s) = asking_reset dir epoch c j s
current_outstanding dir epoch c (Hearing j s) = hearing_reset dir epoch c j s
current_outstanding dir epoch c (Overtaken i o) = refl

-- the same if the response to its request was lost
lost_outstanding : (dir : Directory) (epoch : ℕ) (c : ControllerState) (current : Current) → outstanding_of dir (lost_reset epoch (record c { current = current }) current).current ≡ None
lost_outstanding dir epoch c Nothing = refl
lost_outstanding dir epoch c (Asking j s) = interrupted_quiet dir epoch (record c { current = Asking j s }) j
lost_outstanding dir epoch c (Hearing j s) = interrupted_quiet dir epoch (record c { current = Hearing j s }) j
lost_outstanding dir epoch c (Overtaken i o) = refl

pub reset_outstanding : (dir : Directory) (epoch : ℕ) (lost : Bool) (c : ControllerState) → outstanding_of dir (state_reset epoch lost c).current ≡ None
reset_outstanding dir epoch true c = lost_outstanding dir epoch c c.current
reset_outstanding dir epoch false c = current_outstanding dir epoch c c.current

-- ---- a job that is given

pub given_current : (c e : ControllerState) → IsGiven c e → e.current ≡ c.current
given_current c e (connection i s start_ok making fits is) = ap (λ (x : ControllerState). x.current) is
given_current c e (break i none is) = ap (λ (x : ControllerState). x.current) (is ∙ break_is_task c i none)
