-- A controller that hears the answer to its request stays in step.
use Rattle.fw_model_controllers.proofs.Common.{PlugAt, ◌≡◌, ◌≢◌, ℕ, ◌<◌, Bool, true, false, Option, Some, None, cond}
use Rattle.fw_model_controllers.proofs.Common.{refl, ap, subst, sym, ◌∙◌, arith, Swap, Reply, Account, Move, AllocateChannel, AllocateUnits}
use Rattle.fw_model_controllers.proofs.Common.{ConnectFirst, ConnectOverlaid, DisconnectInput, DisconnectOutput, ReleaseUnits, ReleaseChannel, Can}
use Rattle.fw_model_controllers.proofs.Common.{after, IsSound, Job, Stage, Hearing, Target, ControllerState}
use Rattle.fw_model_controllers.proofs.Common.{Fits, target_of, swap_of, after_hear, Keeps, Leaves, IsAnswer, succeeds, after_move, carried_out, Others, HalfStep, others_of, ControllerInStep}
use Rattle.fw_model_account.specs.Moves.{ConnectInput}
use Rattle.fw_model_account.proofs.Moves.{moves_keep}
use Rattle.fw_model_controllers.specs.Moves.{move_of}
use Rattle.fw_model_controllers.proofs.Holdings.{move_keeps, move_leaves}
use Rattle.fw_model_controllers.proofs.Goes.{keeps_self}
use Rattle.fw_model_controllers.proofs.HalfSteps.{half_step}
use Rattle.fw_model_controllers.proofs.Kept.{slots_kept}

-- the account stands still, or a move of controller c is made
pub data IsCarried (c : ℕ) (l m : Account) : Type 0 where
  still : m ≡ l → IsCarried c l m
  moved : (p : PlugAt) (move : Move) → Can c p move l → m ≡ after c p move l → IsCarried c l m

pub carried_is : (l : Account) (c : ℕ) (j : Job) (s : Stage) (others : Others) (t : Target) (r : Reply) → HalfStep l c j s others t r → IsCarried c l (carried_out c j s r l)
carried_is l c j s others t r h = go (swap_of j s) refl (succeeds (swap_of j s) r) refl
  where
    go : (o : Option Swap) → swap_of j s ≡ o → (b : Bool) → succeeds (swap_of j s) r ≡ b → IsCarried c l (cond b (after_move c (move_of j s) l) l)
    go o e false f = still refl
    go None e true f = let g = subst (λ x. succeeds x r ≡ true) e f in absurd (grind arith)
    go (Some swap) e true f = let m = h.moves swap e (subst (λ x. succeeds x r ≡ true) e f) in moved m.plug m.move m.is_move.can (ap (λ x. after_move c x l) m.move_is)

pub carried_sound : (l m : Account) (c : ℕ) → c < 63 → IsSound l → IsCarried c l m → IsSound m
carried_sound l m c lt s (still e) = subst IsSound (sym e) s
carried_sound l m c lt s (moved p move can e) = subst IsSound (sym e) (moves_keep c p move l lt s can)

pub carried_keeps : (l m : Account) (c : ℕ) → IsCarried c l m → Keeps l m
carried_keeps l m c (still e) = subst (Keeps l) (sym e) (keeps_self l)
carried_keeps l m c (moved p move can e) = subst (Keeps l) (sym e) (move_keeps c p move l can)

leaves_self : (d : ℕ) (l : Account) → Leaves d l l
leaves_self d l = record { holding = λ h has. has; addressed = refl }

pub carried_leaves : (l m : Account) (c d : ℕ) → c < 63 → d ≢ c → IsSound l → IsCarried c l m → Leaves d l m
carried_leaves l m c d lt ne s (still e) = subst (Leaves d l) (sym e) (leaves_self d l)
carried_leaves l m c d lt ne s (moved p move can e) = subst (Leaves d l) (sym e) (move_leaves c d p move l lt ne s can)

-- the reclaim second goes on
pub move_reclaims : (c : ℕ) (p : PlugAt) (m : Move) (l : Account) → (after c p m l).reclaiming ≡ l.reclaiming
move_reclaims c p (AllocateChannel ch) l = refl
move_reclaims c p (AllocateUnits ch u) l = refl
move_reclaims c p (ConnectFirst kind ch overhead) l = refl
move_reclaims c p (ConnectOverlaid kind) l = refl
move_reclaims c p (ConnectInput kind ch) l = refl
move_reclaims c p (DisconnectInput kind) l = refl
move_reclaims c p (DisconnectOutput kind) l = refl
move_reclaims c p (ReleaseUnits ch u) l = refl
move_reclaims c p (ReleaseChannel ch) l = refl

pub carried_reclaims : (l m : Account) (c : ℕ) → IsCarried c l m → m.reclaiming ≡ l.reclaiming
carried_reclaims l m c (still e) = ap (λ (x : Account). x.reclaiming) e
carried_reclaims l m c (moved p move can e) = ap (λ (x : Account). x.reclaiming) e ∙ move_reclaims c p move l

-- ---- the controller that hears

-- the controller whose job hears
abbrev pub hearing : ControllerState → Job → Stage → ControllerState
hearing c j s = record c { current = Hearing j s }

pub hear_half : (l : Account) (d : ℕ) (c : ControllerState) (j : Job) (s : Stage) (t : Target) (r : Reply) → d < 63 → IsSound l → Fits (hearing c j s) → target_of j s ≡ Some t → IsAnswer l t r
    → ControllerInStep l d (hearing c j s) → HalfStep l d j s (others_of (hearing c j s)) t r
hear_half l d c j s t r lt sound fits f a x = half_step l d j s (others_of (hearing c j s)) t r f
    (record { below = lt; sound = sound; job = fits.current.job; stage = fits.current.stage; step = x.current.step; answer = a })

pub hear_in_step : (l : Account) (d : ℕ) (c : ControllerState) (j : Job) (s : Stage) (t : Target) (r : Reply) → d < 63 → IsSound l → Fits (hearing c j s) → target_of j s ≡ Some t → IsAnswer l t r
    → ControllerInStep l d (hearing c j s) → ControllerInStep (carried_out d j s r l) d (after_hear (hearing c j s) r)
hear_in_step l d c j s t r lt sound fits f a x =
    let h = hear_half l d c j s t r lt sound fits f a x in
    let is = carried_is l d j s (others_of (hearing c j s)) t r h in
    record {
      current = record { slot = x.current.slot; within = x.current.within; step = h.step };
      slots = slots_kept l (carried_out d j s r l) d (hearing c j s) sound fits.slots (carried_keeps l (carried_out d j s r l) d is) (λ runs. carried_reclaims l (carried_out d j s r l) d is ∙ runs) x;
    }
