-- The controller with its current job, as it is picked.
use Rattle.fw_cmp.proofs.Common.{
  ◌≡◌,
  ℕ,
  List,
  [],
  refl,
  ap,
  sym,
  Slot,
  Current,
  Nothing,
  Asking,
  Hearing,
  Overtaken,
  WaitingJob,
  Directory,
  ControllerState,
  Fits,
  CurrentReached,
  CanGoOn,
  resumed_current,
}
use Rattle.fw_cmp.proofs.Common.{picked, ready}
use Rattle.fw_cmp.proofs.Picking.{picked_fits, picked_slots, picked_goes_on}
use Rattle.fw_cmp.proofs.Going.{going_reached}

-- a controller of which only the slots and the current job are told
abbrev pub with_slots : List Slot → Current → ControllerState
with_slots ss cur = record { slots = ss; waiting = []; current = cur }

pub resumed_slots : (c e : ControllerState) (d : Directory) (cur : Current) → c.slots ≡ e.slots → resumed_current c d cur ≡ resumed_current e d cur
resumed_slots c e d Nothing same = refl
resumed_slots c e d (Asking j s) same = ap (λ (ss : List Slot). resumed_current (with_slots ss Nothing) d (Asking j s)) same
resumed_slots c e d (Hearing j s) same = refl
resumed_slots c e d (Overtaken i o) same = refl

same_state : (p : ControllerState) (ss : List Slot) (ts : List WaitingJob) (cur : Current) → ss ≡ p.slots → ts ≡ p.waiting → cur ≡ p.current → record { slots = ss; waiting = ts; current = cur } ≡ p
same_state p ss ts cur a b e = λ i. record { slots = a i; waiting = b i; current = e i }

-- what is picked, by its parts
pub is_picked : (now : ℕ) (d : Directory) (c : ControllerState) (ts : List WaitingJob) (cur : Current) → cur ≡ (picked now d c).current → ts ≡ (picked now d c).waiting
    → record { slots = c.slots; waiting = ts; current = cur } ≡ picked now d c
is_picked now d c ts cur current waiting = same_state (picked now d c) c.slots ts cur (sym (picked_slots now d c)) waiting current

pub ready_reached : (now : ℕ) (d : Directory) (c : ControllerState) → Fits c → CanGoOn d c → CurrentReached d (ready now d c).current
ready_reached now d c fits h = going_reached d (picked now d c) (picked_fits now d c fits) (picked_goes_on now d c h)
