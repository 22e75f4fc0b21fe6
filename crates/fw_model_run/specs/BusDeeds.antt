-- Deeds of the bus: what is withheld, declared and joined, and bus resets that a command begins.
use Rattle.std.specs.Prelude.{ℕ, ◌≡◌, ◌<◌, ◌≤◌, List, [], ◌∷◌, length, Bool, true, false, IsTrue, IsFalse}
use Rattle.fw_terms.specs.declared.device.DeviceKind.{DeviceKind}
use Rattle.fw_log_entry.specs.declared.entry.ResetEntry.{ResetEntry}
use Rattle.fw_tree.specs.declared.facts.End.{End}
use Rattle.fw_tree.specs.Topology.{Topology, IsJoined}
use Rattle.fw_order.specs.declared.limits.TheConstants.{MOST_RESETS}
use Rattle.fw_model_run.specs.Entries.{withheld}
use Rattle.fw_model_run.specs.Afterwards.{beginning, counting, with_topology}
use Rattle.fw_model_run.specs.State.{State, with_device, entered, is_on}
use Rattle.fw_model_run.specs.Deed.{Deed, silent, saying, IsNextReset, reset_by}
use Rattle.fw_model_run.specs.Found.{FoundBefore, FoundBetween, FoundCable}

-- ---- channel 31

-- before the first device, and once
pub record MayWithhold (s : State) : Type 0 where
  pub early : s.declared.names ≡ []
  pub once : IsFalse s.account.withheld

-- the bus withholds channel 31 from now on
abbrev pub withholding : State → Deed
withholding s = saying s (MayWithhold s) withheld (record s { account = entered s.account withheld })

-- ---- a device more

-- at most 63 devices, with 1 to 27 ports, at 100, 200 or 400 Mbit/s
pub record MayDeclare (s : State) (ports speed : ℕ) : Type 0 where
  pub room : length s.declared.names < 63
  pub least : 1 ≤ ports
  pub most : ports ≤ 27
  pub rate : speed ≤ 2

-- the state with the device
abbrev pub with_declared : State → List ℕ → DeviceKind → ℕ → ℕ → State
with_declared s name kind ports speed = record s { declared = with_device s.declared name kind ports speed }

-- the first device begins the first bus reset
pub record MayDeclareFirst (s after : State) (ports speed : ℕ) (e : ResetEntry) : Type 0 where
  pub device : MayDeclare s ports speed
  pub reset : IsNextReset after 0 e

-- a device is declared beside those with these names; before the first bus reset none counted
abbrev pub declaring_beside : (names : List (List ℕ)) → State → List ℕ → DeviceKind → ℕ → ℕ → FoundBefore names → Deed
declaring_beside [] s name kind ports speed e =
    reset_by (beginning (with_declared s name kind ports speed)) (MayDeclareFirst s (with_declared s name kind ports speed) ports speed e) e
declaring_beside (x ∷ names) s name kind ports speed found = silent s (MayDeclare s ports speed) (with_declared s name kind ports speed)

-- a device is declared
abbrev pub declaring : (s : State) → List ℕ → DeviceKind → ℕ → ℕ → FoundBefore s.declared.names → Deed
declaring s name kind ports speed found = declaring_beside s.declared.names s name kind ports speed found

-- ---- bus resets that commands begin

-- a command begins the bus reset, which counts
pub record MayBeginReset (s : State) (initiator : ℕ) (e : ResetEntry) : Type 0 where
  pub counts : s.resets < MOST_RESETS
  pub reset : IsNextReset s initiator e

-- a device on the bus
pub record MayResetBus (s : State) (d : ℕ) (e : ResetEntry) : Type 0 where
  pub on : IsTrue (is_on s d)
  pub begins : MayBeginReset s d e

-- the device begins a bus reset
abbrev pub resetting : State → ℕ → ResetEntry → Deed
resetting s d e = reset_by (counting s) (MayResetBus s d e) e

-- ---- a cable more

-- the cable may be joined, and the end on the bus begins a bus reset, in which the tree has the cable
pub record MayJoin (s : State) (a b : End) (g : Topology) (initiator : ℕ) (e : ResetEntry) : Type 0 where
  pub joined : IsJoined s.declared.topology g a b
  pub begins : MayBeginReset (with_topology s g) initiator e

-- A cable joins two ends, of which the first is on the bus or off, and so the second. If one is on and one is off, the end that was on
-- the bus begins a bus reset (own).
abbrev pub joining_ends : (one other : Bool) → State → (a b : End) → (g : Topology) → FoundBetween one other → Deed
joining_ends true false s a b g e = reset_by (counting (with_topology s g)) (MayJoin s a b g a.device e) e
joining_ends false true s a b g e = reset_by (counting (with_topology s g)) (MayJoin s a b g b.device e) e
joining_ends true true s a b g found = silent s (IsJoined s.declared.topology g a b) (with_topology s g)
joining_ends false false s a b g found = silent s (IsJoined s.declared.topology g a b) (with_topology s g)

-- a cable is joined
abbrev pub joining : (s : State) → (a b : End) → FoundCable (is_on s a.device) (is_on s b.device) → Deed
joining s a b found = joining_ends (is_on s a.device) (is_on s b.device) s a b found.topology found.begun
