-- What holds of each state of a run.
use Rattle.std.specs.Prelude.{ℕ, ◌+◌, ◌<◌, ◌≤◌, ◌^◌, ◌≡◌, List, [], ◌∷◌, length, Option, Some, None, is_some, Bool, IsTrue, IsFalse, ⊤}
use Rattle.fw_log_entry.specs.declared.entry.ResetEntry.{ResetEntry}
use Rattle.fw_tree.specs.Topology.{Made}
use Rattle.fw_model_account.specs.Fold.{no_account}
use Rattle.fw_terms.specs.declared.device.DeviceKind.{DeviceKind}
use Rattle.fw_terms.specs.Devices.{is_contender}
use Rattle.fw_terms.specs.declared.plug.PlugAt.{PlugAt}
use Rattle.fw_model_account.specs.Account.{Account, talks}
use Rattle.fw_devices.specs.Network.{AreKinds, kind_at}
use Rattle.fw_devices.specs.Entries.{IsResetEntry, node_number}
use Rattle.fw_devices.specs.Resets.{Shows}
use Rattle.fw_cmp.specs.declared.current.Current.{Current}
use Rattle.fw_cmp.specs.declared.current.Current.TheVariants.{Asking}
use Rattle.fw_cmp_jobs.specs.declared.stage.Stage.{Stage}
use Rattle.fw_cmp.specs.Controllers.{ControllerState, first_state as new_controller}
use Rattle.fw_model_reclaim.specs.Worlds.{World, CanReclaim}
use Rattle.fw_model_rounds.specs.HalfSteps.{AsksWhatStands}
use Rattle.fw_fcp.specs.declared.frame.Frame.{Frame}
use Rattle.fw_tape.specs.declared.cassette.Cassette.{Cassette}
use Rattle.fw_avc.specs.declared.notify.Kept.{Kept}
use Rattle.fw_node.specs.Fcp.{IsSendable}
use Rattle.fw_order.specs.declared.limits.TheConstants.{MOST_HALF_STEPS, MOST_RESETS, MOST_WRITTEN_CYCLES}
use Rattle.fw_model_run.specs.Decks.{DeckState, IsAtRest}
use Rattle.fw_model_run.specs.State.{State, Clock, Declared, device_in, linked_number, directory_of, epoch_of, is_living}

-- the account, all controllers, and what they know of the bus; one that has lost a response as one that heard it
abbrev pub world_of : State → World
world_of s = record { account = s.account; controllers = s.controllers; directory = directory_of s }

-- the lists are of the same devices, whose PHYs say what their kinds have
pub record AreDeclared (n : Declared) : Type 0 where
  pub made : Made n.topology
  pub kinds : AreKinds n.topology.devices n.kinds
  pub named : length n.names ≡ length n.topology.devices

-- the manager of a reset entry contends (IEEE 1394-1995, isochronous resource manager)
abbrev pub ManagerContends : List DeviceKind → ResetEntry → Type 0
ManagerContends kinds e = (n : ℕ) → e.manager ≡ Some n → (d : ℕ) × (node_number e.nodes d ≡ Some n) × IsTrue (is_contender (kind_at kinds d))

-- the entry is one of a bus reset of this cabling, whichever device began it
abbrev pub IsEntryOf : Declared → ResetEntry → Type 0
IsEntryOf n e = (d : ℕ) × IsResetEntry n.topology n.kinds e.epoch d e

-- before the first device there is nothing but what the bus withholds, and then the latest reset entry shows the bus, and is still one of its cabling
abbrev pub IsLatest : Option ResetEntry → Declared → Account → Type 0
IsLatest None n l = (n.names ≡ []) × (l ≡ record no_account { withheld = l.withheld })
IsLatest (Some e) n l =
    (0 < length n.names) × Shows n.topology n.kinds e × (e.epoch ≤ MOST_RESETS) × ManagerContends n.kinds e × (e.root < length e.nodes) × IsEntryOf n e

-- the second of the latest bus reset is over exactly when its end is written
pub record IsTimed (c : Clock) (reclaiming : Bool) : Type 0 where
  pub second : IsTrue reclaiming → c.cycle < c.over_at
  pub over_at : c.over_at ≤ c.cycle + 8000
  pub cycle : c.cycle ≤ 2 ^ 52

-- ---- decks

-- a node with a link
abbrev pub IsLinkedNode : Option ResetEntry → ℕ → Type 0
IsLinkedNode latest n = (d : ℕ) × (device_in latest n ≡ Some d) × IsTrue (is_some (linked_number latest d))

-- those that asked to be told of changes
abbrev pub AreLinkedNodes : Option ResetEntry → List Kept → Type 0
AreLinkedNodes latest [] = ⊤
AreLinkedNodes latest (k ∷ kept) = IsLinkedNode latest k.node × AreLinkedNodes latest kept

-- a response that waits, if any, can be sent to such a node
abbrev pub IsForLinkedNode : Option ResetEntry → Option (ℕ × Frame) → Type 0
IsForLinkedNode latest None = ⊤
IsForLinkedNode latest (Some told) = IsLinkedNode latest told.0 × IsSendable told.1

-- a tape has not moved for longer than time has gone by
abbrev pub HasMovedWithin : ℕ → Option Cassette → Type 0
HasMovedWithin cycle None = ⊤
HasMovedWithin cycle (Some c) = c.passed ≤ cycle

-- What is kept of the unit of a device. What it has to tell is for nodes with a link, and off the bus it is at rest.
pub record IsDeck (latest : Option ResetEntry) (cycle device : ℕ) (k : DeckState) : Type 0 where
  pub kept : AreLinkedNodes latest k.unit.kept
  pub waiting : IsForLinkedNode latest k.waiting
  pub moved : HasMovedWithin cycle k.unit.tape
  pub off : IsFalse (is_some (linked_number latest device)) → IsAtRest k

-- ---- lost responses

-- the job asks, and waits for no answer
abbrev pub Asks : Current → Type 0
Asks (Asking j stage) = ⊤
Asks _ = ⊥

-- A controller that has lost a response stands as one that has heard it, so its job asks; and the bus reset that it is to force was
-- counted. No more bus resets came than count, and those are within the limit.
pub record AreLosses (lost : ℕ → Option Stage) (controllers : ℕ → ControllerState) (resets epoch : ℕ) : Type 0 where
  pub asks : (d : ℕ) → IsTrue (is_some (lost d)) → Asks (controllers d).current
  pub counted : (d : ℕ) → IsTrue (is_some (lost d)) → epoch < resets
  pub came : epoch ≤ resets
  pub few : resets ≤ MOST_RESETS

-- ---- the whole

-- What holds in each state of a run: what is declared, the latest bus reset, the account with all controllers, and each limit.
pub record IsGood (s : State) : Type 0 where
  pub declared : AreDeclared s.declared
  pub latest : IsLatest s.account.latest s.declared s.account
  -- the account is sound and all controllers are in step with it, and what reclaiming rests on holds
  pub reclaims : CanReclaim (world_of s)
  -- a request is outstanding only of a stage that makes one
  pub stands : (d : ℕ) → AsksWhatStands (s.controllers d).current
  -- a device without a living controller has one that has just started
  pub unused : (d : ℕ) → IsFalse (is_living s d) → s.controllers d ≡ new_controller
  pub time : IsTimed s.clock s.account.reclaiming
  pub losses : AreLosses s.lost s.controllers s.resets (epoch_of s.account.latest)
  pub half_steps : s.half_steps ≤ MOST_HALF_STEPS
  pub written : s.written ≤ MOST_WRITTEN_CYCLES
  pub decks : (d : ℕ) → IsDeck s.account.latest s.clock.cycle d (s.decks d)
  pub streams : (p : PlugAt) → IsFalse (talks s.account p) → s.streams p ≡ 0
