-- The state of a run. It has the account, which the bus does not keep.
use Rattle.std.specs.Prelude.{ℕ, zero, suc, ◌==◌, ◌&&◌, not, Bool, false, Option, Some, None, is_some, unwrap_or, if◌then◌else◌}
use Rattle.std.specs.Prelude.{List, [], ◌∷◌, ◌++◌, length, slice_get}
use Rattle.fw_terms.specs.declared.device.DeviceKind.{DeviceKind}
use Rattle.fw_terms.specs.declared.plug.PlugAt.{PlugAt}
use Rattle.fw_terms.specs.declared.device.DeviceKind.TheVariants.{Relay}
use Rattle.fw_terms.specs.Devices.{code_of, has_unit}
use Rattle.fw_log_entry.specs.declared.entry.Entry.{Entry}
use Rattle.fw_log_entry.specs.declared.entry.ResetEntry.{ResetEntry}
use Rattle.fw_log_entry.specs.declared.nodes.NodeRow.{NodeRow}
use Rattle.fw_tree.specs.Topology.{Topology, no_cables}
use Rattle.fw_model_account.specs.Account.{Account, talks}
use Rattle.fw_model_account.specs.Fold.{no_account, next_account}
use Rattle.fw_devices.specs.Network.{facts_of, kind_at}
use Rattle.fw_devices.specs.Entries.{node_number, node_device}
use Rattle.fw_cmp.specs.Controllers.{ControllerState, first_state as new_controller}
use Rattle.fw_cmp_jobs.specs.declared.directory.Directory.{Directory}
use Rattle.fw_cmp_jobs.specs.declared.stage.Stage.{Stage}
use Rattle.fw_order.specs.declared.order.Transaction.{Transaction}
use Rattle.fw_model_run.specs.Decks.{DeckState, FrameWrite, first_deck}
use Rattle.fw_model_run.specs.Elections.{Election, no_election}
use Rattle.fw_model_run.specs.Dubs.{Dub, no_dub}

-- The devices, in order of declaration, which are their numbers, and the cables between them.
pub record Declared : Type 0 where
  pub names : List (List ℕ)
  pub kinds : List DeviceKind
  pub topology : Topology

-- the cycle that has come, and when the reclaim second is over
pub record Clock : Type 0 where
  pub cycle : ℕ
  pub over_at : ℕ  -- the cycle from which on the second of the latest bus reset is over; that of the first one, which begins none

-- What a run has: its devices, the account of its entries, its controllers, decks, candidates and the reel, and what it has used of the limits.
pub record State : Type 0 where
  pub declared : Declared
  pub clock : Clock
  pub half_steps : ℕ  -- all that `step` and `settle` have given
  pub written : ℕ  -- the cycles that `cycles` has written
  pub account : Account  -- of the entries so far
  pub bus_manager_id : ℕ  -- the word of BUS_MANAGER_ID
  -- By device; that of a device that has none, or whose controller died, is one that has just started. One that has lost the
  -- response to its request is outstanding here as one that heard it: so what it has allocated is that of its slots and its stage.
  pub controllers : ℕ → ControllerState
  pub asked_at : ℕ → ℕ  -- by device, the cycle of the latest request of its controller
  -- by device, the stage at which its controller in truth still stands that has lost a response since the latest bus reset
  pub lost : ℕ → Option Stage
  -- How many bus resets commands began, and how many responses they lost. A bus reset that a controller forces was counted as its
  -- response was lost.
  pub resets : ℕ
  pub dead : ℕ → Bool  -- the controller died, and was not started again
  pub transaction : Option Transaction  -- a transaction of the script whose request was written, and that is not answered yet
  pub decks : ℕ → DeckState  -- by device; that of a device that has no unit is as at first
  pub frame : Option FrameWrite  -- a frame that was written, and whose write is not answered yet
  pub streams : PlugAt → ℕ  -- how many data packets each output plug has sent since it began to talk; 0 if it does not talk
  pub election : Election  -- who is a candidate for the bus manager
  pub dub : Dub  -- what a deck records

-- no devices and no cables
abbrev pub nothing_declared : Declared
nothing_declared = record { names = []; kinds = []; topology = record { devices = []; cables = no_cables } }

-- before the first device: nothing is declared, no bus reset was, and no controller has done anything
abbrev pub first_state : State
first_state = record {
  declared = nothing_declared;
  clock = record { cycle = 0; over_at = 0 };
  half_steps = 0;
  written = 0;
  account = no_account;
  bus_manager_id = 0x3F;
  controllers = λ d. new_controller;
  asked_at = λ d. 0;
  lost = λ d. None;
  resets = 0;
  dead = λ d. false;
  transaction = None;
  decks = λ d. first_deck;
  frame = None;
  streams = λ p. 0;
  election = no_election;
  dub = no_dub;
}

-- the account with one entry more, if it has one
abbrev pub entered : Account → Entry → Account
entered l e = unwrap_or (next_account l e) l

-- the account with the entry that was written, or with none
abbrev pub entered_by : Account → Option Entry → Account
entered_by l None = l
entered_by l (Some e) = entered l e

-- the counts of the plugs that talk by an account; that of each other plug is 0, and so begins anew if it begins to talk again
abbrev pub while_talking : Account → (PlugAt → ℕ) → PlugAt → ℕ
while_talking l counts p = if talks l p then counts p else 0

-- one device more, which has no cable yet
abbrev pub with_device : Declared → List ℕ → DeviceKind → ℕ → ℕ → Declared
with_device n name kind ports speed = record {
  names = n.names ++ name ∷ [];
  kinds = n.kinds ++ kind ∷ [];
  topology = record { devices = n.topology.devices ++ facts_of kind ports speed ∷ []; cables = n.topology.cables };
}

-- ---- lists by number

-- f 0, .., f (n - 1)
unfoldable pub list_to : {A : Type 0} → ℕ → (ℕ → A) → List A
list_to zero f = []
list_to (suc n) f = list_to n f ++ f n ∷ []

-- the numbers below n that pass, in order
unfoldable pub numbers_to : ℕ → (ℕ → Bool) → List ℕ
numbers_to zero test = []
numbers_to (suc n) test = numbers_to n test ++ (if test n then n ∷ [] else [])

-- ---- devices on the bus, by the latest reset entry

-- the epoch: how many bus resets there were
abbrev pub epoch_of : Option ResetEntry → ℕ
epoch_of None = 0
epoch_of (Some e) = e.epoch

-- the node number of a device
abbrev pub number_in : Option ResetEntry → ℕ → Option ℕ
number_in None d = None
number_in (Some e) d = node_number e.nodes d

-- the device that a node is
abbrev pub device_in : Option ResetEntry → ℕ → Option ℕ
device_in None n = None
device_in (Some e) n = node_device e.nodes n

-- the node that is the isochronous resource manager
abbrev pub manager_in : Option ResetEntry → Option ℕ
manager_in None = None
manager_in (Some e) = e.manager

-- the device is a relay, by its row
abbrev pub is_relay : Option NodeRow → Bool
is_relay None = false
is_relay (Some row) = row.kind == code_of Relay

-- the node if it has a link
abbrev pub with_link : List NodeRow → Option ℕ → Option ℕ
with_link rows None = None
with_link rows (Some n) = if is_relay (slice_get rows n) then None else Some n

-- the node number of a device that is on the bus with its link: its node answers requests
abbrev pub linked_number : Option ResetEntry → ℕ → Option ℕ
linked_number None d = None
linked_number (Some e) d = with_link e.nodes (node_number e.nodes d)

-- the device is on the bus
abbrev pub is_on : State → ℕ → Bool
is_on s d = is_some (number_in s.account.latest d)

-- the device is on the bus, and its node has a link layer
abbrev pub is_linked : State → ℕ → Bool
is_linked s d = is_some (linked_number s.account.latest d)

-- a deck or a camcorder, on the bus or off
abbrev pub has_deck : State → ℕ → Bool
has_deck s d = has_unit (kind_at s.declared.kinds d)

-- a device on the bus that has a link, and whose controller has not died
abbrev pub is_living : State → ℕ → Bool
is_living s d = is_linked s d && not (s.dead d)

-- the controller has lost a response since the latest bus reset
abbrev pub is_deaf : State → ℕ → Bool
is_deaf s d = is_some (s.lost d)

-- the living controllers, in order of declaration
abbrev pub living : State → List ℕ
living s = numbers_to (length s.declared.names) (is_living s)

-- ---- what controllers know of the bus

-- They are told at a bus reset: the nodes that have a link, the manager, and when the second is over.
abbrev pub directory_of : State → Directory
directory_of s = record { node = list_to 63 (linked_number s.account.latest); manager = manager_in s.account.latest; over_at = s.clock.over_at }
