-- What holds in each state of a run, and of each answer in its log.
use Rattle.std.specs.Prelude.{ℕ, ◌≡◌, ◌<◌, ◌==◌, ◌≤◌, ◌&&◌, ◌↔◌, List, ◌∷◌, ◌++◌, Option, Some, None, length, if◌then◌else◌, IsTrue, ⊤}
use Rattle.std.specs.Int.{to_be_bytes, w32}
use Rattle.fw_terms.specs.declared.label.Label.TheVariants.{Procedure, Script}
use Rattle.fw_terms.specs.Labels.{label_code}
use Rattle.fw_words.specs.Quadlet.{quadlet_at}
use Rattle.fw_async.specs.declared.packet.Packet.{Packet}
use Rattle.fw_async.specs.declared.packet.Packet.TheVariants.{WriteQuadlet, WriteBlock, WriteReply, CycleStart, Lock, LockReply}
use Rattle.fw_async.specs.declared.packet.Packet.TheVariants.{ReadQuadlet, ReadBlock, ReadQuadletReply, ReadBlockReply}
use Rattle.fw_log_entry.specs.declared.entry.Entry.{Entry}
use Rattle.fw_log_entry.specs.declared.entry.Entry.TheVariants.{Reset, Async, Iso, Event, Outcome, Shown, End}
use Rattle.fw_log_entry.specs.declared.entry.ShownEntry.{ShownEntry}
use Rattle.fw_log_entry.specs.declared.entry.Timed.{Timed}
use Rattle.fw_log_entry.specs.Log.{TimedFits}
use Rattle.fw_tree.specs.Cables.{IsOnBus}
use Rattle.fw_model_account.specs.Account.{Account, Request}
use Rattle.fw_model_account.specs.Listing.{IsAllocatedForFlows}
use Rattle.fw_log_entry.specs.Network.{device_of_id}
use Rattle.fw_model_account.specs.Words.{Register, register_of, word_of, word_of_device}
use Rattle.fw_model_account.specs.Fold.{account_of, entries_of}
use Rattle.fw_model_account.specs.Sound.{IsSound, IsConflictFree}
use Rattle.fw_model_audit.specs.Looked.{looked, ShowsWords}
use Rattle.fw_cmp_jobs.specs.declared.connection.Connection.{Connection}
use Rattle.fw_cmp_jobs.specs.declared.connection.Flow.{Flow}
use Rattle.fw_cmp_jobs.specs.declared.connection.Slot.TheVariants.{Established}
use Rattle.fw_cmp.specs.Controllers.{slot_at}
use Rattle.fw_model_controllers.specs.Together.{AreInStep, AreSettled, IsWhole}
use Rattle.fw_model_run.specs.State.{State, first_state, directory_of, is_on}
use Rattle.fw_model_run.specs.Actions.{Action}
use Rattle.fw_model_run.specs.Deeds.{Transitions}

-- in a settled state what is allocated is exactly what the standing flows take and what controllers left that died since the
-- latest bus reset; and each standing connection is whole
pub record IsCharged (s : State) : Type 0 where
  pub allocations : IsAllocatedForFlows s.account
  pub connections : (d i : ℕ) (conn : Connection) (f : Flow) → slot_at (s.controllers d) i ≡ Established conn f → IsWhole s.account d conn f

-- a state to which these entries lead
pub record IsSoundAt (log : List Timed) (s : State) : Type 0 where
  pub account : account_of (entries_of log) ≡ Some s.account
  pub sound : IsSound s.account
  pub free : IsConflictFree s.account
  pub step : AreInStep (directory_of s) s.account s.controllers
  pub settled : AreSettled s.account s.controllers → IsCharged s
  -- the nodes of the latest reset entry are the declared devices to which a walk of cables leads from device 0
  pub bus : (d : ℕ) → d < length s.declared.names → IsTrue (is_on s d) ↔ IsOnBus s.declared.topology.cables d

-- ---- answers to controllers

-- a word that a complete response to a controller's request shows, and the node that it is sent to
abbrev pub shown_in : Packet → Option (ℕ × ℕ)
shown_in (ReadQuadletReply h rcode value) = if (h.tl == label_code Procedure) && (rcode == 0) then Some (h.destination, value) else None
shown_in (LockReply h rcode function bytes) = if (h.tl == label_code Procedure) && (rcode == 0) && (length bytes == 4) then Some (h.destination, quadlet_at bytes 0) else None
shown_in (WriteQuadlet h offset value) = None
shown_in (WriteBlock h offset bytes) = None
shown_in (WriteReply h rcode) = None
shown_in (ReadQuadlet h offset) = None
shown_in (ReadBlock h offset len) = None
shown_in (ReadBlockReply h rcode bytes) = None
shown_in (CycleStart h offset time) = None
shown_in (Lock h offset function bytes) = None

-- the word that is shown to a requester is that of the account, if its outstanding request is at a register of the account
abbrev pub IsShownWord : Account → Option (ℕ × ℕ) → Type 0
IsShownWord l None = ⊤
IsShownWord l (Some shown) =
    (c : ℕ) (request : Request) (register : Register) → device_of_id l.latest shown.0 ≡ Some c → l.outstanding c ≡ Some request
    → register_of l.latest request.target request.address ≡ Some register → shown.1 ≡ word_of l register

-- the word of an entry that shows one is that of the account, if the account has the register
abbrev pub IsWordOf : Account → ShownEntry → Type 0
IsWordOf l s = (word : ℕ) → word_of_device l s.device s.offset ≡ Some word → s.word ≡ word

-- the words that an entry shows are those of the account
abbrev pub HasWords : Account → Entry → Type 0
HasWords l (Async p) = IsShownWord l (shown_in p)
HasWords l (Reset r) = ⊤
HasWords l (Iso p) = ⊤
HasWords l (Event e) = ⊤
HasWords l (Outcome o) = ⊤
HasWords l (Shown s) = IsWordOf l s
HasWords l End = ⊤

-- what an entry shows of registers of the account is their words; and where a watched register is answered or shown, it is there
abbrev pub IsAnswered : Account → Entry → Type 0
IsAnswered l e = HasWords l e × ShowsWords l (looked e)

-- ---- answers to the script

-- a complete response to a quadlet read of the script, or to a swap, shows the account's word, if the account has the register
abbrev pub IsReadBy : Account → Packet → Packet → Type 0
IsReadBy l (ReadQuadlet h offset) (ReadQuadletReply k rcode value) =
    h.tl ≡ label_code Script → rcode ≡ 0
    → (register : Register) → register_of l.latest h.destination offset ≡ Some register → value ≡ word_of l register
IsReadBy l (Lock h offset function bytes) (LockReply k rcode swapped old) =
    h.tl ≡ label_code Script → rcode ≡ 0
    → (register : Register) → register_of l.latest h.destination offset ≡ Some register → old ≡ to_be_bytes w32 (word_of l register)
IsReadBy l _ _ = ⊤

-- two entries that follow each other
abbrev pub IsReadIn : Account → Entry → Entry → Type 0
IsReadIn l (Async p) (Async q) = IsReadBy l p q
IsReadIn l _ _ = ⊤

-- Actions from the first state on, and the log that they write: in each state on the way the account of the entries so far
-- is defined, sound and in step with all controllers, and no channel has two talkers; each prefix of the log is reached; each
-- complete answer, and each shown word, equals the account's word before it; and each entry may be written, in cycles that
-- never fall.
pub record IsSoundThroughout (actions : List Action) (log : List Timed) : Type 0 where
  pub states : (done later : List Action) (prefix : List Timed) (s : State) → actions ≡ done ++ later → Transitions first_state done prefix s → IsSoundAt prefix s
  pub fronts : (prefix rest : List Timed) → log ≡ prefix ++ rest
      → (done : List Action) × (later : List Action) × (s : State) × (actions ≡ done ++ later) × Transitions first_state done prefix s
  pub answers : (prefix rest : List Timed) (t : Timed) → log ≡ prefix ++ t ∷ rest → (l : Account) × (account_of (entries_of prefix) ≡ Some l) × IsAnswered l t.what
  pub reads : (prefix rest : List Timed) (t u : Timed) → log ≡ prefix ++ t ∷ u ∷ rest
      → (l : Account) × (account_of (entries_of prefix) ≡ Some l) × IsReadIn l t.what u.what
  pub fits : (prefix rest : List Timed) (t : Timed) → log ≡ prefix ++ t ∷ rest → TimedFits t
  pub cycles : (prefix rest : List Timed) (t u : Timed) → log ≡ prefix ++ t ∷ u ∷ rest → t.cycle ≤ u.cycle
