-- Who is elected bus manager, by the entries of a log, and what a run keeps of it.
use Rattle.std.specs.Prelude.{ℕ, ◌≡◌, ◌≢◌, ◌==◌, ◌≤◌, ◌<◌, List, [], ◌∷◌, ◌++◌, Option, Some, None, is_some, if◌then◌else◌, IsTrue, IsFalse, ⊤}
use Rattle.fw_async.specs.declared.packet.Packet.{Packet}
use Rattle.fw_async.specs.declared.packet.Packet.TheVariants.{WriteQuadlet, WriteBlock, WriteReply, ReadQuadlet, ReadBlock, ReadQuadletReply, ReadBlockReply, CycleStart, Lock, LockReply}
use Rattle.fw_terms.specs.declared.label.Label.TheVariants.{BusManager}
use Rattle.fw_terms.specs.Labels.{label_code}
use Rattle.fw_terms.specs.Tables.{update}
use Rattle.fw_log_entry.specs.declared.entry.Entry.{Entry}
use Rattle.fw_log_entry.specs.declared.entry.Entry.TheVariants.{Reset, Async, Iso, Event, Outcome, Shown, End}
use Rattle.fw_log_entry.specs.declared.entry.ResetEntry.{ResetEntry}
use Rattle.fw_log_entry.specs.declared.entry.Timed.{Timed}
use Rattle.fw_model_account.specs.Fold.{entries_of}
use Rattle.fw_model_account.specs.Words.{node_of}
use Rattle.fw_manager.specs.Bids.{CandidateState, stage_in}
use Rattle.fw_manager.specs.declared.candidate.BidProgress.TheVariants.{Heard}
use Rattle.fw_node.specs.Contents.{node_id}
use Rattle.fw_words.specs.Quadlet.{quadlet_at}
use Rattle.fw_order.specs.declared.order.Transaction.{Transaction}
use Rattle.fw_model_run.specs.Actions.{Action, IsSpared}
use Rattle.fw_model_run.specs.Deeds.{Transitions}
use Rattle.fw_model_run.specs.Entries.{elected, defeated}
use Rattle.fw_model_run.specs.State.{State, first_state, epoch_of, linked_number, is_linked}

-- ---- by entries

-- the answer to a bid, a lock response with its label: the node ID that it is sent to, and the old word that it shows
abbrev pub bid_answer : Packet → Option (ℕ × ℕ)
bid_answer (LockReply h rcode function bytes) = if h.tl == label_code BusManager then Some (h.destination, quadlet_at bytes 0) else None
bid_answer (WriteQuadlet h offset value) = None
bid_answer (WriteBlock h offset bytes) = None
bid_answer (WriteReply h rcode) = None
bid_answer (ReadQuadlet h offset) = None
bid_answer (ReadBlock h offset len) = None
bid_answer (ReadQuadletReply h rcode value) = None
bid_answer (ReadBlockReply h rcode bytes) = None
bid_answer (CycleStart h offset time) = None
bid_answer (Lock h offset function bytes) = None

-- The latest bus reset, and the answers to bids since it: the node ID of the first that found no bus manager, who is the winner, and the
-- word that the latest answer to each node ID showed.
pub record Answers : Type 0 where
  pub reset : Option ResetEntry
  pub winner : Option ℕ
  pub heard : ℕ → Option ℕ

-- no bid is answered yet since this bus reset
abbrev pub no_answers : Option ResetEntry → Answers
no_answers reset = record { reset = reset; winner = None; heard = λ id. None }

-- the winner stays; if there is none yet, it is who was shown 3F, the word for no bus manager
abbrev pub first_won : Option ℕ → ℕ → ℕ → Option ℕ
first_won (Some winner) id word = Some winner
first_won None id word = if word == 0x3F then Some id else None

-- the answers with one more
abbrev pub with_answer : Answers → Option (ℕ × ℕ) → Answers
with_answer a None = a
with_answer a (Some x) = record a { winner = first_won a.winner x.0 x.1; heard = update a.heard x.0 (Some x.1) }

-- the answers after one entry more; a bus reset forgets them
abbrev pub answers_after : Answers → Entry → Answers
answers_after a (Reset r) = no_answers (Some r)
answers_after a (Async p) = with_answer a (bid_answer p)
answers_after a (Iso p) = a
answers_after a (Event e) = a
answers_after a (Outcome o) = a
answers_after a (Shown s) = a
answers_after a End = a

-- the answers after these entries more
abbrev pub answers_from : Answers → List Entry → Answers
answers_from a [] = a
answers_from a (e ∷ es) = answers_from (answers_after a e) es

-- the answers of a log
abbrev pub answers_of : List Timed → Answers
answers_of log = answers_from (no_answers None) (entries_of log)

-- the node ID of a device
abbrev pub id_of : Option ResetEntry → ℕ → ℕ
id_of reset d = node_id (node_of reset d)

-- no bus reset is among these entries
abbrev pub IsNoReset : Entry → Type 0
IsNoReset (Reset r) = ⊥
IsNoReset (Async p) = ⊤
IsNoReset (Iso p) = ⊤
IsNoReset (Event e) = ⊤
IsNoReset (Outcome o) = ⊤
IsNoReset (Shown s) = ⊤
IsNoReset End = ⊤

-- no bus reset is among the entries of a log
abbrev pub HasNoReset : List Timed → Type 0
HasNoReset [] = ⊤
HasNoReset (t ∷ log) = IsNoReset t.what × HasNoReset log

-- ---- what holds of entries

-- an answer to a bid shows the word that BUS_MANAGER_ID held
abbrev pub ShowsHeld : State → Entry → Type 0
ShowsHeld s (Async p) = (id word : ℕ) → bid_answer p ≡ Some (id, word) → word ≡ s.bus_manager_id
ShowsHeld s (Reset r) = ⊤
ShowsHeld s (Iso p) = ⊤
ShowsHeld s (Event e) = ⊤
ShowsHeld s (Outcome o) = ⊤
ShowsHeld s (Shown x) = ⊤
ShowsHeld s End = ⊤

-- What holds of an entry that is written in a state, after these answers: an elected device is the winner, and a defeated one has heard
-- another word than that for no bus manager.
pub record IsBid (a : Answers) (s : State) (e : Entry) : Type 0 where
  pub elected : (d : ℕ) → e ≡ elected d → IsTrue (is_some (linked_number a.reset d)) × (a.winner ≡ Some (id_of a.reset d))
  pub defeated : (d : ℕ) → e ≡ defeated d → (word : ℕ) × (a.heard (id_of a.reset d) ≡ Some word) × (word ≢ 0x3F)
  pub answers : ShowsHeld s e

-- ---- what a state of a run has of them

-- What a candidate has heard in this epoch is the word of the latest answer to its node; if that was the word for no bus manager, its
-- node is the winner.
pub record HasHeard (a : Answers) (s : State) (d word : ℕ) : Type 0 where
  pub linked : IsTrue (is_linked s d)
  pub heard : a.heard (id_of s.account.latest d) ≡ Some word
  pub won : word ≡ 0x3F → a.winner ≡ Some (id_of s.account.latest d)

-- a node's number stands in BUS_MANAGER_ID
pub record Holds (id word : ℕ) : Type 0 where
  pub is : id ≡ node_id word
  pub low : word < 63

-- What a state of a run has of the answers to bids: who has won holds BUS_MANAGER_ID, and each candidate has heard what was answered.
pub record IsElection (a : Answers) (s : State) : Type 0 where
  pub latest : a.reset ≡ s.account.latest
  -- before the first candidate there is none, and nobody has won
  pub none : IsFalse s.election.begun → (d : ℕ) → s.election.candidates d ≡ None
  pub nobody : IsFalse s.election.begun → a.winner ≡ None
  pub holds : (id : ℕ) → a.winner ≡ Some id → Holds id s.bus_manager_id
  -- no bid is of an epoch that is still to come
  pub past : (d : ℕ) (c : CandidateState) → s.election.candidates d ≡ Some c → c.epoch ≤ epoch_of s.account.latest
  pub heard : (d word : ℕ) (c : CandidateState) → s.election.candidates d ≡ Some c → stage_in (epoch_of s.account.latest) c ≡ Heard word → HasHeard a s d word
  -- from the first candidate on no transaction of the script swaps BUS_MANAGER_ID
  pub spared : (x : Transaction) → s.transaction ≡ Some x → IsSpared s.election x.access

-- ---- the theorem

-- An entry of a log, and the state in which it was written.
pub record WrittenIn (actions : List Action) (prefix : List Timed) (t : Timed) : Type 0 where
  pub done : List Action
  pub later : List Action
  pub state : State
  pub actions_are : actions ≡ done ++ later
  pub steps : Transitions first_state done prefix state
  pub bid : IsBid (answers_of prefix) state t.what

-- Of actions and their log: between two bus resets one device at most is elected, and it is the winner; from the answer to it to the
-- next bus reset BUS_MANAGER_ID holds its node number; each defeated candidate has heard another word, and each answer to a bid shows
-- the word that BUS_MANAGER_ID held. Which device is elected, if any, is not said.
pub record ElectsOne (actions : List Action) (log : List Timed) : Type 0 where
  pub one : (prefix middle rest : List Timed) (t u : Timed) (d e : ℕ) → log ≡ prefix ++ t ∷ (middle ++ u ∷ rest) → t.what ≡ elected d → u.what ≡ elected e
      → HasNoReset middle → d ≡ e
  pub entries : (prefix rest : List Timed) (t : Timed) → log ≡ prefix ++ t ∷ rest → WrittenIn actions prefix t
  pub holds : (done later : List Action) (prefix : List Timed) (s : State) (id : ℕ) → actions ≡ done ++ later → Transitions first_state done prefix s
      → (answers_of prefix).winner ≡ Some id → Holds id s.bus_manager_id
