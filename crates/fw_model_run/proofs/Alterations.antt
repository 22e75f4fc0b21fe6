-- How an action alters a state: one of few ways. Most laws of all actions go over these, so a new action that alters the state in one of
-- these ways stands in none of their proofs.
use Rattle.fw_model_run.proofs.Common.{◌≡◌, ◌<◌, List, Option, Some, None, refl, IsTrue, length, [], ℕ}
use Rattle.fw_model_run.proofs.Common.{⊤, DeviceKind, Packet, Async, Entry, Topology, CandidateState, Stage, break_fault, break_started}
use Rattle.fw_model_run.proofs.Common.{packet_of, kind_at, Transaction, Wanted, Action, AddCable, AddDevice, CarryOut, Die, EjectTape, EndSecond, HalfStep, InsertTape, KeepBlock, Lose, Pass, Receive}
use Rattle.fw_model_run.proofs.Common.{ResetBus, SendFrame, StartBreak, after_cycles, after_death, after_second, after_start}
use Rattle.fw_model_run.proofs.Common.{slot_of, start_of, with_connection, with_topology, bid_step, bidden, DeckState}
use Rattle.fw_model_run.proofs.Common.{FrameWrite, second_over, withheld, IsGood, after_half, half, with_controller, HasNumbers, access_request, answer_packet, bus_manager_id_after, target_node}
use Rattle.fw_model_run.proofs.Common.{transaction_head, State, entered, is_linked, is_living, manager_in, with_device}
use Rattle.std.proofs.Common.{Ok}
use Rattle.fw_terms.specs.Devices.{is_capable}
use Rattle.fw_cmp_jobs.specs.Fits.{SlotFits}
use Rattle.fw_model_run.specs.Actions.{AccessFits}
use Rattle.fw_model_run.specs.Actions.{IsSpared}
use Rattle.fw_model_run.specs.Elections.{with_new_candidate}
use Rattle.fw_model_run.specs.Entries.{died, dubbing, started}
use Rattle.fw_model_run.specs.Recording.{tied_to, with_block}
use Rattle.fw_model_run.proofs.Fitting.{EntryFits}
use Rattle.fw_model_run.proofs.Led.{LeavesAccount}
use Rattle.fw_model_run.proofs.Marks.{Marks, bid_mark, half_mark, nothing, ends}
use Rattle.fw_model_run.proofs.Plain.{ArePlain}

-- ---- how a state is altered

-- It has what the entry that is written does not tell, and that entry if nothing else tells it. A new action that changes what the
-- account, a controller and a candidate do not know is one of the last two.
pub data Alteration : Type 0 where
  NewDevice : (name : List ℕ) → (kind : DeviceKind) → (ports speed : ℕ) → Alteration  -- a device more, which is off the bus
  NewCable : (topology : Topology) → Alteration  -- a cable more, which brings no device onto the bus
  Halved : (device : ℕ) → (lost : ℕ → Option Stage) → (resets half_steps : ℕ) → Alteration  -- a half step of a controller, heard or not
  Connected : (device : ℕ) → (wanted : Wanted) → Alteration  -- its controller is asked for a new connection
  Breaks : (device slot : ℕ) → Alteration  -- its controller is asked for a break
  Passed : (cycles : ℕ) → Alteration
  Over : Alteration  -- the second is over, and a cycle has passed
  Died : (device : ℕ) → Alteration
  Started : (device : ℕ) → Alteration
  Withheld : Alteration
  Asked : (transaction : Transaction) → Alteration  -- a transaction of the script waits
  Answered : (transaction : Transaction) → (response : Packet) → Alteration
  Candidate : (device : ℕ) → Alteration  -- a candidate more
  Bid : (device manager : ℕ) → (candidate : CandidateState) → Alteration  -- a half step of a candidate
  Tied : (device : ℕ) → Alteration  -- the reel is emptied
  Kept : (block : Option (List ℕ)) → Alteration  -- a block goes onto the reel
  -- what neither the account nor any controller, candidate or unit knows: half steps that are counted, written cycles, a frame
  Beside : (says : Option Entry) → (half_steps written : ℕ) → (frame : Option FrameWrite) → Alteration
  AtUnits : (says : Option Entry) → (decks : ℕ → DeckState) → (frame : Option FrameWrite) → Alteration  -- units change alone

abbrev pub altered : State → Alteration → State
altered s (NewDevice name kind ports speed) = record s { declared = with_device s.declared name kind ports speed }
altered s (NewCable g) = with_topology s g
altered s (Halved d lost resets half_steps) = record (after_half s d) { lost = lost; resets = resets; half_steps = half_steps }
altered s (Connected d w) = with_connection s d w
altered s (Breaks d i) = with_controller s d (break_started (s.controllers d) i)
altered s (Passed n) = after_cycles s n
altered s Over = after_cycles (after_second s) 1
altered s (Died d) = after_death s d
altered s (Started d) = after_start s d
altered s Withheld = record s { account = entered s.account withheld }
altered s (Asked x) = record s { transaction = Some x }
altered s (Answered x response) = record s { transaction = None; bus_manager_id = bus_manager_id_after s x }
altered s (Candidate d) = record s { election = with_new_candidate s.election d }
altered s (Bid d manager c) = bidden s d (bid_step s d manager c)
altered s (Tied d) = tied_to s d
altered s (Kept block) = with_block s block
altered s (Beside says half_steps written frame) = record s { half_steps = half_steps; written = written; frame = frame }
altered s (AtUnits says decks frame) = record s { decks = decks; frame = frame }

-- what is written
abbrev pub told_by : State → Alteration → Option Entry
told_by s (Halved d lost resets half_steps) = (half s d).says
told_by s Over = Some second_over
told_by s (Died d) = Some (died d)
told_by s (Started d) = Some (started d)
told_by s Withheld = Some withheld
told_by s (Asked x) = Some (Async (packet_of (transaction_head s x) (access_request x.access)))
told_by s (Answered x response) = Some (Async response)
told_by s (Bid d manager c) = (bid_step s d manager c).says
told_by s (Tied d) = Some (dubbing d)
told_by s (Beside says half_steps written frame) = says
told_by s (AtUnits says decks frame) = says
told_by s _ = None

-- ---- which action it is

-- no cycle goes by
abbrev pub IsTimeless : Action → Type 0
IsTimeless (Pass n) = ⊥
IsTimeless EndSecond = ⊥
IsTimeless _ = ⊤

-- a bus reset may come of it
abbrev pub MayBegin : Action → Type 0
MayBegin (AddDevice name kind ports speed) = ⊤
MayBegin (AddCable a b) = ⊤
MayBegin (ResetBus d) = ⊤
MayBegin (HalfStep d) = ⊤
MayBegin _ = ⊥

pub begun_timeless : (a : Action) → MayBegin a → IsTimeless a
begun_timeless (Pass n) begins = absurd begins
begun_timeless EndSecond begins = absurd begins
begun_timeless _ begins = tt

-- a half step of a controller, or its request is carried out
abbrev pub IsHalf : Action → Type 0
IsHalf (HalfStep d) = ⊤
IsHalf (CarryOut d) = ⊤
IsHalf (Lose d) = ⊤
IsHalf _ = ⊥

-- a unit may change of it
abbrev pub IsAtUnits : Action → Type 0
IsAtUnits (SendFrame d) = ⊤
IsAtUnits (Receive obeyed) = ⊤
IsAtUnits (InsertTape d tape system) = ⊤
IsAtUnits (EjectTape d) = ⊤
IsAtUnits _ = ⊥

-- a transaction of the script is answered before anything else happens
abbrev pub Waits : State → Alteration → Type 0
Waits s (Answered x response) = s.transaction ≡ Some x
Waits s _ = s.transaction ≡ None

-- what holds if an action alters the state so, and which action it is if a law speaks of that
abbrev pub Allows : State → Action → Alteration → Type 0
Allows s a (NewDevice name kind ports speed) = IsTimeless a × ⊤
Allows s a (NewCable g) = IsTimeless a × ⊤
Allows s a (Halved d lost resets half_steps) = IsTimeless a × IsHalf a × IsTrue (is_living s d)
Allows s a (Connected d w) = IsTimeless a × ((i : ℕ) × (start_of d w (s.controllers d) ≡ Ok i)) × IsTrue (is_living s d) × SlotFits (slot_of w)
Allows s a (Breaks d i) = IsTimeless a × (a ≡ StartBreak d i) × IsTrue (is_living s d) × (break_fault (s.controllers d) i ≡ None)
Allows s a (Passed n) = (a ≡ Pass n) × ⊤
Allows s a Over = (a ≡ EndSecond) × IsTrue s.account.reclaiming
Allows s a (Died d) = IsTimeless a × (a ≡ Die d) × IsTrue (is_living s d)
Allows s a (Started d) = IsTimeless a × IsTrue (s.dead d) × IsTrue (is_linked s d)
Allows s a Withheld = IsTimeless a × (s.declared.names ≡ [])
Allows s a (Asked x) = IsTimeless a × IsSpared s.election x.access × IsTrue (is_linked s x.to) × AccessFits x.access
Allows s a (Answered x response) = IsTimeless a × (answer_packet s (target_node s x) (transaction_head s x) (access_request x.access) ≡ Some response)
Allows s a (Candidate d) = IsTimeless a × IsTrue (is_living s d) × IsTrue (is_capable (kind_at s.declared.kinds d))
Allows s a (Bid d manager c) = IsTimeless a × IsTrue (is_living s d) × (s.election.candidates d ≡ Some c) × (manager_in s.account.latest ≡ Some manager)
Allows s a (Tied d) = IsTimeless a × (d < length s.declared.names)
Allows s a (Kept block) = IsTimeless a × (a ≡ KeepBlock block)
Allows s a (Beside says half_steps written frame) = IsTimeless a × ArePlain says × Marks a says × (IsGood s → LeavesAccount s.account says) × (IsGood s → HasNumbers s → EntryFits says)
Allows s a (AtUnits says decks frame) = IsTimeless a × ArePlain says × Marks a says × IsAtUnits a × (IsGood s → LeavesAccount s.account says) × (IsGood s → HasNumbers s → EntryFits says)

-- what an alteration writes marks what the action says
pub marked : (s : State) (a : Action) (x : Alteration) → Allows s a x → Marks a (told_by s x)
marked s a (Halved d lost resets half_steps) ok = nothing (half_mark s d)
marked s a Over ok = ends ok.0 refl
marked s a (Bid d manager c) ok = nothing (bid_mark s d manager c)
marked s a (Beside says half_steps written frame) ok = ok.2
marked s a (AtUnits says decks frame) ok = ok.2
marked s a _ ok = nothing refl
