-- What a command that breaks no rule does: its actions, all that they write, and the state that they lead to.
use Rattle.std.specs.Prelude.{ℕ, zero, suc, ◌≡◌, ◌+◌, ◌*◌, ◌==◌, ◌&&◌, if◌then◌else◌, List, [], ◌∷◌, ◌++◌, length, map, Option, Some, None, is_some, true, false, IsTrue, IsFalse}
use Rattle.fw_terms.specs.declared.device.DeviceKind.{DeviceKind}
use Rattle.fw_terms.specs.declared.plug.PlugAt.{PlugAt}
use Rattle.fw_log_entry.specs.declared.entry.ResetEntry.{ResetEntry}
use Rattle.fw_log_entry.specs.declared.entry.Timed.{Timed}
use Rattle.fw_tree.specs.declared.facts.End.{End}
use Rattle.fw_order.specs.declared.order.Transaction.{Transaction}
use Rattle.fw_order.specs.declared.order.Wanted.{Wanted}
use Rattle.fw_order.specs.declared.order.Order.{Order}
use Rattle.fw_order.specs.declared.order.Order.TheVariants as Orders
use Rattle.fw_tape.specs.declared.system.TapeSystem.{TapeSystem}
use Rattle.fw_model_run.specs.Decks.{Obeyed}
use Rattle.fw_model_run.specs.Frames.{next_told}
use Rattle.fw_model_run.specs.Streams.{GivenBlock, talkers}
use Rattle.fw_model_run.specs.State.{State, living}
use Rattle.fw_model_run.specs.Bidding.{is_candidate}
use Rattle.fw_model_run.specs.Recording.{heard_in}
use Rattle.fw_model_run.specs.HalfSteps.{has_request, is_unsettled}
use Rattle.fw_model_run.specs.Actions.{Action, Withhold, AddDevice, AddCable, ResetBus, StartConnection, StartBreak, HalfStep, Rest, Unsettled, Pass, EndSecond}
use Rattle.fw_model_run.specs.Deeds.{Transitions}
use Rattle.fw_model_run.specs.Actions.{Die, CarryOut, Lose, TellLoss, Start, Ask, Answer, ShowWord, SendCommand, SendFrame}
use Rattle.fw_model_run.specs.Actions.{Receive, InsertTape, EjectTape, StartCycle, SendPacket, BecomeCandidate, Contend, TieReel, KeepBlock, Finish}

-- the same action so many times
unfoldable pub times : ℕ → Action → List Action
times zero a = []
times (suc n) a = times n a ++ a ∷ []

-- one half step of each of these controllers
abbrev pub half_steps_of : List ℕ → List Action
half_steps_of ds = map HalfStep ds

-- So many rounds, in each of which every living controller, in order of declaration, takes one half step. If none of them has
-- anything to do, all further rounds do nothing, and they may be taken at once.
pub data Rounds : ℕ → State → List Action → List Timed → State → Type 0 where
  none : {s : State} → Rounds 0 s [] [] s
  round : {n : ℕ} {s t : State} → (m : State) → (actions : List Action) → (first rest : List Timed)
      → Transitions s (half_steps_of (living s)) first m → Rounds n m actions rest t
      → Rounds (suc n) s (half_steps_of (living s) ++ actions) (first ++ rest) t
  rest : {n : ℕ} {s t : State} {out : List Timed} → Transitions s (Rest (n * length (living s)) ∷ []) out t → Rounds n s (Rest (n * length (living s)) ∷ []) out t

-- A device sends the frames that it has, one after another, and each write is answered before the next.
pub data SendsAll (d : ℕ) : State → List Action → List Timed → State → Type 0 where
  quiet : {s : State} → next_told s d ≡ None → SendsAll d s [] [] s
  sends : {s t : State} → (m : State) → (actions : List Action) → (first rest : List Timed)
      → Transitions s (SendFrame d ∷ Receive None ∷ []) first m → SendsAll d m actions rest t
      → SendsAll d s (SendFrame d ∷ Receive None ∷ actions) (first ++ rest) t

-- the action by which the next cycle comes: if the second is over at it, its end comes first
abbrev pub next_cycle : State → Action
next_cycle s = if s.account.reclaiming && (s.clock.cycle + 1 == s.clock.over_at) then EndSecond else Pass 1

-- These output plugs send their packets of a cycle, one after another.
abbrev pub SendsPackets : List PlugAt → State → List Action → List Timed → State → Type 0
SendsPackets [] s actions out t = (actions ≡ []) × (out ≡ []) × (t ≡ s)
SendsPackets (p ∷ plugs) s actions out t =
    (block : Option GivenBlock) × (m : State) × (more : List Action) × (first rest : List Timed)
    × Transitions s (SendPacket p block ∷ []) first m × SendsPackets plugs m more rest t × (actions ≡ SendPacket p block ∷ more) × (out ≡ first ++ rest)

-- A cycle comes and is written: the cycle start, and then the packet of each output plug that talks in it, in order of channel.
pub record WritesCycle (s : State) (actions : List Action) (out : List Timed) (t : State) : Type 0 where
  pub mid : State
  pub packets : List Action
  pub first : List Timed
  pub last : List Timed
  pub comes : Transitions s (next_cycle s ∷ StartCycle ∷ []) first mid
  pub sends : SendsPackets (talkers mid.account) mid packets last t
  pub actions_are : actions ≡ next_cycle s ∷ StartCycle ∷ packets
  pub out_is : out ≡ first ++ last

-- and what a deck records of it goes onto the reel
pub record KeepsCycle (s : State) (actions : List Action) (out : List Timed) (t : State) : Type 0 where
  pub sent : State
  pub written : List Action
  pub writes : WritesCycle s written out sent
  pub keeps : Transitions sent (KeepBlock (heard_in sent out) ∷ []) [] t
  pub actions_are : actions ≡ written ++ KeepBlock (heard_in sent out) ∷ []

-- before the first device it only comes
abbrev pub HasCycle : Option ResetEntry → State → List Action → List Timed → State → Type 0
HasCycle None s actions out t = Transitions s (next_cycle s ∷ []) out t × (actions ≡ next_cycle s ∷ [])
HasCycle (Some e) s actions out t = KeepsCycle s actions out t

-- so many cycles, one after another
unfoldable pub HasCycles : ℕ → State → List Action → List Timed → State → Type 0
HasCycles zero s actions out t = (actions ≡ []) × (out ≡ []) × (t ≡ s)
HasCycles (suc n) s actions out t =
    (m : State) × (now more : List Action) × (first rest : List Timed)
    × HasCycle s.account.latest s now first m × HasCycles n m more rest t × (actions ≡ now ++ more) × (out ≡ first ++ rest)

-- A constructor an order, and two if the state decides.
pub data Carries : State → Order → List Action → List Timed → State → Type 0 where
  withholds : {s t : State} {out : List Timed} → Transitions s (Withhold ∷ []) out t → Carries s Orders.Withhold (Withhold ∷ []) out t
  -- a bus that withholds the channel goes on
  withholds_already : {s : State} → IsTrue s.account.withheld → Carries s Orders.Withhold [] [] s
  declares : {s t : State} {name : List ℕ} {kind : DeviceKind} {ports speed : ℕ} {out : List Timed}
      → Transitions s (AddDevice name kind ports speed ∷ []) out t → Carries s (Orders.Declare name kind ports speed) (AddDevice name kind ports speed ∷ []) out t
  joins : {s t : State} {a b : End} {out : List Timed} → Transitions s (AddCable a b ∷ []) out t → Carries s (Orders.Cable a b) (AddCable a b ∷ []) out t
  resets : {s t : State} {d : ℕ} {out : List Timed} → Transitions s (ResetBus d ∷ []) out t → Carries s (Orders.Reset d) (ResetBus d ∷ []) out t
  connects : {s t : State} {d i : ℕ} {w : Wanted} {out : List Timed}
      → Transitions s (StartConnection d w ∷ []) out t → Carries s (Orders.Connect d w i) (StartConnection d w ∷ []) out t
  breaks : {s t : State} {d i : ℕ} {out : List Timed} → Transitions s (StartBreak d i ∷ []) out t → Carries s (Orders.Break d i) (StartBreak d i ∷ []) out t
  steps : {s t : State} {d count : ℕ} {out : List Timed}
      → Transitions s (times count (HalfStep d)) out t → Carries s (Orders.Step d count) (times count (HalfStep d)) out t
  -- the event is written by the state after the rounds
  settled : {s t : State} {n : ℕ} {actions : List Action} {out : List Timed}
      → Rounds n s actions out t → IsFalse (is_unsettled t) → Carries s (Orders.Settle n) actions out t
  unsettled : {s t : State} {n : ℕ} → (m : State) → (actions : List Action) → (out last : List Timed)
      → Rounds n s actions out m → Transitions m (Unsettled ∷ []) last t → Carries s (Orders.Settle n) (actions ++ Unsettled ∷ []) (out ++ last) t
  -- if the second is over on the way, its end comes at its own cycle
  waits : {s t : State} {n : ℕ} {out : List Timed} → Transitions s (Pass n ∷ []) out t → Carries s (Orders.Wait n) (Pass n ∷ []) out t
  waits_over : {s t : State} {n before after : ℕ} {out : List Timed}
      → n ≡ before + 1 + after → Transitions s (Pass before ∷ EndSecond ∷ Pass after ∷ []) out t
      → Carries s (Orders.Wait n) (Pass before ∷ EndSecond ∷ Pass after ∷ []) out t
  writes_cycles : {s t : State} {n : ℕ} {actions : List Action} {out : List Timed} → HasCycles n s actions out t → Carries s (Orders.Cycles n) actions out t
  -- `late` has the request carried out that stands
  dies : {s t : State} {d : ℕ} {out : List Timed} → Transitions s (Die d ∷ []) out t → Carries s (Orders.Die d false) (Die d ∷ []) out t
  dies_late : {s t : State} {d : ℕ} {out : List Timed}
      → Transitions s (CarryOut d ∷ Die d ∷ []) out t → Carries s (Orders.Die d true) (CarryOut d ∷ Die d ∷ []) out t
  dies_idle : {s t : State} {d : ℕ} {out : List Timed}
      → IsFalse (has_request (s.controllers d).current) → Transitions s (Die d ∷ []) out t → Carries s (Orders.Die d true) (Die d ∷ []) out t
  -- the response is written, and then the event
  loses : {s t : State} {d : ℕ} {out : List Timed}
      → Transitions s (Lose d ∷ TellLoss d ∷ []) out t → Carries s (Orders.Lose d) (Lose d ∷ TellLoss d ∷ []) out t
  -- a living controller goes on
  starts : {s t : State} {d : ℕ} {out : List Timed} → Transitions s (Start d ∷ []) out t → Carries s (Orders.Start d) (Start d ∷ []) out t
  goes_on : {s : State} {d : ℕ} → IsFalse (s.dead d) → Carries s (Orders.Start d) [] [] s
  transacts : {s t : State} {x : Transaction} {out : List Timed}
      → Transitions s (Ask x ∷ Answer ∷ []) out t → Carries s (Orders.Transact x) (Ask x ∷ Answer ∷ []) out t
  shows : {s t : State} {d offset : ℕ} {out : List Timed}
      → Transitions s (ShowWord d offset ∷ []) out t → Carries s (Orders.Show d offset) (ShowWord d offset ∷ []) out t
  -- the device answers the write, and its unit may carry the command out; the response is sent first, and then the notices
  commanded : {s t : State} {a b : ℕ} {bytes : List ℕ} → (obeyed : Option Obeyed) → (m : State) → (actions : List Action) → (first rest : List Timed)
      → Transitions s (SendCommand a b bytes ∷ Receive obeyed ∷ []) first m → SendsAll b m actions rest t
      → Carries s (Orders.Command a b bytes) (SendCommand a b bytes ∷ Receive obeyed ∷ actions) (first ++ rest) t
  inserts : {s t : State} {d tape : ℕ} {system : TapeSystem} → (m : State) → (actions : List Action) → (first rest : List Timed)
      → Transitions s (InsertTape d tape system ∷ []) first m → SendsAll d m actions rest t
      → Carries s (Orders.Insert d tape system) (InsertTape d tape system ∷ actions) (first ++ rest) t
  ejects : {s t : State} {d : ℕ} → (m : State) → (actions : List Action) → (first rest : List Timed)
      → Transitions s (EjectTape d ∷ []) first m → SendsAll d m actions rest t
      → Carries s (Orders.Eject d) (EjectTape d ∷ actions) (first ++ rest) t
  -- without a tape nothing changes
  ejects_nothing : {s : State} {d : ℕ} → IsFalse (is_some (s.decks d).unit.tape) → Carries s (Orders.Eject d) [] [] s
  -- a candidate stays one
  becomes_candidate : {s t : State} {d : ℕ} {out : List Timed}
      → Transitions s (BecomeCandidate d ∷ []) out t → Carries s (Orders.Candidate d) (BecomeCandidate d ∷ []) out t
  stays_candidate : {s : State} {d : ℕ} → IsTrue (is_candidate s d) → Carries s (Orders.Candidate d) [] [] s
  contends : {s t : State} {d count : ℕ} {out : List Timed}
      → Transitions s (times count (Contend d)) out t → Carries s (Orders.Contend d count) (times count (Contend d)) out t
  dubs : {s t : State} {d : ℕ} {out : List Timed} → Transitions s (TieReel d ∷ []) out t → Carries s (Orders.Dub d) (TieReel d ∷ []) out t
  ends : {s t : State} {out : List Timed} → Transitions s (Finish ∷ []) out t → Carries s Orders.End (Finish ∷ []) out t
