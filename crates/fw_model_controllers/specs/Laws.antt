-- What the controllers and the account keep, whatever happens: the laws of this crate, as its functions promise them.
use Rattle.std.specs.Prelude.{◌≡◌, ◌≢◌, ◌<◌, ℕ, true, false, Option, Some, None, IsTrue, IsFalse}
use Rattle.fw_async.specs.declared.packet.Packet.{Packet}
use Rattle.fw_log_entry.specs.declared.entry.Entry.TheVariants.{Async}
use Rattle.fw_log_entry.specs.declared.nodes.NodeRow.{NodeRow}
use Rattle.fw_log_entry.specs.declared.entry.ResetEntry.{ResetEntry}
use Rattle.fw_terms.specs.declared.plug.PlugAt.{PlugAt}
use Rattle.fw_csr.specs.declared.reply.Reply.{Reply}
use Rattle.fw_model_account.specs.Account.{Account}
use Rattle.fw_model_account.specs.Decode.{register_of_move}
use Rattle.fw_model_account.specs.Fold.{no_account, next_account}
use Rattle.fw_log_entry.specs.Network.{row_of_node}
use Rattle.fw_model_account.specs.Packets.{asked, ended}
use Rattle.fw_model_account.specs.Listing.{IsAllocatedForFlows}
use Rattle.fw_model_account.specs.Moves.{Move, Can, after}
use Rattle.fw_model_account.specs.Sound.{IsSound}
use Rattle.fw_model_account.specs.Words.{Register, word_of}
use Rattle.fw_cmp_jobs.specs.declared.connection.Connection.{Connection}
use Rattle.fw_cmp_jobs.specs.declared.connection.Flow.{Flow}
use Rattle.fw_cmp_jobs.specs.declared.connection.Slot.TheVariants.{Established, Restoring}
use Rattle.fw_cmp.specs.declared.current.Current.TheVariants.{Hearing}
use Rattle.fw_cmp_jobs.specs.declared.directory.Directory.{Directory}
use Rattle.fw_cmp_jobs.specs.declared.job.Job.{Job}
use Rattle.fw_cmp_jobs.specs.declared.request.Access.{Access}
use Rattle.fw_cmp_jobs.specs.declared.request.Target.{Target}
use Rattle.fw_cmp_jobs.specs.declared.stage.Stage.{Stage}
use Rattle.fw_cmp.specs.Controllers.{ControllerState, first_state, slot_at, IsHeard, Fits}
use Rattle.fw_cmp_jobs.specs.Fits.{JobFits, StageFits}
use Rattle.fw_cmp.specs.Holdings.{is_current_slot, CanGoOn}
use Rattle.fw_cmp_jobs.specs.Requests.{target_of, swap_of, access_of, addressee_of}
use Rattle.fw_cmp.specs.Turns.{next, after_next}
use Rattle.fw_cmp_jobs.specs.Nodes.{node_of}
use Rattle.fw_cmp_jobs.specs.Stages.{hear_reply}
use Rattle.fw_cmp_jobs.specs.Connections.{output_of}
use Rattle.fw_model_controllers.specs.Holding.{Holding, Holds, holding_after, Keeps, Leaves}
use Rattle.fw_model_controllers.specs.Registers.{IsAnswer, register_at, IsRequestAt}
use Rattle.fw_model_controllers.specs.Moves.{carried_out}
use Rattle.fw_model_controllers.specs.Requests.{EachOnce, IsNumbering, IsNodeOf, PlugNumberFits, Awaits, Tells, procedure_head, request_packet, request_to, IsResponse}
use Rattle.fw_model_controllers.specs.Wants.{wants, is_own, is_want_outcome, IsContent}
use Rattle.fw_cmp_jobs.specs.declared.outcome.Outcome.{Outcome}
use Rattle.fw_cmp.specs.declared.outcome.Next.TheVariants.{End}
use Rattle.fw_model_controllers.specs.InStep.{Others, IsInStep, HalfStep, IsRegister}
use Rattle.fw_model_controllers.specs.Controllers.{holding_of, ControllerInStep, IsDirectory, TurnInStep}
use Rattle.fw_model_controllers.specs.Together.{AreInStep, Happens, AreSettled, IsWhole}

-- a move changes what its controller has as the move says
abbrev pub MoveChangesItsHolding : Type 0
MoveChangesItsHolding =
    (c : ℕ) (p : PlugAt) (m : Move) (l : Account) (h : Holding) → c < 63 → IsSound l → Can c p m l → Holds l c h
    → Holds (after c p m l) c (holding_after c p m l h)

-- a move leaves each other controller all that it has
abbrev pub MoveLeavesOtherHoldings : Type 0
MoveLeavesOtherHoldings =
    (c d : ℕ) (p : PlugAt) (m : Move) (l : Account) → c < 63 → d ≢ c → IsSound l → Can c p m l → Leaves d l (after c p m l)

-- by a move no plug changes its data rate, and a connected plug keeps what it is set to
abbrev pub MoveKeepsSettings : Type 0
MoveKeepsSettings = (c : ℕ) (p : PlugAt) (m : Move) (l : Account) → Can c p m l → Keeps l (after c p m l)

-- by a move no word changes but that of its own register
abbrev pub MoveChangesOneRegister : Type 0
MoveChangesOneRegister =
    (c : ℕ) (p : PlugAt) (m : Move) (l : Account) (r : Register) → c < 63 → IsSound l → Can c p m l → IsRegister r
    → r ≢ register_of_move p m → word_of (after c p m l) r ≡ word_of l r

-- the answer to a stage's request keeps the job in step, and a lock that succeeds is a move of the account
abbrev pub AnswersKeepJobsInStep : Type 0
AnswersKeepJobsInStep =
    (l : Account) (c : ℕ) (j : Job) (s : Stage) (others : Others) (t : Target) (r : Reply) → c < 63 → IsSound l → JobFits j
    → StageFits j s → IsInStep l c j s true others → target_of j s ≡ Some t → IsAnswer l t r → HalfStep l c j s others t r

-- while a reclaim second runs, no answer leads a job to end for want of units or as too late
abbrev pub NoAnswerBringsWant : Type 0
NoAnswerBringsWant =
    (l : Account) (c : ℕ) (j : Job) (s : Stage) (others : Others) (t : Target) (r : Reply) → IsSound l → StageFits j s
    → IsInStep l c j s true others → IsTrue l.reclaiming → target_of j s ≡ Some t → IsAnswer l t r → IsFalse (wants s)
    → IsFalse (wants (hear_reply j s r))

-- whatever happens, no restoring whose own second runs comes to want
abbrev pub NothingBringsWant : Type 0
NothingBringsWant =
    (dir new : Directory) (l m : Account) (before after : ℕ → ControllerState) → AreInStep dir l before
    → Happens dir new l before m after → ((d : ℕ) → IsContent (before d) (before d).current) → (d : ℕ)
    → IsContent (after d) (after d).current

-- no restoring whose own second runs ends for want of units or as too late
abbrev pub NoRestoringEndsInWant : Type 0
NoRestoringEndsInWant =
    (now : ℕ) (dir : Directory) (c : ControllerState) (i : ℕ) (o : Outcome) → IsContent c c.current
    → IsTrue (is_own (slot_at c i)) → next now dir c ≡ End i o → IsFalse (is_want_outcome o)

-- before the first device all controllers are in step with the account
abbrev pub ControllersStartInStep : Type 0
ControllersStartInStep = (dir : Directory) → AreInStep dir no_account (λ d. first_state)

-- a controller in step has exactly what its slots and its stage say
abbrev pub HoldingsAreThoseOfTheSlots : Type 0
HoldingsAreThoseOfTheSlots = (l : Account) (d : ℕ) (c : ControllerState) → ControllerInStep l d c → Holds l d (holding_of c)

-- the output plug of a connection that is to be restored in its own second is reclaimable with its channel and units
abbrev pub RestoringsAreReclaimable : Type 0
RestoringsAreReclaimable =
    (l : Account) (d : ℕ) (c : ControllerState) (i : ℕ) (conn : Connection) (f : Flow) (p : PlugAt) → ControllerInStep l d c
    → slot_at c i ≡ Restoring conn f false → output_of conn ≡ Some p
    → IsTrue l.reclaiming × (l.reclaimable f.channel ≡ Some (record { plug = p; units = f.units }))

-- a turn of a controller with no request outstanding leaves it in step
abbrev pub TurnsStayInStep : Type 0
TurnsStayInStep =
    (l : Account) (d now : ℕ) (c : ControllerState) (dir : Directory) → ControllerInStep l d c → IsDirectory l now dir → Fits c
    → CanGoOn dir c → IsHeard c.current → TurnInStep l d now dir c

-- whatever happens leaves all controllers in step with the account
abbrev pub ControllersStayInStep : Type 0
ControllersStayInStep =
    (dir new : Directory) (l m : Account) (before after : ℕ → ControllerState) → AreInStep dir l before
    → Happens dir new l before m after → AreInStep new m after

-- a controller in step sends its request to a node of the bus
abbrev pub ControllersCanGoOn : Type 0
ControllersCanGoOn =
    (dir : Directory) (l : Account) (controllers : ℕ → ControllerState) (d : ℕ) → AreInStep dir l controllers
    → CanGoOn dir (controllers d)

-- a directory that says of the nodes and the manager what the latest reset entry says is one for controllers in step
abbrev pub DirectoriesShowTheBus : Type 0
DirectoriesShowTheBus =
    (l : Account) (r : ResetEntry) (number : ℕ → Option ℕ) (now : ℕ) (dir : Directory) → l.latest ≡ Some r → IsNumbering r number
    → ((d n : ℕ) → node_of dir d ≡ Some n → number d ≡ Some n) → dir.manager ≡ r.manager
    → (IsTrue l.reclaiming → now < dir.over_at) → IsDirectory l now dir

-- a request to the node of a register is a request at that register
abbrev pub RequestsAreAtTheirRegister : Type 0
RequestsAreAtTheirRegister =
    (l : Account) (a : Access) (n : ℕ) → EachOnce l.latest → IsNodeOf l.latest a.target n → PlugNumberFits a.target
    → IsRegister (register_at a.target) → IsRequestAt l a.target (request_to n a)

-- the account goes on with the packet of a request, which is then outstanding
abbrev pub RequestPacketsLeadOn : Type 0
RequestPacketsLeadOn =
    (l : Account) (n to : ℕ) (row : NodeRow) (a : Access) → row_of_node l.latest n ≡ Some row → l.outstanding row.device ≡ None
    → next_account l (Async (request_packet (procedure_head to n) a)) ≡ Some (asked row.device (request_to to a) l)

-- the account goes on with the packet of a response, by the stage's move if its lock succeeded
abbrev pub ResponsePacketsLeadOn : Type 0
ResponsePacketsLeadOn =
    (l : Account) (n to : ℕ) (row : NodeRow) (j : Job) (s : Stage) (others : Others) (t : Target) (r : Reply) (p : Packet)
    → row.device < 63 → StageFits j s → HalfStep l row.device j s others t r → Awaits l n to row t (swap_of j s) r
    → IsResponse (procedure_head n to) (swap_of j s) r p
    → next_account l (Async p) ≡ Some (ended row.device (carried_out row.device j s r l))

-- what a turn says tells what its controller then waits for
abbrev pub TurnsTellWhatIsAwaited : Type 0
TurnsTellWhatIsAwaited =
    (now : ℕ) (dir : Directory) (c : ControllerState) → Fits c → CanGoOn dir c → IsHeard c.current
    → Tells dir (next now dir c) (after_next now dir c).current

-- with controllers in step, the account goes on with a request of one that has none outstanding
abbrev pub RequestsLeadOn : Type 0
RequestsLeadOn =
    (dir : Directory) (l : Account) (controllers : ℕ → ControllerState) (n to : ℕ) (row : NodeRow) (a : Access)
    → AreInStep dir l controllers → IsHeard (controllers row.device).current → row_of_node l.latest n ≡ Some row
    → next_account l (Async (request_packet (procedure_head to n) a)) ≡ Some (asked row.device (request_to to a) l)

-- with controllers in step, the account goes on with the response that answers a request
abbrev pub AnswersLeadOn : Type 0
AnswersLeadOn =
    (dir : Directory) (l : Account) (controllers : ℕ → ControllerState) (now n to : ℕ) (row : NodeRow) (j : Job) (s : Stage)
    (a : Access) (r : Reply) (p : Packet) → AreInStep dir l controllers → IsDirectory l now dir → row.device < 63
    → row_of_node l.latest n ≡ Some row → (controllers row.device).current ≡ Hearing j s → access_of j s ≡ Some a
    → addressee_of dir a.target ≡ Some to → IsAnswer l a.target r → IsResponse (procedure_head n to) a.swap r p
    → next_account l (Async p) ≡ Some (ended row.device (carried_out row.device j s r l))

-- if all is settled, what is allocated is what connected plugs take and what dead controllers left
abbrev pub SettledAllocationsAreFlows : Type 0
SettledAllocationsAreFlows =
    (dir : Directory) (l : Account) (controllers : ℕ → ControllerState) → AreInStep dir l controllers → AreSettled l controllers
    → IsAllocatedForFlows l

-- a connection that stands, and is not being broken, is there at its plugs
abbrev pub StandingConnectionsAreWhole : Type 0
StandingConnectionsAreWhole =
    (l : Account) (d : ℕ) (c : ControllerState) (i : ℕ) (conn : Connection) (f : Flow) → Fits c → ControllerInStep l d c
    → slot_at c i ≡ Established conn f → IsFalse (is_current_slot c.current i) → IsWhole l d conn f
