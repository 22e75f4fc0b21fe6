-- What an action changes: a device begins a bus reset, or the state is altered in one of few ways.
use Rattle.fw_model_run.proofs.Common.{◌≡◌, ◌+◌, List, ◌∷◌, Bool, true, false, Some, None, refl, IsTrue, arith, length, ◌==◌, [], ℕ, w32, DeviceKind, update, Packet, Async, EndEntry, Iso, Timed}
use Rattle.fw_model_run.proofs.Common.{Topology, node_of, Action, AddCable, AddDevice, Answer, Ask, BecomeCandidate, CarryOut, Contend, Die, EjectTape, EndSecond, Finish}
use Rattle.fw_model_run.proofs.Common.{HalfStep, InsertTape, KeepBlock, Lose, Pass, Receive, ResetBus, Rest}
use Rattle.fw_model_run.proofs.Common.{SendCommand, SendFrame, SendPacket, ShowWord, Start, StartBreak, StartConnection, StartCycle}
use Rattle.fw_model_run.proofs.Common.{Reset, ResetEntry, Transition, TellLoss, TieReel, Unsettled, Withhold, Resets}
use Rattle.fw_model_run.proofs.Common.{after_loss, after_reset_entry, with_topology, FrameWrite, after_frame, bid_answer, shown_entry, frame_packet}
use Rattle.fw_model_run.proofs.Common.{request_of, response_write, at_most, IsGood, answer_packet, read_at, Declared, State, is_on, with_device, bytes_of, cycle_start, stream_packet}
use Rattle.std.specs.Int.{from_be_bytes}
use Rattle.fw_tape.specs.Motion.{inserted}
use Rattle.fw_tree.specs.declared.facts.End.{End}
use Rattle.fw_model_run.specs.Afterwards.{counting, with_cassette}
use Rattle.fw_model_run.specs.BusDeeds.{MayJoin, declaring_beside, joining_ends}
use Rattle.fw_model_run.specs.ControllerDeeds.{MayStep}
use Rattle.fw_model_run.specs.Entries.{ejected, inserted as inserted_entry, lost, unsettled}
use Rattle.fw_model_run.specs.Frames.{command_write, decks_after, frame_head}
use Rattle.fw_model_run.proofs.Alterations.{Allows, Alteration, Answered, Asked, AtUnits, Beside, Bid, Breaks, Candidate, Connected, Died, Halved}
use Rattle.fw_model_run.proofs.Alterations.{Kept, MayBegin, NewCable, NewDevice, Over, Passed, Started, Tied, Waits, Withheld, altered, told_by}
use Rattle.fw_model_run.proofs.Cables.{begun_may, cabled_may, forced_may, on_some}
use Rattle.fw_model_run.proofs.Declares.{first_may}
use Rattle.fw_model_run.proofs.Done.{Done, done}
use Rattle.fw_model_run.proofs.FrameWrites.{received_fits, received_leaves, sendable_fits, write_fits, write_leaves}
use Rattle.fw_model_run.proofs.Framing.{told_sendable}
use Rattle.fw_model_run.proofs.Led.{unread}
use Rattle.fw_model_run.proofs.Marks.{closes, nothing}
use Rattle.fw_model_run.proofs.Plain.{frame_plain, request_plain}
use Rattle.fw_model_run.proofs.Resets.{MayReset, declaring, numbered, resets_by}
use Rattle.fw_model_run.proofs.StreamFits.{packet_fits, start_fits}
use Rattle.fw_model_run.proofs.Taking.{Taken, forces_reset, keeps_deaf, listens, may_step, taken_as}
use Rattle.fw_model_run.proofs.Transactions.{shown_leaves}
use Rattle.fw_model_run.proofs.Writable.{ejected_fits, inserted_fits, lost_fits, shown_fits}

-- ---- each action

-- the state before a bus reset has the devices and cables of after it
pub data Effect (s : State) (a : Action) (out : List Timed) (t : State) : Type 0 where
  resetting : (resets half_steps : ℕ) → (n : Declared) → (initiator : ℕ) → s.transaction ≡ None → MayBegin a → (IsGood s → MayReset (numbered s resets half_steps) n)
      → Resets (declaring (numbered s resets half_steps) n) initiator out t → Effect s a out t
  altering : (x : Alteration) → Waits s x → out ≡ at_most (altered s x).clock.cycle (told_by s x) → t ≡ altered s x → Allows s a x → Effect s a out t

-- a device more
declares : (s : State) (name : List ℕ) (kind : DeviceKind) (ports speed : ℕ) (out : List Timed) (t : State) → s.transaction ≡ None
    → Done (declaring_beside s.declared.names s name kind ports speed) out t → Effect s (AddDevice name kind ports speed) out t
declares s name kind ports speed out t free = go s.declared.names refl
  where
    go : (names : List (List ℕ)) → s.declared.names ≡ names → Done (declaring_beside names s name kind ports speed) out t → Effect s (AddDevice name kind ports speed) out t
    go [] empty x = resetting 1 s.half_steps (with_device s.declared name kind ports speed) 0 free tt (λ g. first_may s name kind ports speed g x.may.device empty)
        (resets_by 1 s.half_steps x.may.reset x.out_is x.state_is)
    go (y ∷ names) more x = altering (NewDevice name kind ports speed) free x.out_is x.state_is (tt, tt)

-- a cable more
joins : (s : State) (g : Topology) (a b : End) (out : List Timed) (t : State) → s.transaction ≡ None → Done (joining_ends (is_on s a.device) (is_on s b.device) s a b g) out t
    → Effect s (AddCable a b) out t
joins s g a b out t free = go (is_on s a.device) (is_on s b.device) refl refl
  where
    begins : (d : ℕ) (e : ResetEntry) → IsTrue (is_on s d) → MayJoin s a b g d e → out ≡ at_most s.clock.cycle (Some (Reset e))
        → t ≡ after_reset_entry (counting (with_topology s g)) e → Effect s (AddCable a b) out t
    begins d e on may said is = resetting (s.resets + 1) s.half_steps (record s.declared { topology = g }) d free tt
        (λ good. cabled_may s g a b good may.joined (on_some s d good on) may.begins.counts) (resets_by (s.resets + 1) s.half_steps may.begins.reset said is)

    go : (x y : Bool) → is_on s a.device ≡ x → is_on s b.device ≡ y → Done (joining_ends x y s a b g) out t → Effect s (AddCable a b) out t
    go true false on_a off_b x = begins a.device x.found on_a x.may x.out_is x.state_is
    go false true off_a on_b x = begins b.device x.found on_b x.may x.out_is x.state_is
    go true true on_a on_b x = altering (NewCable g) free x.out_is x.state_is (tt, tt)
    go false false off_a off_b x = altering (NewCable g) free x.out_is x.state_is (tt, tt)

takes : (s : State) (d : ℕ) (out : List Timed) (t : State) → s.transaction ≡ None → MayStep s d → Taken s d out t → Effect s (HalfStep d) out t
takes s d out t free may (listens quiet said is) = altering (Halved d s.lost s.resets (s.half_steps + 1)) free said is (tt, tt, may.lives)
takes s d out t free may (keeps_deaf deaf said is) = altering (Beside None (s.half_steps + 1) s.written s.frame) free said is (tt, tt, nothing refl, λ g. (refl, tt), λ g b. tt)
takes s d out t free may (forces_reset deaf r) = resetting s.resets (s.half_steps + 1) s.declared d free tt (λ g. forced_may s d g may.lives deaf may.few) r

-- a frame's write is answered as no bid is
received_plain : (s : State) (w : FrameWrite) (p : Packet) → answer_packet s (node_of s.account.latest w.to) (frame_head s w) (request_of w) ≡ Some p → bid_answer p ≡ None
received_plain s w p is = frame_plain s (node_of s.account.latest w.to) (frame_head s w) (length w.bytes == 4) w.offset (from_be_bytes w32 w.bytes) w.bytes p is

pub effect : (s : State) (a : Action) (out : List Timed) (t : State) → Transition s a out t → Effect s a out t
effect s Withhold out t x = altering Withheld x.waits x.out_is x.state_is (tt, x.may.early)
effect s (AddDevice name kind ports speed) out t x = declares s name kind ports speed out t x.waits (done s (AddDevice name kind ports speed) out t x)
effect s (AddCable a b) out t x = joins s x.found.topology a b out t x.waits (record { found = x.found.begun; may = x.may; out_is = x.out_is; state_is = x.state_is })
effect s (ResetBus d) out t x = resetting (s.resets + 1) s.half_steps s.declared d x.waits tt (λ g. begun_may s d g x.may.on x.may.begins.counts)
    (resets_by (s.resets + 1) s.half_steps x.may.begins.reset x.out_is x.state_is)
effect s (StartConnection d w) out t x = altering (Connected d w) x.waits x.out_is x.state_is (tt, (x.may.slot, x.may.starts), x.may.lives, x.may.fits)
effect s (StartBreak d i) out t x = altering (Breaks d i) x.waits x.out_is x.state_is (tt, refl, x.may.lives, x.may.starts)
effect s (HalfStep d) out t x = takes s d out t x.waits (may_step s d x.found x.may) (taken_as s d out t x)
effect s (Rest n) out t x = altering (Beside None (s.half_steps + n) s.written s.frame) x.waits x.out_is x.state_is (tt, tt, nothing refl, λ g. (refl, tt), λ g b. tt)
effect s Unsettled out t x = altering (Beside (Some unsettled) s.half_steps s.written s.frame) x.waits x.out_is x.state_is
    (tt, refl, nothing refl, λ g. (refl, ((tt, tt), λ u. tt)), λ g b. record { device = omega arith; tape = omega arith; shape = refl })
effect s (Pass n) out t x = altering (Passed n) x.waits x.out_is x.state_is (refl, tt)
effect s EndSecond out t x = altering Over x.waits x.out_is x.state_is (refl, x.may.runs)
effect s (Die d) out t x = altering (Died d) x.waits x.out_is x.state_is (tt, refl, x.may)
effect s (CarryOut d) out t x = altering (Halved d s.lost s.resets s.half_steps) x.waits x.out_is x.state_is (tt, tt, x.may.lives)
effect s (Lose d) out t x = altering (Halved d (after_loss s d).lost (s.resets + 1) s.half_steps) x.waits x.out_is x.state_is (tt, tt, x.may.request.lives)
effect s (TellLoss d) out t x = altering (Beside (Some (lost d)) s.half_steps s.written s.frame) x.waits x.out_is x.state_is
    (tt, refl, nothing refl, λ g. (refl, ((tt, tt), λ u. tt)), λ g b. lost_fits s d g x.may)
effect s (Start d) out t x = altering (Started d) x.waits x.out_is x.state_is (tt, x.may.dead, x.may.linked)
effect s (Ask y) out t x = altering (Asked y) x.waits x.out_is x.state_is (tt, x.may.spared, x.may.linked, x.may.fits)
effect s Answer out t x = altering (Answered x.found.transaction x.found.response) x.waits x.out_is x.state_is (tt, x.may)
effect s (ShowWord d offset) out t x = altering (Beside (Some (shown_entry d offset (read_at s d offset).value)) s.half_steps s.written s.frame) x.waits x.out_is x.state_is
    (tt, tt, nothing refl, λ g. shown_leaves s d offset g x.may.linked x.may.complete, λ g b. shown_fits s d offset g b x.may.linked x.may.fits)
effect s (SendCommand a b bytes) out t x =
    let w = command_write a b bytes in
    altering (Beside (Some (Async (frame_packet s w))) s.half_steps s.written (Some w)) x.waits x.out_is x.state_is
    (tt, request_plain (frame_head s w) (request_of w), nothing refl, λ g. write_leaves s w, λ g b. write_fits s w g x.may.fits)
effect s (SendFrame d) out t x =
    let w = response_write d x.found.to x.found.frame in
    altering (AtUnits (Some (Async (frame_packet s w))) (update s.decks d (after_frame (s.decks d))) (Some w)) x.waits x.out_is x.state_is (
      tt,
      request_plain (frame_head s w) (request_of w),
      nothing refl,
      tt,
      λ g. write_leaves s w,
      λ g b. write_fits s w g (sendable_fits d x.found.to x.found.frame (told_sendable s d (x.found.node, x.found.frame) g x.may.next)),
    )
effect s (Receive o) out t x =
    let w = x.found.write in
    altering (AtUnits (Some (Async x.found.response)) (decks_after s w o) None) x.waits x.out_is x.state_is
    (tt, received_plain s w x.found.response x.may.answered, nothing refl, tt, λ g. received_leaves s w x.found.response x.may.answered, λ g b. received_fits s o x.found g x.may)
effect s (InsertTape d tape system) out t x =
    altering (AtUnits (Some (inserted_entry d tape system)) (with_cassette s d (Some (inserted tape system))).decks s.frame) x.waits x.out_is x.state_is
    (tt, refl, nothing refl, tt, λ g. (refl, ((tt, tt), λ u. tt)), λ g b. inserted_fits s d tape system g x.may.declared x.may.fits)
effect s (EjectTape d) out t x = altering (AtUnits (Some (ejected d)) (with_cassette s d None).decks s.frame) x.waits x.out_is x.state_is
    (tt, refl, nothing refl, tt, λ g. (refl, ((tt, tt), λ u. tt)), λ g b. ejected_fits s d g x.may.declared)
effect s StartCycle out t x =
    let p = cycle_start x.found.root s.clock.cycle in
    altering (Beside (Some (Async p)) s.half_steps (s.written + 1) s.frame) x.waits x.out_is x.state_is
    (tt, refl, nothing refl, λ g. (refl, ((tt, tt), unread s.account p (λ q. tt))), λ g b. start_fits s x.found g x.may.latest)
effect s (SendPacket p block) out t x = altering (Beside (Some (Iso (stream_packet s p (bytes_of block)))) s.half_steps s.written s.frame) x.waits x.out_is x.state_is
    (tt, tt, nothing refl, λ g. (refl, ((tt, tt), λ u. tt)), λ g b. packet_fits s p block g x.may.talks x.may.gives)
effect s (BecomeCandidate d) out t x = altering (Candidate d) x.waits x.out_is x.state_is (tt, x.may.lives, x.may.capable)
effect s (Contend d) out t x = altering (Bid d x.found.manager x.found.candidate) x.waits x.out_is x.state_is (tt, x.may.lives, x.may.candidate, x.may.manages)
effect s (TieReel d) out t x = altering (Tied d) x.waits x.out_is x.state_is (tt, x.may.declared)
effect s (KeepBlock block) out t x = altering (Kept block) x.waits x.out_is x.state_is (tt, refl)
effect s Finish out t x =
    altering (Beside (Some EndEntry) s.half_steps s.written s.frame) x.waits x.out_is x.state_is (tt, tt, closes refl refl, λ g. (refl, ((tt, tt), λ u. tt)), λ g b. tt)
