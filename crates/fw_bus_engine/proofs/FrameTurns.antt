-- Frames that decks send: of the machine and of the run.
use Rattle.fw_bus_engine.proofs.Common.{◌≡◌, ℕ, ◌<◌, length, slice_set, ◌==◌, Some, None, refl, ap, sym, subst, ◌∙◌, arith, same_Some, update, Packet, Async, Frame, node_of, request_in}
use Rattle.fw_bus_engine.proofs.Common.{NodeState, after_request, node_device, node_at, Receive, Transition, DeckState, at_most, IsGood, State, update_new}
use Rattle.fw_bus_engine.proofs.Common.{update_others, Machine, TakesTwoActions, HasDecks, StandsFor, linked_on, node_number_is}
use Rattle.fw_fcp.specs.Frames.{spelling}
use Rattle.fw_node.specs.Fcp.{number_of}
use Rattle.fw_node.specs.Fcp as Fcp
use Rattle.fw_model_run.specs.Actions.{SendFrame}
use Rattle.fw_model_run.specs.Decks.{FrameWrite, after_frame}
use Rattle.fw_model_run.specs.Frames.{frame_head, frame_packet, next_told, request_of, response_write}
use Rattle.fw_model_run.specs.State.{has_deck}
use Rattle.fw_model_run.specs.Units.{HasDeck, IsAddressed}
use Rattle.fw_model_run.proofs.Framing.{send_good, with_frame_good}
use Rattle.fw_model_run.proofs.SendsAll.{response_no_command}
use Rattle.fw_model_run.proofs.Units.{addressed, frame_kept, packet_same, sent_kept, quiet_kept}
use Rattle.fw_bus_state.proofs.DeckNodes.{decks_set}
use Rattle.fw_bus_engine.proofs.Responder.{AnswersBy, asks_request, device_there, response_is}
use Rattle.fw_bus_state.proofs.Latest.{on_number}
use Rattle.fw_bus_engine.proofs.FrameNodes.{with_node, with_decks, deck_stands, frame_registers, frame_waits, written_stands}

-- ---- the next frame

-- by the node and by the run
pub next_is : (m : Machine) (s : State) (d : ℕ) → StandsFor m s → d < length m.devices.nodes → Fcp.next_frame (node_at m.devices.nodes d) ≡ next_told s d
next_is m s d st low = frame_kept (has_deck s d) (node_at m.devices.nodes d) (s.decks d) (st.devices.decks.each d low)

-- the machine once the frame was taken
abbrev pub taken_of : Machine → ℕ → Machine
taken_of m d = with_node m d (Fcp.after_frame (node_at m.devices.nodes d))

-- the decks once it was sent
abbrev pub decks_sent : State → ℕ → ℕ → DeckState
decks_sent s d = update s.decks d (after_frame (s.decks d))

pub taken_stands : (m : Machine) (s : State) (d : ℕ) → StandsFor m s → d < length m.devices.nodes → StandsFor (taken_of m d) (with_decks s (decks_sent s d))
taken_stands m s d st low =
    deck_stands m s (decks_sent s d) d (Fcp.after_frame n) st low (frame_registers n) (λ off. frame_waits n) decks
  where
    n : NodeState
    n = node_at m.devices.nodes d

    t : State
    t = with_decks s (decks_sent s d)

    decks : HasDecks (slice_set m.devices.nodes d (Fcp.after_frame n)) t.declared.kinds t.decks
    decks = decks_set m.devices.nodes s t d (Fcp.after_frame n) low st.devices.decks
        (subst (HasDeck (Fcp.after_frame n) (has_deck s d)) (sym (update_new s.decks d (after_frame (s.decks d))))
        (sent_kept (has_deck s d) n (s.decks d) (st.devices.decks.each d low)))
        (λ c ne x. subst (HasDeck (node_at m.devices.nodes c) (has_deck s c)) (sym (update_others s.decks d (after_frame (s.decks d)) c ne)) x)
        (λ c ne. update_others s.decks d (after_frame (s.decks d)) c ne)

-- if there is none, the machine stands for what it stood for
pub quiet_stands : (m : Machine) (s : State) (d : ℕ) → StandsFor m s → d < length m.devices.nodes → next_told s d ≡ None → StandsFor (taken_of m d) s
quiet_stands m s d st low none = same (deck_stands m s s.decks d (Fcp.after_frame n) st low (frame_registers n) (λ off. frame_waits n) decks)
  where
    n : NodeState
    n = node_at m.devices.nodes d

    decks : HasDecks (slice_set m.devices.nodes d (Fcp.after_frame n)) (with_decks s s.decks).declared.kinds (with_decks s s.decks).decks
    decks = decks_set m.devices.nodes s (with_decks s s.decks) d (Fcp.after_frame n) low st.devices.decks
        (quiet_kept (has_deck s d) n (s.decks d) none (st.devices.decks.each d low)) (λ c ne x. x) (λ c ne. refl)

    same : StandsFor (taken_of m d) (with_decks s s.decks) → StandsFor (taken_of m d) s
    same h = subst (λ o. StandsFor (taken_of m d) (record s { frame = o })) (sym st.unsent) h

-- the state once the frame was sent and answered is good
pub sent_good : (s : State) (d : ℕ) (told : ℕ × Frame) → IsGood s → IsAddressed s d told → next_told s d ≡ Some told → IsGood (with_decks s (decks_sent s d))
sent_good s d told g a next =
    let w : FrameWrite = response_write d a.to told.1 in
    let mid : State = record s { decks = decks_sent s d; frame = Some w } in
    let good : IsGood mid =
    send_good s d (record { node = told.0; frame = told.1; to = a.to }) g (record { next = next; on = a.on; addressee = a.addressee; linked = a.linked }) in
    with_frame_good mid mid.decks None good good.decks

-- ---- a frame goes to its node, which answers

-- what the machine did
pub record Telling (m : Machine) (d to : ℕ) (told : ℕ × Frame) (packet response : Packet) : Type 0 where
  pub low : d < length m.devices.nodes
  pub next : Fcp.next_frame (node_at m.devices.nodes d) ≡ Some told
  pub packet_is : packet ≡ Fcp.frame_packet (number_of (node_at m.devices.nodes d).number) told
  pub addressee : node_device m.devices.latest.nodes told.0 ≡ Some to
  pub answers : AnswersBy m.cycle (node_at (taken_of m d).devices.nodes to) packet response

-- the machine after it
abbrev pub told_by : Machine → ℕ → ℕ → Packet → Machine
told_by m d to packet = with_node (taken_of m d) to (after_request (request_in packet) (node_at (taken_of m d).devices.nodes to))

-- the packet is that of the run
frame_same : (m : Machine) (s : State) (d to : ℕ) (told : ℕ × Frame) (packet response : Packet) → IsGood s → StandsFor m s → Telling m d to told packet response
    → (a : IsAddressed s d told) → packet ≡ frame_packet s (response_write d a.to told.1)
frame_same m s d to told packet response g st x a =
    let own = node_number_is m.devices.nodes s d st.devices.nodes g (linked_on s d a.on) in
    let other = node_number_is m.devices.nodes s a.to st.devices.nodes g (linked_on s a.to a.linked) in
    let few = own.1 in
    let low : told.0 < 64 = let less = other.1 in let same = a.node in omega (arith, less, same) in
    x.packet_is ∙ (ap (λ o. Fcp.frame_packet (number_of o) told) own.0 ∙ packet_same s d a.to told (omega (arith, few)) a.node low)

pub frame_talks : (m now : Machine) (d to : ℕ) (told : ℕ × Frame) (packet response : Packet) → Telling m d to told packet response → now ≡ told_by m d to packet
    → TakesTwoActions (SendFrame d) (Receive None) m now m.cycle (Async packet) (Async response)
frame_talks m now d to told packet response x is = record { shown = shown_ }
  where
    shown_ : (s : State) → IsGood s → StandsFor m s → (mid t : State) × Transition s (SendFrame d) (at_most m.cycle (Some (Async packet))) mid
        × Transition mid (Receive None) (at_most m.cycle (Some (Async response))) t × StandsFor now t
    shown_ s g st =
        let next : next_told s d ≡ Some told = sym (next_is m s d st x.low) ∙ x.next in
        let a = addressed s d told g next in
        let w : FrameWrite = response_write d a.to told.1 in
        let mid : State = record s { decks = decks_sent s d; frame = Some w } in
        let t : State = with_decks s (decks_sent s d) in
        let gt : IsGood t = sent_good s d told g a next in
        let same = frame_same m s d to told packet response g st x a in
        let stands = taken_stands m s d st x.low in
        let on = linked_on t a.to a.linked in
        let place : a.to ≡ to = same_Some a.to to (sym (device_there m s told.0 a.to st a.addressee) ∙ x.addressee) in
        let asked : request_in packet ≡ Some (request_of w) = ap request_in same ∙ asks_request (frame_head s w) (request_of w) in
        let answers = subst (λ k. AnswersBy m.cycle (node_at (taken_of m d).devices.nodes k) packet response) (sym place) x.answers in
        let answered = response_is (taken_of m d).devices.nodes t m.cycle a.to (node_of s.account.latest a.to) (frame_head s w) (request_of w) packet response gt stands.devices.nodes st.clock.cycle
        (on_number t a.to on) same answers in
        let after = written_stands (taken_of m d) t a.to (length (spelling told.1) == 4) 0xFFFF_F000_0D00 (spelling told.1) gt stands on in (
          mid,
          t,
          record {
            found = record { node = told.0; frame = told.1; to = a.to };
            waits = st.answered;
            may = record { next = next; on = a.on; addressee = a.addressee; linked = a.linked };
            out_is = λ i. at_most (st.clock.cycle i) (Some (Async (same i)));
            state_is = refl;
          },
          record {
            found = record { write = w; response = response };
            waits = st.answered;
            may = record { waits = refl; from = a.on; to = a.linked; followed = λ deck f. response_no_command d a.to told.1 f; answered = answered };
            out_is = ap (λ c. at_most c (Some (Async response))) st.clock.cycle;
            state_is = refl;
          },
          subst (λ (z : Machine). StandsFor z t) (sym is)
              (subst (λ k. StandsFor (told_by m d k packet) t) place
              (subst (λ o. StandsFor (with_node (taken_of m d) a.to (after_request o (node_at (taken_of m d).devices.nodes a.to))) t) (sym asked) after)),
        )
