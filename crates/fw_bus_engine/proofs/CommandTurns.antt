-- Commands to units: of the machine and of the run.
use Rattle.fw_bus_engine.proofs.Common.{◌≡◌, ◌≢◌, ℕ, ◌<◌, ◌≤◌, zero, suc, List, [], ◌∷◌, ◌++◌, length, slice_set, is_some}
use Rattle.fw_bus_engine.proofs.Common.{Bool, true, false, ◌==◌, Option, Some, None, refl, ap, sym, subst, ◌∙◌, arith}
use Rattle.fw_bus_engine.proofs.Common.{IsTrue, IsErr, Result, get_or-set_same, length-set, same_Some, Fits, Packet}
use Rattle.fw_bus_engine.proofs.Common.{Async, node_of, packet_of, request_in, Relay, NodeState, after_request}
use Rattle.fw_bus_engine.proofs.Common.{first_state, Network, node_at, Action, Receive, Transition, Transitions, DeckState, DeskRelations, at_most, IsGood, State, is_linked, is_living, steps_good}
use Rattle.fw_bus_engine.proofs.Common.{living_linked, update_others, Machine, Performed, between, HasDecks, StandsFor, is_linked_in, is_living_in, linked_same, living_same, node_number_is, linked_on}
use Rattle.fw_bus_engine.proofs.Common.{on_within}
use Rattle.fw_node.specs.Fcp.{HasFollowed}
use Rattle.fw_node.specs.Packets.{requester}
use Rattle.fw_order.specs.declared.order.Order.TheVariants as Orders
use Rattle.fw_model_run.specs.Actions.{SendCommand}
use Rattle.fw_model_run.specs.Carrying.{SendsAll, commanded}
use Rattle.fw_model_run.specs.Decks.{FrameWrite, Obeyed}
use Rattle.fw_model_run.specs.Frames.{command_write, decks_after, frame_head, frame_packet, request_of, write_request}
use Rattle.fw_model_run.specs.Given.{IsGiven}
use Rattle.fw_model_run.specs.Spaces.{script_head}
use Rattle.fw_model_run.specs.State.{has_deck}
use Rattle.fw_model_run.specs.Units.{HasDeck}
use Rattle.fw_model_run.proofs.Commands.{follows_in_run}
use Rattle.fw_model_run.proofs.FrameWrites.{fits_write, write_by}
use Rattle.fw_model_run.proofs.Given.{all_given}
use Rattle.fw_model_run.proofs.SendsAll.{can_send_all}
use Rattle.fw_model_run.proofs.Units.{request_kept}
use Rattle.fw_bus_engine.specs.Framing.{CarriesWithDesk, Commands, IsWrite}
use Rattle.fw_bus_state.proofs.DeckNodes.{decks_set}
use Rattle.fw_bus_engine.proofs.Doings.{Follows, GoesOn, does_cut}
use Rattle.fw_bus_engine.proofs.OneAction.{does_as}
use Rattle.fw_bus_engine.proofs.Responder.{AnswersBy, asks_request, response_is}
use Rattle.fw_bus_state.proofs.Latest.{on_number}
use Rattle.fw_bus_engine.proofs.ExchangeTurns.{Exchanged, Exchanges}
use Rattle.fw_bus_engine.proofs.FrameNodes.{KeepsRegisters, with_node, with_decks, deck_stands, written_stands}
use Rattle.fw_bus_engine.proofs.Sending.{all_steps}

-- ---- the write of a command

-- what the machine did: the packet went to the node of the device, which answered, and its unit may have carried a command out
pub record Commanding (D : DeskRelations) (m : Machine) (a b : ℕ) (bytes : List ℕ) (packet response : Packet) (n : NodeState) : Type 0 where
  pub write : IsWrite m.devices.nodes a b 0xFFFF_F000_0B00 bytes packet
  pub fits : Fits packet
  pub answers : AnswersBy m.cycle (node_at m.devices.nodes b) packet response
  pub followed : HasFollowed D.vendor (requester packet) (request_in packet) (after_request (request_in packet) (node_at m.devices.nodes b)) n

-- the actions of it
abbrev pub IsCommanded : DeskRelations → ℕ → ℕ → List ℕ → State → Action → Action → Type 0
IsCommanded D a b bytes s x y = (x ≡ SendCommand a b bytes) × ((o : Option Obeyed) × (y ≡ Receive o) × IsGiven D (Receive o))

-- the packet is that of the run
packet_is_run : (m : Machine) (s : State) (a b : ℕ) (bytes : List ℕ) (packet : Packet) → IsGood s → StandsFor m s → IsTrue (is_linked s a) → IsTrue (is_linked s b)
    → IsWrite m.devices.nodes a b 0xFFFF_F000_0B00 bytes packet → packet ≡ frame_packet s (command_write a b bytes)
packet_is_run m s a b bytes packet g st from to w =
    let x = (node_number_is m.devices.nodes s b st.devices.nodes g (linked_on s b to)).0 in
    let y = (node_number_is m.devices.nodes s a st.devices.nodes g (linked_on s a from)).0 in
    let p : w.to ≡ node_of s.account.latest b = same_Some w.to (node_of s.account.latest b) (sym w.to_is ∙ x) in
    let q : w.from ≡ node_of s.account.latest a = same_Some w.from (node_of s.account.latest a) (sym w.from_is ∙ y) in
    w.packet_is ∙ (λ i. packet_of (script_head (p i) (q i)) (write_request 0xFFFF_F000_0B00 bytes))

-- it comes from the node of the device
requester_is : (s : State) (a b : ℕ) (bytes : List ℕ) → node_of s.account.latest a ≤ 62 → requester (frame_packet s (command_write a b bytes)) ≡ node_of s.account.latest a
requester_is s a b bytes few = go (length bytes == 4)
  where
    n : ℕ
    n = node_of s.account.latest a

    go : (c : Bool) → requester (packet_of (frame_head s (command_write a b bytes)) (write_by c 0xFFFF_F000_0B00 bytes)) ≡ n
    go true = omega (arith, few)
    go false = omega (arith, few)

-- the device that is asked alone has another deck afterwards
after_others : (s : State) (w : FrameWrite) (o : Option Obeyed) (c : ℕ) → c ≢ w.to → decks_after s w o c ≡ s.decks c
after_others s w None c ne = refl
after_others s w (Some x) c ne = update_others s.decks w.to _ c ne

set_twice : (nodes : List NodeState) (d : ℕ) (x n : NodeState) → slice_set (slice_set nodes d x) d n ≡ slice_set nodes d n
set_twice [] d x n = refl
set_twice (y ∷ nodes) zero x n = refl
set_twice (y ∷ nodes) (suc d) x n = ap (λ (ns : List NodeState). y ∷ ns) (set_twice nodes d x n)

pub command_talks : (D : DeskRelations) (m : Machine) (devices : Network) (a b : ℕ) (bytes : List ℕ) (packet response : Packet) (n : NodeState) → IsTrue (is_living_in m a)
    → IsTrue (is_linked_in m.devices b)
    → Commanding D m a b bytes packet response n → devices ≡ record m.devices { nodes = slice_set m.devices.nodes b n }
    → Exchanges (IsCommanded D a b bytes) m (record m { devices = devices }) m.cycle (Async packet) (Async response)
command_talks D m devices a b bytes packet response n from to x is = record { shown = shown_ }
  where
    w : FrameWrite
    w = command_write a b bytes

    shown_ : (s : State) → IsGood s → StandsFor m s → (p q : Action) × IsCommanded D a b bytes s p q × (mid t : State) × Transition s p (at_most m.cycle (Some (Async packet))) mid
        × Transition mid q (at_most m.cycle (Some (Async response))) t × StandsFor (record m { devices = devices }) t
    shown_ s g st =
        let linked : IsTrue (is_linked s b) = sym (linked_same m.devices s b g st.devices) ∙ to in
        let lives : IsTrue (is_living s a) = sym (living_same m s a g st) ∙ from in
        let sender = living_linked s a lives in
        let on = linked_on s b linked in
        let low = on_within m.devices.nodes s b st.devices.nodes g on in
        let same = packet_is_run m s a b bytes packet g st sender linked x.write in
        let own = node_number_is m.devices.nodes s a st.devices.nodes g (linked_on s a sender) in
        let asked : request_in packet ≡ Some (request_of w) = ap request_in same ∙ asks_request (frame_head s w) (request_of w) in
        let source : requester packet ≡ node_of s.account.latest a = ap requester same ∙ requester_is s a b bytes own.1 in
        let mid : State = record s { frame = Some w } in
        let before : NodeState = after_request (Some (request_of w)) (node_at m.devices.nodes b) in
        let followed : HasFollowed D.vendor (node_of s.account.latest a) (Some (request_of w)) before n =
        subst (λ k. HasFollowed D.vendor k (Some (request_of w)) before n) source
        (subst (λ o. HasFollowed D.vendor (requester packet) o (after_request o (node_at m.devices.nodes b)) n) asked x.followed) in
        let deck = request_kept (request_of w) (has_deck s b) (node_at m.devices.nodes b) (s.decks b) (st.devices.decks.each b low) in
        let y = follows_in_run D mid w before n deck followed in
        let f : ℕ → DeckState = decks_after mid w y.obeyed in
        let t : State = with_decks s f in
        let m1 : Machine = with_node m b before in
        let st1 : StandsFor m1 s = written_stands m s b (length bytes == 4) 0xFFFF_F000_0B00 bytes g st on in
        let low1 : b < length m1.devices.nodes = let size = length-set m.devices.nodes b before in omega (arith, low, size) in
        let here : node_at m1.devices.nodes b ≡ before = get_or-set_same m.devices.nodes b before (first_state Relay 0 0 false) low in
        let keeps : KeepsRegisters (node_at m1.devices.nodes b) n = subst (λ z. KeepsRegisters z n) (sym here) followed.rest in
        let decks : HasDecks (slice_set m1.devices.nodes b n) t.declared.kinds t.decks = decks_set m1.devices.nodes s t b n low1 st1.devices.decks y.deck
        (λ c ne z. subst (HasDeck (node_at m1.devices.nodes c) (has_deck s c)) (sym (after_others mid w y.obeyed c ne)) z) (λ c ne. after_others mid w y.obeyed c ne) in
        let stands : StandsFor (with_node m1 b n) t = deck_stands m1 s f b n st1 low1 keeps (λ off. let none : false ≡ true = sym (ap is_some off) ∙ on in let bad : ⊥ = cc none in absurd bad) decks in
        let answer = response_is m.devices.nodes s m.cycle b (node_of s.account.latest b) (frame_head s w) (request_of w) packet response g st.devices.nodes st.clock.cycle
        (on_number s b on) same x.answers in (
          SendCommand a b bytes,
          Receive y.obeyed,
          (refl, (y.obeyed, refl, y.given)),
          mid,
          t,
          record {
            found = tt;
            waits = st.answered;
            may = record { lives = lives; linked = linked; fits = fits_write s w (subst Fits same x.fits) };
            out_is = λ i. at_most (st.clock.cycle i) (Some (Async (same i)));
            state_is = refl;
          },
          record {
            found = record { write = w; response = response };
            waits = st.answered;
            may = record { waits = refl; from = sender; to = linked; followed = y.followed; answered = answer };
            out_is = ap (λ c. at_most c (Some (Async response))) st.clock.cycle;
            state_is = refl;
          },
          subst (λ (z : Network). StandsFor (record m { devices = z }) t) (sym is)
              (subst (λ (ns : List NodeState). StandsFor (record m { devices = record m.devices { nodes = ns } }) t) (set_twice m.devices.nodes b before n) stands),
        )

pub does_commands : {T E : Type 0} (D : DeskRelations) (a b : ℕ) (bytes : List ℕ) {m now : Machine} {c d : Option (List ℕ)} {k l : ℕ} {r : Result T E}
    → Performed (Exchanged (IsCommanded D a b bytes)) m now (between c d k l) r → Performed (Commands D a b bytes) m now (between c d k l) r
does_commands D a b bytes d = does_as (λ s t ys out p.
    let same : p.0 ∷ p.1 ∷ [] ≡ SendCommand a b bytes ∷ Receive p.2.1.0 ∷ [] = (λ i. p.2.0 i ∷ p.2.1.1 i ∷ []) in
    (p.2.1.0, p.2.1.2, (p.3 ∙ same, subst (λ z. Transitions s z out t) same p.4))) d

-- ---- and then all frames are sent

pub command_follows : {m : Machine} (D : DeskRelations) (a b : ℕ) (bytes : List ℕ) → Follows m (Commands D a b bytes) (SendsAll b) (CarriesWithDesk D (Orders.Command a b bytes))
command_follows D a b bytes s mid t xs ys c d g st p f q h =
    subst (λ z. CarriesWithDesk D (Orders.Command a b bytes) s (z ++ ys) (c ++ d) t) (sym p.2.0)
    (commanded p.0 mid ys c d p.2.1 q, (tt, (p.1, all_given D b mid ys d t q)))

command_goes : (m : Machine) (D : DeskRelations) (a b : ℕ) (bytes : List ℕ) → GoesOn m (Commands D a b bytes) (CarriesWithDesk D (Orders.Command a b bytes))
command_goes m D a b bytes s u xs c g st p f =
    let good = steps_good s u xs c g f in
    let last = p.2.1.5 in
    let answered : u.transaction ≡ None = ap (λ (x : State). x.transaction) last.5.1 ∙ (ap (λ (x : State). x.transaction) last.3.state_is ∙ last.3.waits) in
    let unsent : u.frame ≡ None = ap (λ (x : State). x.frame) last.5.1 ∙ ap (λ (x : State). x.frame) last.3.state_is in
    let r = can_send_all u b good answered unsent in
    let goes = all_steps b u r.actions r.out r.after r.sends in
    (r.actions, r.out, r.after, command_follows {m = m} D a b bytes s u r.after xs r.actions c r.out g st p f r.sends goes, goes)

-- one of its first entries was cut off
pub command_cut : {U F V G : Type 0} (D : DeskRelations) (a b : ℕ) (bytes : List ℕ) {m now last : Machine} {c d : Option (List ℕ)} {k l : ℕ} (q : Result U F) (r : Result V G) → IsErr q → IsErr r
    → Performed (Commands D a b bytes) m now (between c d k l) q → Performed (CarriesWithDesk D (Orders.Command a b bytes)) m last (between c d k l) r
command_cut D a b bytes {m} q r was is f = does_cut q r (command_goes m D a b bytes) was is f
