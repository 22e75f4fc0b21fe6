-- What a deck is told and what it sends, and tapes that go in and out: they lead from a good state to a good state.
use Rattle.fw_model_run.proofs.Common.{◌≡◌, ℕ, Bool, true, false, cond, Option, Some, None, option_map, ap, sym, subst, IsTrue, update, NodeRow, node_of, node_number, Frame}
use Rattle.fw_model_run.proofs.Common.{DeckState, Obeyed, FrameWrite, next_frame, after_frame, response_write, next_told}
use Rattle.fw_model_run.proofs.Common.{State, device_in, number_in, is_linked, has_deck, IsGood}
use Rattle.fw_tape.specs.declared.system.TapeSystem.{TapeSystem}
use Rattle.fw_tape.specs.Motion.{inserted}
use Rattle.fw_model_run.specs.Afterwards.{with_cassette}
use Rattle.fw_node.specs.Fcp.{IsSendable}
use Rattle.fw_model_run.specs.Decks.{after_command, with_tape}
use Rattle.fw_model_run.specs.Frames.{decks_after, IsFollowedBy}
use Rattle.fw_model_run.specs.Good.{IsDeck, IsLinkedNode}
use Rattle.fw_model_run.specs.Found.{FoundFrame, FoundWrite}
use Rattle.fw_model_run.specs.TransactionDeeds.{MayReceive, MaySendFrame, receiving, sending_frame}
use Rattle.fw_model_run.proofs.Decks.{each_deck, next_sendable, sent_is, inserted_is, ejected_is}
use Rattle.fw_model_run.proofs.CommandedDecks.{commanded_is}
use Rattle.fw_model_run.proofs.Leads.{linked_of}
use Rattle.fw_model_run.proofs.Transactions.{linked_number_of}

-- the state with these decks, and this frame that waits for its answer
abbrev pub with_frame : State → (ℕ → DeckState) → Option FrameWrite → State
with_frame s decks w = record s { decks = decks; frame = w }

pub with_frame_good : (s : State) (decks : ℕ → DeckState) (w : Option FrameWrite) → IsGood s → ((d : ℕ) → IsDeck s.account.latest s.clock.cycle d (decks d)) → IsGood (with_frame s decks w)
with_frame_good s decks w g h = record {
  declared = g.declared;
  latest = g.latest;
  reclaims = g.reclaims;
  stands = g.stands;
  unused = g.unused;
  time = g.time;
  losses = g.losses;
  half_steps = g.half_steps;
  written = g.written;
  decks = h;
  streams = g.streams;
}

-- ---- frames

-- the node of a device with a link
pub linked_node : (s : State) (d : ℕ) → IsGood s → IsTrue (is_linked s d) → IsLinkedNode s.account.latest (node_of s.account.latest d)
linked_node s d g on = (d, device, on)
  where
    device : device_in s.account.latest (node_of s.account.latest d) ≡ Some d
    device =
        let x = linked_of s d g on in
        let at : node_number x.entry.nodes d ≡ Some (node_of (Some x.entry) d) = subst (λ o. number_in o d ≡ Some (node_of o d)) x.is (linked_number_of s d g on) in
        subst (λ o. device_in o (node_of o d) ≡ Some d) (sym x.is) (ap (option_map (λ (r : NodeRow). r.device)) (x.shows.1.numbers d (node_of (Some x.entry) d) at))

-- what a device has to send can be sent
pub told_sendable : (s : State) (d : ℕ) (told : ℕ × Frame) → IsGood s → next_told s d ≡ Some told → IsSendable told.1
told_sendable s d told g e = go (has_deck s d) e
  where
    go : (b : Bool) → cond b (next_frame (s.decks d)) None ≡ Some told → IsSendable told.1
    go true f = next_sendable s.account.latest s.clock.cycle d (s.decks d) told (g.decks d) f
    go false f = let no : ⊥ = cc f in absurd no

pub send_good : (s : State) (d : ℕ) (found : FoundFrame) → IsGood s → MaySendFrame s d found → IsGood (sending_frame s d found).after
send_good s d found g may =
    with_frame_good s (update s.decks d (after_frame (s.decks d))) (Some (response_write d found.to found.frame)) g
    (each_deck s.account.latest s.clock.cycle d s.decks (after_frame (s.decks d)) (sent_is s.account.latest s.clock.cycle d (s.decks d) may.on (g.decks d)) g.decks)

pub receive_good : (s : State) (o : Option Obeyed) (found : FoundWrite) → IsGood s → MayReceive s o found → IsGood (receiving s o found).after
receive_good s o found g may = with_frame_good s (decks_after s found.write o) None g (go o may.followed)
  where
    go : (o : Option Obeyed) → IsFollowedBy s found.write o → (d : ℕ) → IsDeck s.account.latest s.clock.cycle d (decks_after s found.write o d)
    go None f = g.decks
    go (Some y) f =
        let w = found.write in
        let from = node_of s.account.latest w.from in
        each_deck s.account.latest s.clock.cycle w.to s.decks (after_command from y.command y.response (s.decks w.to))
        (commanded_is s.account.latest s.clock.cycle w.to from y.command y.response (s.decks w.to) may.to (linked_node s w.from g may.from) f.4 (g.decks w.to)) g.decks

-- ---- tapes

pub insert_good : (s : State) (d tape : ℕ) (system : TapeSystem) → IsGood s → IsGood (with_cassette s d (Some (inserted tape system)))
insert_good s d tape system g =
    with_frame_good s (update s.decks d (with_tape (Some (inserted tape system)) (s.decks d))) s.frame g
    (each_deck s.account.latest s.clock.cycle d s.decks (with_tape (Some (inserted tape system)) (s.decks d))
    (inserted_is s.account.latest s.clock.cycle d tape system (s.decks d) (g.decks d)) g.decks)

pub eject_good : (s : State) (d : ℕ) → IsGood s → IsGood (with_cassette s d None)
eject_good s d g =
    with_frame_good s (update s.decks d (with_tape None (s.decks d))) s.frame g
    (each_deck s.account.latest s.clock.cycle d s.decks (with_tape None (s.decks d)) (ejected_is s.account.latest s.clock.cycle d (s.decks d) (g.decks d)) g.decks)
