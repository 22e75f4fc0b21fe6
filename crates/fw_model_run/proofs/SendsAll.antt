-- All that a device has to send can be sent.
use Rattle.fw_model_run.proofs.Common.{◌≡◌, ℕ, zero, suc, ◌+◌, ◌≤◌, ◌==◌, cond, List, [], ◌∷◌, ◌++◌, length}
use Rattle.fw_model_run.proofs.Common.{Bool, true, false, Option, Some, None, is_some, option_map, refl, sym, subst, arith, update}
use Rattle.fw_model_run.proofs.Common.{
  Async,
  Timed,
  Frame,
  spelling,
  SendFrame,
  Receive,
  Transitions,
  quiet,
  sends,
  DeckState,
  FrameWrite,
  next_frame,
  after_frame,
  request_of,
  frame_packet,
  response_write,
}
use Rattle.fw_model_run.proofs.Common.{next_told, Transition, at_most, IsGood, State, has_deck}
use Rattle.std.specs.Prelude.{find}
use Rattle.fw_avc.specs.declared.notify.Kept.{Kept}
use Rattle.fw_avc.specs.Notices.{is_changed, told, without_first}
use Rattle.fw_node.specs.Fcp.{command_bytes, IsCommand}
use Rattle.fw_model_run.specs.Decks.{most_frames}
use Rattle.fw_model_run.specs.Units.{CanSendAll, IsAddressed}
use Rattle.fw_model_run.proofs.Framing.{with_frame}
use Rattle.fw_model_run.proofs.FrameWrites.{write_by, answer_to, write_answered}
use Rattle.fw_model_run.proofs.Steps.{steps_good}
use Rattle.fw_model_run.proofs.Turns.{update_new}
use Rattle.fw_model_run.proofs.Units.{addressed}

-- ---- a frame that is sent leaves one less

one_less : (passes : Kept → Bool) (kept : List Kept) → is_some (find passes kept) ≡ true → length (without_first passes kept) + 1 ≡ length kept
unfolding without_first
one_less passes [] e = let no : ⊥ = cc e in absurd no
one_less passes (k ∷ ks) e = go (passes k) (without_first passes ks) e (one_less passes ks)
  where
    go : (b : Bool) (rest : List Kept) → is_some (cond b (Some k) (find passes ks)) ≡ true → (is_some (find passes ks) ≡ true → length rest + 1 ≡ length ks)
        → length (cond b ks (k ∷ rest)) + 1 ≡ length (k ∷ ks)
    go true rest f later = omega arith
    go false rest f later = let less = later f in omega (arith, less)

pub sent_less : (k : DeckState) (x : ℕ × Frame) → next_frame k ≡ Some x → most_frames (after_frame k) + 1 ≡ most_frames k
sent_less k x e = go k.waiting e
  where
    there : (o : Option Kept) → option_map (told k.unit) o ≡ Some x → is_some o ≡ true
    there None f = let no : ⊥ = cc f in absurd no
    there (Some y) f = refl

    go : (w : Option (ℕ × Frame)) → next_frame (record k { waiting = w }) ≡ Some x → most_frames (after_frame (record k { waiting = w })) + 1 ≡ most_frames (record k { waiting = w })
    go (Some y) f = omega arith
    go None f = let less = one_less (is_changed k.unit) k.unit.kept (there (find (is_changed k.unit) k.unit.kept) f) in omega (arith, less)

-- ---- one frame

-- what is written to FCP_RESPONSE is no command
pub response_no_command : (d to : ℕ) (r f : Frame) → IsCommand (Some (request_of (response_write d to r))) f → ⊥
response_no_command d to r f x = go (length (spelling r) == 4) x.written
  where
    go : (b : Bool) → command_bytes (write_by b 0xFFFF_F000_0D00 (spelling r)) ≡ Some (spelling f) → ⊥
    go true e = cc e
    go false e = cc e

-- the state after a frame was sent and its write answered
abbrev after_sent : State → ℕ → State
after_sent s d = record s { decks = update s.decks d (after_frame (s.decks d)); frame = None }

one_sent : (s : State) (d : ℕ) (x : ℕ × Frame) → IsGood s → s.transaction ≡ None → s.frame ≡ None → next_told s d ≡ Some x → (out : List Timed)
    × Transitions s (SendFrame d ∷ Receive None ∷ []) out (after_sent s d)
one_sent s d x g answered none e = (first ++ (second ++ []), (first, second ++ [], mid, sent, refl, (second, [], after_sent s d, received, refl, (refl, refl))))
  where
    a : IsAddressed s d x
    a = addressed s d x g e

    w : FrameWrite
    w = response_write d a.to x.1

    mid : State
    mid = with_frame s (update s.decks d (after_frame (s.decks d))) (Some w)

    first : List Timed
    first = at_most s.clock.cycle (Some (Async (frame_packet s w)))

    second : List Timed
    second = at_most s.clock.cycle (Some (Async (answer_to mid w)))

    sent : Transition s (SendFrame d) first mid
    sent = record {
      found = record { node = x.0; frame = x.1; to = a.to };
      waits = answered;
      may = record { next = e; on = a.on; addressee = a.addressee; linked = a.linked };
      out_is = refl;
      state_is = refl;
    }

    received : Transition mid (Receive None) second (after_sent s d)
    received = record {
      found = record { write = w; response = answer_to mid w };
      waits = answered;
      may = record { waits = refl; from = a.on; to = a.linked; followed = λ on f. response_no_command d a.to x.1 f; answered = write_answered mid w };
      out_is = refl;
      state_is = refl;
    }

-- ---- all of them

-- the frame is one of the deck's
of_deck : (s : State) (d : ℕ) (x : ℕ × Frame) → next_told s d ≡ Some x → next_frame (s.decks d) ≡ Some x
of_deck s d x e = go (has_deck s d) e
  where
    go : (b : Bool) → cond b (next_frame (s.decks d)) None ≡ Some x → next_frame (s.decks d) ≡ Some x
    go true f = f
    go false f = let no : ⊥ = cc f in absurd no

-- the frame, and then all others
then_sent : (k : ℕ) (s : State) (d : ℕ) (x : ℕ × Frame) → IsGood s → s.transaction ≡ None → s.frame ≡ None → next_told s d ≡ Some x → most_frames (s.decks d) ≤ suc k
    → (IsGood (after_sent s d) → most_frames (update s.decks d (after_frame (s.decks d)) d) ≤ k → CanSendAll (after_sent s d) d) → CanSendAll s d
then_sent k s d x g answered none e few later =
    let one = one_sent s d x g answered none e in
    let less = sent_less (s.decks d) x (of_deck s d x e) in
    let fewer : most_frames (after_frame (s.decks d)) ≤ k = omega (arith, few, less) in
    let more = later (steps_good s (after_sent s d) (SendFrame d ∷ Receive None ∷ []) one.0 g one.1) (subst (λ j. most_frames j ≤ k) (sym (update_new s.decks d (after_frame (s.decks d)))) fewer) in
    record { actions = SendFrame d ∷ Receive None ∷ more.actions; out = one.0 ++ more.out; after = more.after; sends = sends (after_sent s d) more.actions one.0 more.out one.1 more.sends }

all_sent : (n : ℕ) (s : State) (d : ℕ) → IsGood s → s.transaction ≡ None → s.frame ≡ None → most_frames (s.decks d) ≤ n → CanSendAll s d
all_sent zero s d g answered none few = go (next_told s d) refl
  where
    go : (o : Option (ℕ × Frame)) → next_told s d ≡ o → CanSendAll s d
    go None e = record { actions = []; out = []; after = s; sends = quiet e }
    go (Some x) e = absurd (let less = sent_less (s.decks d) x (of_deck s d x e) in omega (arith, few, less))
all_sent (suc k) s d g answered none few = go (next_told s d) refl (λ good fewer. all_sent k (after_sent s d) d good answered refl fewer)
  where
    go : (o : Option (ℕ × Frame)) → next_told s d ≡ o → (IsGood (after_sent s d) → most_frames (update s.decks d (after_frame (s.decks d)) d) ≤ k → CanSendAll (after_sent s d) d) → CanSendAll s d
    go None e later = record { actions = []; out = []; after = s; sends = quiet e }
    go (Some x) e later = then_sent k s d x g answered none e few later

pub can_send_all : (s : State) (d : ℕ) → IsGood s → s.transaction ≡ None → s.frame ≡ None → CanSendAll s d
can_send_all s d g answered none = all_sent (most_frames (s.decks d)) s d g answered none (omega arith)
