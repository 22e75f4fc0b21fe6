-- What is kept of the unit of a device, whatever happens to it.
use Rattle.fw_model_run.proofs.Common.{◌≡◌, ◌≢◌, ◌⊎◌, inl, inr, ℕ, suc, ◌+◌, ◌<◌, ◌≤◌, cond, List, [], ◌∷◌, Bool, true, false, Option, Some, None, is_some, option_map, refl, ap, sym, subst, ◌∙◌, zero}
use Rattle.fw_model_run.proofs.Common.{arith, IsTrue, IsFalse, cases_eq, update, ResetEntry, Frame, DeckState, next_frame, after_frame, linked_number}
use Rattle.std.specs.Prelude.{find}
use Rattle.fw_tape.specs.declared.cassette.Cassette.{Cassette}
use Rattle.fw_tape.specs.declared.system.TapeSystem.{TapeSystem}
use Rattle.fw_tape.specs.declared.transport.Transport.{Transport}
use Rattle.fw_tape.specs.declared.transport.Transport.TheVariants.{Stop, Rewind, FastForward, Play, PlayPause, Reverse, ReversePause, Record, RecordPause}
use Rattle.fw_tape.specs.Motion.{inserted, passed_on, moves, transport_of}
use Rattle.fw_tape.specs.Transports.{codes_of}
use Rattle.fw_avc.specs.declared.notify.Kept.{Kept}
use Rattle.fw_avc.specs.declared.notify.Watched.{Watched}
use Rattle.fw_avc.specs.declared.notify.Watched.TheVariants.{Power, Transport as OfTransport}
use Rattle.fw_avc.specs.Notices.{changed_frame, is_changed, told, notice_of, without_first, after_notice}
use Rattle.fw_avc.specs.State.{now_of}
use Rattle.fw_async_fields.specs.Data.{AreBytes}
use Rattle.fw_node.specs.Fcp.{IsSendable}
use Rattle.fw_model_run.specs.Decks.{first_deck, after_reset, with_tape, passed, IsAtRest}
use Rattle.fw_model_run.specs.Good.{IsLinkedNode, AreLinkedNodes, IsForLinkedNode, HasMovedWithin, IsDeck}
use Rattle.fw_model_run.proofs.Turns.{update_new, update_others}

-- ---- at first, and at a bus reset

pub first_is : (d : ℕ) → IsDeck None 0 d first_deck
first_is d = record { kept = tt; waiting = tt; moved = tt; off = λ off. record { power = refl; stopped = refl; kept = refl; waiting = refl } }

reset_rests : (k : DeckState) → IsAtRest k → IsAtRest (after_reset k)
reset_rests k r = record { power = r.power; stopped = r.stopped; kept = refl; waiting = refl }

-- a device that had a link keeps it
pub reset_is : (l m : Option ResetEntry) (cycle d : ℕ) (k : DeckState) → (IsTrue (is_some (linked_number l d)) → IsTrue (is_some (linked_number m d))) → IsDeck l cycle d k
    → IsDeck m cycle d (after_reset k)
reset_is l m cycle d k stays h = record { kept = tt; waiting = tt; moved = h.moved; off = λ off. go (is_some (linked_number l d)) refl off }
  where
    go : (b : Bool) → is_some (linked_number l d) ≡ b → IsFalse (is_some (linked_number m d)) → IsAtRest (after_reset k)
    go true on off = absurd (let there = stays on in grind (arith, there, off))
    go false rests off = reset_rests k (h.off rests)

-- ---- time

moved_on : (cycle n : ℕ) (o : Option Cassette) → HasMovedWithin cycle o → HasMovedWithin (cycle + n) (option_map (passed_on n) o)
moved_on cycle n None h = tt
moved_on cycle n (Some c) h = go (moves c)
  where
    go : (b : Bool) → (cond b (record c { passed = c.passed + n }) c).passed ≤ cycle + n
    go true = omega (arith, h)
    go false = omega (arith, h)

stays_stopped : (n : ℕ) (o : Option Cassette) → transport_of o ≡ Stop → transport_of (option_map (passed_on n) o) ≡ Stop
stays_stopped n None e = refl
stays_stopped n (Some c) e = go (moves c)
  where
    go : (b : Bool) → (cond b (record c { passed = c.passed + n }) c).transport ≡ Stop
    go true = e
    go false = e

pub passed_is : (l : Option ResetEntry) (cycle n d : ℕ) (k : DeckState) → IsDeck l cycle d k → IsDeck l (cycle + n) d (passed n k)
passed_is l cycle n d k h = record {
  kept = h.kept;
  waiting = h.waiting;
  moved = moved_on cycle n k.unit.tape h.moved;
  off = λ off. let r = h.off off in record { power = r.power; stopped = stays_stopped n k.unit.tape r.stopped; kept = r.kept; waiting = r.waiting };
}

-- ---- tapes that go in and out

pub inserted_is : (l : Option ResetEntry) (cycle d tape : ℕ) (system : TapeSystem) (k : DeckState) → IsDeck l cycle d k → IsDeck l cycle d (with_tape (Some (inserted tape system)) k)
inserted_is l cycle d tape system k h = record {
  kept = h.kept;
  waiting = h.waiting;
  moved = omega arith;
  off = λ off. let r = h.off off in record { power = r.power; stopped = refl; kept = r.kept; waiting = r.waiting };
}

pub ejected_is : (l : Option ResetEntry) (cycle d : ℕ) (k : DeckState) → IsDeck l cycle d k → IsDeck l cycle d (with_tape None k)
ejected_is l cycle d k h = record {
  kept = h.kept;
  waiting = h.waiting;
  moved = tt;
  off = λ off. let r = h.off off in record { power = r.power; stopped = refl; kept = r.kept; waiting = r.waiting };
}

-- ---- frames that are sent

fewer : (l : Option ResetEntry) (passes : Kept → Bool) (kept : List Kept) → AreLinkedNodes l kept → AreLinkedNodes l (without_first passes kept)
unfolding without_first
fewer l passes [] h = tt
fewer l passes (k ∷ ks) h = go (without_first passes ks) (passes k) (fewer l passes ks h.1)
  where
    go : (rest : List Kept) (b : Bool) → AreLinkedNodes l rest → AreLinkedNodes l (cond b ks (k ∷ rest))
    go rest true f = h.1
    go rest false f = (h.0, f)

-- a device with a link
pub sent_is : (l : Option ResetEntry) (cycle d : ℕ) (k : DeckState) → IsTrue (is_some (linked_number l d)) → IsDeck l cycle d k → IsDeck l cycle d (after_frame k)
sent_is l cycle d k on h = go k.waiting refl
  where
    off_ : {T : Type 0} → IsFalse (is_some (linked_number l d)) → T
    off_ off = absurd (grind (arith, on, off))

    go : (o : Option (ℕ × Frame)) → k.waiting ≡ o → IsDeck l cycle d (elim o as (λ _. DeckState) [ Some told ↦ record k { waiting = None } | None ↦ record k { unit = after_notice k.unit } ])
    go (Some told) e = record { kept = h.kept; waiting = tt; moved = h.moved; off = off_ }
    go None e = record { kept = fewer l (is_changed k.unit) k.unit.kept h.kept; waiting = h.waiting; moved = h.moved; off = off_ }

found_linked : (l : Option ResetEntry) (passes : Kept → Bool) (kept : List Kept) (k : Kept) → AreLinkedNodes l kept → find passes kept ≡ Some k → IsLinkedNode l k.node
found_linked l passes [] k h e = let no : ⊥ = cc e in absurd no
found_linked l passes (x ∷ xs) k h e = go (passes x) refl (found_linked l passes xs k h.1)
  where
    go : (b : Bool) → passes x ≡ b → (find passes xs ≡ Some k → IsLinkedNode l k.node) → IsLinkedNode l k.node
    go true p later = let same : x ≡ k = let y : Some x ≡ Some k = sym (ap (λ b. cond b (Some x) (find passes xs)) p) ∙ e in cc y in subst (λ (y : Kept). IsLinkedNode l y.node) same h.0
    go false p later = later (sym (ap (λ b. cond b (Some x) (find passes xs)) p) ∙ e)

-- the next frame is for a node with a link
pub next_linked : (l : Option ResetEntry) (cycle d : ℕ) (k : DeckState) (x : ℕ × Frame) → IsDeck l cycle d k → next_frame k ≡ Some x → IsLinkedNode l x.0
next_linked l cycle d k x h e = go k.waiting refl
  where
    notice : (o : Option Kept) → find (is_changed k.unit) k.unit.kept ≡ o → option_map (told k.unit) o ≡ Some x → IsLinkedNode l x.0
    notice None f is = let no : ⊥ = cc is in absurd no
    notice (Some y) f is = let same : told k.unit y ≡ x = cc is in subst (λ (z : ℕ × Frame). IsLinkedNode l z.0) same (found_linked l (is_changed k.unit) k.unit.kept y h.kept f)

    is_ : (o : Option (ℕ × Frame)) → k.waiting ≡ o → (elim o as (λ _. Option (ℕ × Frame)) [ Some told ↦ Some told | None ↦ notice_of k.unit ]) ≡ Some x
    is_ o f = sym (ap (λ o. elim o as (λ _. Option (ℕ × Frame)) [ Some told ↦ Some told | None ↦ notice_of k.unit ]) f) ∙ e

    go : (o : Option (ℕ × Frame)) → k.waiting ≡ o → IsLinkedNode l x.0
    go (Some told) f = let same : told ≡ x = let y = is_ (Some told) f in cc y in subst (λ (z : ℕ × Frame). IsLinkedNode l z.0) same (subst (λ o. IsForLinkedNode l o) f h.waiting).0
    go None f = notice (find (is_changed k.unit) k.unit.kept) refl (is_ None f)

byte_is : (b : ℕ) → b < 256 → AreBytes (b ∷ [])
byte_is b low zero = low
byte_is b low (suc i) = omega arith

changed_sendable : (w : Watched) → IsSendable (changed_frame w)
changed_sendable (Power true) = record {
  fits = record { code = omega arith; known = refl; kind = omega arith; id = omega arith };
  opcode = omega arith;
  bytes = byte_is 0x70 (omega arith);
  size = omega arith;
}
changed_sendable (Power false) = record {
  fits = record { code = omega arith; known = refl; kind = omega arith; id = omega arith };
  opcode = omega arith;
  bytes = byte_is 0x60 (omega arith);
  size = omega arith;
}
changed_sendable (OfTransport t) = record {
  fits = record { code = omega arith; known = refl; kind = omega arith; id = omega arith };
  opcode = high t;
  bytes = byte_is (codes_of t).1 (low t);
  size = omega arith;
}
  where
    low : (t : Transport) → (codes_of t).1 < 256
    low Stop = omega arith
    low Rewind = omega arith
    low FastForward = omega arith
    low Play = omega arith
    low PlayPause = omega arith
    low Reverse = omega arith
    low ReversePause = omega arith
    low Record = omega arith
    low RecordPause = omega arith

    high : (t : Transport) → (codes_of t).0 < 256
    high Stop = omega arith
    high Rewind = omega arith
    high FastForward = omega arith
    high Play = omega arith
    high PlayPause = omega arith
    high Reverse = omega arith
    high ReversePause = omega arith
    high Record = omega arith
    high RecordPause = omega arith

-- and it can be sent
pub next_sendable : (l : Option ResetEntry) (cycle d : ℕ) (k : DeckState) (x : ℕ × Frame) → IsDeck l cycle d k → next_frame k ≡ Some x → IsSendable x.1
next_sendable l cycle d k x h e = go k.waiting refl
  where
    notice : (o : Option Kept) → option_map (told k.unit) o ≡ Some x → IsSendable x.1
    notice None is = let no : ⊥ = cc is in absurd no
    notice (Some y) is = let same : told k.unit y ≡ x = cc is in subst (λ (z : ℕ × Frame). IsSendable z.1) same (changed_sendable (now_of k.unit y.value))

    is_ : (o : Option (ℕ × Frame)) → k.waiting ≡ o → (elim o as (λ _. Option (ℕ × Frame)) [ Some told ↦ Some told | None ↦ notice_of k.unit ]) ≡ Some x
    is_ o f = sym (ap (λ o. elim o as (λ _. Option (ℕ × Frame)) [ Some told ↦ Some told | None ↦ notice_of k.unit ]) f) ∙ e

    go : (o : Option (ℕ × Frame)) → k.waiting ≡ o → IsSendable x.1
    go (Some told) f = let same : told ≡ x = let y = is_ (Some told) f in cc y in subst (λ (z : ℕ × Frame). IsSendable z.1) same (subst (λ o. IsForLinkedNode l o) f h.waiting).1
    go None f = notice (find (is_changed k.unit) k.unit.kept) (is_ None f)

-- a deck at rest has none
pub rests_quiet : (k : DeckState) → IsAtRest k → next_frame k ≡ None
rests_quiet k r = ap (λ o. elim o as (λ _. Option (ℕ × Frame)) [ Some told ↦ Some told | None ↦ notice_of k.unit ]) r.waiting
    ∙ ap (λ kept. option_map (told k.unit) (find (is_changed k.unit) kept)) r.kept

-- ---- if one deck changes

pub each_deck : (l : Option ResetEntry) (cycle d : ℕ) (f : ℕ → DeckState) (k : DeckState) → IsDeck l cycle d k → ((e : ℕ) → IsDeck l cycle e (f e)) → (e : ℕ) → IsDeck l cycle e (update f d k e)
each_deck l cycle d f k new old e = go (cases_eq e d)
  where
    go : (e ≡ d) ⊎ (e ≢ d) → IsDeck l cycle e (update f d k e)
    go (inl same) = subst (λ x. IsDeck l cycle x (update f d k x)) (sym same) (subst (IsDeck l cycle d) (sym (update_new f d k)) new)
    go (inr ne) = subst (IsDeck l cycle e) (sym (update_others f d k e ne)) (old e)
