-- The head and the body of an entry that may be passed over.
use Rattle.fw_log.proofs.Common.{◌≡◌, ℕ, List, [], inl, inr, get_or, take, drop, true, false, Option, Some, None, Ok, IfSome, refl, ap, sym, subst, ◌∙◌, AreBytes, quads, kind_of, epoch_after}
use Rattle.fw_log.proofs.Common.{head_size, quadlet_at, Version, Entry, Reset, Async, Iso, Event, Outcome, Shown, End, IsBody, cycle_of, skip, HasEpoch, IsComplete, Position}
use Rattle.std.proofs.Common.{IsSome}
use Rattle.fw_async.specs.Reader.{IsPacket}
use Rattle.fw_cip.specs.Iso.{Fits as IsoFits, spelling as iso_spelling}
use Rattle.fw_cip.specs.declared.packet.IsoPacket.{IsoPacket}
use Rattle.fw_log_entry.specs.Log.{event_quads, outcome_quads, shown_quads, EventFits, OutcomeFits, ShownFits, is_end}
use Rattle.fw_log_entry.specs.declared.entry.EventEntry.{EventEntry}
use Rattle.fw_log_entry.specs.declared.entry.OutcomeEntry.{OutcomeEntry}
use Rattle.fw_log_entry.specs.declared.entry.ShownEntry.{ShownEntry}
use Rattle.fw_log.specs.Plain.{IsReset}
use Rattle.fw_log.specs.Passing.{IsPassed, IsPlain, IsAnnotation, IsAnnotationBody, IsPlainBody, IsPlainEpoch, IsFirst, HeadFirst}
use Rattle.fw_log.specs.Reading.{is_own_epoch, HeadFits}
use Rattle.fw_log.specs.Reader.{Ends, after}
use Rattle.fw_log.specs.declared.plain.PlainBody.TheVariants as PlainBodies
use Rattle.fw_log.proofs.ByteLaws.{are_bytes_part}
use Rattle.fw_log.proofs.SpellingLaws.{complete_ok, own_epoch, kind_of_complete, size_of_complete}
use Rattle.fw_log.proofs.IdsLaws.{back}

-- bodies by their kinds
pub plain_reset : (k : ℕ) (bytes : List ℕ) → k ≡ 1 → IsReset bytes → IsPlain k bytes
plain_reset k bytes e h = record { entry = Reset h.reset; is = record { fits = h.fits; kind = sym e; same = h.same }; passed = tt }

pub plain_async : (k : ℕ) (bytes : List ℕ) → k ≡ 2 → IsPacket bytes → IsPlain k bytes
plain_async k bytes e h = record { entry = Async h.packet; is = record { fits = h.spells.fits; kind = sym e; same = h.spells.same }; passed = tt }

pub annotation_event : (k : ℕ) (bytes : List ℕ) (r : Option EventEntry)
    → k ≡ 4 → IfSome r (λ o. EventFits o × (quads (event_quads o) ≡ bytes)) → IsSome r → IsAnnotationBody k bytes
annotation_event k bytes None e h some = cc some
annotation_event k bytes (Some o) e h some = record { entry = Event o; is = record { fits = h.0; kind = sym e; same = h.1 }; annotation = tt }

pub annotation_outcome : (k : ℕ) (bytes : List ℕ) (r : Option OutcomeEntry)
    → k ≡ 5 → IfSome r (λ o. OutcomeFits o × (quads (outcome_quads o) ≡ bytes)) → IsSome r → IsAnnotationBody k bytes
annotation_outcome k bytes None e h some = cc some
annotation_outcome k bytes (Some o) e h some = record { entry = Outcome o; is = record { fits = h.0; kind = sym e; same = h.1 }; annotation = tt }

pub annotation_shown : (k : ℕ) (bytes : List ℕ) (r : Option ShownEntry)
    → k ≡ 6 → IfSome r (λ o. ShownFits o × (quads (shown_quads o) ≡ bytes)) → IsSome r → IsAnnotationBody k bytes
annotation_shown k bytes None e h some = cc some
annotation_shown k bytes (Some o) e h some = record { entry = Shown o; is = record { fits = h.0; kind = sym e; same = h.1 }; annotation = tt }

pub not_end : (e : Entry) → IsPassed e → is_end e ≡ false
not_end (Reset r) h = refl
not_end (Async p) h = refl
not_end (Iso p) h = absurd h
not_end (Event e) h = refl
not_end (Outcome o) h = refl
not_end (Shown s) h = refl
not_end End h = absurd h

-- an annotation may be passed over
passed_annotation : (e : Entry) → IsAnnotation e → IsPassed e
passed_annotation (Reset r) h = absurd h
passed_annotation (Async p) h = absurd h
passed_annotation (Iso p) h = absurd h
passed_annotation (Event e) h = tt
passed_annotation (Outcome o) h = tt
passed_annotation (Shown s) h = tt
passed_annotation End h = absurd h

pub plain_annotation : (k : ℕ) (bytes : List ℕ) → IsAnnotationBody k bytes → IsPlain k bytes
plain_annotation k bytes h = record { entry = h.entry; is = h.is; passed = passed_annotation h.entry h.annotation }

pub annotation_goes_on : (e : Entry) → IsAnnotation e → is_end e ≡ false
annotation_goes_on e h = not_end e (passed_annotation e h)

-- the epoch after an entry that is passed over, which its head has
record PlainEpoch (v : Version) (epoch : ℕ) (e : List ℕ) (what : Entry) (n : ℕ) : Type 0 where
  pub following : n ≡ epoch_after epoch what
  pub own : HasEpoch v (epoch_after epoch what) e

-- of an entry that is no reset
other : (v : Version) (epoch last n : ℕ) (e more : List ℕ) (what : Entry) → HeadFits v epoch last e → IsBody (get_or e 0 0) more what → IsPlainEpoch v epoch e more n
    → (kind_of what ≡ 1 → ⊥) → is_own_epoch v what e ≡ true → epoch_after epoch what ≡ epoch → PlainEpoch v epoch e what n
other v epoch last n e more what h b (inl p) apart own same = absurd (apart (b.kind ∙ p.0))
other v epoch last n e more what h b (inr p) apart own same = record { following = p.1 ∙ sym same; own = own_epoch v epoch e what h.latest b.kind own }

plain_epoch : (v : Version) (epoch last n : ℕ) (e more : List ℕ) (what : Entry) → HeadFits v epoch last e → IsBody (get_or e 0 0) more what → IsPlainEpoch v epoch e more n
    → PlainEpoch v epoch e what n
plain_epoch v epoch last n e more (Reset r) h b (inl p) =
    let first : quadlet_at more 0 ≡ r.epoch = ap (λ x. quadlet_at x 0) (sym b.same) ∙ back r.epoch [] b.fits.epoch in
    let is : n ≡ r.epoch = sym p.1 ∙ first in
    let P : ℕ → Type 0 = λ k. HasEpoch v k e in
    record { following = is; own = subst P is p.2 }
plain_epoch v epoch last n e more (Reset r) h b (inr p) = absurd (p.0 (sym b.kind))
plain_epoch v epoch last n e more (Async x) h b p = other v epoch last n e more (Async x) h b p (λ k. cc k) refl refl
plain_epoch v epoch last n e more (Iso x) h b p = other v epoch last n e more (Iso x) h b p (λ k. cc k) refl refl
plain_epoch v epoch last n e more (Event x) h b p = other v epoch last n e more (Event x) h b p (λ k. cc k) refl refl
plain_epoch v epoch last n e more (Outcome x) h b p = other v epoch last n e more (Outcome x) h b p (λ k. cc k) refl refl
plain_epoch v epoch last n e more (Shown x) h b p = other v epoch last n e more (Shown x) h b p (λ k. cc k) refl refl
plain_epoch v epoch last n e more End h b p = other v epoch last n e more End h b p (λ k. cc k) refl refl

-- bodies that are given
pub body_reset : (k : ℕ) (bytes given : List ℕ) → k ≡ 1 → IsReset bytes → given ≡ bytes → IsPlainBody k bytes (PlainBodies.Reset given)
body_reset k bytes given e h g = record {
  entry = Reset h.reset;
  is = record { fits = h.fits; kind = sym e; same = h.same };
  goes_on = refl;
  made = (h.reset, refl, h.fits, h.same ∙ sym g);
}

pub body_packet : (k : ℕ) (bytes given : List ℕ) → k ≡ 2 → IsPacket bytes → given ≡ bytes → IsPlainBody k bytes (PlainBodies.Packet given)
body_packet k bytes given e h g = record {
  entry = Async h.packet;
  is = record { fits = h.spells.fits; kind = sym e; same = h.spells.same };
  goes_on = refl;
  made = (h.packet, refl, record { fits = h.spells.fits; same = h.spells.same ∙ sym g });
}

pub body_iso : (k : ℕ) (bytes given : List ℕ) (p : IsoPacket) → k ≡ 3 → IsoFits p → iso_spelling p ≡ bytes → given ≡ bytes → IsPlainBody k bytes (PlainBodies.Iso given)
body_iso k bytes given p e fits same g = record {
  entry = Iso p;
  is = record { fits = fits; kind = sym e; same = same };
  goes_on = refl;
  made = (p, refl, fits, same ∙ sym g);
}

-- the entry that a whole prefix of bytes is
is_first : (v : Version) (s : Position) (bytes e more : List ℕ) (n cycle epoch : ℕ) (what : Entry) → AreBytes bytes → Ends s bytes (Ok (Some n))
    → e ≡ drop (skip s.start) (take n bytes) → more ≡ drop (head_size v) e → IsComplete v s (take n bytes)
    → cycle ≡ cycle_of v e → IsPlainEpoch v s.epoch e more epoch → IsBody (get_or e 0 0) more what → is_end what ≡ false
    → IsFirst s bytes (record { cycle = cycle; what = what }) (record { end = n; cycle = cycle; version = v; epoch = epoch })
is_first v s bytes e more n cycle epoch what fit ends is after w c latest own goes_on =
    let P : List ℕ → Type 0 = HeadFits v s.epoch s.last in
    let b = plain_epoch v s.epoch s.last epoch e more what (subst P (sym is) w.head) own latest in
    record {
      goes_on = goes_on;
      cycle = refl;
      version = sym w.here;
      epoch = b.following;
      within = ends.2;
      spells = complete_ok v s (take n bytes) e more (record { cycle = cycle; what = what }) (are_bytes_part bytes n 0 fit) is after w c b.own own;
    }

-- the head of an entry, before its body was looked at
pub head_first : (v : Version) (s : Position) (bytes e more given : List ℕ) (n cycle epoch : ℕ) → AreBytes bytes → Ends s bytes (Ok (Some n))
    → e ≡ drop (skip s.start) (take n bytes) → more ≡ drop (head_size v) e → IsComplete v s (take n bytes)
    → cycle ≡ cycle_of v e → IsPlainEpoch v s.epoch e more epoch → given ≡ more
    → HeadFirst s bytes (record { passed = record { end = n; cycle = cycle; version = v; epoch = epoch }; kind = get_or e 0 0; content = given })
head_first v s bytes e more given n cycle epoch fit ends is after w c latest same =
    let P : List ℕ → Type 0 = λ x. IsPlainEpoch v s.epoch e x epoch in
    record {
      kind = kind_of_complete v s (take n bytes) e is w;
      size = size_of_complete v s (take n bytes) e given is (same ∙ after) w;
      first = λ what own goes_on. is_first v s bytes e given n cycle epoch what fit ends is (same ∙ after) w c (subst P (sym same) latest) own goes_on;
    }
