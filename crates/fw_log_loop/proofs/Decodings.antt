-- What was read of a log, by the ending.
use Rattle.std.proofs.Common.{◌≡◌, inr, ℕ, ◌-◌, ◌≤◌, List, [], ◌++◌, length, Option, Some, None, Ok, Err, arith, refl, ap, sym, subst, ◌∙◌, length-append}
use Rattle.std.proofs.lemmas.List.{append-nil}
use Rattle.fw_outside.specs.Outside.{Takes, Grows, IsAtEnd}
use Rattle.fw_outside.specs.Stops.{ReadCount}
use Rattle.fw_outside.specs.declared.stop.Stop.TheVariants.{ReadFault, WriteFault, TooLong, NoMemory}
use Rattle.fw_outside.proofs.Parts.{Takes-Takes, Takes-nothing, Grows-Grows, then_prefix}
use Rattle.fw_log_entry.specs.Log.{header_bytes, entries_bytes}
use Rattle.fw_log_entry.specs.declared.entry.Timed.{Timed}
use Rattle.fw_log.specs.Reading.{IsPending}
use Rattle.fw_log.specs.Reader.{State, finish_of, finish_by, total}
use Rattle.fw_log.specs.History.{bytes_of, stand_after, HasRead, IsLog, Finishes}
use Rattle.fw_log.specs.Stands.{Position}
use Rattle.fw_log.specs.declared.LogFault.{LogFault}
use Rattle.fw_log_loop.specs.Readings.{Form, Rules, IsEach, written, bare}
use Rattle.fw_log_loop.specs.Endings.{opened, limit, stop_of, IsRead, Decoded, Faulted, RefusedWhole, PartRead, PartClosed}
use Rattle.fw_log_loop.specs.declared.ending.LogEnd.TheVariants.{Whole}
use Rattle.fw_log_loop.specs.declared.ending.LogEnding.{LogEnding}
use Rattle.fw_log_loop.specs.declared.ending.LogEnding.TheVariants.{Done, NoLog, Refused, Stopped}
use Rattle.fw_log_loop.specs.Pieces.{PrintsMore, DecodedTo, ClosesLog, ClosesPart, EndsLog, taking, ReadsTo}
use Rattle.fw_log_loop.proofs.Texts.{nothing_grew, grows_due, opened_is, none_before, prefix_of_all}
use Rattle.fw_log_loop.proofs.Printings.{begins_of}

-- how many bytes a reader has taken
pub total_of : {entries : List Timed} {bytes : List ℕ} {r : State} → HasRead entries bytes r → total r ≡ length bytes
total_of {entries} {bytes} {r} h = omega (arith, ap (λ (s : Position). s.start) h.stand, ap length h.same, length-append (bytes_of h.version entries) r.taken)

pub decoded_first : {form : Form} (e : IsEach form.text) (Took : List Timed → Type 0) (left held : Option (List ℕ)) (r : State) → HasRead [] [] r → Took []
    → DecodedTo form Took left left held held r limit
decoded_first e Took left held r h t = record { entries = []; bytes = []; taken = Takes-nothing left; read = h; took = t; grew = nothing_grew e [] held; count = omega arith }

-- nothing was read or written since
pub decoded_still : {form : Form} {Took : List Timed → Type 0} {left left1 left2 held held1 held2 : Option (List ℕ)} {r : State} {room : ℕ} → left2 ≡ left1 → held2 ≡ held1
    → DecodedTo form Took left left1 held held1 r room → DecodedTo form Took left left2 held held2 r room
decoded_still {form} {Took} {left} {left1} {left2} {held} {held1} {held2} {r} {room} same kept d =
    let R : Option (List ℕ) → Option (List ℕ) → Type 0 = λ l h. DecodedTo form Took left l held h r room in
    subst (R left2) (sym kept) (subst (λ l. R l held1) (sym same) d)

-- all of a piece was within the limit
pub decoded_more : {form : Form} (e : IsEach form.text) {Took Took' : List Timed → Type 0} {left left1 held held1 : Option (List ℕ)} {r : State} {room : ℕ} (left2 held2 : Option (List ℕ))
    (new : State) (piece : List ℕ) (d : DecodedTo form Took left left1 held held1 r room)
    → Takes left1 left2 piece → PrintsMore form Took' held1 held2 d.entries d.bytes piece new → length piece ≤ room → DecodedTo form Took' left left2 held held2 new (room - length piece)
decoded_more {form} e {Took} {Took'} {left} {left1} {held} {held1} {r} {room} left2 held2 new piece d t p within = record {
  entries = d.entries ++ p.more;
  bytes = d.bytes ++ piece;
  taken = Takes-Takes left left1 left2 d.bytes piece d.taken t;
  read = p.read;
  took = p.took;
  grew = grows_due e form.head d.entries p.more (length d.bytes) (length (d.bytes ++ piece)) held held1 held2 (λ h. omega (arith, h, length-append d.bytes piece))
      (none_before d.read.version d.entries r.taken d.bytes d.read.same) d.grew p.grew;
  count = omega (arith, d.count, length-append d.bytes piece);
}

pub pending_of : {entries : List Timed} {bytes : List ℕ} {r : State} (h : HasRead entries bytes r) → IsPending (stand_after h.version entries) r.taken
pending_of {entries} {bytes} {r} h = let P : Position → Type 0 = λ s. IsPending s r.taken in subst P h.stand h.pending

-- ---- the end of the input

-- a log has a header
long_log : (entries : List Timed) (bytes : List ℕ) → IsLog entries bytes → 16 ≤ length bytes
long_log entries bytes h = omega (arith, ap length h.spells.opens.same, length-append (header_bytes h.version) (entries_bytes h.version 0 entries))

whole_head : (form : Form) (held held1 : Option (List ℕ)) (entries : List Timed) (bytes : List ℕ) → IsLog entries bytes → Grows held held1 (opened form.head (length bytes) ++ form.text [] entries)
    → Grows held held1 (written (bare form) entries)
whole_head form held held1 entries bytes log g = let P : List ℕ → Type 0 = λ x. Grows held held1 (x ++ form.text [] entries) in
    subst P (opened_is form.head (length bytes) (long_log entries bytes log)) g

-- the input was read to its end and is a log
read_end : {form : Form} {Took : List Timed → Type 0} {left left1 held held1 : Option (List ℕ)} {r : State} {room : ℕ} (left2 : Option (List ℕ)) (d : DecodedTo form Took left left1 held held1 r room)
    → Takes left1 left2 [] × IsAtEnd left2 → Finishes d.entries d.bytes (Ok tt) → IsRead left left2 d.entries
read_end {form} {Took} {left} {left1} left2 d e f =
    let T : List ℕ → Type 0 = Takes left left2 in
    record { bytes = d.bytes; taken = subst T (append-nil d.bytes) (Takes-Takes left left1 left2 d.bytes [] d.taken e.0); end = e.1; log = f.complete; within = omega (arith, d.count) }

-- and what is written at its end was written
decoded_end : {R : Type 0} {form : Form} (rules : Rules R) {Took : List Timed → Type 0} {left left1 held held1 : Option (List ℕ)} {r : State} {room : ℕ} (left2 held2 : Option (List ℕ))
    (d : DecodedTo form Took left left1 held held1 r room)
    → Takes left1 left2 [] × IsAtEnd left2 → Finishes d.entries d.bytes (Ok tt) → ClosesLog rules d.entries held1 held2 → Decoded (bare form) (taking rules Took) left left2 held held2
decoded_end {R} {form} rules {Took} {left} {left1} {held} {held1} left2 held2 d e f c = record {
  entries = d.entries;
  read = read_end left2 d e f;
  accepted = d.took;
  last = c.last;
  closed = c.closed;
  grew = Grows-Grows held held1 held2 (written (bare form) d.entries) c.last (whole_head form held held1 d.entries d.bytes f.complete d.grew) c.grew;
}

-- or a prefix of it
part_end : {R : Type 0} {form : Form} (rules : Rules R) {Took : List Timed → Type 0} {left left1 held held1 : Option (List ℕ)} {r : State} {room : ℕ} (left2 held2 : Option (List ℕ))
    (d : DecodedTo form Took left left1 held held1 r room)
    → ((es : List Timed) → Took es → rules.accepts es) → Takes left1 left2 [] × IsAtEnd left2 → Finishes d.entries d.bytes (Ok tt) → ClosesPart rules d.entries held1 held2
    → PartClosed (bare form) rules left left2 held held2
part_end {R} {form} rules {Took} {left} {left1} {held} {held1} left2 held2 d took e f c = record {
  entries = d.entries;
  read = read_end left2 d e f;
  accepted = took d.entries d.took;
  last = c.last;
  closed = c.closed;
  grew = then_prefix held held1 held2 (written (bare form) d.entries) c.last (whole_head form held held1 d.entries d.bytes f.complete d.grew) c.grew;
}

-- or the log is refused
refused_end : {R : Type 0} {form : Form} (rules : Rules R) {Took : List Timed → Type 0} {left left1 held held1 : Option (List ℕ)} {r : State} {room : ℕ} (left2 : Option (List ℕ)) (refusal : R)
    (d : DecodedTo form Took left left1 held held1 r room)
    → ((es : List Timed) → Took es → rules.accepts es) → Takes left1 left2 [] × IsAtEnd left2 → Finishes d.entries d.bytes (Ok tt) → rules.refuses d.entries refusal
    → RefusedWhole (bare form) rules left left2 held held1 refusal
refused_end {R} {form} rules {Took} {left} {left1} {held} {held1} left2 refusal d took e f u = record {
  entries = d.entries;
  read = read_end left2 d e f;
  accepted = took d.entries d.took;
  refused = u;
  grew = whole_head form held held1 d.entries d.bytes f.complete d.grew;
}

-- or there was no memory for what is written at its end
all_end : {form : Form} {Took : List Timed → Type 0} {left left1 held held1 : Option (List ℕ)} {r : State} {room : ℕ} (left2 : Option (List ℕ)) (d : DecodedTo form Took left left1 held held1 r room)
    → Takes left1 left2 [] × IsAtEnd left2 → PartRead (bare form) left left2 held held1
all_end {form} {Took} {left} {left1} {held} {held1} left2 d e =
    let T : List ℕ → Type 0 = Takes left left2 in
    record {
      entries = d.entries;
      bytes = d.bytes;
      taken = subst T (append-nil d.bytes) (Takes-Takes left left1 left2 d.bytes [] d.taken e.0);
      part = _;
      begins = begins_of d.read;
      end = Whole;
      grew = prefix_of_all held held1 (opened form.head (length d.bytes) ++ form.text [] d.entries) d.grew;
    }

no_spelling : (entries : List Timed) (bytes : List ℕ) (f : LogFault) → Finishes entries bytes (Err f) → (all : List Timed) → IsLog all bytes → ⊥
no_spelling entries bytes f h all s =
    let P : List Timed → Type 0 = λ x. IsLog x bytes in
    let wrong : Err f ≡ Ok tt = h.spelled (subst P (h.only all s.version s.spells.opens) s) in
    cc wrong

faulted_end : {form : Form} {Took : List Timed → Type 0} (accepts : List Timed → Type 0) {left left1 held held1 : Option (List ℕ)} {r : State} {room : ℕ} (left2 : Option (List ℕ)) (f : LogFault)
    (d : DecodedTo form Took left left1 held held1 r room)
    → ((es : List Timed) → Took es → accepts es) → Takes left1 left2 [] × IsAtEnd left2 → Finishes d.entries d.bytes (Err f) → Some f ≡ finish_of r
    → Faulted (bare form) accepts left left2 held held1 f
faulted_end {form} {Took} accepts {left} {left1} {held} {held1} {r} {room} left2 f d took e h is =
    let same : finish_of r ≡ finish_by None (stand_after d.read.version d.entries) r.taken =
    ap (λ (o : Option LogFault). finish_by o r.stand r.taken) d.read.no_fault ∙ ap (λ (s : Position). finish_by None s r.taken) d.read.stand in
    record {
      entries = d.entries;
      bytes = d.bytes;
      following = [];
      taken = Takes-Takes left left1 left2 d.bytes [] d.taken e.0;
      within = omega (arith, d.count);
      before = length d.bytes;
      refused = inr (
        refl,
        e.1,
        record {
          part = r.taken;
          begins = begins_of d.read;
          pending = pending_of d.read;
          fault_is = sym (is ∙ same);
          place = h.place;
          none = no_spelling d.entries d.bytes f h;
        },
        refl,
      );
      accepted = took d.entries d.took;
      grew = d.grew;
    }

-- the input has ended, one way or another
pub ended : {R : Type 0} {form : Form} (rules : Rules R) {Took : List Timed → Type 0} {left left1 held held1 : Option (List ℕ)} {r : State} {room : ℕ} (left2 held2 : Option (List ℕ))
    (end : LogEnding R) (d : DecodedTo form Took left left1 held held1 r room)
    → ((es : List Timed) → Took es → rules.accepts es) → Takes left1 left2 [] × IsAtEnd left2 → EndsLog rules d.entries d.bytes r held1 held2 end
    → ReadsTo (bare form) rules Took left left2 held held2 end
ended rules left2 held2 Done d took e f = decoded_end rules left2 held2 d e f.0 f.1
ended {R} {form} rules {Took} {left} {left1} {held} {held1} left2 held2 (NoLog fault) d took e f =
    let P : Option (List ℕ) → Type 0 = λ h. Faulted (bare form) Took left left2 held h fault in
    subst P (sym f.2) (faulted_end Took left2 fault d (λ es t. t) e f.0 f.1)
ended {R} {form} rules {Took} {left} {left1} {held} {held1} left2 held2 (Refused u) d took e f =
    let P : Option (List ℕ) → Type 0 = λ h. RefusedWhole (bare form) rules left left2 held h u in
    inr (subst P (sym f.2) (refused_end rules left2 u d took e f.0 f.1))
ended rules left2 held2 (Stopped WriteFault) d took e f = inr (part_end rules left2 held2 d took e f.0 f.1)
ended {R} {form} rules {Took} {left} {left1} {held} {held1} left2 held2 (Stopped NoMemory) d took e f =
    let P : Option (List ℕ) → Type 0 = λ h. PartRead (bare form) left left2 held h in
    subst P (sym f.1) (all_end left2 d e)
ended rules left2 held2 (Stopped ReadFault) d took e f = absurd f
ended rules left2 held2 (Stopped TooLong) d took e f = absurd f

-- ---- the end of the input meets no fault of the source

pub end_read : {R : Type 0} (rules : Rules R) (entries : List Timed) (bytes : List ℕ) (r : State) (held held' : Option (List ℕ)) (e : LogEnding R) (old new : ℕ)
    → EndsLog rules entries bytes r held held' e → new ≡ old → ReadCount old new (stop_of e)
end_read rules entries bytes r held held' Done old new s is = is
end_read rules entries bytes r held held' (NoLog f) old new s is = is
end_read rules entries bytes r held held' (Refused u) old new s is = is
end_read rules entries bytes r held held' (Stopped ReadFault) old new s is = absurd s
end_read rules entries bytes r held held' (Stopped WriteFault) old new s is = is
end_read rules entries bytes r held held' (Stopped TooLong) old new s is = is
end_read rules entries bytes r held held' (Stopped NoMemory) old new s is = is
