-- The bytes of a read, of which a part is read at a time.
use Rattle.std.proofs.Common.{◌≡◌, inl, ℕ, ◌+◌, ◌-◌, ◌≤◌, ◌<◌, List, [], ◌∷◌, ◌++◌, length, Option, Some, None, arith, refl, ap, sym, subst, ◌∙◌, append_assoc, length-append}
use Rattle.std.proofs.lemmas.List.{append-nil}
use Rattle.fw_outside.specs.Outside.{Takes}
use Rattle.fw_outside.specs.Stops.{ReadCount, WriteCount}
use Rattle.fw_outside.specs.declared.stop.Stop.{Stop}
use Rattle.fw_outside.specs.declared.stop.Stop.TheVariants.{ReadFault, WriteFault, TooLong, NoMemory}
use Rattle.fw_outside.proofs.Parts.{Takes-Takes}
use Rattle.fw_log_entry.specs.declared.entry.Timed.{Timed}
use Rattle.fw_log.specs.Reader.{State}
use Rattle.fw_log_loop.specs.Readings.{Form, Rules, IsEach, bare}
use Rattle.fw_log_loop.specs.Endings.{piece_size, PassedLimit}
use Rattle.fw_log_loop.specs.declared.ending.LogEnding.{LogEnding}
use Rattle.fw_log_loop.specs.Pieces.{PrintsMore, StopsAt, DecodedTo, ReadsTo}
use Rattle.fw_log_loop.specs.declared.ending.LogEnding.TheVariants.{Stopped}
use Rattle.fw_log_loop.specs.Parts.{PartsLeft, unread}
use Rattle.fw_log_loop.proofs.Decodings.{decoded_more}
use Rattle.fw_log_loop.proofs.Interruptions.{interrupted, unpassed, stopped_in, passed}

-- bytes that are taken are taken in two parts
takes_apart : (old new : Option (List ℕ)) (xs ys : List ℕ) → Takes old new (xs ++ ys) → (mid : Option (List ℕ)) × Takes old mid xs × Takes mid new ys
takes_apart None None xs ys t = (None, tt, tt)
takes_apart None (Some new) xs ys t = absurd t
takes_apart (Some old) None xs ys t = absurd t
takes_apart (Some old) (Some new) xs ys t = (Some (ys ++ new), t ∙ append_assoc xs ys new, refl)

-- none of them was read yet
pub parts_first : {form : Form} {Took : List Timed → Type 0} {left left1 held held1 : Option (List ℕ)} {r : State} {room : ℕ} (left2 : Option (List ℕ)) (bytes following : List ℕ)
    → DecodedTo form Took left left1 held held1 r room → Takes left1 left2 (bytes ++ following) → length bytes ≤ room → length bytes + length following ≤ piece_size
    → PartsLeft form Took left left2 held held1 r bytes following (room - length bytes)
parts_first {form} {Took} {left} {left1} {held} {held1} {r} {room} left2 bytes following d t within few =
    let same : room ≡ (room - length bytes) + length bytes = omega (arith, within) in
    record { mid = left1; decoded = subst (DecodedTo form Took left left1 held held1 r) same d; takes = t; few = few }

-- a part of them was read
pub parts_more : {form : Form} (each : IsEach form.text) {Took Took' : List Timed → Type 0} {left left2 held held1 : Option (List ℕ)} {r : State} {room : ℕ} (held2 : Option (List ℕ)) (new : State)
    (part rest following : List ℕ) (p : PartsLeft form Took left left2 held held1 r (part ++ rest) following room)
    → PrintsMore form Took' held1 held2 p.decoded.entries p.decoded.bytes part new → PartsLeft form Took' left left2 held held2 new rest following room
parts_more {form} each {Took} {Took'} {left} {left2} {held} {held1} {r} {room} held2 new part rest following p more =
    let a = takes_apart p.mid left2 part (rest ++ following) (subst (Takes p.mid left2) (append_assoc part rest following) p.takes) in
    let same : (room + length (part ++ rest)) - length part ≡ room + length rest = omega (arith, length-append part rest) in
    record {
      mid = a.0;
      decoded = subst (DecodedTo form Took' left a.0 held held2 new) same (decoded_more each a.0 held2 new part p.decoded a.1 more (omega (arith, length-append part rest)));
      takes = a.2;
      few = omega (arith, p.few, length-append part rest);
    }

-- a part of them ended the call
pub parts_stopped : {R : Type 0} {form : Form} (each : IsEach form.text) (rules : Rules R) (Took' : List Timed → Type 0) {Took : List Timed → Type 0}
    {left left2 held held1 : Option (List ℕ)} {r : State} {room : ℕ} (held2 : Option (List ℕ)) (part rest following : List ℕ) (e : LogEnding R)
    (p : PartsLeft form Took left left2 held held1 r (part ++ rest) following room)
    → (prefix later : List ℕ) × (prefix ++ later ≡ part) × StopsAt form rules Took' held1 held2 p.decoded.entries p.decoded.bytes prefix e
    → ReadsTo (bare form) rules Took' left left2 held held2 e
parts_stopped each rules Took' {left2 = left2} held2 part rest following e p s =
    stopped_in each rules Took' left2 held2 part (rest ++ following) e p.decoded (subst (Takes p.mid left2) (append_assoc part rest following) p.takes)
    (omega (arith, length-append part rest))
    (omega (arith, p.few, length-append part rest, length-append rest following)) s

none_left : (xs : List ℕ) → length xs ≡ 0 → xs ≡ []
none_left [] none = refl
none_left (x ∷ xs) none = absurd (omega (arith, none))

-- all of them were read
pub parts_done : {form : Form} {Took : List Timed → Type 0} {left left2 held held1 : Option (List ℕ)} {r : State} {room : ℕ} (rest following : List ℕ)
    → PartsLeft form Took left left2 held held1 r rest following room → length rest ≡ 0 → PartsLeft form Took left left2 held held1 r [] following room
parts_done {form} {Took} {left} {left2} {held} {held1} {r} {room} rest following p none =
    let L : List ℕ → Type 0 = λ xs. PartsLeft form Took left left2 held held1 r xs following room in
    subst L (none_left rest none) p

-- and none follow
pub parts_all : {form : Form} {Took : List Timed → Type 0} {left left2 held held1 : Option (List ℕ)} {r : State} {room : ℕ} → PartsLeft form Took left left2 held held1 r [] [] room
    → DecodedTo form Took left left2 held held1 r room
parts_all {form} {Took} {left} {left2} {held} {held1} {r} {room} p =
    let d = p.decoded in
    record {
      entries = d.entries;
      bytes = d.bytes;
      taken = subst (Takes left left2) (append-nil d.bytes) (Takes-Takes left p.mid left2 d.bytes [] d.taken p.takes);
      read = d.read;
      took = d.took;
      grew = d.grew;
      count = omega (arith, d.count);
    }

-- or others do, after the limit
pub parts_passed : {form : Form} {Took : List Timed → Type 0} {left left2 held held1 : Option (List ℕ)} {r : State} {room : ℕ} (following : List ℕ)
    → PartsLeft form Took left left2 held held1 r [] following room → room ≡ 0 → 0 < length following → PassedLimit (bare form) Took left left2 held held1
parts_passed {form} {Took} {left} {left2} {held} {held1} {r} {room} following p none some =
    passed left2 following (subst (DecodedTo form Took left p.mid held held1 r) (omega (arith, none)) p.decoded) p.takes some (omega (arith, p.few))

-- ---- no more bytes were given

pub unread_reads : {R : Type 0} {form : Form} (rules : Rules R) {Took : List Timed → Type 0} {left left1 held held1 : Option (List ℕ)} {r : State} {room : ℕ} (stop : Stop)
    → DecodedTo form Took left left1 held held1 r room → ReadsTo (bare form) rules Took left left1 held held1 (Stopped (unread stop))
unread_reads rules ReadFault d = interrupted (λ es t. t) d
unread_reads rules WriteFault d = inl (unpassed d)
unread_reads rules TooLong d = unpassed d
unread_reads rules NoMemory d = unpassed d

pub unread_read : (stop : Stop) (old new : ℕ) → ReadCount old new (Some stop) → ReadCount old new (Some (unread stop))
unread_read ReadFault old new h = h
unread_read WriteFault old new h = h
unread_read TooLong old new h = h
unread_read NoMemory old new h = h

pub unread_written : (stop : Stop) (old new : ℕ) → WriteCount old new (Some stop) → WriteCount old new (Some (unread stop))
unread_written ReadFault old new h = h
unread_written WriteFault old new h = h
unread_written TooLong old new h = h
unread_written NoMemory old new h = h
