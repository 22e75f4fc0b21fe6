-- What was read of a log if the source failed, the log was refused, or more came than the limit.
use Rattle.std.proofs.Common.{◌≡◌, inl, ℕ, ◌+◌, ◌≤◌, ◌<◌, List, [], ◌++◌, length, take, drop, Option, arith, refl, ap, sym, subst, ◌∙◌, append_assoc, length-append}
use Rattle.std.proofs.lemmas.List.{take-append-drop, take-take, length-take-le, length-drop}
use Rattle.fw_outside.specs.Outside.{Takes, Grows}
use Rattle.fw_outside.specs.declared.stop.Stop.TheVariants.{ReadFault, WriteFault, TooLong, NoMemory}
use Rattle.fw_outside.proofs.Parts.{Takes-Takes, Takes-nothing}
use Rattle.fw_log_entry.specs.declared.version.Version.TheVariants.{One}
use Rattle.fw_log_entry.specs.declared.entry.Timed.{Timed}
use Rattle.fw_log.specs.Reader.{State}
use Rattle.fw_log.specs.History.{bytes_of}
use Rattle.fw_log.specs.declared.LogFault.{LogFault}
use Rattle.fw_log_loop.specs.Readings.{Form, Rules, IsEach, bare, IsBare}
use Rattle.fw_log_loop.specs.Turns.{SourceTurn, SinkTurn}
use Rattle.fw_log_loop.specs.Endings.{opened, piece_size, Faulted, Rejected, PassedLimit, Interrupted, PartRead, Reads, ReadsLog, limit}
use Rattle.fw_log_loop.specs.declared.ending.LogEnd.TheVariants.{Whole}
use Rattle.fw_log_loop.specs.declared.ending.LogEnding.{LogEnding}
use Rattle.fw_log_loop.specs.declared.ending.LogEnding.TheVariants.{Done, NoLog, Refused, Stopped}
use Rattle.fw_log_loop.specs.Pieces.{PrintsTo, PrintsLast, PrintsPrefix, StopsAt, DecodedTo, ReadsTo}
use Rattle.fw_log_loop.proofs.Texts.{grows_due, prefix_due, prefix_later, opened_is, none_before, prefix_of_none, prefix_of_all}
use Rattle.fw_log_loop.proofs.Printings.{begins_of}
use Rattle.fw_log_loop.proofs.Decodings.{pending_of}

-- ---- before the end

-- the source failed
pub interrupted : {form : Form} {Took : List Timed → Type 0} {accepts : List Timed → Type 0} {left left1 held held1 : Option (List ℕ)} {r : State} {room : ℕ}
    → ((es : List Timed) → Took es → accepts es) → DecodedTo form Took left left1 held held1 r room
    → Interrupted (bare form) accepts left left1 held held1
interrupted took d = record {
  entries = d.entries;
  bytes = d.bytes;
  taken = d.taken;
  within = omega (arith, d.count);
  part = _;
  begins = begins_of d.read;
  pending = pending_of d.read;
  accepted = took d.entries d.took;
  grew = d.grew;
}

-- the sink failed before more was read
pub unpassed : {form : Form} {Took : List Timed → Type 0} {left left1 held held1 : Option (List ℕ)} {r : State} {room : ℕ} → DecodedTo form Took left left1 held held1 r room
    → PartRead (bare form) left left1 held held1
unpassed {form} {Took} {left} {left1} {held} {held1} d = record {
  entries = d.entries;
  bytes = d.bytes;
  taken = d.taken;
  part = _;
  begins = begins_of d.read;
  end = Whole;
  grew = prefix_of_all held held1 (opened form.head (length d.bytes) ++ form.text [] d.entries) d.grew;
}

-- nothing was read
pub part_nothing : (form : Form) (left held : Option (List ℕ)) → PartRead form left left held held
part_nothing form left held = record {
  entries = [];
  bytes = [];
  taken = Takes-nothing left;
  part = [];
  begins = record { version = One; order = tt; same = refl };
  end = Whole;
  grew = prefix_of_none held (form.closed [] Whole (form.prefix ++ (opened form.head 0 ++ form.text [] [])));
}

-- so a word that finds no memory before it reads promises no less
pub nothing_read : {S K R : Type 0} (form : Form) (rules : Rules R) (source : SourceTurn S) (sink : SinkTurn K) → source.new ≡ source.old → sink.new ≡ sink.old
    → ReadsLog form rules source sink (Stopped NoMemory)
nothing_read {S} {K} {R} form rules source sink same kept = record {
  reads = let P : S → K → Type 0 = λ s k. PartRead form (source.left source.old) (source.left s) (sink.held sink.old) (sink.held k) in
      subst (λ s. P s sink.new) (sym same) (subst (P source.old) (sym kept) (part_nothing form (source.left source.old) (sink.held sink.old)));
  read_count = ap source.faults same;
  write_count = ap sink.faults kept;
  complete = λ entries bytes is log short h. tt;
}

-- a piece of which not all was printed
stopped_part : {form : Form} (each : IsEach form.text) {Took : List Timed → Type 0} {left left1 held held1 : Option (List ℕ)} {r : State} {room : ℕ} (left2 held2 : Option (List ℕ))
    (piece following : List ℕ) (d : DecodedTo form Took left left1 held held1 r room)
    → Takes left1 left2 (piece ++ following) → PrintsPrefix form held1 held2 d.entries (d.bytes ++ piece) (length d.bytes) → PartRead (bare form) left left2 held held2
stopped_part {form} each {Took} {left} {left1} {held} {held1} {r} {room} left2 held2 piece following d t p = record {
  entries = d.entries ++ p.more;
  bytes = d.bytes ++ (piece ++ following);
  taken = Takes-Takes left left1 left2 d.bytes (piece ++ following) d.taken t;
  part = p.part ++ following;
  begins = record {
    version = p.begins.version;
    order = p.begins.order;
    same = sym (append_assoc (bytes_of p.begins.version (d.entries ++ p.more)) p.part following) ∙ ap (λ (x : List ℕ). x ++ following) p.begins.same ∙ append_assoc d.bytes piece following;
  };
  end = Whole;
  grew = prefix_later each form.head (d.entries ++ p.more) (length (d.bytes ++ piece)) (length (d.bytes ++ (piece ++ following))) held held2
      (omega (arith, length-append d.bytes piece, length-append d.bytes (piece ++ following), length-append piece following))
      (none_before p.begins.version (d.entries ++ p.more) p.part (d.bytes ++ piece) p.begins.same)
      (prefix_due each form.head d.entries p.more (length d.bytes) (length (d.bytes ++ piece)) held held1 held2 (λ h. omega (arith, h, length-append d.bytes piece))
      (none_before d.read.version d.entries r.taken d.bytes d.read.same) d.grew p.grew);
}

stopped_fault : {form : Form} (each : IsEach form.text) (accepts : List Timed → Type 0) {Took : List Timed → Type 0} {left left1 held held1 : Option (List ℕ)} {r : State} {room : ℕ}
    (left2 held2 : Option (List ℕ)) (piece following : List ℕ) (f : LogFault) (d : DecodedTo form Took left left1 held held1 r room)
    → Takes left1 left2 (piece ++ following) → length piece ≤ room → length piece + length following ≤ piece_size → PrintsTo form accepts held1 held2 d.entries d.bytes piece f
    → Faulted (bare form) accepts left left2 held held2 f
stopped_fault {form} each accepts {Took} {left} {left1} {held} {held1} {r} {room} left2 held2 piece following f d t within few p =
    let T : List ℕ → Type 0 = Takes left left2 in
    record {
      entries = d.entries ++ p.more;
      bytes = d.bytes ++ piece;
      following = following;
      taken = subst T (sym (append_assoc d.bytes piece following)) (Takes-Takes left left1 left2 d.bytes (piece ++ following) d.taken t);
      within = omega (arith, d.count, length-append d.bytes piece);
      before = length (bytes_of p.refuses.begins.version (d.entries ++ p.more)) + p.refuses.index;
      refused = inl (record { refuses = p.refuses; place = refl; soon = omega (arith, p.soon, few) });
      accepted = p.accepted;
      grew = grows_due each form.head d.entries p.more (length d.bytes) (length (bytes_of p.refuses.begins.version (d.entries ++ p.more)) + p.refuses.index) held held1 held2
          (λ h. omega (arith, h, p.soon, ap length p.refuses.begins.same, length-append (bytes_of p.refuses.begins.version (d.entries ++ p.more)) p.refuses.part, length-append d.bytes piece))
          (none_before d.read.version d.entries r.taken d.bytes d.read.same) d.grew p.grew;
    }

-- the log is refused at an entry
stopped_last : {R : Type 0} {form : Form} (each : IsEach form.text) (rules : Rules R) {Took : List Timed → Type 0} {left left1 held held1 : Option (List ℕ)} {r : State} {room : ℕ}
    (left2 held2 : Option (List ℕ)) (piece following : List ℕ) (refusal : R) (d : DecodedTo form Took left left1 held held1 r room)
    → Takes left1 left2 (piece ++ following) → length piece ≤ room → length piece + length following ≤ piece_size → PrintsLast form rules held1 held2 d.entries d.bytes piece refusal
    → Rejected (bare form) rules left left2 held held2 refusal
stopped_last {R} {form} each rules {Took} {left} {left1} {held} {held1} {r} {room} left2 held2 piece following refusal d t within few p =
    let T : List ℕ → Type 0 = Takes left left2 in
    let line : d.bytes ++ (piece ++ following) ≡ (d.bytes ++ p.done) ++ (p.rest ++ following) =
    ap (λ (x : List ℕ). d.bytes ++ x) (ap (λ (x : List ℕ). x ++ following) (sym p.parts) ∙ append_assoc p.done p.rest following) ∙ sym (append_assoc d.bytes p.done (p.rest ++ following)) in
    let size : length p.done + length p.rest ≡ length piece = omega (arith, ap length p.parts, length-append p.done p.rest) in
    let P : List ℕ → Type 0 = λ x. Grows held held2 (x ++ form.text [] (d.entries ++ p.more)) in
    record {
      before = d.entries ++ p.more;
      last = p.last;
      bytes = d.bytes ++ p.done;
      following = p.rest ++ following;
      taken = subst T line (Takes-Takes left left1 left2 d.bytes (piece ++ following) d.taken t);
      within = omega (arith, d.count, within, size, length-append d.bytes p.done);
      few = omega (arith, few, size, length-append p.rest following);
      begins = p.begins;
      accepted = p.accepted;
      rejected = p.rejected;
      grew = subst P (opened_is form.head 16 (omega arith))
          (grows_due each form.head d.entries p.more (length d.bytes) 16 held held1 held2 (λ h. omega arith) (none_before d.read.version d.entries r.taken d.bytes d.read.same) d.grew p.grew);
    }

stopped : {R : Type 0} {form : Form} (each : IsEach form.text) (rules : Rules R)
    (Took' : List Timed → Type 0) {Took : List Timed → Type 0} {left left1 held held1 : Option (List ℕ)} {r : State} {room : ℕ} (left2 held2 : Option (List ℕ)) (piece following : List ℕ)
    (e : LogEnding R) (d : DecodedTo form Took left left1 held held1 r room)
    → Takes left1 left2 (piece ++ following) → length piece ≤ room → length piece + length following ≤ piece_size → StopsAt form rules Took' held1 held2 d.entries d.bytes piece e
    → ReadsTo (bare form) rules Took' left left2 held held2 e
stopped each rules Took' left2 held2 piece following (NoLog f) d t within few s = stopped_fault each Took' left2 held2 piece following f d t within few s
stopped each rules Took' left2 held2 piece following (Refused u) d t within few s = inl (stopped_last each rules left2 held2 piece following u d t within few s)
stopped each rules Took' left2 held2 piece following (Stopped WriteFault) d t within few s = inl (stopped_part each left2 held2 piece following d t s)
stopped each rules Took' left2 held2 piece following (Stopped NoMemory) d t within few s = stopped_part each left2 held2 piece following d t s
stopped each rules Took' left2 held2 piece following (Stopped ReadFault) d t within few s = absurd s
stopped each rules Took' left2 held2 piece following (Stopped TooLong) d t within few s = absurd s
stopped each rules Took' left2 held2 piece following Done d t within few s = absurd s

-- some of the bytes were looked at
pub stopped_in : {R : Type 0} {form : Form} (each : IsEach form.text) (rules : Rules R)
    (Took' : List Timed → Type 0) {Took : List Timed → Type 0} {left left1 held held1 : Option (List ℕ)} {r : State} {room : ℕ} (left2 held2 : Option (List ℕ)) (piece following : List ℕ)
    (e : LogEnding R) (d : DecodedTo form Took left left1 held held1 r room)
    → Takes left1 left2 (piece ++ following) → length piece ≤ room → length piece + length following ≤ piece_size → (prefix rest : List ℕ) × (prefix ++ rest ≡ piece)
    × StopsAt form rules Took' held1 held2 d.entries d.bytes prefix e → ReadsTo (bare form) rules Took' left left2 held held2 e
stopped_in each rules Took' {left1 = left1} left2 held2 piece following e d t within few s =
    let T : List ℕ → Type 0 = Takes left1 left2 in
    stopped each rules Took' left2 held2 s.0 (s.1 ++ following) e d (subst T (ap (λ (x : List ℕ). x ++ following) (sym s.2) ∙ append_assoc s.0 s.1 following) t)
    (omega (arith, within, ap length s.2, length-append s.0 s.1))
    (omega (arith, few, ap length s.2, length-append s.0 s.1, length-append s.1 following)) s.3

-- more bytes came than the limit
pub passed : {form : Form} {Took : List Timed → Type 0} {left left1 held held1 : Option (List ℕ)} {r : State} (left2 : Option (List ℕ)) (following : List ℕ)
    (d : DecodedTo form Took left left1 held held1 r 0) → Takes left1 left2 following → 0 < length following → length following ≤ piece_size → PassedLimit (bare form) Took left left2 held held1
passed {form} {Took} {left} {left1} {held} {held1} {r} left2 following d t some few = record {
  entries = d.entries;
  bytes = d.bytes;
  following = following;
  taken = Takes-Takes left left1 left2 d.bytes following d.taken t;
  full = omega (arith, d.count);
  more = some;
  few = few;
  part = r.taken;
  begins = begins_of d.read;
  pending = pending_of d.read;
  accepted = d.took;
  grew =
      let size : length d.bytes ≡ limit = omega (arith, d.count) in
      let P : List ℕ → Type 0 = λ x. Grows held held1 (x ++ form.text [] d.entries) in
      subst P (opened_is form.head (length d.bytes) (omega (arith, size))) d.grew;
}

-- what is read of entries that were taken, by a word that goes on after those that it takes
pub read_by : {R : Type 0} (form : Form) (rules : Rules R) (Took : List Timed → Type 0) (left left' held held' : Option (List ℕ)) (e : LogEnding R) → ((es : List Timed) → Took es → rules.accepts es)
    → ReadsTo form rules Took left left' held held' e → Reads form rules left left' held held' e
read_by form rules Took left left' held held' Done took d = record { entries = d.entries; read = d.read; accepted = took d.entries d.accepted; last = d.last; closed = d.closed; grew = d.grew }
read_by form rules Took left left' held held' (NoLog f) took d =
    record {
      entries = d.entries;
      bytes = d.bytes;
      following = d.following;
      taken = d.taken;
      within = d.within;
      before = d.before;
      refused = d.refused;
      accepted = took d.entries d.accepted;
      grew = d.grew;
    }
read_by form rules Took left left' held held' (Refused u) took d = d
read_by form rules Took left left' held held' (Stopped ReadFault) took d =
    record { entries = d.entries; bytes = d.bytes; taken = d.taken; within = d.within; part = d.part; begins = d.begins; pending = d.pending; accepted = took d.entries d.accepted; grew = d.grew }
read_by form rules Took left left' held held' (Stopped WriteFault) took d = d
read_by form rules Took left left' held held' (Stopped TooLong) took d = record {
  entries = d.entries;
  bytes = d.bytes;
  following = d.following;
  taken = d.taken;
  full = d.full;
  more = d.more;
  few = d.few;
  part = d.part;
  begins = d.begins;
  pending = d.pending;
  accepted = took d.entries d.accepted;
  grew = d.grew;
}
read_by form rules Took left left' held held' (Stopped NoMemory) took d = d

-- and that writes nothing before anything is read, and nothing at the end of what was read
pub read_bare : {R : Type 0} (form : Form) (rules : Rules R) (Took : List Timed → Type 0) (left left' held held' : Option (List ℕ)) (e : LogEnding R) → IsBare form
    → ((es : List Timed) → Took es → rules.accepts es) → ReadsTo (bare form) rules Took left left' held held' e
    → Reads form rules left left' held held' e
read_bare form rules Took left left' held held' e is took d =
    let P : Form → Type 0 = λ f. Reads f rules left left' held held' e in
    subst P (sym is) (read_by (bare form) rules Took left left' held held' e took d)

-- what was read is what is within the limit, and what is after it
pub cut_at : (n m : ℕ) (xs : List ℕ) → n ≤ m → take n xs ++ drop n (take m xs) ≡ take m xs
cut_at n m xs within = ap (λ (x : List ℕ). x ++ drop n (take m xs)) (sym (take-take n m xs within)) ∙ take-append-drop n (take m xs)

pub few_taken : (n m : ℕ) (xs : List ℕ) → n ≤ m → m ≤ length xs → length xs ≤ piece_size → length (take n xs) + length (drop n (take m xs)) ≤ piece_size
few_taken n m xs less fits size = omega (arith, less, fits, size, length-take-le n xs (omega (arith, less, fits)), length-take-le m xs fits, length-drop n (take m xs))

pub few_following : {k : ℕ} (n : ℕ) → n + k ≤ piece_size → k ≤ piece_size
few_following n h = omega (arith, h)
