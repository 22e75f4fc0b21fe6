-- What was gathered of a piece is written.
use Rattle.std.proofs.Common.{◌≡◌, ℕ, List, [], ◌∷◌, ◌++◌, Option, None, Some, Ok, refl, sym, subst, ap, ◌∙◌, append_assoc}
use Rattle.std.proofs.lemmas.List.{append-nil}
use Rattle.fw_outside.specs.Outside.{Grows, AppendsPrefix}
use Rattle.fw_outside.specs.Stops.{ReadCount}
use Rattle.fw_outside.specs.declared.stop.Stop.TheVariants.{ReadFault, WriteFault, TooLong, NoMemory}
use Rattle.fw_outside.proofs.Parts.{prefix_then}
use Rattle.fw_log_entry.specs.declared.entry.Timed.{Timed}
use Rattle.fw_log.specs.Reader.{State}
use Rattle.fw_log.specs.History.{bytes_of, HasRead}
use Rattle.fw_log.specs.declared.LogFault.{LogFault}
use Rattle.fw_log_loop.specs.Readings.{Text, Form, Rules, IsEach}
use Rattle.fw_log_loop.specs.Endings.{Begins, stop_of, end_of}
use Rattle.fw_log_loop.specs.declared.ending.LogEnd.{LogEnd}
use Rattle.fw_log_loop.specs.declared.ending.LogEnding.{LogEnding}
use Rattle.fw_log_loop.specs.declared.ending.LogEnding.TheVariants.{Done, NoLog, Refused, Stopped}
use Rattle.fw_log_loop.specs.Parts.{EndsWithin}
use Rattle.fw_log_loop.specs.Pieces.{TakesPiece, Gathers, GathersUpTo, GathersToLast, Prints, PrintsUpTo, PrintsToLast, PrintsPart, Stops, StopsAt}
use Rattle.fw_log_loop.proofs.Texts.{prefix_of_none}

abbrev pub begins_of : {entries : List Timed} {bytes : List ℕ} {r : State} → HasRead entries bytes r → Begins entries r.taken bytes
begins_of h = record { version = h.version; order = h.order; same = h.same }

pub begins_before : (entries : List Timed) (part bytes following : List ℕ) → Begins entries part bytes → Begins entries (part ++ following) (bytes ++ following)
begins_before entries part bytes following b = record {
  version = b.version;
  order = b.order;
  same = sym (append_assoc (bytes_of b.version entries) part following) ∙ ap (λ (x : List ℕ). x ++ following) b.same;
}

-- the text that was gathered, if none was before
pub whole : (text : List ℕ) {old new : List ℕ} → old ≡ [] → new ≡ old ++ text → new ≡ text
whole text none is = is ∙ ap (λ (x : List ℕ). x ++ text) none

printed : {text : Text} {Took Took' : List Timed → Type 0} {held held' : Option (List ℕ)} {old new : List ℕ} {entries : List Timed} {bytes : List ℕ} {r : State}
    → old ≡ [] → ((es : List Timed) → Took es → Took' es) → Gathers text Took old new entries bytes r → Grows held held' new → Prints text Took' held held' entries bytes r
printed {text} {Took} {Took'} {held} {held'} {old} {new} {entries} none took g w =
    let P : List ℕ → Type 0 = Grows held held' in
    record { more = g.more; read = g.read; took = took (entries ++ g.more) g.took; grew = subst P (whole (text entries g.more) none g.gathered) w }

printed_up_to : {text : Text} {Took Took' : List Timed → Type 0} {held held' : Option (List ℕ)} {old new : List ℕ} {entries : List Timed} {bytes piece : List ℕ} {f : LogFault}
    → old ≡ [] → ((es : List Timed) → Took es → Took' es) → GathersUpTo text Took old new entries bytes piece f → Grows held held' new → PrintsUpTo text Took' held held' entries bytes piece f
printed_up_to {text} {Took} {Took'} {held} {held'} {entries = entries} none took g w =
    let P : List ℕ → Type 0 = Grows held held' in
    record { more = g.more; refuses = g.refuses; soon = g.soon; accepted = took (entries ++ g.more) g.accepted; grew = subst P (whole (text entries g.more) none g.gathered) w }

printed_to_last : {R : Type 0} {text : Text} {rules : Rules R} {held held' : Option (List ℕ)} {old new : List ℕ} {entries : List Timed} {bytes piece : List ℕ} {refusal : R}
    → old ≡ [] → GathersToLast text rules old new entries bytes piece refusal → Grows held held' new → PrintsToLast text rules held held' entries bytes piece refusal
printed_to_last {R} {text} {rules} {held} {held'} {entries = entries} none g w =
    let P : List ℕ → Type 0 = Grows held held' in
    record {
      more = g.more;
      last = g.last;
      done = g.done;
      rest = g.rest;
      parts = g.parts;
      begins = g.begins;
      accepted = g.accepted;
      rejected = g.rejected;
      grew = subst P (whole (text entries g.more) none g.gathered) w;
    }

-- not all was written
printed_part : {text : Text} {Took : List Timed → Type 0} {held held' : Option (List ℕ)} {old new : List ℕ} {entries : List Timed} {bytes : List ℕ} {r : State}
    → old ≡ [] → Gathers text Took old new entries bytes r → AppendsPrefix held held' new → PrintsPart text held held' entries bytes
printed_part {text} {Took} {held} {held'} {entries = entries} none g w =
    let P : List ℕ → Type 0 = AppendsPrefix held held' in
    record { more = g.more; part = _; begins = begins_of g.read; grew = subst P (whole (text entries g.more) none g.gathered) w }

printed_part_up_to : {text : Text} {accepts : List Timed → Type 0} {held held' : Option (List ℕ)} {old new : List ℕ} {entries : List Timed} {bytes piece : List ℕ} {f : LogFault}
    → old ≡ [] → GathersUpTo text accepts old new entries bytes piece f → AppendsPrefix held held' new → PrintsPart text held held' entries (bytes ++ piece)
printed_part_up_to {text} {accepts} {held} {held'} {entries = entries} none g w =
    let P : List ℕ → Type 0 = AppendsPrefix held held' in
    record { more = g.more; part = g.refuses.part; begins = g.refuses.begins; grew = subst P (whole (text entries g.more) none g.gathered) w }

printed_part_to_last : {R : Type 0} {text : Text} (e : IsEach text) {rules : Rules R} {held held' : Option (List ℕ)} {old new : List ℕ} {entries : List Timed} {bytes piece : List ℕ} {refusal : R}
    → old ≡ [] → GathersToLast text rules old new entries bytes piece refusal → AppendsPrefix held held' new → PrintsPart text held held' entries (bytes ++ piece)
printed_part_to_last {R} {text} e {rules} {held} {held'} {old} {new} {entries} {bytes} {piece} none g w =
    let P : List ℕ → Type 0 = AppendsPrefix held held' in
    let B : List Timed → Type 0 = λ es. Begins es g.rest (bytes ++ piece) in
    let following = begins_before ((entries ++ g.more) ++ g.last ∷ []) [] (bytes ++ g.done) g.rest g.begins in
    record {
      more = g.more ++ g.last ∷ [];
      part = g.rest;
      begins = subst B (append_assoc entries g.more (g.last ∷ []))
          (record { version = following.version; order = following.order; same = following.same ∙ append_assoc bytes g.done g.rest ∙ ap (λ (x : List ℕ). bytes ++ x) g.parts });
      grew = subst P (sym (e.more entries g.more (g.last ∷ []))) (prefix_then held held' (text entries g.more) (text (entries ++ g.more) (g.last ∷ []))
          (subst P (whole (text entries g.more) none g.gathered) w));
    }

pub written_part : {R : Type 0} (text : Text) (e : IsEach text) (rules : Rules R) (Took : List Timed → Type 0) {held held' : Option (List ℕ)} {old : List ℕ} (new : List ℕ) (entries : List Timed)
    (bytes piece : List ℕ) (r : State) (o : Option (LogEnding R))
    → old ≡ [] → TakesPiece text rules Took old new entries bytes piece r (Ok o) → AppendsPrefix held held' new → PrintsPart text held held' entries (bytes ++ piece)
written_part text e rules Took new entries bytes piece r None none g w = printed_part none g w
written_part text e rules Took new entries bytes piece r (Some (NoLog f)) none g w = printed_part_up_to none g w
written_part text e rules Took new entries bytes piece r (Some (Refused u)) none g w = printed_part_to_last e none g w
written_part text e rules Took new entries bytes piece r (Some Done) none g w = absurd g
written_part text e rules Took new entries bytes piece r (Some (Stopped s)) none g w = absurd g

pub written_stop : {R : Type 0} (text : Text) (rules : Rules R) (Took Took' : List Timed → Type 0) (held held' : Option (List ℕ)) (old new : List ℕ) (entries : List Timed) (bytes piece : List ℕ)
    (r : State) (o : Option (LogEnding R)) (ending : LogEnding R) → o ≡ Some ending
    → old ≡ [] → ((es : List Timed) → Took es → Took' es) → TakesPiece text rules Took old new entries bytes piece r (Ok o) → Grows held held' new
    → Stops text rules Took' held held' entries bytes piece ending
written_stop {R} text rules Took Took' held held' old new entries bytes piece r o ending e none took g w = go ending (subst (λ x. TakesPiece text rules Took old new entries bytes piece r (Ok x)) e g)
  where
    go : (ending : LogEnding R) → TakesPiece text rules Took old new entries bytes piece r (Ok (Some ending)) → Stops text rules Took' held held' entries bytes piece ending
    go (NoLog f) g = printed_up_to none took g w
    go (Refused u) g = printed_to_last none g w
    go Done g = absurd g
    go (Stopped s) g = absurd g

pub written : {R : Type 0} (text : Text) (rules : Rules R) (Took Took' : List Timed → Type 0) (held held' : Option (List ℕ)) (old new : List ℕ) (entries : List Timed) (bytes piece : List ℕ)
    (r : State) (o : Option (LogEnding R)) → o ≡ None
    → old ≡ [] → ((es : List Timed) → Took es → Took' es) → TakesPiece text rules Took old new entries bytes piece r (Ok o) → Grows held held' new
    → Prints text Took' held held' entries (bytes ++ piece) r
written text rules Took Took' held held' old new entries bytes piece r None e none took g w = printed none took g w
written text rules Took Took' held held' old new entries bytes piece r (Some f) e none took g w = cc e

-- nothing was written
pub printed_nothing : (text : Text) (held : Option (List ℕ)) (entries : List Timed) (bytes piece : List ℕ) (r : State) → HasRead entries bytes r → PrintsPart text held held entries (bytes ++ piece)
printed_nothing text held entries bytes piece r h =
    let P : List Timed → Type 0 = λ es. Begins es (r.taken ++ piece) (bytes ++ piece) in
    record { more = []; part = r.taken ++ piece; begins = subst P (sym (append-nil entries)) (begins_before entries r.taken bytes piece (begins_of h)); grew = prefix_of_none held (text entries []) }

-- ---- counts of faults

-- a call that is ended so by the bytes of a read
pub stops_within : {R : Type 0} (form : Form) (rules : Rules R) (Took : List Timed → Type 0) (held held' : Option (List ℕ)) (entries : List Timed) (bytes piece : List ℕ) (e : LogEnding R)
    → StopsAt form rules Took held held' entries bytes piece e → EndsWithin e
stops_within form rules Took held held' entries bytes piece Done s = s
stops_within form rules Took held held' entries bytes piece (NoLog f) s = tt
stops_within form rules Took held held' entries bytes piece (Refused u) s = tt
stops_within form rules Took held held' entries bytes piece (Stopped ReadFault) s = s
stops_within form rules Took held held' entries bytes piece (Stopped WriteFault) s = tt
stops_within form rules Took held held' entries bytes piece (Stopped TooLong) s = s
stops_within form rules Took held held' entries bytes piece (Stopped NoMemory) s = tt

-- meets no fault of the source
pub within_read : {R : Type 0} (e : LogEnding R) (old new : ℕ) → EndsWithin e → new ≡ old → ReadCount old new (stop_of e)
within_read Done old new s is = is
within_read (NoLog f) old new s is = is
within_read (Refused u) old new s is = is
within_read (Stopped ReadFault) old new s is = absurd s
within_read (Stopped WriteFault) old new s is = is
within_read (Stopped TooLong) old new s is = absurd s
within_read (Stopped NoMemory) old new s is = is

-- and if it gets an end, has written all that was gathered
pub within_end : {R : Type 0} (e : LogEnding R) (end : LogEnd) → EndsWithin e → end_of e ≡ Some end → stop_of e ≡ None
within_end Done end s is = absurd s
within_end (NoLog f) end s is = refl
within_end (Refused u) end s is = refl
within_end (Stopped ReadFault) end s is = absurd s
within_end (Stopped WriteFault) end s is = cc is
within_end (Stopped TooLong) end s is = absurd s
within_end (Stopped NoMemory) end s is = cc is
