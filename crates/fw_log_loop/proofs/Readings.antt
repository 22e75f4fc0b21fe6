-- The bytes of a read: what is due of them is written.
use Rattle.std.proofs.Common.{◌≡◌, ℕ, ◌+◌, ◌≤◌, ◌<◌, List, [], ◌++◌, length, Option, Result, Ok, Err, arith, sym, subst, ap, ◌∙◌, append_assoc, length-append}
use Rattle.std.proofs.lemmas.List.{append-nil}
use Rattle.fw_outside.specs.Outside.{Grows, AppendsPrefix}
use Rattle.fw_outside.specs.declared.stop.Stop.TheVariants.{ReadFault, WriteFault, TooLong, NoMemory}
use Rattle.fw_outside.proofs.Parts.{Grows-Grows, then_prefix, prefix_then}
use Rattle.fw_log_entry.specs.declared.entry.Timed.{Timed}
use Rattle.fw_log.specs.Reader.{State}
use Rattle.fw_log.specs.History.{bytes_of, HasRead}
use Rattle.fw_log_loop.specs.Readings.{Form, Rules, IsEach}
use Rattle.fw_log_loop.specs.declared.ending.LogEnding.{LogEnding}
use Rattle.fw_log_loop.specs.declared.ending.LogEnding.TheVariants.{Done, NoLog, Refused, Stopped}
use Rattle.fw_log_loop.specs.Pieces.{Prints, PrintsPart, Stops, PrintsPiece, opening, PrintsPrefix, StopsAt, PrintsBytes}
use Rattle.fw_log_loop.proofs.Printings.{begins_of, whole}
use Rattle.fw_log_loop.proofs.Openings.{opening_none, opening_is, opening_not_yet, refused_at, none_yet, following_none, stops_after, stops_before}

-- those of a read after the header
pub bytes_after : {R : Type 0} (form : Form) (rules : Rules R) (Took : List Timed → Type 0) (held held' : Option (List ℕ)) (entries : List Timed) (bytes piece : List ℕ) (reader : State)
    (r : Result (Unit {0}) (LogEnding R))
    → 16 ≤ length bytes → PrintsPiece form.text rules Took held held' entries bytes piece reader r → PrintsBytes form rules Took held held' entries bytes piece reader r
bytes_after form rules Took held held' entries bytes piece reader (Ok u) whole p =
    let P : List ℕ → Type 0 = λ x. Grows held held' (x ++ form.text entries p.more) in
    record { more = p.more; read = p.read; took = p.took; grew = subst P (sym (opening_none form.head (length bytes) _ whole)) p.grew }
bytes_after form rules Took held held' entries bytes piece reader (Err e) whole s = (piece, [], append-nil piece, stops_after form rules Took held held' entries bytes piece e whole s)

-- none of it was due yet
pub bytes_before : {R : Type 0} (form : Form) (rules : Rules R) (Took : List Timed → Type 0) (held held' : Option (List ℕ)) (entries : List Timed) (bytes piece : List ℕ) (reader : State)
    (r : Result (Unit {0}) (LogEnding R))
    → IsEach form.text → length (bytes ++ piece) < 16 → PrintsPiece form.text rules Took held held' entries bytes piece reader r → PrintsBytes form rules Took held held' entries bytes piece reader r
bytes_before form rules Took held held' entries bytes piece reader (Ok u) each short p =
    let P : List ℕ → Type 0 = λ x. Grows held held' (x ++ form.text entries p.more) in
    record { more = p.more; read = p.read; took = p.took; grew = subst P (sym (opening_not_yet form.head (length bytes) (length (bytes ++ piece)) short)) p.grew }
bytes_before form rules Took held held' entries bytes piece reader (Err e) each short s =
    (piece, [], append-nil piece, stops_before form rules Took held held' entries bytes piece e each (omega (arith, short)) s)

-- the bytes up to the header's end were not all read
pub bytes_stopped : {R : Type 0} (form : Form) (rules : Rules R) (Took : List Timed → Type 0) (held held' : Option (List ℕ)) (entries : List Timed) (bytes prefix following piece : List ℕ)
    (e : LogEnding R) → IsEach form.text → length (bytes ++ prefix) ≤ 16 → prefix ++ following ≡ piece
    → Stops form.text rules Took held held' entries bytes prefix e → (x y : List ℕ) × (x ++ y ≡ piece) × StopsAt form rules Took held held' entries bytes x e
bytes_stopped form rules Took held held' entries bytes prefix following piece e each short line s =
    (prefix, following, line, stops_before form rules Took held held' entries bytes prefix e each short s)

-- the header becomes whole in it: the bytes up to its end, then what is due, then those after it
pub bytes_opened : {R : Type 0} (form : Form) (rules : Rules R) (Took Took' : List Timed → Type 0) (held mid held1 held2 : Option (List ℕ)) (entries : List Timed) (bytes prefix : List ℕ)
    (reader : State) (following : List ℕ) (new : State) (r : Result (Unit {0}) (LogEnding R))
    → IsEach form.text → length (bytes ++ prefix) ≡ 16 → 0 < length prefix → Prints form.text Took held mid entries (bytes ++ prefix) reader → Grows mid held1 form.head
    → ((es : List Timed) (bs : List ℕ) → HasRead es bs reader → Took es → PrintsPiece form.text rules Took' held1 held2 es bs following new r)
    → PrintsBytes form rules Took' held held2 entries bytes (prefix ++ following) new r
bytes_opened {R} form rules Took Took' held mid held1 held2 entries bytes prefix reader following new r each whole some p wrote next = go r (next (entries ++ p.more) (bytes ++ prefix) p.read p.took)
  where
    none : entries ++ p.more ≡ []
    none = none_yet p.read.version (entries ++ p.more) reader.taken (bytes ++ prefix) p.read.same (omega (arith, whole))

    more : p.more ≡ []
    more = following_none entries p.more none

    same : entries ++ p.more ≡ entries
    same = ap (λ (xs : List Timed). entries ++ xs) more ∙ append-nil entries

    opened_at : Grows held held1 form.head
    opened_at = let P : List ℕ → Type 0 = Grows held mid in Grows-Grows held mid held1 [] form.head (subst P (ap (form.text entries) more ∙ each.none entries) p.grew) wrote

    due : (count : ℕ) → 16 ≤ count → opening form.head (length bytes) count ≡ form.head
    due count enough = opening_is form.head (length bytes) count (omega (arith, whole, some, length-append bytes prefix)) enough

    line : (bytes ++ prefix) ++ following ≡ bytes ++ (prefix ++ following)
    line = append_assoc bytes prefix following

    cut : PrintsPart form.text held1 held2 entries ((bytes ++ prefix) ++ following) → PrintsPrefix form held held2 entries (bytes ++ (prefix ++ following)) (length bytes)
    cut s =
        let P : List ℕ → Type 0 = λ x. AppendsPrefix held held2 (x ++ form.text entries s.more) in
        record {
          more = s.more;
          part = s.part;
          begins = record { version = s.begins.version; order = s.begins.order; same = s.begins.same ∙ line };
          grew = subst P (sym (due (length (bytes ++ (prefix ++ following))) (omega (arith, whole, ap length line, length-append (bytes ++ prefix) following))))
              (then_prefix held held1 held2 form.head (form.text entries s.more) opened_at s.grew);
        }

    stopped : (e : LogEnding R) → Stops form.text rules Took' held1 held2 entries (bytes ++ prefix) following e → StopsAt form rules Took' held held2 entries bytes (prefix ++ following) e
    stopped (NoLog f) s =
        let at : 16 ≤ length (bytes_of s.refuses.begins.version (entries ++ s.more)) + s.refuses.index = omega
        (arith, whole, refused_at s.refuses, s.soon, length-append (bytes ++ prefix) following) in
        let P : List ℕ → Type 0 = λ x. Grows held held2 (x ++ form.text entries s.more) in
        record {
          more = s.more;
          refuses = record {
            part = s.refuses.part;
            begins = record { version = s.refuses.begins.version; order = s.refuses.begins.order; same = s.refuses.begins.same ∙ line };
            index = s.refuses.index;
            shown = s.refuses.shown;
            none = s.refuses.none;
          };
          soon = omega (arith, s.soon, length-append prefix following);
          accepted = s.accepted;
          grew = subst P (sym (due (length (bytes_of s.refuses.begins.version (entries ++ s.more)) + s.refuses.index) at))
              (Grows-Grows held held1 held2 form.head (form.text entries s.more) opened_at s.grew);
        }
    stopped (Refused u) s =
        let P : List ℕ → Type 0 = λ x. Grows held held2 (x ++ form.text entries s.more) in
        record {
          more = s.more;
          last = s.last;
          done = prefix ++ s.done;
          rest = s.rest;
          parts = append_assoc prefix s.done s.rest ∙ ap (λ (x : List ℕ). prefix ++ x) s.parts;
          begins = record { version = s.begins.version; order = s.begins.order; same = s.begins.same ∙ append_assoc bytes prefix s.done };
          accepted = s.accepted;
          rejected = s.rejected;
          grew = subst P (sym (due 16 (omega arith))) (Grows-Grows held held1 held2 form.head (form.text entries s.more) opened_at s.grew);
        }
    stopped (Stopped WriteFault) s = cut s
    stopped (Stopped NoMemory) s = cut s
    stopped (Stopped ReadFault) s = absurd s
    stopped (Stopped TooLong) s = absurd s
    stopped Done s = absurd s

    go : (r : Result (Unit {0}) (LogEnding R)) → PrintsPiece form.text rules Took' held1 held2 (entries ++ p.more) (bytes ++ prefix) following new r
        → PrintsBytes form rules Took' held held2 entries bytes (prefix ++ following) new r
    go (Ok u) q =
        let Q : List Timed → Type 0 = λ es. (more : List Timed) × HasRead (es ++ more) ((bytes ++ prefix) ++ following) new × Took' (es ++ more) × Grows held1 held2 (form.text es more) in
        let z = subst Q same (q.more, q.read, q.took, q.grew) in
        let H : List ℕ → Type 0 = λ b. HasRead (entries ++ z.0) b new in
        let P : List ℕ → Type 0 = λ x. Grows held held2 (x ++ form.text entries z.0) in
        record {
          more = z.0;
          read = subst H line z.1;
          took = z.2;
          grew = subst P (sym (due (length (bytes ++ (prefix ++ following))) (omega (arith, whole, ap length line, length-append (bytes ++ prefix) following))))
              (Grows-Grows held held1 held2 form.head (form.text entries z.0) opened_at z.3);
        }
    go (Err e) q =
        let Q : List Timed → Type 0 = λ es. Stops form.text rules Took' held1 held2 es (bytes ++ prefix) following e in
        (prefix ++ following, [], append-nil (prefix ++ following), stopped e (subst Q same q))

-- what is due of the header was not all written
pub bytes_unopened : (form : Form) (Took : List Timed → Type 0) (held mid held1 : Option (List ℕ)) (entries : List Timed) (bytes prefix : List ℕ) (reader : State)
    → IsEach form.text → length (bytes ++ prefix) ≡ 16 → 0 < length prefix → Prints form.text Took held mid entries (bytes ++ prefix) reader → AppendsPrefix mid held1 form.head
    → PrintsPrefix form held held1 entries (bytes ++ prefix) (length bytes)
bytes_unopened form Took held mid held1 entries bytes prefix reader each whole some p wrote =
    let none : entries ++ p.more ≡ [] = none_yet p.read.version (entries ++ p.more) reader.taken (bytes ++ prefix) p.read.same (omega (arith, whole)) in
    let more : p.more ≡ [] = following_none entries p.more none in
    let P : List ℕ → Type 0 = Grows held mid in
    let due : opening form.head (length bytes) (length (bytes ++ prefix)) ≡ form.head =
    opening_is form.head (length bytes) (length (bytes ++ prefix)) (omega (arith, whole, some, length-append bytes prefix)) (omega (arith, whole)) in
    let Q : List ℕ → Type 0 = λ x. AppendsPrefix held held1 (x ++ form.text entries p.more) in
    record {
      more = p.more;
      part = reader.taken;
      begins = begins_of p.read;
      grew = subst Q (sym due) (prefix_then held held1 form.head (form.text entries p.more)
          (then_prefix held mid held1 [] form.head (subst P (ap (form.text entries) more ∙ each.none entries) p.grew) wrote));
    }
