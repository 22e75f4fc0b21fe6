-- The bytes of a read, before the header is whole and after it.
use Rattle.std.proofs.Common.{◌≡◌, ℕ, ◌+◌, ◌≤◌, ◌<◌, List, [], ◌∷◌, ◌++◌, length, nat_le, Bool, true, false, if◌then◌else◌, Option, refl, arith, sym, subst, ap, ◌∙◌, length-append}
use Rattle.std.proofs.lemmas.Bool.Decides.{nat_tests}
use Rattle.fw_outside.specs.Outside.{Grows, AppendsPrefix}
use Rattle.fw_outside.specs.declared.stop.Stop.TheVariants.{ReadFault, WriteFault, TooLong, NoMemory}
use Rattle.fw_outside.proofs.Parts.{prefix_then}
use Rattle.fw_log_entry.specs.Log.{header_bytes, epoch_after, entry_bytes, entries_bytes}
use Rattle.fw_log_entry.specs.declared.version.Version.{Version}
use Rattle.fw_log_entry.specs.declared.entry.Timed.{Timed}
use Rattle.fw_log.specs.History.{bytes_of}
use Rattle.fw_log.specs.declared.LogFault.{LogFault}
use Rattle.fw_log_loop.specs.Readings.{Text, Form, Rules, IsEach}
use Rattle.fw_log_loop.specs.Endings.{Refuses, opened}
use Rattle.fw_log_loop.specs.declared.ending.LogEnding.{LogEnding}
use Rattle.fw_log_loop.specs.declared.ending.LogEnding.TheVariants.{Done, NoLog, Refused, Stopped}
use Rattle.fw_log_loop.specs.Pieces.{PrintsUpTo, PrintsToLast, PrintsPart, Stops, opening, PrintsTo, PrintsPrefix, StopsAt}
use Rattle.fw_log_loop.proofs.Printings.{whole}

-- ---- the bytes of a read

pub opening_none : (head : List ℕ) (before now : ℕ) → 16 ≤ before → opening head before now ≡ []
opening_none head before now whole = by (nat_le 16 before) (le_true before whole)
  where
    le_true : (n : ℕ) → 16 ≤ n → nat_le 16 n ≡ true
    le_true n h = grind (arith, nat_tests)

    by : (b : Bool) → b ≡ true → (if b then [] else opened head now) ≡ []
    by true e = refl
    by false e = cc e

pub opening_is : (head : List ℕ) (before now : ℕ) → before < 16 → 16 ≤ now → opening head before now ≡ head
opening_is head before now short whole = by (nat_le 16 before) (nat_le 16 now) (lt_false before short) (le_true now whole)
  where
    lt_false : (n : ℕ) → n < 16 → nat_le 16 n ≡ false
    lt_false n h = grind (arith, nat_tests)

    le_true : (n : ℕ) → 16 ≤ n → nat_le 16 n ≡ true
    le_true n h = grind (arith, nat_tests)

    by : (b c : Bool) → b ≡ false → c ≡ true → (if b then [] else if c then head else []) ≡ head
    by false true e f = refl
    by false false e f = cc f
    by true c e f = cc e

pub opening_not_yet : (head : List ℕ) (before now : ℕ) → now < 16 → opening head before now ≡ []
opening_not_yet head before now short = by (nat_le 16 before) (nat_le 16 now) (lt_false now short)
  where
    lt_false : (n : ℕ) → n < 16 → nat_le 16 n ≡ false
    lt_false n h = grind (arith, nat_tests)

    by : (b c : Bool) → c ≡ false → (if b then [] else if c then head else []) ≡ []
    by true c e = refl
    by false true e = cc e
    by false false e = refl

some_entry : (v : Version) (epoch : ℕ) (t : Timed) (ts : List Timed) → 0 < length (entries_bytes v epoch (t ∷ ts))
some_entry v epoch t ts = let n : ℕ = epoch_after epoch t.what in omega (arith, length-append (entry_bytes v n t) (entries_bytes v n ts))

-- where the refused byte stands
pub refused_at : {entries : List Timed} {bytes : List ℕ} {f : LogFault} (r : Refuses entries bytes f) → length (bytes_of r.begins.version entries) + length r.part ≡ length bytes
refused_at {entries} r = omega (arith, ap length r.begins.same, length-append (bytes_of r.begins.version entries) r.part)

pub none_yet : (v : Version) (entries : List Timed) (part bytes : List ℕ) → bytes_of v entries ++ part ≡ bytes → length bytes ≤ 16 → entries ≡ []
none_yet v [] part bytes e short = refl
none_yet v (t ∷ ts) part bytes e short =
    let some = some_entry v 0 t ts in
    absurd (omega (arith, short, some, ap length e, length-append (bytes_of v (t ∷ ts)) part, length-append (header_bytes v) (entries_bytes v 0 (t ∷ ts))))

pub following_none : (xs ys : List Timed) → xs ++ ys ≡ [] → ys ≡ []
following_none [] ys e = e
following_none (x ∷ xs) ys e = cc e

no_last : (xs : List Timed) (t : Timed) → xs ++ t ∷ [] ≡ [] → ⊥
no_last [] t e = cc e
no_last (x ∷ xs) t e = cc e

pub stops_after : {R : Type 0} (form : Form) (rules : Rules R) (Took : List Timed → Type 0) (held held' : Option (List ℕ)) (entries : List Timed) (bytes piece : List ℕ) (e : LogEnding R)
    → 16 ≤ length bytes → Stops form.text rules Took held held' entries bytes piece e → StopsAt form rules Took held held' entries bytes piece e
stops_after form rules Took held held' entries bytes piece (NoLog f) whole s =
    let P : List ℕ → Type 0 = λ x. Grows held held' (x ++ form.text entries s.more) in
    record { more = s.more; refuses = s.refuses; soon = s.soon; accepted = s.accepted; grew = subst P (sym (opening_none form.head (length bytes) _ whole)) s.grew }
stops_after form rules Took held held' entries bytes piece (Refused u) whole s =
    let P : List ℕ → Type 0 = λ x. Grows held held' (x ++ form.text entries s.more) in
    record {
      more = s.more;
      last = s.last;
      done = s.done;
      rest = s.rest;
      parts = s.parts;
      begins = s.begins;
      accepted = s.accepted;
      rejected = s.rejected;
      grew = subst P (sym (opening_none form.head (length bytes) 16 whole)) s.grew;
    }
stops_after form rules Took held held' entries bytes piece (Stopped WriteFault) whole s =
    let P : List ℕ → Type 0 = λ x. AppendsPrefix held held' (x ++ form.text entries s.more) in
    record { more = s.more; part = s.part; begins = s.begins; grew = subst P (sym (opening_none form.head (length bytes) (length (bytes ++ piece)) whole)) s.grew }
stops_after form rules Took held held' entries bytes piece (Stopped NoMemory) whole s =
    let P : List ℕ → Type 0 = λ x. AppendsPrefix held held' (x ++ form.text entries s.more) in
    record { more = s.more; part = s.part; begins = s.begins; grew = subst P (sym (opening_none form.head (length bytes) (length (bytes ++ piece)) whole)) s.grew }
stops_after form rules Took held held' entries bytes piece (Stopped ReadFault) whole s = absurd s
stops_after form rules Took held held' entries bytes piece (Stopped TooLong) whole s = absurd s
stops_after form rules Took held held' entries bytes piece Done whole s = absurd s

-- a part that is refused before the header is whole
to_before : (form : Form) (accepts : List Timed → Type 0) (held held' : Option (List ℕ)) (entries : List Timed) (bytes piece : List ℕ) (f : LogFault) → length (bytes ++ piece) ≤ 16
    → PrintsUpTo form.text accepts held held' entries bytes piece f
    → PrintsTo form accepts held held' entries bytes piece f
to_before form accepts held held' entries bytes piece f short s =
    let P : List ℕ → Type 0 = λ x. Grows held held' (x ++ form.text entries s.more) in
    record {
      more = s.more;
      refuses = s.refuses;
      soon = s.soon;
      accepted = s.accepted;
      grew = subst P (sym (opening_not_yet form.head (length bytes) _ (omega (arith, short, refused_at s.refuses, s.refuses.shown.within)))) s.grew;
    }

-- before the header is whole no entry ends
last_before : {R : Type 0} {A : Type 0} (text : Text) (rules : Rules R) (held held' : Option (List ℕ)) (entries : List Timed) (bytes piece : List ℕ) (refusal : R) → length (bytes ++ piece) ≤ 16
    → PrintsToLast text rules held held' entries bytes piece refusal → A
last_before text rules held held' entries bytes piece refusal short s =
    absurd (no_last (entries ++ s.more) s.last (none_yet s.begins.version ((entries ++ s.more) ++ s.last ∷ []) [] (bytes ++ s.done) s.begins.same
    (omega (arith, short, length-append bytes piece, length-append bytes s.done, ap length s.parts, length-append s.done s.rest))))

-- if no entry ended yet nothing is written, whatever is due after it
prefix_before : (form : Form) (held held' : Option (List ℕ)) (entries : List Timed) (bytes piece : List ℕ) → IsEach form.text → length (bytes ++ piece) ≤ 16
    → PrintsPart form.text held held' entries (bytes ++ piece)
    → PrintsPrefix form held held' entries (bytes ++ piece) (length bytes)
prefix_before form held held' entries bytes piece e short s =
    let none : entries ++ s.more ≡ [] = none_yet s.begins.version (entries ++ s.more) s.part (bytes ++ piece) s.begins.same short in
    let more : s.more ≡ [] = following_none entries s.more none in
    let P : List ℕ → Type 0 = AppendsPrefix held held' in
    let nothing : AppendsPrefix held held' [] = subst P (ap (form.text entries) more ∙ e.none entries) s.grew in
    record { more = s.more; part = s.part; begins = s.begins; grew = prefix_then held held' [] (opening form.head (length bytes) (length (bytes ++ piece)) ++ form.text entries s.more) nothing }

pub stops_before : {R : Type 0} (form : Form) (rules : Rules R) (Took : List Timed → Type 0) (held held' : Option (List ℕ)) (entries : List Timed) (bytes piece : List ℕ) (e : LogEnding R)
    → IsEach form.text → length (bytes ++ piece) ≤ 16 → Stops form.text rules Took held held' entries bytes piece e
    → StopsAt form rules Took held held' entries bytes piece e
stops_before form rules Took held held' entries bytes piece (NoLog f) each short s = to_before form Took held held' entries bytes piece f short s
stops_before form rules Took held held' entries bytes piece (Refused u) each short s = last_before form.text rules held held' entries bytes piece u short s
stops_before form rules Took held held' entries bytes piece (Stopped WriteFault) each short s = prefix_before form held held' entries bytes piece each short s
stops_before form rules Took held held' entries bytes piece (Stopped NoMemory) each short s = prefix_before form held held' entries bytes piece each short s
stops_before form rules Took held held' entries bytes piece (Stopped ReadFault) each short s = absurd s
stops_before form rules Took held held' entries bytes piece (Stopped TooLong) each short s = absurd s
stops_before form rules Took held held' entries bytes piece Done each short s = absurd s
