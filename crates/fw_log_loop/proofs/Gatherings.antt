-- The entries of a piece are taken, and their text is gathered.
use Rattle.std.proofs.Common.{◌≡◌, ℕ, ◌+◌, ◌-◌, ◌^◌, ◌<◌, List, [], ◌∷◌, ◌++◌, length, take, drop, Option, Some, None, Ok, IfNone, IfSome, arith, refl, ap, sym, subst, ◌∙◌, append_assoc}
use Rattle.std.proofs.Common.{length-append}
use Rattle.std.proofs.lemmas.List.{append-nil, take_all, take-append-drop, nil_from_length, length-drop}
use Rattle.fw_log_entry.specs.Log.{Fits, body}
use Rattle.fw_log_entry.specs.declared.entry.Timed.{Timed}
use Rattle.fw_log.specs.Reader.{State, Feeds, FeedsTo, total, body_given}
use Rattle.fw_log.specs.History.{bytes_of, HasRead, ReadsTo, ReadsOn}
use Rattle.fw_log.specs.Stands.{Position}
use Rattle.fw_log.specs.declared.read.LogFed.{LogFed}
use Rattle.fw_log.specs.declared.LogFault.{LogFault}
use Rattle.fw_log_loop.specs.Readings.{Text, IsEach, TakesEntry, Passes}
use Rattle.fw_log_loop.specs.Pieces.{Gathers, GatheredTo}
use Rattle.fw_log_loop.proofs.Texts.{few_by}

pub gathered_first : {text : Text} (e : IsEach text) (Took : List Timed → Type 0) (old : List ℕ) (entries : List Timed) (bytes piece : List ℕ) (r : State) → HasRead entries bytes r → Took entries
    → GatheredTo text Took old old entries bytes piece piece r
gathered_first {text} e Took old entries bytes piece r h t =
    let P : List Timed → Type 0 = λ es. HasRead es bytes r in
    let Q : List ℕ → Type 0 = λ b. HasRead (entries ++ []) b r in
    record {
      done = [];
      parts = refl;
      gathers = record {
        more = [];
        read = subst Q (sym (append-nil bytes)) (subst P (sym (append-nil entries)) h);
        took = subst Took (sym (append-nil entries)) t;
        gathered = sym (ap (λ (x : List ℕ). old ++ x) (e.none entries) ∙ append-nil old);
      };
    }

pub next : {text : Text} (e : IsEach text) {Took Took' : List Timed → Type 0} {old now now' : List ℕ} {entries : List Timed} {bytes piece rest : List ℕ} {r : State} (new : State) (used : ℕ)
    (more : List Timed) (p : GatheredTo text Took old now entries bytes piece rest r)
    → HasRead (entries ++ (p.gathers.more ++ more)) ((bytes ++ p.done) ++ take used rest) new → Took' (entries ++ (p.gathers.more ++ more)) → now' ≡ now ++ text (entries ++ p.gathers.more) more
    → GatheredTo text Took' old now' entries bytes piece (drop used rest) new
next {text} e {Took} {Took'} {old} {now} {now'} {entries} {bytes} {piece} {rest} {r} new used more p h t g =
    let P : List ℕ → Type 0 = λ b. HasRead (entries ++ (p.gathers.more ++ more)) b new in
    record {
      done = p.done ++ take used rest;
      parts = append_assoc p.done (take used rest) (drop used rest) ∙ ap (λ (x : List ℕ). p.done ++ x) (take-append-drop used rest) ∙ p.parts;
      gathers = record {
        more = p.gathers.more ++ more;
        read = subst P (append_assoc bytes p.done (take used rest)) h;
        took = t;
        gathered = g ∙ ap (λ (x : List ℕ). x ++ text (entries ++ p.gathers.more) more) p.gathers.gathered ∙ append_assoc old (text entries p.gathers.more) (text (entries ++ p.gathers.more) more)
            ∙ ap (λ (x : List ℕ). old ++ x) (sym (e.more entries p.gathers.more more));
      };
    }

none_by : (es : List Timed) (bs rest old : List ℕ) (s : Position) (new : State) (used : ℕ) (o : Option Timed) → o ≡ None → FeedsTo s old rest used o new → ReadsTo es bs rest used o new
    → HasRead es (bs ++ take used rest) new
none_by es bs rest old s new used None e f h =
    let P : List ℕ → Type 0 = λ x. HasRead es (bs ++ x) new in
    subst P (sym (take_all used rest (omega (arith, f.0)))) h
none_by es bs rest old s new used (Some t) e f h = cc e

pub some_by : (es : List Timed) (bs rest : List ℕ) (new : State) (used : ℕ) (o : Option Timed) (t : Timed) → o ≡ Some t → ReadsTo es bs rest used o new
    → HasRead (es ++ t ∷ []) (bs ++ take used rest) new
some_by es bs rest new used None t e h = cc e
some_by es bs rest new used (Some u) t e h =
    let same : u ≡ t = cc e in
    let P : Timed → Type 0 = λ x. HasRead (es ++ x ∷ []) (bs ++ take used rest) new in
    subst P same h

fits_by : (rest old : List ℕ) (s : Position) (new : State) (used : ℕ) (o : Option Timed) (t : Timed) → o ≡ Some t → FeedsTo s old rest used o new → Fits t.what
fits_by rest old s new used None t e f = cc e
fits_by rest old s new used (Some u) t e f =
    let same : u ≡ t = cc e in
    let P : Timed → Type 0 = λ x. Fits x.what in
    subst P same f.0.spells.fits.entry

pub when_fresh : (P : Type 0) (o : Option LogFault) → o ≡ None → IfNone o P → P
when_fresh P None e h = h
when_fresh P (Some f) e h = cc e

-- the rest of a slice
pub rest_from : (xs : List ℕ) (n : ℕ) → take (length xs - n) (drop n xs) ≡ drop n xs
rest_from xs n = take_all (length xs - n) (drop n xs) (omega (arith, length-drop n xs))

fresh_by : (s : Position) (old rest : List ℕ) (new : State) (used : ℕ) (o : Option Timed) → FeedsTo s old rest used o new → new.fault ≡ None
fresh_by s old rest new used None f = ap (λ (r : State). r.fault) f.1
fresh_by s old rest new used (Some t) f = ap (λ (r : State). r.fault) f.1

pub stays_fresh : (s : Position) (old rest : List ℕ) (new : State) (fed : LogFed) → Feeds s old rest (Ok fed) new → new.fault ≡ None
stays_fresh s old rest new fed f = fresh_by s old rest new fed.used fed.entry f.0

-- an entry that is given may be printed
pub given_fits : (r new : State) (rest : List ℕ) (fed : LogFed) (t : Timed) → Feeds r.stand r.taken rest (Ok fed) new → fed.entry ≡ Some t → Fits t.what
given_fits r new rest fed t f e = fits_by rest r.taken r.stand new fed.used fed.entry t e f.0

-- ---- the body of an entry that is given

pub none_given : (o : Option Timed) → ((t : Timed) → o ≡ Some t → ⊥) → o ≡ None
none_given None h = refl
none_given (Some t) h = absurd (h t refl)

pub given_body : (fed : LogFed) (t : Timed) → fed.entry ≡ Some t → fed.body ≡ body_given fed.entry → fed.body ≡ body t.what
given_body fed t e h = h ∙ ap body_given e

-- ---- one entry more, or none

-- no entry ended in the rest of the piece
pub gathered_none : {text : Text} (e : IsEach text) {Took : List Timed → Type 0} {old now : List ℕ} {entries : List Timed} {bytes piece rest : List ℕ} {r : State} (new : State) (fed : LogFed)
    (p : GatheredTo text Took old now entries bytes piece rest r)
    → Feeds r.stand r.taken rest (Ok fed) new → ReadsOn (entries ++ p.gathers.more) (bytes ++ p.done) rest (Ok fed) new → fed.entry ≡ None
    → GatheredTo text Took old now entries bytes piece (drop fed.used rest) new
gathered_none {text} e {Took} {old} {now} {entries} {bytes} {piece} {rest} {r} new fed p f h is =
    let read = none_by (entries ++ p.gathers.more) (bytes ++ p.done) rest r.taken r.stand new fed.used fed.entry is f.0 h in
    let P : List Timed → Type 0 = λ x. HasRead x ((bytes ++ p.done) ++ take fed.used rest) new in
    let Q : List Timed → Type 0 = λ x. Took (entries ++ x) in
    let R : List Timed → Type 0 = λ x. HasRead (entries ++ x) ((bytes ++ p.done) ++ take fed.used rest) new in
    next e new fed.used [] p (subst R (sym (append-nil p.gathers.more)) read) (subst Q (sym (append-nil p.gathers.more)) p.gathers.took)
    (sym (ap (λ (x : List ℕ). now ++ x) (e.none (entries ++ p.gathers.more)) ∙ append-nil now))

-- an entry ended, and this is what was read then
one_read : {text : Text} {Took : List Timed → Type 0} {old now : List ℕ} {entries : List Timed} {bytes piece rest : List ℕ} {r : State} (new : State) (fed : LogFed) (t : Timed)
    (p : GatheredTo text Took old now entries bytes piece rest r)
    → ReadsOn (entries ++ p.gathers.more) (bytes ++ p.done) rest (Ok fed) new → fed.entry ≡ Some t → HasRead (entries ++ (p.gathers.more ++ t ∷ [])) ((bytes ++ p.done) ++ take fed.used rest) new
one_read {text} {Took} {old} {now} {entries} {bytes} {piece} {rest} {r} new fed t p h is =
    let P : List Timed → Type 0 = λ x. HasRead x ((bytes ++ p.done) ++ take fed.used rest) new in
    subst P (append_assoc entries p.gathers.more (t ∷ [])) (some_by (entries ++ p.gathers.more) (bytes ++ p.done) rest new fed.used fed.entry t is h)

-- fewer entries were read than bytes
pub few_read : {text : Text} {Took : List Timed → Type 0} {old now : List ℕ} {entries : List Timed} {bytes piece rest : List ℕ} {r : State} (new : State) (fed : LogFed) (t : Timed)
    (p : GatheredTo text Took old now entries bytes piece rest r)
    → ReadsOn (entries ++ p.gathers.more) (bytes ++ p.done) rest (Ok fed) new → fed.entry ≡ Some t → total new < 2 ^ 64 → length (entries ++ p.gathers.more) + 1 < 2 ^ 64
few_read {text} {Took} {old} {now} {entries} {bytes} {piece} {rest} {r} new fed t p h is small =
    let read = one_read new fed t p h is in
    let start : new.stand.start ≡ length (bytes_of read.version (entries ++ (p.gathers.more ++ t ∷ []))) = ap (λ (s : Position). s.start) read.stand in
    omega (
      arith,
      start,
      few_by read.version (entries ++ (p.gathers.more ++ t ∷ [])),
      length-append entries p.gathers.more,
      length-append entries (p.gathers.more ++ t ∷ []),
      length-append p.gathers.more (t ∷ []),
    )

-- its text was gathered
pub gathered_some : {text : Text} (e : IsEach text) {Took Took' : List Timed → Type 0} {old now now' : List ℕ} {entries : List Timed} {bytes piece rest : List ℕ} {r : State} (new : State)
    (fed : LogFed) (t : Timed) (p : GatheredTo text Took old now entries bytes piece rest r)
    → ReadsOn (entries ++ p.gathers.more) (bytes ++ p.done) rest (Ok fed) new → fed.entry ≡ Some t → Took' ((entries ++ p.gathers.more) ++ t ∷ [])
    → now' ≡ now ++ text (entries ++ p.gathers.more) (t ∷ []) → GatheredTo text Took' old now' entries bytes piece (drop fed.used rest) new
gathered_some {text} e {Took} {Took'} {old} {now} {now'} {entries} new fed t p h is took g =
    next e new fed.used (t ∷ []) p (one_read new fed t p h is) (subst Took' (append_assoc entries p.gathers.more (t ∷ [])) took) g

-- all of the piece was taken
pub gathered_all : {text : Text} {Took : List Timed → Type 0} {old now : List ℕ} {entries : List Timed} {bytes piece rest : List ℕ} {r : State}
    (p : GatheredTo text Took old now entries bytes piece rest r) → length rest ≡ 0
    → Gathers text Took old now entries (bytes ++ piece) r
gathered_all {text} {Took} {old} {now} {entries} {bytes} {piece} {rest} {r} p empty =
    let none : rest ≡ [] = nil_from_length rest empty in
    let all : p.done ≡ piece = sym (append-nil p.done) ∙ ap (λ (x : List ℕ). p.done ++ x) (sym none) ∙ p.parts in
    let P : List ℕ → Type 0 = λ b. HasRead (entries ++ p.gathers.more) (bytes ++ b) r in
    record { more = p.gathers.more; read = subst P all p.gathers.read; took = p.gathers.took; gathered = p.gathers.gathered }

used_all : (s : Position) (old rest : List ℕ) (new : State) (used : ℕ) (o : Option Timed) → o ≡ None → FeedsTo s old rest used o new → used ≡ length rest
used_all s old rest new used None e f = f.0
used_all s old rest new used (Some t) e f = cc e

-- all of the rest was taken, and no entry ended in it
pub gathered_rest : {text : Text} (e : IsEach text) {Took : List Timed → Type 0} {old now : List ℕ} {entries : List Timed} {bytes piece rest : List ℕ} {r : State} (new : State) (fed : LogFed)
    (p : GatheredTo text Took old now entries bytes piece rest r)
    → Feeds r.stand r.taken rest (Ok fed) new → ReadsOn (entries ++ p.gathers.more) (bytes ++ p.done) rest (Ok fed) new → fed.entry ≡ None → Gathers text Took old now entries (bytes ++ piece) new
gathered_rest {text} e {Took} {old} {now} {entries} {bytes} {piece} {rest} {r} new fed p f h is =
    let all : fed.used ≡ length rest = used_all r.stand r.taken rest new fed.used fed.entry is f.0 in
    gathered_all (gathered_none e new fed p f h is) (omega (arith, all, length-drop fed.used rest))

-- all of the rest is a part of an entry
pub gathered_part : {text : Text} {Took : List Timed → Type 0} {old now : List ℕ} {entries : List Timed} {bytes piece rest : List ℕ} {r : State} (new : State)
    (p : GatheredTo text Took old now entries bytes piece rest r) → HasRead (entries ++ p.gathers.more) ((bytes ++ p.done) ++ rest) new → Gathers text Took old now entries (bytes ++ piece) new
gathered_part {text} {Took} {old} {now} {entries} {bytes} {piece} {rest} new p h =
    let P : List ℕ → Type 0 = λ b. HasRead (entries ++ p.gathers.more) b new in
    record {
      more = p.gathers.more;
      read = subst P (append_assoc bytes p.done rest ∙ ap (λ (x : List ℕ). bytes ++ x) p.parts) h;
      took = p.gathers.took;
      gathered = p.gathers.gathered;
    }

-- an entry that was passed over
pub gathered_passed : {text : Text} (e : IsEach text) {Took Took' : List Timed → Type 0} {old now now' : List ℕ} {entries : List Timed}
    {bytes piece rest : List ℕ} {r : State} (new : State) (used : ℕ) (p : GatheredTo text Took old now entries bytes piece rest r)
    → Passes text Took' now now' (entries ++ p.gathers.more) ((bytes ++ p.done) ++ take used rest) new → GatheredTo text Took' old now' entries bytes piece (drop used rest) new
gathered_passed {text} e {Took} {Took'} {old} {now} {now'} {entries} {bytes} {piece} {rest} new used p h =
    let P : List Timed → Type 0 = λ es. HasRead es ((bytes ++ p.done) ++ take used rest) new in
    let line = append_assoc entries p.gathers.more (h.entry ∷ []) in
    next e new used (h.entry ∷ []) p (subst P line h.read) (subst Took' line h.took) h.gathered

-- ---- what a pass answers

pub when_none : {A B : Type 0} (o : Option A) → o ≡ None → IfNone o B → B
when_none None e h = h
when_none (Some v) e h = cc e

pub when_some : {A : Type 0} (o : Option A) (v : A) (P : A → Type 0) → o ≡ Some v → IfSome o P → P v
when_some None v P e h = cc e
when_some (Some u) v P e h = let same : u ≡ v = cc e in subst P same h

-- one fact by two equations
pub by_both : {A B : Type 0} (P : A → B → Type 0) {x y : A} {u v : B} → x ≡ y → u ≡ v → P y v → P x u
by_both P {x} {y} {u} {v} a b h = subst (λ z. P z u) (sym a) (subst (P y) (sym b) h)

-- ---- what was made of an entry

pub none_else : {A : Type 0} (o : Option A) → ((v : A) → o ≡ Some v → ⊥) → o ≡ None
none_else None h = refl
none_else (Some v) h = absurd (h v refl)

pub takes_none : {R : Type 0} (text : Text) (rejects : List Timed → R → Type 0) (Took : List Timed → Type 0) (old new : List ℕ) (entries : List Timed) (t : Timed) (x : Option R) → x ≡ None
    → TakesEntry text rejects Took old new entries t x → Took (entries ++ t ∷ []) × (new ≡ old ++ text entries (t ∷ []))
takes_none text rejects Took old new entries t x is h = subst (TakesEntry text rejects Took old new entries t) is h

pub takes_some : {R : Type 0} (text : Text) (rejects : List Timed → R → Type 0) (Took : List Timed → Type 0) (old new : List ℕ) (entries : List Timed) (t : Timed) (x : Option R) (refusal : R)
    → x ≡ Some refusal
    → TakesEntry text rejects Took old new entries t x → rejects (entries ++ t ∷ []) refusal × (new ≡ old)
takes_some text rejects Took old new entries t x refusal is h = subst (TakesEntry text rejects Took old new entries t) is h
