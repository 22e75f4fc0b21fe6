-- An entry, or a part of one, at which the log is refused.
use Rattle.std.proofs.Common.{◌≡◌, ℕ, ◌+◌, List, [], ◌∷◌, ◌++◌, length, take, drop, Option, Some, None, Ok, Err, arith, refl, ap, sym, subst, ◌∙◌, append_assoc, length-append, take-add}
use Rattle.std.proofs.lemmas.List.{take_at, drop_at, take-append-drop}
use Rattle.fw_log_entry.specs.declared.entry.Timed.{Timed}
use Rattle.fw_log.specs.Reading.{IsPending, Faulty}
use Rattle.fw_log.specs.Reader.{State, Feeds, FeedsTo, ShowsFault}
use Rattle.fw_log.specs.History.{bytes_of, BeginsNoLog, ReadsOn}
use Rattle.fw_log.specs.Stands.{Position}
use Rattle.fw_log.specs.declared.read.LogFed.{LogFed}
use Rattle.fw_log.specs.declared.LogFault.{LogFault}
use Rattle.fw_log.proofs.HistoryLaws.{dead}
use Rattle.fw_log_loop.specs.Readings.{Text, Rules}
use Rattle.fw_log_loop.specs.Pieces.{GathersUpTo, GathersToLast, GatheredTo}
use Rattle.fw_log_loop.proofs.Gatherings.{some_by}

-- ---- an entry at which the log is refused

-- what ends with an entry has no part of one more
nothing_taken : (s : Position) (old rest : List ℕ) (new : State) (used : ℕ) (o : Option Timed) (t : Timed) → o ≡ Some t → FeedsTo s old rest used o new → new.taken ≡ []
nothing_taken s old rest new used None t e f = cc e
nothing_taken s old rest new used (Some u) t e f = ap (λ (r : State). r.taken) f.1

pub gathered_last : {R : Type 0} {text : Text} (rules : Rules R) {Took : List Timed → Type 0} {old now now' : List ℕ} {entries : List Timed} {bytes piece rest : List ℕ} {r : State} (new : State)
    (fed : LogFed) (t : Timed) (refusal : R) (p : GatheredTo text Took old now entries bytes piece rest r)
    → Feeds r.stand r.taken rest (Ok fed) new → ReadsOn (entries ++ p.gathers.more) (bytes ++ p.done) rest (Ok fed) new → fed.entry ≡ Some t → ((es : List Timed) → Took es → rules.accepts es)
    → rules.rejects ((entries ++ p.gathers.more) ++ t ∷ []) refusal → now' ≡ now → GathersToLast text rules old now' entries bytes piece refusal
gathered_last {R} {text} rules {Took} {old} {now} {now'} {entries} {bytes} {piece} {rest} {r} new fed t refusal p f h is took rejected same =
    let read = some_by (entries ++ p.gathers.more) (bytes ++ p.done) rest new fed.used fed.entry t is h in
    let none = nothing_taken r.stand r.taken rest new fed.used fed.entry t is f.0 in
    let es : List Timed = (entries ++ p.gathers.more) ++ t ∷ [] in
    record {
      more = p.gathers.more;
      last = t;
      done = p.done ++ take fed.used rest;
      rest = drop fed.used rest;
      parts = append_assoc p.done (take fed.used rest) (drop fed.used rest) ∙ ap (λ (x : List ℕ). p.done ++ x) (take-append-drop fed.used rest) ∙ p.parts;
      begins = record {
        version = read.version;
        order = read.order;
        same = ap (λ (x : List ℕ). bytes_of read.version es ++ x) (sym none) ∙ read.same ∙ append_assoc bytes p.done (take fed.used rest);
      };
      accepted = took (entries ++ p.gathers.more) p.gathers.took;
      rejected = rejected;
      gathered = same ∙ p.gathers.gathered;
    }

-- ---- a refused part

taken_in : (old rest : List ℕ) (k : ℕ) → take (length old + k) (old ++ rest) ≡ old ++ take k rest
taken_in old rest k =
    take-add (length old) k (old ++ rest) ∙ ap (λ (t : List ℕ). t ++ take k (drop (length old) (old ++ rest))) (take_at old rest (length old) refl)
    ∙ ap (λ (t : List ℕ). old ++ take k t) (drop_at old rest (length old) refl)

taken_past : (old rest : List ℕ) (k : ℕ) → take (length old + k + 1) (old ++ rest) ≡ old ++ take (k + 1) rest
taken_past old rest k =
    let more : length old + k + 1 ≡ length old + (k + 1) = omega arith in
    ap (λ (n : ℕ). take n (old ++ rest)) more ∙ taken_in old rest (k + 1)

shown_in : (s : Position) (old rest : List ℕ) (k : ℕ) (f : LogFault) → ShowsFault s old rest k f → ShowsFault s [] (old ++ rest) (length old + k) f
shown_in s old rest k f h =
    let P : List ℕ → Type 0 = IsPending s in
    let Q : List ℕ → Type 0 = λ x. Faulty s x f in
    record {
      within = omega (arith, h.within, length-append old rest);
      before = subst P (sym (taken_in old rest k)) h.before;
      shown = subst Q (sym (taken_past old rest k)) h.shown;
    }

-- a part of the rest is refused
gathered_refused : {text : Text} {Took : List Timed → Type 0} (accepts : List Timed → Type 0) {old now : List ℕ} {entries : List Timed} {bytes piece rest : List ℕ} {r : State} (k : ℕ) (f : LogFault)
    (p : GatheredTo text Took old now entries bytes piece rest r)
    → ShowsFault r.stand r.taken rest k f → ((es : List Timed) → Took es → accepts es) → GathersUpTo text accepts old now entries bytes piece f
gathered_refused {text} {Took} accepts {old} {now} {entries} {bytes} {piece} {rest} {r} k f p s took =
    let g = p.gathers in
    let es : List Timed = entries ++ g.more in
    let S : Position → Type 0 = λ x. ShowsFault x [] (r.taken ++ rest) (length r.taken + k) f in
    let B : List ℕ → Type 0 = BeginsNoLog in
    let upto : (bytes ++ p.done) ++ take (k + 1) rest ≡ bytes_of g.read.version es ++ take (length r.taken + k + 1) (r.taken ++ rest) =
    ap (λ (x : List ℕ). x ++ take (k + 1) rest) (sym g.read.same) ∙ append_assoc (bytes_of g.read.version es) r.taken (take (k + 1) rest)
    ∙ ap (λ (x : List ℕ). bytes_of g.read.version es ++ x) (sym (taken_past r.taken rest k)) in
    record {
      more = g.more;
      refuses = record {
        part = r.taken ++ rest;
        begins = record {
          version = g.read.version;
          order = g.read.order;
          same = sym (append_assoc (bytes_of g.read.version es) r.taken rest) ∙ ap (λ (x : List ℕ). x ++ rest) g.read.same ∙ append_assoc bytes p.done rest ∙ ap (λ (x : List ℕ). bytes ++ x) p.parts;
        };
        index = length r.taken + k;
        shown = subst S g.read.stand (shown_in r.stand r.taken rest k f s);
        none = subst B upto (dead es (bytes ++ p.done) rest r k f g.read s);
      };
      soon = omega (arith, length-append r.taken rest, ap length p.parts, length-append p.done rest);
      accepted = took es g.took;
      gathered = g.gathered;
    }

pub gathered_fault : {text : Text} {Took : List Timed → Type 0} (accepts : List Timed → Type 0) {old now : List ℕ} {entries : List Timed} {bytes piece rest : List ℕ} {r : State} (new : State)
    (f : LogFault) (p : GatheredTo text Took old now entries bytes piece rest r)
    → Feeds r.stand r.taken rest (Err f) new → ((es : List Timed) → Took es → accepts es) → GathersUpTo text accepts old now entries bytes piece f
gathered_fault accepts new f p h took = gathered_refused accepts h.0.0 f p h.0.1 took
