-- What a sink that tells reads, piece by piece.
use Rattle.fw_trace.proofs.Common.{◌≡◌, refl, sym, ap, subst, ◌∙◌, ℕ, ◌+◌, List, [], ◌∷◌, ◌++◌, length, take, Option, Some, None, Ok, Err, append_assoc, arith, append-nil}
use Rattle.fw_trace.proofs.Common.{Timed, HasRead, Telling, caused_text, Traced, lines_from, telling_following, PutsEntry}
use Rattle.std.proofs.Common.{Result}
use Rattle.std.specs.Prelude.{IfNone, OnOk}
use Rattle.std.proofs.lemmas.List.{take_all}
use Rattle.fw_log.specs.History.{ReadsTo}
use Rattle.fw_log.specs.Reader.{State, Feeds, FeedsTo}
use Rattle.fw_log.specs.Stands.{Position}
use Rattle.fw_log.specs.declared.LogFault.{LogFault}
use Rattle.fw_log.specs.declared.read.LogFed.{LogFed}
use Rattle.fw_trace_names.proofs.LoopLaws.{stepped}
use Rattle.fw_trace_lines.proofs.LoopLaws.{caused_append}
use Rattle.fw_trace_names.specs.CausedLines.{Caused}
use Rattle.fw_trace_lines.specs.Caused.{entry_lines, telling_after}
use Rattle.fw_trace.specs.Telling.{TakesEntry, TakesKnown, TakesPart, TakesSome}
use Rattle.fw_trace.specs.declared.lack.Untold.{Untold}

lines_append : (t : Telling) (a b : List Timed) → lines_from t (a ++ b) ≡ lines_from t a ++ lines_from (telling_following t a) b
lines_append t [] b = refl
lines_append t (e ∷ es) b =
    ap (λ (ls : List Caused). entry_lines t e ++ ls) (lines_append (telling_after t e) es b)
    ∙ sym (append_assoc (entry_lines t e) (lines_from (telling_after t e) es) (lines_from (telling_following (telling_after t e) es) b))

pub after_append : (t : Telling) (a b : List Timed) → telling_following t (a ++ b) ≡ telling_following (telling_following t a) b
after_append t [] b = refl
after_append t (e ∷ es) b = after_append (telling_after t e) es b

pub text_append : (t : Telling) (a b : List Timed) → caused_text (lines_from t (a ++ b)) ≡ caused_text (lines_from t a) ++ caused_text (lines_from (telling_following t a) b)
text_append t a b = ap caused_text (lines_append t a b) ∙ caused_append (lines_from t a) (lines_from (telling_following t a) b)

one_text : (t : Telling) (e : Timed) → caused_text (lines_from t (e ∷ [])) ≡ caused_text (entry_lines t e)
one_text t e = ap caused_text (append-nil (entry_lines t e))

pub none_taken : (entries : List Timed) (bytes piece : List ℕ) (used : ℕ) (t : Traced) (r : State) → used ≡ length piece → HasRead entries (bytes ++ piece) r
    → TakesPart entries bytes (take used piece) t t r
none_taken entries bytes piece used t r e h = record {
  out = [];
  read = rw (append-nil entries, e, take_all (length piece) piece (omega arith)) h;
  text = sym (append-nil t.text);
  kept = refl;
}

pub one_taken : (entries : List Timed) (bytes part : List ℕ) (e : Timed) (t t' : Traced) (r : State) → HasRead (entries ++ e ∷ []) (bytes ++ part) r
    → t'.text ≡ t.text ++ caused_text (entry_lines t.telling e) → t'.telling ≡ telling_after t.telling e → TakesPart entries bytes part t t' r
one_taken entries bytes part e t t' r h text kept = record {
  out = e ∷ [];
  read = h;
  text = text ∙ ap (λ (l : List ℕ). t.text ++ l) (sym (one_text t.telling e));
  kept = kept;
}

pub part_then : (entries : List Timed) (bytes part more : List ℕ) (t t' t'' : Traced) (r r' : State) → (first : TakesPart entries bytes part t t' r)
    → TakesPart (entries ++ first.out) (bytes ++ part) more t' t'' r' → TakesPart entries bytes (part ++ more) t t'' r'
part_then entries bytes part more t t' t'' r r' first second = record {
  out = first.out ++ second.out;
  read = rw (sym (append_assoc entries first.out second.out), sym (append_assoc bytes part more)) second.read;
  text = stepped t.text t'.text t''.text (caused_text (lines_from t.telling first.out)) (caused_text (lines_from (telling_following t.telling first.out) second.out))
      (caused_text (lines_from t.telling (first.out ++ second.out))) first.text
      (second.text ∙ ap (λ (k : Telling). t'.text ++ caused_text (lines_from k second.out)) first.kept) (text_append t.telling first.out second.out);
  kept = second.kept ∙ ap (λ (k : Telling). telling_following k second.out) first.kept ∙ sym (after_append t.telling first.out second.out);
}

-- the lines of an entry were added, unless memory ran out
pub puts_entry : {E : Type 0} → (r : Result (Unit {0}) E) (e : Timed) (t t' : Traced) → OnOk r (t'.text ≡ t.text ++ caused_text (entry_lines t.telling e))
    → OnOk r (t'.telling ≡ telling_after t.telling e) → PutsEntry e t t' r
puts_entry (Ok u) e t t' text kept = record { text = text; kept = kept }
puts_entry (Err f) e t t' text kept = tt

-- they were those of the entry that was read
pub known_taken : {E : Type 0} → (entries : List Timed) (bytes part : List ℕ) (e : Timed) (cycle : ℕ) (t t' : Traced) (r : State) (o : Result (Unit {0}) E) (u : Unit {0})
    → HasRead (entries ++ e ∷ []) (bytes ++ part) r → e.cycle ≡ cycle → PutsEntry (record { cycle = cycle; what = e.what }) t t' o → o ≡ Ok u → TakesPart entries bytes part t t' r
known_taken entries bytes part e cycle t t' r (Ok v) u h same x is =
    let C : ℕ → Type 0 = λ n. TakesEntry (record { cycle = n; what = e.what }) t t' in
    let y = subst C (sym same) x in
    one_taken entries bytes part e t t' r h y.text y.kept
known_taken entries bytes part e cycle t t' r (Err f) u h same x is = absurd cc

-- one was read
pub known_one : (entries : List Timed) (bytes piece : List ℕ) (t t' : Traced) (r : State) (o : Option ℕ) (used : ℕ) → o ≡ Some used
    → TakesKnown {E = Untold} entries bytes piece t t' r (Ok o) → TakesPart entries bytes (take used piece) t t' r
known_one entries bytes piece t t' r o used is x = subst (λ (p : Option ℕ). TakesKnown {E = Untold} entries bytes piece t t' r (Ok p)) is x

-- none was read, so all is as it was
pub unknown_same : (P : Type 0) (o : Option ℕ) → o ≡ None → IfNone o P → P
unknown_same P o is x = subst (λ (p : Option ℕ). IfNone p P) is x

pub read_one : (entries : List Timed) (bytes piece : List ℕ) (used : ℕ) (o : Option Timed) (e : Timed) (r : State) → o ≡ Some e → ReadsTo entries bytes piece used o r
    → HasRead (entries ++ e ∷ []) (bytes ++ take used piece) r
read_one entries bytes piece used o e r is x = subst (λ (p : Option Timed). ReadsTo entries bytes piece used p r) is x

pub read_none : (entries : List Timed) (bytes piece : List ℕ) (used : ℕ) (o : Option Timed) (r : State) → o ≡ None → ReadsTo entries bytes piece used o r → HasRead entries (bytes ++ piece) r
read_none entries bytes piece used o r is x = subst (λ (p : Option Timed). ReadsTo entries bytes piece used p r) is x

pub all_used : (fault : Option LogFault) (s : Position) (old piece : List ℕ) (fed : LogFed) (new : State) → fault ≡ None → IfNone fault (Feeds s old piece (Ok fed) new) → fed.entry ≡ None
    → fed.used ≡ length piece
all_used fault s old piece fed new clear x none =
    let feeds : Feeds s old piece (Ok fed) new = subst (λ (o : Option LogFault). IfNone o (Feeds s old piece (Ok fed) new)) clear x in
    (subst (λ (o : Option Timed). FeedsTo s old piece fed.used o new) none feeds.0).0

-- part way through a piece
pub some_first : (entries : List Timed) (bytes piece : List ℕ) (t : Traced) (r : State) → HasRead entries bytes r → TakesSome entries bytes piece piece t t r
some_first entries bytes piece t r h = record { done = []; parts = refl; taken = record { out = []; read = rw (append-nil entries, append-nil bytes) h; text = sym (append-nil t.text); kept = refl } }

pub some_more : (entries : List Timed) (bytes piece rest rest' : List ℕ) (used : ℕ) (t t' t'' : Traced) (r r' : State) → (x : TakesSome entries bytes piece rest t t' r)
    → TakesPart (entries ++ x.taken.out) (bytes ++ x.done) (take used rest) t' t'' r' → rest ≡ take used rest ++ rest' → TakesSome entries bytes piece rest' t t'' r'
some_more entries bytes piece rest rest' used t t' t'' r r' x p e = record {
  done = x.done ++ take used rest;
  parts = x.parts ∙ ap (λ (l : List ℕ). x.done ++ l) e ∙ sym (append_assoc x.done (take used rest) rest');
  taken = part_then entries bytes x.done (take used rest) t t' t'' r r' x.taken p;
}

pub some_all : (entries : List Timed) (bytes piece rest : List ℕ) (t t' : Traced) (r : State) → (x : TakesSome entries bytes piece rest t t' r) → rest ≡ [] → TakesPart entries bytes piece t t' r
some_all entries bytes piece rest t t' r x e = subst (λ (l : List ℕ). TakesPart entries bytes l t t' r) (sym (x.parts ∙ ap (λ (l : List ℕ). x.done ++ l) e ∙ append-nil x.done)) x.taken
