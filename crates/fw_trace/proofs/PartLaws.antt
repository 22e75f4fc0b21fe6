-- The parts of a trace, one more at a time.
use Rattle.fw_trace.proofs.Common.{◌≡◌, refl, sym, ap, subst, ◌∙◌, ℕ, ◌+◌, ◌<◌, List, [], ◌∷◌, ◌++◌, length, take, Bool, true, inl, inr, Option, append_assoc, arith, append-nil, length-append}
use Rattle.fw_trace.proofs.Common.{Reading, TakesMore, following, Telling, Part, part_text, lines_of, kept_from, HasLines}
use Rattle.std.proofs.Common.{◌-◌, drop}
use Rattle.std.proofs.lemmas.List.{drop_all}
use Rattle.fw_outside.proofs.Parts.{Takes-Takes}
use Rattle.fw_script.proofs.LineLaws.{after_total}
use Rattle.fw_script.specs.Reading.{EndsLine, IsLine, PassesLimit, with_taken}
use Rattle.fw_script_command.specs.Pieces.{IsFree}
use Rattle.fw_trace.specs.Parts.{HaveNoFeed, kept_after, lines_after, text_from, bytes_of}
use Rattle.fw_trace.specs.Tracing.{IsSplit}

-- ---- their text

pub text_more : (lines : ℕ) (t : Telling) (ps : List Part) (p : Part) → text_from lines t (ps ++ p ∷ []) ≡ text_from lines t ps ++ part_text (lines_of lines ps) (kept_from t ps) p
text_more lines t [] p = append-nil (part_text lines t p)
text_more lines t (q ∷ ps) p =
    ap (λ (l : List ℕ). part_text lines t q ++ l) (text_more (lines_after lines q) (kept_after t q) ps p)
    ∙ sym (append_assoc (part_text lines t q) (text_from (lines_after lines q) (kept_after t q) ps) (part_text (lines_of (lines_after lines q) ps) (kept_from (kept_after t q) ps) p))

pub kept_more : (t : Telling) (ps : List Part) (p : Part) → kept_from t (ps ++ p ∷ []) ≡ kept_after (kept_from t ps) p
kept_more t [] p = refl
kept_more t (q ∷ ps) p = kept_more (kept_after t q) ps p

pub lines_more : (lines : ℕ) (ps : List Part) (p : Part) → lines_of lines (ps ++ p ∷ []) ≡ lines_after (lines_of lines ps) p
lines_more lines [] p = refl
lines_more lines (q ∷ ps) p = lines_more (lines_after lines q) ps p

-- ---- their lines

pub bytes_more : (ps qs : List Part) → bytes_of (ps ++ qs) ≡ bytes_of ps ++ bytes_of qs
bytes_more [] qs = refl
bytes_more (Part.line text ∷ ps) qs = ap (λ (l : List ℕ). text ++ 10 ∷ l) (bytes_more ps qs) ∙ sym (append_assoc text (10 ∷ bytes_of ps) (bytes_of qs))
bytes_more (Part.command text c entries place ∷ ps) qs = ap (λ (l : List ℕ). text ++ 10 ∷ l) (bytes_more ps qs) ∙ sym (append_assoc text (10 ∷ bytes_of ps) (bytes_of qs))
bytes_more (Part.end entries ∷ ps) qs = bytes_more ps qs

-- a part with a line of this text
abbrev pub HasText : Part → List ℕ → Type 0
HasText p text = bytes_of (p ∷ []) ≡ text ++ 10 ∷ []

pub free_more : (ps : List Part) (p : Part) → HaveNoFeed ps → HaveNoFeed (p ∷ []) → HaveNoFeed (ps ++ p ∷ [])
free_more [] p f g = g
free_more (Part.line text ∷ ps) p f g = (f.0, free_more ps p f.1 g)
free_more (Part.command text c entries place ∷ ps) p f g = (f.0, free_more ps p f.1 g)
free_more (Part.end entries ∷ ps) p f g = free_more ps p f g

fed : (taken before rest text left : List ℕ) → taken ≡ before ++ rest → rest ≡ text ++ 10 ∷ left → taken ≡ (before ++ (text ++ 10 ∷ [])) ++ left
fed taken before rest text left e f = e ∙ ap (λ (l : List ℕ). before ++ l) (f ∙ sym (append_assoc text (10 ∷ []) left)) ∙ sym (append_assoc before (text ++ 10 ∷ []) left)

unfed : (taken before rest text : List ℕ) → taken ≡ before ++ rest → rest ≡ text → taken ++ 10 ∷ [] ≡ before ++ (text ++ 10 ∷ [])
unfed taken before rest text e f = ap (λ (l : List ℕ). l ++ 10 ∷ []) (e ∙ ap (λ (l : List ℕ). before ++ l) f) ∙ append_assoc before text (10 ∷ [])

some_line : (text left : List ℕ) → [] ≡ text ++ 10 ∷ left → ⊥
some_line text left e = omega (arith, ap length e, length-append text (10 ∷ left))

pub split_line : (taken : List ℕ) (parts : List Part) (p : Reading) (part : Part) (text : List ℕ) (size : ℕ) → HasText part text → IsSplit taken parts p → IsLine p text size
    → IsSplit taken (parts ++ part ∷ []) (following p text size)
split_line taken parts p part text size t s l = by_cases s l.ends
  where
    all : bytes_of (parts ++ part ∷ []) ≡ bytes_of parts ++ (text ++ 10 ∷ [])
    all = bytes_more parts (part ∷ []) ∙ ap (λ (l : List ℕ). bytes_of parts ++ l) t

    by_cases : IsSplit taken parts p → EndsLine p text size → IsSplit taken (parts ++ part ∷ []) (following p text size)
    by_cases (inl e) (inl (f, n)) = inl (fed taken (bytes_of parts) p.rest text (drop size p.rest) e f ∙ ap (λ (l : List ℕ). l ++ drop size p.rest) (sym all))
    by_cases (inl e) (inr (f, whole, n, some)) =
        inr (unfed taken (bytes_of parts) p.rest text e f ∙ sym all, drop_all size p.rest (omega (arith, n, ap length f)), whole)
    by_cases (inr (e, none, whole)) (inl (f, n)) = absurd (some_line text (drop size p.rest) (sym none ∙ f))
    by_cases (inr (e, none, whole)) (inr (f, w, n, some)) = absurd (omega (arith, n, some, ap length (sym none ∙ f)))

split_taken : (taken more : List ℕ) (parts : List Part) (p : Reading) (whole : Bool) → (p.whole ≡ true → (more ≡ []) × (whole ≡ true)) → IsSplit taken parts p
    → IsSplit (taken ++ more) parts (with_taken p more whole)
split_taken taken more parts p whole kept (inl e) = inl (ap (λ (l : List ℕ). l ++ more) e ∙ append_assoc (bytes_of parts) p.rest more)
split_taken taken more parts p whole kept (inr (e, none, w)) =
    let k = kept w in
    inr (ap (λ (l : List ℕ). (taken ++ l) ++ 10 ∷ []) k.0 ∙ ap (λ (l : List ℕ). l ++ 10 ∷ []) (append-nil taken) ∙ e, ap (λ (l : List ℕ). p.rest ++ l) k.0 ∙ append-nil p.rest ∙ none, k.1)

-- bytes are taken
pub lines_looked : (left mid left' : Option (List ℕ)) (parts : List Part) (p q : Reading) → HasLines left mid parts p → TakesMore p q mid left' → HasLines left left' parts q
lines_looked left mid left' parts p q x m = subst (HasLines left left' parts) (sym m.now) (record {
  taken = x.taken ++ m.taken;
  takes = Takes-Takes left mid left' x.taken m.taken x.takes m.takes;
  split = split_taken x.taken m.taken parts p q.whole m.kept x.split;
  free = x.free;
  number = x.number;
  few = x.few;
  count = omega (arith, x.count, length-append p.rest m.taken, length-append x.taken m.taken);
})

-- a line takes a byte at least
pub line_some : (p : Reading) (text : List ℕ) (size : ℕ) → IsLine p text size → 0 < size
line_some p text size l = by_end l.ends
  where
    by_end : EndsLine p text size → 0 < size
    by_end (inl e) = omega (arith, e.1)
    by_end (inr e) = e.3

-- a line is read
pub lines_following : (left left' : Option (List ℕ)) (parts : List Part) (p : Reading) (part : Part) (text : List ℕ) (size : ℕ) → HasText part text
    → lines_after (lines_of 0 parts) part ≡ lines_of 0 parts + 1
    → (IsFree 10 text → HaveNoFeed (part ∷ []))
    → HasLines left left' parts p → IsLine p text size → HasLines left left' (parts ++ part ∷ []) (following p text size)
lines_following left left' parts p part text size t n free x l = record {
  taken = x.taken;
  takes = x.takes;
  split = split_line x.taken parts p part text size t x.split l;
  free = free_more parts part x.free (free l.free);
  number = ap (λ (k : ℕ). k + 1) x.number ∙ sym n ∙ sym (lines_more 0 parts part);
  few = omega (arith, x.few, line_some p text size l);
  count = after_total p text size l ∙ x.count;
}

-- if the next line passes the script's limit, all lines within it were read
pub limit_left : (left left' : Option (List ℕ)) (parts : List Part) (p : Reading) → HasLines left left' parts p → PassesLimit p
    → (1048576 < length (bytes_of parts) + length p.rest) × IsFree 10 (take (1048576 - length (bytes_of parts)) p.rest)
limit_left left left' parts p x l = by x.split
  where
    by : IsSplit x.taken parts p → (1048576 < length (bytes_of parts) + length p.rest) × IsFree 10 (take (1048576 - length (bytes_of parts)) p.rest)
    by (inl e) =
        let same : p.before ≡ length (bytes_of parts) = omega (arith, x.count, ap length e, length-append (bytes_of parts) p.rest) in
        (omega (arith, l.more, same), subst (λ (n : ℕ). IsFree 10 (take (1048576 - n) p.rest)) same l.free)
    by (inr (e, none, whole)) = absurd (omega (arith, l.more, l.start, ap length none))
