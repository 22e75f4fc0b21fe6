-- The next line is one only, and stays so if more bytes are known.
use Rattle.std.proofs.Common.{◌≡◌, ◌⊎◌, inl, inr, ℕ, zero, suc, [], ◌∷◌, ◌++◌, ◌+◌, ◌-◌, ◌<◌, ◌≤◌, List}
use Rattle.std.proofs.Common.{length, slice_index, take, drop, Bool, true, arith, refl, ap, sym, ◌∙◌, subst, length-drop, length-append, append_assoc}
use Rattle.std.proofs.lemmas.List.{append-nil, take-append-le, drop-append-le, get_or-take}
use Rattle.std.proofs.Math.Seq.{get_or-append_seam, take-append_seam, drop-append_seam}
use Rattle.std.proofs.lemmas.Bool.{cases_lt}
use Rattle.fw_script_command.specs.Pieces.{IsFree}
use Rattle.fw_script.specs.Reader.{IsCut, IsNear, StandsNext}
use Rattle.fw_script.specs.Line.{IsPrefix, IsEnded}
use Rattle.fw_script.specs.declared.line.Prefix.{Prefix}
use Rattle.fw_script.specs.declared.line.Prefix.TheVariants.{Line, LongLine, Limit, Cut, Nothing}
use Rattle.fw_script.specs.Reading.{Reading, EndsLine, IsLine, IsLongLine, PassesLimit, IsAtEndOfInput, following, with_taken}

-- one cut at the first separator
pub cut_once : (s : ℕ) (u v x y : List ℕ) → IsFree s u → IsFree s x → u ++ s ∷ v ≡ x ++ s ∷ y → u ≡ x
cut_once s [] v [] y f g e = refl
cut_once s [] v (b ∷ x) y f g e = absurd (g zero (omega arith) (let h : s ≡ b = cc in sym h))
cut_once s (a ∷ u) v [] y f g e = absurd (f zero (omega arith) (let h : a ≡ s = cc in h))
cut_once s (a ∷ u) v (b ∷ x) y f g e =
    let head : a ≡ b = cc in
    let rest : u ++ s ∷ v ≡ x ++ s ∷ y = cc in
    let tail = cut_once s u v x y (λ k h. f (suc k) (omega arith)) (λ k h. g (suc k) (omega arith)) rest in
    ap (λ (h : ℕ). h ∷ u) head ∙ ap (λ (t : List ℕ). b ∷ t) tail

-- a line feed stands within the first bytes
pub feed_within : (rest t a : List ℕ) (n : ℕ) → rest ≡ t ++ 10 ∷ a → length t < n → IsFree 10 (take n rest) → ⊥
feed_within rest t a n e low free =
    let long : length rest ≡ length t + suc (length a) = ap length e ∙ length-append t (10 ∷ a) in
    let inside : length t < length (take n rest) = taken_long n rest (length t) low (omega arith) in
    free (length t) inside (get_or-take n rest (length t) 0 low ∙ ap (λ (l : List ℕ). slice_index l (length t)) e ∙ get_or-append_seam t 10 a 0)
  where
    taken_long : (n : ℕ) (xs : List ℕ) (k : ℕ) → k < n → k < length xs → k < length (take n xs)
    taken_long zero xs k h i = absurd (omega arith)
    taken_long (suc n) [] k h i = absurd (omega arith)
    taken_long (suc n) (x ∷ xs) zero h i = omega arith
    taken_long (suc n) (x ∷ xs) (suc k) h i = let j = taken_long n xs k (omega arith) (omega arith) in omega arith

free_not : (u a : List ℕ) → IsFree 10 (u ++ 10 ∷ a) → ⊥
free_not u a free = free (length u) (omega (arith, length-append u (10 ∷ a))) (get_or-append_seam u 10 a 0)

ends_once : (p : Reading) (t u : List ℕ) (m n : ℕ) → IsFree 10 t → IsFree 10 u → EndsLine p t m → EndsLine p u n → (t ≡ u) × (m ≡ n)
ends_once p t u m n f g (inl a) (inl b) =
    let e = cut_once 10 t (drop m p.rest) u (drop n p.rest) f g (sym a.0 ∙ b.0) in
    (e, a.1 ∙ ap (λ (l : List ℕ). length l + 1) e ∙ sym b.1)
ends_once p t u m n f g (inl a) (inr b) =
    let P : List ℕ → Type 0 = IsFree 10 in absurd (free_not t (drop m p.rest) (subst P (sym b.0 ∙ a.0) g))
ends_once p t u m n f g (inr a) (inl b) =
    let P : List ℕ → Type 0 = IsFree 10 in absurd (free_not u (drop n p.rest) (subst P (sym a.0 ∙ b.0) f))
ends_once p t u m n f g (inr a) (inr b) =
    let e = sym a.0 ∙ b.0 in (e, a.2 ∙ ap (λ (l : List ℕ). length l) e ∙ sym b.2)

pub line_once : (p : Reading) (t u : List ℕ) (m n : ℕ) → IsLine p t m → IsLine p u n → (t ≡ u) × (m ≡ n)
line_once p t u m n a b = ends_once p t u m n a.free b.free a.ends b.ends

-- a line is not what else may stand next
pub line_not_long : (p : Reading) (t : List ℕ) (n : ℕ) → IsLine p t n → IsLongLine p → ⊥
line_not_long p t n a b = by_end a.ends
  where
    by_end : EndsLine p t n → ⊥
    by_end (inl e) = feed_within p.rest t (drop n p.rest) 257 e.0 (omega (arith, a.short)) b.free
    by_end (inr e) = omega (arith, a.short, b.long, ap (λ (l : List ℕ). length l) e.0)

pub line_not_limit : (p : Reading) (t : List ℕ) (n : ℕ) → IsLine p t n → PassesLimit p → ⊥
line_not_limit p t n a b = by_end a.ends
  where
    by_end : EndsLine p t n → ⊥
    by_end (inl e) = feed_within p.rest t (drop n p.rest) (1048576 - p.before) e.0 (omega (arith, a.within, e.1)) b.free
    by_end (inr e) = omega (arith, a.within, b.more, e.2, ap (λ (l : List ℕ). length l) e.0)

pub line_not_end : (p : Reading) (t : List ℕ) (n : ℕ) → IsLine p t n → IsAtEndOfInput p → ⊥
line_not_end p t n a b = by_end a.ends
  where
    none : length p.rest ≡ 0
    none = ap (λ (l : List ℕ). length l) b.0

    by_end : EndsLine p t n → ⊥
    by_end (inl e) = omega (arith, none, ap (λ (l : List ℕ). length l) e.0, length-append t (10 ∷ drop n p.rest))
    by_end (inr e) = omega (arith, none, e.2, e.3, ap (λ (l : List ℕ). length l) e.0)

pub long_not_limit : (p : Reading) → IsLongLine p → PassesLimit p → ⊥
long_not_limit p a b = omega (arith, a.within, b.short)

pub long_not_end : (p : Reading) → IsLongLine p → IsAtEndOfInput p → ⊥
long_not_end p a b = omega (arith, a.long, ap (λ (l : List ℕ). length l) b.0)

pub limit_not_end : (p : Reading) → PassesLimit p → IsAtEndOfInput p → ⊥
limit_not_end p a b = omega (arith, a.more, a.start, ap (λ (l : List ℕ). length l) b.0)

-- a line is among the bytes that are known
pub line_there : (p : Reading) (t : List ℕ) (n : ℕ) → IsLine p t n → n ≤ length p.rest
line_there p t n a = by_end a.ends
  where
    by_end : EndsLine p t n → n ≤ length p.rest
    by_end (inl e) = omega (arith, e.1, ap (λ (l : List ℕ). length l) e.0, length-append t (10 ∷ drop n p.rest))
    by_end (inr e) = omega (arith, e.2, ap (λ (l : List ℕ). length l) e.0)

-- more bytes may be known, and the end may be met; not if it was met before
abbrev pub IsMore : Reading → List ℕ → Bool → Type 0
IsMore p more whole = p.whole ≡ true → (more ≡ []) × (whole ≡ true)

-- more bytes after it leave the line as it is
pub line_more : (p : Reading) (t more : List ℕ) (whole : Bool) (n : ℕ) → IsMore p more whole → IsLine p t n → IsLine (with_taken p more whole) t n
line_more p t more whole n none a = record { ends = by_end a.ends; free = a.free; short = a.short; within = a.within }
  where
    by_end : EndsLine p t n → EndsLine (with_taken p more whole) t n
    by_end (inl e) =
        inl (
          ap (λ (l : List ℕ). l ++ more) e.0 ∙ append_assoc t (10 ∷ drop n p.rest) more
              ∙ ap (λ (l : List ℕ). t ++ 10 ∷ l) (sym (drop-append-le n p.rest more (line_there p t n a))),
          e.1,
        )
    by_end (inr e) =
        inr (ap (λ (l : List ℕ). p.rest ++ l) (none e.1).0 ∙ append-nil p.rest ∙ e.0, (none e.1).1, e.2, e.3)

pub long_more : (p : Reading) (more : List ℕ) (whole : Bool) → IsLongLine p → IsLongLine (with_taken p more whole)
long_more p more whole a = record {
  long = omega (arith, a.long, length-append p.rest more);
  free = subst (λ (l : List ℕ). IsFree 10 l) (sym (take-append-le 257 p.rest more a.long)) a.free;
  within = a.within;
}

pub limit_more : (p : Reading) (more : List ℕ) (whole : Bool) → PassesLimit p → PassesLimit (with_taken p more whole)
limit_more p more whole a = record {
  start = a.start;
  more = omega (arith, a.more, length-append p.rest more);
  free = subst (λ (l : List ℕ). IsFree 10 l) (sym (take-append-le (1048576 - p.before) p.rest more (omega (arith, a.more)))) a.free;
  short = a.short;
}

pub end_more : (p : Reading) (more : List ℕ) (whole : Bool) → IsMore p more whole → IsAtEndOfInput p → IsAtEndOfInput (with_taken p more whole)
end_more p more whole none a = (ap (λ (l : List ℕ). p.rest ++ l) (none a.1).0 ∙ append-nil p.rest ∙ a.0, (none a.1).1)

pub following_more : (p : Reading) (t more : List ℕ) (whole : Bool) (n : ℕ) → IsLine p t n → following (with_taken p more whole) t n ≡ with_taken (following p t n) more whole
following_more p t more whole n a =
    ap (λ (l : List ℕ). record { rest = l; whole = whole; before = p.before + n; line = p.line + 1; stage = p.stage; text = t; end = p.end }) (drop-append-le n p.rest more (line_there p t n a))

-- the bytes of the script that are known
pub after_total : (p : Reading) (t : List ℕ) (n : ℕ) → IsLine p t n → (p.before + n) + length (drop n p.rest) ≡ p.before + length p.rest
after_total p t n a = omega (arith, length-drop n p.rest, line_there p t n a)

-- if a prefix of a line is held, and not its end, nothing is decided
pub cut_not_line : (p : Reading) (t : List ℕ) (n : ℕ) → IsCut p → IsLine p t n → ⊥
cut_not_line p t n c a = by_end a.ends
  where
    by_end : EndsLine p t n → ⊥
    by_end (inl e) = let P : List ℕ → Type 0 = IsFree 10 in free_not t (drop n p.rest) (subst P e.0 c.free)
    by_end (inr e) = let w = c.on in absurd cc

pub cut_not_long : (p : Reading) → IsCut p → IsLongLine p → ⊥
cut_not_long p c a = omega (arith, c.short, a.long)

pub cut_not_limit : (p : Reading) → IsCut p → PassesLimit p → ⊥
cut_not_limit p c a = omega (arith, c.within, a.more)

pub cut_not_end : (p : Reading) → IsCut p → IsAtEndOfInput p → ⊥
cut_not_end p c a = let w = c.on in let v = a.1 in absurd cc

-- after a line few bytes are held
pub near_few : (xs : List ℕ) → length xs ≤ 4096 → IsNear xs
near_few xs few = record { few = omega arith; free = λ k h. absurd (none (length xs - 4096) xs (omega arith) k h) }
  where
    none : (n : ℕ) (ys : List ℕ) → n ≡ 0 → (k : ℕ) → k < length (take n ys) → ⊥
    none zero ys e k h = omega arith
    none (suc n) ys e k h = omega arith

pub line_near : (p : Reading) (t : List ℕ) (n : ℕ) → IsNear p.rest → IsLine p t n → length (drop n p.rest) ≤ 4096
line_near p t n near a = by_end a.ends
  where
    by_count : p.rest ≡ t ++ 10 ∷ drop n p.rest → n ≡ length t + 1 → (4096 < length (drop n p.rest)) ⊎ (length (drop n p.rest) ≤ 4096) → length (drop n p.rest) ≤ 4096
    by_count e size (inr few) = few
    by_count e size (inl many) =
        absurd (feed_within p.rest t (drop n p.rest) (length p.rest - 4096) e (omega (arith, size, many, length-drop n p.rest)) near.free)

    by_end : EndsLine p t n → length (drop n p.rest) ≤ 4096
    by_end (inl e) = by_count e.0 e.1 (cases_lt 4096 (length (drop n p.rest)))
    by_end (inr e) = omega (arith, length-drop n p.rest, e.2, ap (λ (l : List ℕ). length l) e.0)

-- after a prefix of a line a piece more is held
pub near_taken : (p : Reading) (piece : List ℕ) → IsCut p → length piece ≤ 4096 → IsNear (p.rest ++ piece)
near_taken p piece c few =
    let long = length-append p.rest piece in
    record {
      few = omega (arith, long, c.short, few);
      free = subst (λ (l : List ℕ). IsFree 10 l) (sym (take-append-le (length (p.rest ++ piece) - 4096) p.rest piece (omega (arith, long, few))))
          (free_prefix (length (p.rest ++ piece) - 4096) p.rest c.free);
    }
  where
    free_prefix : (n : ℕ) (xs : List ℕ) → IsFree 10 xs → IsFree 10 (take n xs)
    free_prefix zero xs free k h = absurd (omega arith)
    free_prefix (suc n) [] free k h = absurd (omega arith)
    free_prefix (suc n) (x ∷ xs) free zero h = free zero (omega arith)
    free_prefix (suc n) (x ∷ xs) free (suc k) h = free_prefix n xs (λ j i. free (suc j) (omega arith)) k (omega arith)

-- a text stands before a prefix and a piece
pub kept_text : (text prefix piece : List ℕ) → take (length text) (text ++ prefix ++ piece) ≡ text
kept_text text prefix piece = ap (λ (l : List ℕ). take (length text) l) (append_assoc text prefix piece) ∙ take-append_seam text (prefix ++ piece)

pub kept_rest : (text prefix piece : List ℕ) → drop (length text) (text ++ prefix ++ piece) ≡ prefix ++ piece
kept_rest text prefix piece = ap (λ (l : List ℕ). drop (length text) l) (append_assoc text prefix piece) ∙ drop-append_seam text (prefix ++ piece)

-- what stands before the bytes that are held stands next
pub stands_next : (p : Reading) (f : Prefix) → p.before ≤ 1048576 → IsPrefix p.rest (1048576 - p.before) p.whole f → StandsNext p f
stands_next p (Line n size) low h =
    record {
      line = record { ends = by_end h.5; free = h.3; short = omega (arith, h.0, h.4); within = omega (arith, h.1, low) };
      there = by_length h.5;
      some = by_some h.5;
      all = h.2;
    }
  where
    by_end : IsEnded p.rest p.whole n size → EndsLine p (take n p.rest) size
    by_end (inl e) = inl (e.0, e.1 ∙ ap (λ (k : ℕ). k + 1) h.4)
    by_end (inr e) = inr (e.0, e.1, e.3 ∙ h.4, omega (arith, e.3, e.4))

    by_length : IsEnded p.rest p.whole n size → n ≤ length p.rest
    by_length (inl e) = omega (arith, h.2, e.1)
    by_length (inr e) = omega (arith, h.2, e.3)

    by_some : IsEnded p.rest p.whole n size → 0 < size
    by_some (inl e) = omega (arith, e.1)
    by_some (inr e) = omega (arith, e.3, e.4)
stands_next p LongLine low h = record { long = h.0; free = h.2; within = omega (arith, h.1, low) }
stands_next p Limit low h = record { start = low; more = omega (arith, h.0, low); free = h.2; short = omega (arith, h.1, low) }
stands_next p Cut low h = record { on = h.0; short = h.1; within = omega (arith, h.2, low); free = h.3 }
stands_next p Nothing low h = (h.0, h.1)
