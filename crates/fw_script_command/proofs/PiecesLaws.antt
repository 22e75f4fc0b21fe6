-- Bytes cut at separators.
use Rattle.std.proofs.Common.{◌≢◌, ◌≡◌, inl, inr, ◌==◌, ◌&&◌, not, ℕ, zero, suc, ◌+◌, List, [], ◌∷◌, ◌++◌, length, slice_index, take}
use Rattle.std.proofs.Common.{drop, Bool, true, false, Option, Some, None, IfSome, IfNone, cond, arith, refl, ap, sym, ◌∙◌, add-one, drop-cons, length-append}
use Rattle.std.proofs.lemmas.Bool.Decides.{nat_tests}
use Rattle.std.proofs.lemmas.Bool.{cases_lt}
use Rattle.std.proofs.lemmas.List.{take-append-drop, get_or_append_left}
use Rattle.std.proofs.Math.Seq.{get_or-append_seam}
use Rattle.memchr.specs.Find.{IsFirstByte, is_byte}
use Rattle.fw_script_command.specs.Pieces.{IsFree, IsFirstAt, pieces, onto, separated, AreFree}

pub split : (s : ℕ) (bs : List ℕ) (i : ℕ) → IsFirstAt s bs i → bs ≡ take i bs ++ s ∷ drop (i + 1) bs
split s bs i f = sym (take-append-drop i bs) ∙ ap (λ t. take i bs ++ t) (drop-cons bs i 0 f.within ∙ ap (λ x. x ∷ drop (suc i) bs) f.here ∙ ap (λ k. s ∷ drop k bs) (sym (add-one i)))

pub first_is : (s : ℕ) (u v : List ℕ) (i : ℕ) → IsFree s u → IsFirstAt s (u ++ s ∷ v) i → i ≡ length u
first_is s u v i free f = elim (cases_lt i (length u)) [
  | inl low ↦ absurd (free i low (sym (get_or_append_left u (s ∷ v) 0 i low) ∙ f.here))
  | inr high ↦ elim (cases_lt (length u) i) [
    | inl past ↦ absurd (f.before (length u) past (get_or-append_seam u s v 0))
    | inr le ↦ omega arith
  ]
]

pub not_free : {A : Type 0} (s : ℕ) (bs u v : List ℕ) → bs ≡ u ++ s ∷ v → IsFree s bs → A
not_free s bs u v e free =
    let long : length bs ≡ length u + suc (length v) = ap length e ∙ length-append u (s ∷ v) in
    absurd (free (length u) (omega arith) (ap (λ t. slice_index t (length u)) e ∙ get_or-append_seam u s v 0))

differs : (b s : ℕ) → b ≢ s → (b == s) ≡ false
differs b s n = grind (arith, nat_tests)

equals : (s : ℕ) → (s == s) ≡ true
equals s = grind (arith, nat_tests)

-- a word without the separator, by a test
abbrev is_free : ℕ → List ℕ → Bool
is_free s [] = true
is_free s (b ∷ w) = not (b == s) && is_free s w

-- the pieces of bytes without a separator, and after the first separator
pub pieces_free : (s : ℕ) (u : List ℕ) → IsFree s u → pieces s u ≡ u ∷ []
pieces_free s [] free = refl
pieces_free s (b ∷ u) free =
    rw (differs b s (free zero (omega arith))) (ap (onto b) (pieces_free s u (λ k h. free (suc k) (omega arith))))

pub pieces_cut : (s : ℕ) (u v : List ℕ) → IsFree s u → pieces s (u ++ s ∷ v) ≡ u ∷ pieces s v
pieces_cut s [] v free = rw (equals s) refl
pieces_cut s (b ∷ u) v free =
    rw (differs b s (free zero (omega arith))) (ap (onto b) (pieces_cut s u v (λ k h. free (suc k) (omega arith))))

-- there is always a piece
onto_some : (b : ℕ) (ws : List (List ℕ)) → onto b ws ≢ []
onto_some b [] e = cc
onto_some b (w ∷ ws) e = cc

pub pieces_some : (s : ℕ) (bs : List ℕ) → pieces s bs ≢ []
pieces_some s [] e = cc
pieces_some s (b ∷ bs) e = by_test (b == s) e
  where
    by_test : (t : Bool) → cond t ([] ∷ pieces s bs) (onto b (pieces s bs)) ≢ []
    by_test true e = cc
    by_test false e = onto_some b (pieces s bs) e

-- the same if pieces are left
pub next_piece : (s : ℕ) (more : Bool) (bs u v : List ℕ) (old : List (List ℕ)) → cond more (pieces s bs) [] ≡ old → more ≡ true → bs ≡ u ++ s ∷ v → IsFree s u → old ≡ u ∷ cond more (pieces s v) []
next_piece s false bs u v old is t e free = absurd cc
next_piece s true bs u v old is t e free = sym is ∙ ap (pieces s) e ∙ pieces_cut s u v free

pub last_piece : (s : ℕ) (more : Bool) (bs : List ℕ) (old : List (List ℕ)) → cond more (pieces s bs) [] ≡ old → more ≡ true → IsFree s bs → old ≡ bs ∷ []
last_piece s false bs old is t free = absurd cc
last_piece s true bs old is t free = sym is ∙ pieces_free s bs free

pub piece_left : (s : ℕ) (more : Bool) (bs : List ℕ) (old : List (List ℕ)) → cond more (pieces s bs) [] ≡ old → more ≡ true → old ≢ []
piece_left s false bs old is t e = cc
piece_left s true bs old is t e = pieces_some s bs (is ∙ e)

-- the pieces part the bytes
separated_onto : (s b : ℕ) (ws : List (List ℕ)) → ws ≢ [] → separated s (onto b ws) ≡ b ∷ separated s ws
separated_onto s b [] some = absurd (some refl)
separated_onto s b (w ∷ []) some = refl
separated_onto s b (w ∷ v ∷ ws) some = refl

separated_next : (s : ℕ) (ws : List (List ℕ)) → ws ≢ [] → separated s ([] ∷ ws) ≡ s ∷ separated s ws
separated_next s [] some = absurd (some refl)
separated_next s (w ∷ ws) some = refl

free_onto : (s b : ℕ) (ws : List (List ℕ)) → b ≢ s → AreFree s ws → AreFree s (onto b ws)
free_onto s b [] differ free = (first, tt)
  where
    first : IsFree s (b ∷ [])
    first zero h = differ
    first (suc k) h = absurd (omega arith)
free_onto s b (w ∷ ws) differ free = (first, free.1)
  where
    first : IsFree s (b ∷ w)
    first zero h = differ
    first (suc k) h = free.0 k (omega arith)

free_empty : (s : ℕ) → IsFree s []
free_empty s k h = absurd (omega arith)

part_more : (s b : ℕ) (bs : List ℕ) → (separated s (pieces s bs) ≡ bs) × AreFree s (pieces s bs) → (separated s (pieces s (b ∷ bs)) ≡ b ∷ bs) × AreFree s (pieces s (b ∷ bs))
part_more s b bs rest = by_test (b == s) refl
  where
    same_byte : (b == s) ≡ true → b ≡ s
    same_byte e = grind (arith, nat_tests)

    other_byte : (b == s) ≡ false → b ≢ s
    other_byte e = grind (arith, nat_tests)

    by_test : (t : Bool) → (b == s) ≡ t → (separated s (cond t ([] ∷ pieces s bs) (onto b (pieces s bs))) ≡ b ∷ bs) × AreFree s (cond t ([] ∷ pieces s bs) (onto b (pieces s bs)))
    by_test true e = (
      separated_next s (pieces s bs) (pieces_some s bs) ∙ ap (λ (l : List ℕ). s ∷ l) rest.0 ∙ ap (λ (x : ℕ). x ∷ bs) (sym (same_byte e)),
      (free_empty s, rest.1),
    )
    by_test false e = (
      separated_onto s b (pieces s bs) (pieces_some s bs) ∙ ap (λ (l : List ℕ). b ∷ l) rest.0,
      free_onto s b (pieces s bs) (other_byte e) rest.1,
    )

pub pieces_part : (s : ℕ) (bs : List ℕ) → (separated s (pieces s bs) ≡ bs) × AreFree s (pieces s bs)
pieces_part s [] = (refl, (free_empty s, tt))
pieces_part s (b ∷ bs) = part_more s b bs (pieces_part s bs)

-- what a search for a byte finds
byte_at : (b s : ℕ) → b ≡ s → is_byte s b ≡ true
byte_at b s e = grind (arith, nat_tests)

byte_of : (b s : ℕ) → is_byte s b ≡ true → b ≡ s
byte_of b s e = grind (arith, nat_tests)

pub first_found : (s : ℕ) (bs : List ℕ) (r : Option ℕ) → IsFirstByte (is_byte s) bs r → IfSome r (IsFirstAt s bs)
first_found s bs None h = tt
first_found s bs (Some i) h =
    record {
      within = h.0.high;
      here = byte_of (slice_index bs i) s h.1;
      before = λ k low e. h.0.before k (omega arith) low (byte_at (slice_index bs k) s e);
    }

pub none_found : (s : ℕ) (bs : List ℕ) (r : Option ℕ) → IsFirstByte (is_byte s) bs r → IfNone r (IsFree s bs)
none_found s bs None h = λ k low e. h k (omega arith) low (byte_at (slice_index bs k) s e)
none_found s bs (Some i) h = tt
