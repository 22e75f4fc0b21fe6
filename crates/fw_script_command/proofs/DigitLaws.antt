-- Words of digits, in which no separator stands.
use Rattle.std.proofs.Common.{◌≡◌, ℕ, suc, ◌==◌, ◌&&◌, nat_le, List, [], ◌∷◌, length, Bool, true, false, Option, Some, None, OnSome, IfSome, IfNone, Result, Ok, Err}
use Rattle.std.proofs.Common.{is_ok, cond, arith, refl, ap, sym, ◌∙◌}
use Rattle.std.specs.List.{AllPass}
use Rattle.std.specs.Int.{from_be_bytes, w16}
use Rattle.hex.specs.Hex.{is_hex_digit, decode_of, decode_sized}
use Rattle.hex.specs.declared.error.FromHexError.{FromHexError}
use Rattle.hex.proofs.HexLemmas.{decode_of-ok, IsOk-decode_sized}
use Rattle.fw_script_command.specs.Form.{first_by, after_first}
use Rattle.fw_script_command.specs.Pieces.{IsFree, pieces, separated}
use Rattle.fw_script_command.specs.Words.{or_none, offset_in, frame_in}
use Rattle.fw_script_command.proofs.PiecesLaws.{last_piece, pieces_part}

-- ---- what is left, whole

digits_free : (s : ℕ) (w : List ℕ) → is_hex_digit s ≡ false → AllPass is_hex_digit w → IsFree s w
digits_free s w other all k low e = let h : false ≡ true = sym other ∙ (ap (λ (b : ℕ). is_hex_digit b) (sym e) ∙ all k 0 low) in let z : ⊥ = cc in z

pub whole_piece : (s : ℕ) (more : Bool) (bs : List ℕ) (old : List (List ℕ)) → cond more (pieces s bs) [] ≡ old → more ≡ true → is_hex_digit s ≡ false → AllPass is_hex_digit bs → old ≡ bs ∷ []
whole_piece s more bs old is t other digits = last_piece s more bs old is t (digits_free s bs other digits)

pub one_piece : (s : ℕ) (more : Bool) (bs : List ℕ) (old : List (List ℕ)) (v : List ℕ) → cond more (pieces s bs) [] ≡ old → more ≡ true → old ≡ v ∷ [] → v ≡ bs
one_piece s false bs old v is t e = absurd (let z : ⊥ = cc in z)
one_piece s true bs old v is t e = sym (ap (λ (ws : List (List ℕ)). separated s ws) (is ∙ e)) ∙ (pieces_part s bs).0

-- ---- frames

frame_digits : (w b : List ℕ) → frame_in w ≡ Some b → AllPass is_hex_digit w
frame_digits w b e = go (nat_le 1 (length w) && nat_le (length w) 220) (decode_of w) refl e
  where
    go : (t : Bool) (r : Result (List ℕ) FromHexError) → decode_of w ≡ r → cond t (or_none (λ (bytes : List ℕ). bytes) r) None ≡ Some b → AllPass is_hex_digit w
    go true (Ok bytes) is e = (decode_of-ok w bytes is).1
    go true (Err f) is e = absurd (let z : ⊥ = cc in z)
    go false r is e = absurd (let z : ⊥ = cc in z)

pub frame_read : (r : Option Unit) (w out : List ℕ) (ws : List (List ℕ)) → (AllPass is_hex_digit w → ws ≡ w ∷ []) → IfSome r (λ u. frame_in w ≡ Some out)
    → IfSome r (λ u. first_by frame_in ws ≡ Some out)
frame_read None w out ws one read = tt
frame_read (Some u) w out ws one read = ap (λ (us : List (List ℕ)). first_by frame_in us) (one (frame_digits w out read)) ∙ read

pub frame_last : (r : Option Unit) (w out : List ℕ) (ws : List (List ℕ)) → (AllPass is_hex_digit w → ws ≡ w ∷ []) → IfSome r (λ u. frame_in w ≡ Some out) → OnSome r (after_first ws ≡ [])
frame_last None w out ws one read = tt
frame_last (Some u) w out ws one read = ap (λ (us : List (List ℕ)). after_first us) (one (frame_digits w out read))

pub frame_none : (r : Option Unit) (w : List ℕ) (ws : List (List ℕ)) → ((v : List ℕ) → ws ≡ v ∷ [] → v ≡ w) → IfNone r (frame_in w ≡ None)
    → IfNone r (after_first ws ≡ [] → first_by frame_in ws ≡ None)
frame_none (Some u) w ws only none = tt
frame_none None w [] only none = λ e. refl
frame_none None w (v ∷ vs) only none = λ e. ap frame_in (only v (ap (λ (us : List (List ℕ)). v ∷ us) e)) ∙ none

-- ---- offsets

offset_digits : (w : List ℕ) (n : ℕ) → offset_in w ≡ Some n → AllPass is_hex_digit w
offset_digits w n e = go (length w == 3) (decode_sized (48 ∷ w) 2) refl e
  where
    go : (t : Bool) (r : Result (List ℕ) FromHexError) → decode_sized (48 ∷ w) 2 ≡ r → cond t (or_none (from_be_bytes w16) r) None ≡ Some n → AllPass is_hex_digit w
    go true (Ok bytes) is e = let h = (IsOk-decode_sized (48 ∷ w) 2).0 (ap (λ (q : Result (List ℕ) FromHexError). is_ok q) is) in λ k d low. h.1 (suc k) d (omega arith)
    go true (Err f) is e = absurd (let z : ⊥ = cc in z)
    go false r is e = absurd (let z : ⊥ = cc in z)

pub offset_read : (r : Option ℕ) (w : List ℕ) (ws : List (List ℕ)) → (AllPass is_hex_digit w → ws ≡ w ∷ []) → r ≡ offset_in w → IfSome r (λ n. first_by offset_in ws ≡ Some n)
offset_read None w ws one is = tt
offset_read (Some n) w ws one is = ap (λ (us : List (List ℕ)). first_by offset_in us) (one (offset_digits w n (sym is))) ∙ sym is

pub offset_last : (r : Option ℕ) (w : List ℕ) (ws : List (List ℕ)) → (AllPass is_hex_digit w → ws ≡ w ∷ []) → r ≡ offset_in w → OnSome r (after_first ws ≡ [])
offset_last None w ws one is = tt
offset_last (Some n) w ws one is = ap (λ (us : List (List ℕ)). after_first us) (one (offset_digits w n (sym is)))

pub offset_none : (r : Option ℕ) (w : List ℕ) (ws : List (List ℕ)) → ((v : List ℕ) → ws ≡ v ∷ [] → v ≡ w) → r ≡ offset_in w → IfNone r (after_first ws ≡ [] → first_by offset_in ws ≡ None)
offset_none (Some n) w ws only is = tt
offset_none None w [] only is = λ e. refl
offset_none None w (v ∷ vs) only is = λ e. ap offset_in (only v (ap (λ (us : List (List ℕ)). v ∷ us) e)) ∙ sym is
