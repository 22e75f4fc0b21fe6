-- What a sink that tells stands on stays, if the list that stands for it only grows.
use Rattle.fw_trace.proofs.Common.{◌≡◌, refl, sym, ap, ◌∙◌, ℕ, List, [], ◌∷◌, ◌++◌, Some, Ok, Err, arith, Base}
use Rattle.std.proofs.Common.{Result}
use Rattle.fw_outside.specs.Outside.{Writes}
use base.Stored.{Gv, gnil, gnum, gcons}
use Rattle.fw_trace.specs.Framing.{spelled, base_code, framed}

abbrev first_of : List ℕ → ℕ
first_of [] = 0
first_of (x ∷ xs) = x

abbrev rest_of : List ℕ → List ℕ
rest_of [] = []
rest_of (x ∷ xs) = xs

spelled_append : (g : Gv) (r s : List ℕ) → spelled g (r ++ s) ≡ spelled g r ++ s
spelled_append gnil r s = refl
spelled_append (gnum n) r s = refl
spelled_append (gcons a b) r s = ap (λ t. 2 ∷ t) (ap (spelled a) (spelled_append b r s) ∙ spelled_append a (spelled b r) s)

spelled_once : (g h : Gv) (r s : List ℕ) → spelled g r ≡ spelled h s → (g ≡ h) × (r ≡ s)
spelled_once gnil gnil r s e = (refl, ap rest_of e)
spelled_once gnil (gnum n) r s e = absurd (omega (arith, ap first_of e))
spelled_once gnil (gcons c d) r s e = absurd (omega (arith, ap first_of e))
spelled_once (gnum m) gnil r s e = absurd (omega (arith, ap first_of e))
spelled_once (gnum m) (gnum n) r s e = (ap (λ t. gnum (first_of (rest_of t))) e, ap (λ t. rest_of (rest_of t)) e)
spelled_once (gnum m) (gcons c d) r s e = absurd (omega (arith, ap first_of e))
spelled_once (gcons a b) gnil r s e = absurd (omega (arith, ap first_of e))
spelled_once (gcons a b) (gnum n) r s e = absurd (omega (arith, ap first_of e))
spelled_once (gcons a b) (gcons c d) r s e =
    let prefix = spelled_once a c (spelled b r) (spelled d s) (ap rest_of e) in
    let following = spelled_once b d r s prefix.1 in
    (λ i. gcons (prefix.0 i) (following.0 i), following.1)

-- a piece more
pub framed_more : (base : Base) (bytes piece : List ℕ) → framed base (bytes ++ piece) ≡ framed base bytes ++ piece
unfolding framed
framed_more base bytes piece = spelled_append (base_code.code base) bytes piece

-- if the list has grown by a piece, it stands on the same, and its bytes have grown by the piece
pub framed_grown : (base base' : Base) (bytes bytes' piece : List ℕ) → framed base' bytes' ≡ framed base bytes ++ piece → (base' ≡ base) × (bytes' ≡ bytes ++ piece)
unfolding framed
framed_grown base base' bytes bytes' piece e =
    let once = spelled_once (base_code.code base') (base_code.code base) bytes' (bytes ++ piece) (e ∙ sym (framed_more base bytes piece)) in
    (base_code.inj base' base once.0, once.1)

-- what a write of a whole piece leaves
pub frame_written : (base base' : Base) (bytes bytes' piece : List ℕ) → base' ≡ base → bytes' ≡ bytes ++ piece → framed base' bytes' ≡ framed base bytes ++ piece
frame_written base base' bytes bytes' piece e f = (λ i. framed (e i) (f i)) ∙ framed_more base bytes piece

-- a write of a piece, or of a prefix of it, if the bytes are known
pub frame_writes : {T E : Type 0} (base base' : Base) (bytes bytes' piece : List ℕ) (r : Result T E) → base' ≡ base → Writes (Some bytes) (Some bytes') r piece
    → Writes (Some (framed base bytes)) (Some (framed base' bytes')) r piece
frame_writes base base' bytes bytes' piece (Ok t) e w = frame_written base base' bytes bytes' piece e w
frame_writes base base' bytes bytes' piece (Err f) e w =
    record { prefix = w.prefix; rest = w.rest; parts = w.parts; appended = frame_written base base' bytes bytes' w.prefix e w.appended }
