-- Moves as lines, from the first on.
use Rattle.std.proofs.Common.{ℕ, zero, suc, ◌≡◌, ◌+◌, ◌<◌, ◌≤◌, ◌==◌, ◌&&◌, List, [], ◌∷◌, ◌++◌, length, get_or, drop, Bool, true, false, Option, Some, None, if◌then◌else◌}
use Rattle.std.proofs.Common.{Bor, slice_get, refl, sym, ap, ◌∙◌, append_assoc, append-nil}
use Rattle.std.proofs.lemmas.Bool.{false≢true}
use Rattle.std.proofs.lemmas.List.{at_drop_more, at_drop_all}
use Rattle.std.proofs.lemmas.Bool.Decides.{Decides-eqb}
use Rattle.std.proofs.lemmas.Option.{slice_get_read, slice_get_past}
use Rattle.std.specs.Option.{option_copied}
use Rattle.std.specs.Slice.{IsItemAt}
use Rattle.fw_explore_movers.specs.declared.mover.Explored.{Explored}
use Rattle.fw_explore_movers.specs.declared.mover.Mover.{Mover}
use Rattle.fw_explore_endings.specs.Texts.{run_text, takes_half_steps, goes_on, moves_following, moves_text}

-- what is still to be told, if so many half steps of its first mover came before
unfoldable pub pending : Explored → ℕ → List ℕ → List ℕ
pending x c [] = []
pending x c (p ∷ w) = moves_following x p (c + 1) w

pub pending_first : (x : Explored) (w : List ℕ) → pending x 0 w ≡ moves_text x w
unfolding pending
pending_first x [] = refl
pending_first x (p ∷ w) = refl

pub pending_none : (x : Explored) (c : ℕ) → pending x c [] ≡ []
unfolding pending
pending_none x c = refl

both_left : (a b : Bool) → (a && b) ≡ true → a ≡ true
both_left true b e = refl
both_left false b e = absurd (false≢true e)

-- the move is told with the next
pub pending_on : (x : Explored) (c p : ℕ) (w : List ℕ) → goes_on (slice_get x.movers.items p) p (slice_get w 0) ≡ true → pending x c (p ∷ w) ≡ pending x (c + 1) w
unfolding pending moves_following
pending_on x c p [] e = absurd (false≢true e)
pending_on x c p (q ∷ w) e =
    let same : p ≡ q = (Decides-eqb p q).0 (both_left (p == q) (takes_half_steps (slice_get x.movers.items p)) e) in
    ap (λ b. if b then moves_following x p (c + 1 + 1) w else run_text (slice_get x.movers.items p) (c + 1) ++ moves_following x q 1 w) e ∙ ap (λ z. moves_following x z (c + 1 + 1) w) same

-- or it is the last of its line
pub pending_last : (x : Explored) (c p : ℕ) (w : List ℕ) → goes_on (slice_get x.movers.items p) p (slice_get w 0) ≡ false
    → pending x c (p ∷ w) ≡ run_text (slice_get x.movers.items p) (c + 1) ++ pending x 0 w
unfolding pending moves_following
pending_last x c p [] e = sym (append-nil (run_text (slice_get x.movers.items p) (c + 1)))
pending_last x c p (q ∷ w) e = ap (λ b. if b then moves_following x p (c + 1 + 1) w else run_text (slice_get x.movers.items p) (c + 1) ++ moves_following x q 1 w) e

-- ---- in a loop over the moves, if `all` is what is told in the end

prefix_of_drop : (n : ℕ) (w : List ℕ) → slice_get (drop n w) 0 ≡ slice_get w n
prefix_of_drop zero [] = refl
prefix_of_drop zero (p ∷ w) = refl
prefix_of_drop (suc n) [] = refl
prefix_of_drop (suc n) (p ∷ w) = prefix_of_drop n w

never_and : (b : Bool) → (b && false) ≡ false
never_and true = refl
never_and false = refl

-- no mover goes on
none_goes_on : (p : ℕ) (next : Option ℕ) → goes_on None p next ≡ false
none_goes_on p None = refl
none_goes_on p (Some q) = never_and (p == q)

module _ (x : Explored) (moves : List ℕ) (at c p : ℕ) (out all : List ℕ) (within : at < length moves) (is : p ≡ get_or moves at 0) (so : out ++ pending x c (drop at moves) ≡ all) where
  split : pending x c (drop at moves) ≡ pending x c (p ∷ drop (at + 1) moves)
  split = at_drop_more (pending x c) moves at 0 within ∙ ap (λ (q : ℕ). pending x c (q ∷ drop (at + 1) moves)) (sym is)

  next : goes_on (slice_get x.movers.items p) p (slice_get (drop (at + 1) moves) 0) ≡ goes_on (slice_get x.movers.items p) p (slice_get moves (at + 1))
  next = ap (goes_on (slice_get x.movers.items p) p) (prefix_of_drop (at + 1) moves)

  pub move_on : goes_on (slice_get x.movers.items p) p (slice_get moves (at + 1)) ≡ true → out ++ pending x (c + 1) (drop (at + 1) moves) ≡ all
  move_on on = ap (λ l. out ++ l) (sym (split ∙ pending_on x c p (drop (at + 1) moves) (next ∙ on))) ∙ so

  pub move_last : (more : List ℕ) → goes_on (slice_get x.movers.items p) p (slice_get moves (at + 1)) ≡ false → more ≡ out ++ run_text (slice_get x.movers.items p) (c + 1)
      → more ++ pending x 0 (drop (at + 1) moves) ≡ all
  move_last more last put =
      ap (λ l. l ++ pending x 0 (drop (at + 1) moves)) put ∙ append_assoc out (run_text (slice_get x.movers.items p) (c + 1)) (pending x 0 (drop (at + 1) moves))
      ∙ ap (λ l. out ++ l) (sym (split ∙ pending_last x c p (drop (at + 1) moves) (next ∙ last))) ∙ so

  pub move_of_none : slice_get x.movers.items p ≡ None → out ++ pending x 0 (drop (at + 1) moves) ≡ all
  move_of_none none =
      move_last out (ap (λ m. goes_on m p (slice_get moves (at + 1))) none ∙ none_goes_on p (slice_get moves (at + 1)))
      (sym (ap (λ m. out ++ run_text m (c + 1)) none ∙ append-nil out))

pub moves_end : (x : Explored) (moves : List ℕ) (at c : ℕ) (out all : List ℕ) → length moves ≤ at → out ++ pending x c (drop at moves) ≡ all → out ≡ all
moves_end x moves at c out all end so = sym (append-nil out) ∙ ap (λ l. out ++ l) (sym (at_drop_all (pending x c) moves at end ∙ pending_none x c)) ∙ so

-- what a look-up of a mover and of the next move says
pub mover_at : (xs ys : List Mover) (p k : ℕ) (m : Mover) → ys ≡ xs → k ≡ p → k < length ys → m ≡ get_or ys k m → slice_get xs p ≡ Some m
mover_at xs ys p k m same at within is = ap (slice_get xs) (sym at) ∙ ap (λ (l : List Mover). slice_get l k) (sym same) ∙ slice_get_read ys (length ys) k m refl within is

pub no_mover : (xs ys : List Mover) (p k : ℕ) → ys ≡ xs → k ≡ p → length ys ≤ k → slice_get xs p ≡ None
no_mover xs ys p k same at past = ap (slice_get xs) (sym at) ∙ ap (λ (l : List Mover). slice_get l k) (sym same) ∙ slice_get_past ys k past

pub next_move : (w : List ℕ) (i : ℕ) (r : Option (Bor ℕ)) → IsItemAt w i r → option_copied r ≡ slice_get w i
next_move w i None t = sym (slice_get_past w i t.3)
next_move w i (Some x) t = sym (slice_get_read w (length w) i x.now refl t.3.0 t.1)

pub goes_same : (o : Option Mover) (m : Mover) (p : ℕ) (next seen : Option ℕ) (b : Bool) → o ≡ Some m → seen ≡ next → b ≡ goes_on (Some m) p seen → goes_on o p next ≡ b
goes_same o m p next seen b there same is = ap (λ (z : Option Mover). goes_on z p next) there ∙ ap (goes_on (Some m) p) (sym same) ∙ sym is
