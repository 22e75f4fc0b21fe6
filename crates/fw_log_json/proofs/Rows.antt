-- The values of arrays, one after another.
use Rattle.fw_log_json.proofs.Common.{◌≡◌, refl, ap, sym, ◌∙◌, ℕ, suc, ◌+◌, ◌<◌, List, [], ◌∷◌, ◌++◌, length, get_or, drop, map, append_assoc, join_with_byte, NodeRow, array, node_objects, then}
use Rattle.std.proofs.Common.{add-one, drop-cons}
use Rattle.std.proofs.lemmas.List.{append-nil}
use Rattle.fw_log_json_packets.specs.Values.{comma}
use Rattle.fw_log_json.specs.Ids.{node_object}

-- the values of a list from the n-th on, each with what stands before it
abbrev pub row : ℕ → List (List ℕ) → List ℕ
row n [] = []
row n (v ∷ vs) = comma n ++ v ++ row (suc n) vs

first_joined : (v : List ℕ) (vs : List (List ℕ)) (n : ℕ) → join_with_byte 44 (v ∷ vs) ≡ v ++ row (suc n) vs
first_joined v [] n = sym (append-nil v)
first_joined v (w ∷ ws) n = ap (λ (t : List ℕ). v ++ (44 ∷ t)) (first_joined w ws (suc n))

pub joined : (values : List (List ℕ)) → join_with_byte 44 values ≡ row 0 values
joined [] = refl
joined (v ∷ vs) = first_joined v vs 0

-- a value more, and what stands before it
pub row_more : (t after last v : List ℕ) (vs : List (List ℕ)) (n : ℕ) → after ≡ t ++ comma n → last ≡ after ++ v
    → last ++ row (suc n) vs ≡ t ++ row n (v ∷ vs)
row_more t after last v vs n e f =
    ap (λ (x : List ℕ). x ++ row (suc n) vs) (then t after last (comma n) v e f) ∙ append_assoc t (comma n ++ v) (row (suc n) vs)

from_next : {X : Type 0} (xs : List X) (n : ℕ) (d : X) → n < length xs → drop n xs ≡ get_or xs n d ∷ drop (n + 1) xs
from_next xs n d h = drop-cons xs n d h ∙ ap (λ (k : ℕ). get_or xs n d ∷ drop k xs) (sym (add-one n))

-- the value of the n-th of a list, and what stands before it
pub row_next : {X : Type 0} (f : X → List ℕ) (xs : List X) (n : ℕ) (d : X) (t after last : List ℕ) → n < length xs → after ≡ t ++ comma n
    → last ≡ after ++ f (get_or xs n d) → last ++ row (n + 1) (map f (drop (n + 1) xs)) ≡ t ++ row n (map f (drop n xs))
row_next f xs n d t after last h e g =
    let vs : List (List ℕ) = map f (drop (n + 1) xs) in
    ap (λ (k : ℕ). last ++ row k vs) (add-one n) ∙ row_more t after last (f (get_or xs n d)) vs n e g
    ∙ ap (λ ys. t ++ row n (map f ys)) (sym (from_next xs n d h))

-- the object of the n-th of some nodes, and what stands before it
pub node_next : (rows : List NodeRow) (n : ℕ) (d : NodeRow) (t after last : List ℕ) → n < length rows → after ≡ t ++ comma n
    → last ≡ after ++ node_object n (get_or rows n d) → last ++ row (n + 1) (node_objects (n + 1) (drop (n + 1) rows)) ≡ t ++ row n (node_objects n (drop n rows))
node_next rows n d t after last h e g =
    let vs : List (List ℕ) = node_objects (n + 1) (drop (n + 1) rows) in
    ap (λ (k : ℕ). last ++ row k vs) (add-one n) ∙ row_more t after last (node_object n (get_or rows n d)) vs n e g
    ∙ ap (λ (ys : List NodeRow). t ++ row n (node_objects n ys)) (sym (from_next rows n d h))

-- all values between brackets
pub closed : (before opened t last : List ℕ) (values : List (List ℕ)) → opened ≡ before ++ (91 ∷ []) → t ++ [] ≡ opened ++ row 0 values
    → last ≡ t ++ (93 ∷ []) → last ≡ before ++ array values
unfolding array
closed before opened t last values e f g =
    let rows : t ≡ opened ++ join_with_byte 44 values = sym (append-nil t) ∙ f ∙ ap (λ (x : List ℕ). opened ++ x) (sym (joined values)) in
    then before t last ((91 ∷ []) ++ join_with_byte 44 values) (93 ∷ []) (then before opened t (91 ∷ []) (join_with_byte 44 values) e rows) g
