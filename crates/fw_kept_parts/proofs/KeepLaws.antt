-- Parts that are kept one after the other.
use Rattle.std.proofs.Common.{ℕ, ◌≡◌, ◌<◌, ◌≤◌, ◌+◌, ◌++◌, List, [], ◌∷◌, length, take, get_or, slice_index, slice_index_or, refl, sym, ap, subst, ◌∙◌, inl, inr, arith, append-nil, append_assoc}
use Rattle.std.proofs.lemmas.Bool.{cases_lt}
use Rattle.std.proofs.lemmas.List.{length-append, length_push, length-take-le, get_or_append_left, get_or_push, get_or-take, take_more}
use Rattle.fw_kept_parts.specs.Tables.{Keeps, KeepsAll}

module _ {P W : Type 0} (IsOf : P → W → Type 0) where
  pub keeps_none : (old : List P) (out : List ℕ) → KeepsAll IsOf old old [] out out
  keeps_none old out = record {
    more = [];
    is = sym (append-nil old);
    numbers = [];
    words = sym (append-nil out);
    size = refl;
    within = λ k less. absurd (omega (arith, less));
    at = λ k d w less. absurd (omega (arith, less));
  }

  module _ (old mid new : List P) (wholes : List W) (out now : List ℕ) (k n : ℕ) (whole : W) (less : k < length wholes) (is : (d : W) → get_or wholes k d ≡ whole)
      (all : KeepsAll IsOf old mid (take k wholes) out now) (one : Keeps IsOf mid new whole n) where
    count : length all.numbers ≡ k
    count = all.size ∙ length-take-le k wholes (omega (arith, less))

    longer : length mid ≤ length new
    longer = let e = ap length one.is ∙ length-append mid one.more in omega (arith, e)

    -- a part that was kept stays under its number
    stays : (i : ℕ) (d : P) → i < length mid → get_or mid i d ≡ get_or new i d
    stays i d h = sym (get_or_append_left mid one.more d i h) ∙ ap (λ l. get_or l i d) (sym one.is)

    earlier : (j : ℕ) → j < k → slice_index (all.numbers ++ n ∷ []) j ≡ slice_index all.numbers j
    earlier j h = get_or_append_left all.numbers (n ∷ []) 0 j (omega (arith, h, count))

    last : (j : ℕ) → j ≡ k → slice_index (all.numbers ++ n ∷ []) j ≡ n
    last j e = get_or_push all.numbers n 0 j (count ∙ sym e)

    within_more : (j : ℕ) → j < length (all.numbers ++ n ∷ []) → slice_index (all.numbers ++ n ∷ []) j < length new
    within_more j h = elim (cases_lt j k) [
      | inl before ↦ let e = earlier j before in let w = all.within j (omega (arith, before, count)) in omega (arith, e, w, longer)
      | inr after ↦ let size = length_push all.numbers n in let e = last j (omega (arith, after, h, size, count)) in omega (arith, e, one.within)
    ]

    at_more : (j : ℕ) (d : P) (w : W) → j < length (all.numbers ++ n ∷ []) → IsOf (get_or new (slice_index (all.numbers ++ n ∷ []) j) d) (get_or (take (k + 1) wholes) j w)
    at_more j d w h = elim (cases_lt j k) [
      | inl before ↦
          let e = earlier j before in
          let low : j < length all.numbers = omega (arith, before, count) in
          let there = all.at j d w low in
          let number = all.within j low in
          let part : get_or mid (slice_index all.numbers j) d ≡ get_or new (slice_index (all.numbers ++ n ∷ []) j) d = stays (slice_index all.numbers j) d number ∙ ap (λ i. get_or new i d) (sym e) in
          let same : get_or (take k wholes) j w ≡ get_or (take (k + 1) wholes) j w = get_or-take k wholes j w before ∙ sym (get_or-take (k + 1) wholes j w (omega (arith, before))) in
          let Q : P → Type 0 = λ p. IsOf p (get_or (take (k + 1) wholes) j w) in
          let R : W → Type 0 = λ x. IsOf (get_or mid (slice_index all.numbers j) d) x in
          subst Q part (subst R same there)
      | inr after ↦
          let size = length_push all.numbers n in
          let here : j ≡ k = omega (arith, after, h, size, count) in
          let e = last j here in
          let same : whole ≡ get_or (take (k + 1) wholes) j w = sym (is w) ∙ ap (λ i. get_or wholes i w) (sym here) ∙ sym (get_or-take (k + 1) wholes j w (omega (arith, here))) in
          let Q : ℕ → Type 0 = λ i. IsOf (get_or new i d) (get_or (take (k + 1) wholes) j w) in
          let R : W → Type 0 = λ x. IsOf (get_or new n d) x in
          subst Q (sym e) (subst R same (one.at d))
    ]

    pub keeps_more : KeepsAll IsOf old new (take (k + 1) wholes) out (now ++ n ∷ [])
    keeps_more = record {
      more = all.more ++ one.more;
      is = one.is ∙ ap (λ l. l ++ one.more) all.is ∙ append_assoc old all.more one.more;
      numbers = all.numbers ++ n ∷ [];
      words = ap (λ l. l ++ n ∷ []) all.words ∙ append_assoc out all.numbers (n ∷ []);
      size = length_push all.numbers n ∙ ap (λ x. x + 1) count ∙ sym (length-take-le (k + 1) wholes (omega (arith, less)));
      within = within_more;
      at = at_more;
    }
