-- What stands on a wire, by node.
use Rattle.fw_async.proofs.Common.{◌≡◌, ◌≢◌, ◌<◌, ◌≤◌, ◌+◌, inl, inr, ℕ, List, [], ◌∷◌, ◌++◌, Bool, true, false, eqb, length, Option, Some, None, ap, sym, refl, subst, ◌∙◌, arith, cases_lt}
use Rattle.fw_async.proofs.Common.{common_steps, bytes_from}
use Rattle.std.proofs.Common.{cond, slice_index_or}
use Rattle.std.proofs.lemmas.Bool.{eq-eqb, eqb-true, cases_Bool}
use Rattle.std.proofs.Math.ListN.{get_or-eq_default}
use Rattle.std.proofs.lemmas.Option.{none-some}
use Rattle.fw_async.specs.Letters.{HasLetters}
use Rattle.fw_async.specs.Wire.{Pairs}

apart : (a b : ℕ) → a ≢ b → eqb a b ≡ false
apart a b ne = elim (cases_Bool (eqb a b)) [ inl y ↦ absurd (ne (eqb-true a b y)) | inr n ↦ n ]

pub put_own : (w : Pairs) (q : ℕ) (b : List ℕ) → bytes_from q w ≡ None → bytes_from q (w ++ (q, b) ∷ []) ≡ Some b
put_own [] q b e = ap (λ t. cond t (Some b) None) (eq-eqb q q refl)
put_own (p ∷ w) q b e = go (eqb q p.0) (bytes_from q w) e (put_own w q b)
  where
    go : (t : Bool) (o : Option (List ℕ)) → cond t (Some p.1) o ≡ None → (o ≡ None → bytes_from q (w ++ (q, b) ∷ []) ≡ Some b)
        → cond t (Some p.1) (bytes_from q (w ++ (q, b) ∷ [])) ≡ Some b
    go true o e more = absurd (none-some p.1 (sym e))
    go false o e more = more e

pub put_other : (w : Pairs) (q n : ℕ) (b : List ℕ) → n ≢ q → bytes_from n (w ++ (q, b) ∷ []) ≡ bytes_from n w
put_other [] q n b ne = ap (λ t. cond t (Some b) None) (apart n q ne)
put_other (p ∷ w) q n b ne = ap (cond (eqb n p.0) (Some p.1)) (put_other w q n b ne)

-- ---- the letters of the nodes below one

abbrev pub Letters : Type 0
Letters = List (Option (List ℕ))

-- they are those that stand
abbrev pub AreTold : Pairs → Letters → ℕ → Type 0
AreTold w letters node = (m : ℕ) → m < node → bytes_from m w ≡ slice_index_or letters m None

pub told_more : (w : Pairs) (letters : Letters) (node : ℕ) (o : Option (List ℕ)) → length letters ≡ node → bytes_from node w ≡ o → AreTold w letters node → AreTold w (letters ++ o ∷ []) (node + 1)
told_more w letters node o size is told m less = elim (cases_lt m node) [
  | inl before ↦ let t = told m before in grind (arith, common_steps)
  | inr last ↦ let same : m ≡ node = omega arith in subst (λ k. bytes_from k w ≡ slice_index_or (letters ++ o ∷ []) k None) (sym same) (let t = is in grind (arith, common_steps))
]

pub told_next : (w : Pairs) (letters : Letters) (node : ℕ) → bytes_from node w ≡ slice_index_or letters node None → AreTold w letters node → AreTold w letters (node + 1)
told_next w letters node is told m less = elim (cases_lt m node) [
  | inl before ↦ told m before
  | inr last ↦ let same : m ≡ node = omega arith in subst (λ k. bytes_from k w ≡ slice_index_or letters k None) (sym same) is
]

-- if nothing stands further on
pub told_all : (w : Pairs) (letters : Letters) (node : ℕ) → length letters ≡ node → ((m : ℕ) → node ≤ m → bytes_from m w ≡ None) → AreTold w letters node → HasLetters w letters
told_all w letters node size none told m = elim (cases_lt m node) [
  | inl less ↦ told m less
  | inr more ↦ none m more ∙ sym (get_or-eq_default letters None (omega (arith, size)))
]

-- and nothing else stands
pub record AreLaid (w : Pairs) (letters : Letters) (node : ℕ) : Type 0 where
  pub those : AreTold w letters node
  pub others : (m : ℕ) → node ≤ m → bytes_from m w ≡ None

pub laid_first : (letters : Letters) → AreLaid [] letters 0
laid_first letters = record { those = λ m less. absurd (omega (arith, less)); others = λ m more. refl }

pub laid_one : (w : Pairs) (letters : Letters) (node : ℕ) (b : List ℕ) → slice_index_or letters node None ≡ Some b → AreLaid w letters node → AreLaid (w ++ (node, b) ∷ []) letters (node + 1)
laid_one w letters node b is laid = record {
  those = λ m less. elim (cases_lt m node) [
    | inl before ↦ put_other w node m b (λ e. absurd (omega (arith, before, e))) ∙ laid.those m before
    | inr last ↦
        let same : m ≡ node = omega arith in
        subst (λ k. bytes_from k (w ++ (node, b) ∷ []) ≡ slice_index_or letters k None) (sym same) (put_own w node b (laid.others node (omega arith)) ∙ sym is)
  ];
  others = λ m more. put_other w node m b (λ e. absurd (omega (arith, more, e))) ∙ laid.others m (omega (arith, more));
}

pub laid_none : (w : Pairs) (letters : Letters) (node : ℕ) → slice_index_or letters node None ≡ None → AreLaid w letters node → AreLaid w letters (node + 1)
laid_none w letters node is laid = record {
  those = told_next w letters node (laid.others node (omega arith) ∙ sym is) laid.those;
  others = λ m more. laid.others m (omega (arith, more));
}

pub laid_all : (w : Pairs) (letters : Letters) (node : ℕ) → length letters ≡ node → AreLaid w letters node → HasLetters w letters
laid_all w letters node size laid = told_all w letters node size laid.others laid.those
