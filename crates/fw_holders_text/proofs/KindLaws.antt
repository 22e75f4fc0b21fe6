-- The kinds of devices, node by node.
use Rattle.std.proofs.Common.{
  ◌≡◌,
  ◌≢◌,
  ◌<◌,
  ◌+◌,
  ◌++◌,
  ◌∷◌,
  ◌==◌,
  ◌⊎◌,
  ◌∙◌,
  ℕ,
  suc,
  Bool,
  true,
  false,
  not,
  cond,
  List,
  [],
  Option,
  Some,
  None,
  is_some,
  inl,
  inr,
  length,
  get_or,
  set,
  refl,
  ap,
  sym,
  arith,
}
use Rattle.std.proofs.Common.{get_or-set_same, get_or-set_other, slice_get, take, replicate}
use Rattle.std.proofs.lemmas.Bool.{cases_eq}
use Rattle.std.proofs.lemmas.Bool.Decides.{nat_tests}
use Rattle.std.proofs.lemmas.List.{get_or-replicate}
use Rattle.std.specs.Option.{option_map}
use Rattle.std.specs.List.{position_or_len}
use Rattle.fw_log_entry.specs.declared.nodes.NodeRow.{NodeRow}
use Rattle.fw_holders_text.specs.Kept.{AreKinds}
use Rattle.fw_holders_text.specs.Names.{kind_of_device}

-- the first node is this device, or a later one
kind_first : (r : NodeRow) (rs : List NodeRow) (d : ℕ) → kind_of_device (r ∷ rs) d ≡ cond (r.device == d) (Some r.kind) (kind_of_device rs d)
kind_first r rs d = by (r.device == d)
  where
    n : ℕ
    n = position_or_len (λ (row : NodeRow). row.device == d) rs

    by : (b : Bool) → option_map (λ (row : NodeRow). row.kind) (slice_get (r ∷ rs) (cond (not b) (1 + n) 0)) ≡ cond b (Some r.kind) (option_map (λ (row : NodeRow). row.kind) (slice_get rs n))
    by true = refl
    by false = let e : 1 + n ≡ suc n = omega arith in rw e refl

-- one, or else another
or_else : Option ℕ → Option ℕ → Option ℕ
or_else (Some k) o = Some k
or_else None o = o

or_none : (o : Option ℕ) → or_else o None ≡ o
unfolding or_else
or_none (Some k) = refl
or_none None = refl

some_stays : (k : ℕ) (o : Option ℕ) → or_else (Some k) o ≡ Some k
unfolding or_else
some_stays k o = refl

none_goes : (o : Option ℕ) → or_else None o ≡ o
unfolding or_else
none_goes o = refl

-- the last node counts if no node before is this device
kind_last : (xs : List NodeRow) (r : NodeRow) (d : ℕ) → kind_of_device (xs ++ r ∷ []) d ≡ or_else (kind_of_device xs d) (cond (r.device == d) (Some r.kind) None)
unfolding or_else
kind_last [] r d = kind_first r [] d
kind_last (x ∷ xs) r d =
    kind_first x (xs ++ r ∷ []) d ∙ ap (cond (x.device == d) (Some x.kind)) (kind_last xs r d) ∙ by (x.device == d)
    ∙ ap (λ k. or_else k (cond (r.device == d) (Some r.kind) None)) (sym (kind_first x xs d))
  where
    by : (b : Bool) → cond b (Some x.kind) (or_else (kind_of_device xs d) (cond (r.device == d) (Some r.kind) None))
        ≡ or_else (cond b (Some x.kind) (kind_of_device xs d)) (cond (r.device == d) (Some r.kind) None)
    by true = refl
    by false = refl

-- the kinds with one node more
pub kinds_more : (xs : List NodeRow) (r : NodeRow) (kinds : List (Option ℕ)) → length kinds ≡ 256 → r.device < 256 → AreKinds xs kinds
    → AreKinds (xs ++ r ∷ []) (cond (is_some (get_or kinds r.device None)) kinds (set kinds r.device (Some r.kind)))
kinds_more xs r kinds size small are = λ d within. by (get_or kinds r.device None) refl d within
  where
    last : (d : ℕ) → d < 256 → or_else (get_or kinds d None) (cond (r.device == d) (Some r.kind) None) ≡ kind_of_device (xs ++ r ∷ []) d
    last d within = ap (λ o. or_else o (cond (r.device == d) (Some r.kind) None)) (are d within) ∙ sym (kind_last xs r d)

    other : (d : ℕ) → d ≢ r.device → (r.device == d) ≡ false
    other d ne = grind (arith, nat_tests)

    by : (o : Option ℕ) → get_or kinds r.device None ≡ o → (d : ℕ) → d < 256 → get_or (cond (is_some o) kinds (set kinds r.device (Some r.kind))) d None ≡ kind_of_device (xs ++ r ∷ []) d
    by (Some k) is d within = known d within (cases_eq d r.device)
      where
        known : (d : ℕ) → d < 256 → (d ≡ r.device) ⊎ (d ≢ r.device) → get_or kinds d None ≡ kind_of_device (xs ++ r ∷ []) d
        known d within (inl e) = let here : get_or kinds d None ≡ Some k = ap (λ j. get_or kinds j None) e ∙ is in here ∙ sym (some_stays k (cond (r.device == d) (Some r.kind) None))
            ∙ ap (λ o. or_else o (cond (r.device == d) (Some r.kind) None)) (sym here) ∙ last d within
        known d within (inr ne) = sym (or_none (get_or kinds d None)) ∙ ap (λ b. or_else (get_or kinds d None) (cond b (Some r.kind) None)) (sym (other d ne)) ∙ last d within
    by None is d within = fresh d within (cases_eq d r.device)
      where
        fresh : (d : ℕ) → d < 256 → (d ≡ r.device) ⊎ (d ≢ r.device) → get_or (set kinds r.device (Some r.kind)) d None ≡ kind_of_device (xs ++ r ∷ []) d
        fresh d within (inl e) =
            let t : (r.device == d) ≡ true = grind (arith, nat_tests) in
            let here : get_or kinds d None ≡ None = ap (λ j. get_or kinds j None) e ∙ is in
            ap (λ j. get_or (set kinds r.device (Some r.kind)) j None) e ∙ get_or-set_same kinds r.device (Some r.kind) None (omega (arith, size, small))
            ∙ sym (ap (λ b. or_else (get_or kinds d None) (cond b (Some r.kind) None)) t ∙ ap (λ o. or_else o (Some r.kind)) here ∙ none_goes (Some r.kind)) ∙ last d within
        fresh d within (inr ne) =
            get_or-set_other kinds r.device d (Some r.kind) None ne
            ∙ sym (or_none (get_or kinds d None)) ∙ ap (λ b. or_else (get_or kinds d None) (cond b (Some r.kind) None)) (sym (other d ne)) ∙ last d within

-- no nodes
pub no_kinds : (nodes : List NodeRow) (d : ℕ) → d < 256 → get_or (replicate 256 None) d None ≡ kind_of_device (take 0 nodes) d
no_kinds nodes d within = get_or-replicate {A = Option ℕ} 256 d None None within
