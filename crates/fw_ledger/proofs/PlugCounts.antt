-- How many plugs each device has, by the rows of a reset entry.
use Rattle.fw_ledger.proofs.Common.{PlugAt, NodeRow, ◌≡◌, ◌≢◌, ◌<◌, ◌+◌, ◌==◌, ◌&&◌, ◌||◌, ◌⊎◌, inl, inr, ℕ, zero, suc, Bool, nat_lt, List, [], length, take, get_or, slice_index, slice_set, sym, ◌∙◌}
use Rattle.fw_ledger.proofs.Common.{ap, arith, get_or-set_same, get_or-set_other, cases_eq, nat_tests}
use Rattle.std.proofs.Common.{max}
use Rattle.std.proofs.Common.{◌∷◌, add-one}
use Rattle.std.specs.List.{list_any}

-- one more of the list
any_next : {A : Type 0} (test : A → Bool) (xs : List A) (i : ℕ) (d : A) → i < length xs → list_any test (take (suc i) xs) ≡ (list_any test (take i xs) || test (get_or xs i d))
any_next test [] i d lt = absurd (omega arith)
any_next test (x ∷ xs) zero d lt = grind arith
any_next test (x ∷ xs) (suc i) d lt = grind (arith, any_next test xs i d (omega arith))

any_more : {A : Type 0} (test : A → Bool) (xs : List A) (i : ℕ) (d : A) → i < length xs → list_any test (take (i + 1) xs) ≡ (list_any test (take i xs) || test (get_or xs i d))
any_more test xs i d lt = rw add-one (any_next test xs i d lt)

-- a plug is below the larger of two counts if it is below one
below_max : (n a b : ℕ) → (nat_lt n a || nat_lt n b) ≡ nat_lt n (max a b)
below_max n a b = grind (arith, nat_tests)

-- another device has no plug more
other_device : (b : Bool) (d e : ℕ) (t : Bool) → d ≢ e → (b || ((d == e) && t)) ≡ b
other_device b d e t ne = grind (arith, nat_tests)

same_device : (b : Bool) (d e : ℕ) (t : Bool) → d ≡ e → (b || ((d == e) && t)) ≡ (b || t)
same_device b d e t same = grind (arith, nat_tests)

-- one row more is counted
pub count_more : (count : NodeRow → ℕ) (nodes : List NodeRow) (i : ℕ) (d : NodeRow) (counts : List ℕ) → i < length nodes → length counts ≡ 63 → (get_or nodes i d).device < 63
    → ((p : PlugAt) → list_any (λ row. (row.device == p.device) && nat_lt p.plug (count row)) (take i nodes) ≡ nat_lt p.plug (slice_index counts p.device))
    → (p : PlugAt) → list_any (λ row. (row.device == p.device) && nat_lt p.plug (count row)) (take (i + 1) nodes)
    ≡ nat_lt p.plug (slice_index (slice_set counts (get_or nodes i d).device (max (slice_index counts (get_or nodes i d).device) (count (get_or nodes i d)))) p.device)
count_more count nodes i d counts lt size low before p = any_more (λ (row : NodeRow). (row.device == p.device) && nat_lt p.plug (count row)) nodes i d lt
    ∙ ap (λ b. b || ((row.device == p.device) && nat_lt p.plug (count row))) (before p) ∙ go (cases_eq row.device p.device)
  where
    row : NodeRow
    row = get_or nodes i d

    m : ℕ
    m = max (slice_index counts row.device) (count row)

    go : (row.device ≡ p.device) ⊎ (row.device ≢ p.device) → (nat_lt p.plug (slice_index counts p.device) || ((row.device == p.device) && nat_lt p.plug (count row)))
        ≡ nat_lt p.plug (slice_index (slice_set counts row.device m) p.device)
    go (inl e) =
        same_device _ row.device p.device (nat_lt p.plug (count row)) e
        ∙ ap (λ k. nat_lt p.plug (slice_index counts k) || nat_lt p.plug (count row)) (sym e)
        ∙ below_max p.plug (slice_index counts row.device) (count row)
        ∙ ap (nat_lt p.plug) (sym (rw (sym e) (get_or-set_same counts row.device m 0 (rw size low))))
    go (inr ne) = other_device _ row.device p.device (nat_lt p.plug (count row)) ne ∙ ap (nat_lt p.plug) (sym (get_or-set_other counts row.device p.device m 0 (λ e. ne (sym e))))
