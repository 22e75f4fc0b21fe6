-- A table that is told of more lists tells of these too.
use Rattle.std.proofs.Common.{ℕ, ◌≡◌, ◌≢◌, ◌+◌, ◌<◌, ◌↔◌, ◌⊎◌, min, List, [], ◌∷◌, ◌++◌, length, get_or, set, inl, inr, refl, sym, ap, subst, ◌∙◌, arith}
use Rattle.std.specs.List.{All, Any, AllPairs}
use Rattle.std.proofs.lemmas.List.{length-set, get_or-set_same, get_or-set_other, get_or_default, length_push, get_or_append_left, get_or_push}
use Rattle.std.proofs.lemmas.List.Elements.{All-push}
use Rattle.std.proofs.lemmas.List.Quantifiers.{all_pairs_push}
use Rattle.std.proofs.lemmas.Bool.{cases_eq, cases_lt}
use Rattle.fw_explore_levels.specs.Counting.{most_told, Counts}
use Rattle.fw_explore_levels.specs.Order.{IsEarlier}
use Rattle.fw_explore_levels.specs.Tables.{Entry, IsFound, IsNew, IsReached, IsEntry, Precedes, IsTable}
use Rattle.fw_explore_levels.proofs.OrderLaws.{earlier_trans}
use Rattle.fw_explore_levels.proofs.CountLaws.{counts_same, counts_both, counts_one}

-- Lists that are `T` come to the table's `S` with this key; of them those are counted that are `D`, and the first is later than those of `F`.
pub record IsMore (S C F T D : List ℕ → Type 0) (K : List ℕ → List ℕ → Type 0) (key : List ℕ) (ways : ℕ) (first : List ℕ) : Type 0 where
  pub leads : (w : List ℕ) → T w → K w key
  pub first_is : T first
  pub no_earlier : (w : List ℕ) → T w → IsEarlier w first → ⊥
  pub later : (f : List ℕ) → F f → IsEarlier f first
  pub counts : Counts D ways
  pub within : (w : List ℕ) → D w → T w
  pub apart : (w : List ℕ) → T w → C w → ⊥

-- a list leads to one key
pub record HasOneKey (K : List ℕ → List ℕ → Type 0) : Type 0 where
  pub one : (w k l : List ℕ) → K w k → K w l → k ≡ l

-- keys of other places differ
apart_at : (old : List Entry) (place : ℕ) (entry : Entry) (key : List ℕ) → place < length old → get_or old place entry ≡ entry → entry.key ≡ key → AllPairs Precedes old
    → (k : ℕ) (d : Entry) → k < length old → k ≢ place → (get_or old k d).key ≢ key
apart_at old place entry key within at same order k d h n e =
    let here : get_or old place d ≡ entry = get_or_default old place d entry within ∙ at in
    elim (cases_lt k place) [
      | inl lt ↦ (order k place d lt within).apart (e ∙ sym same ∙ ap (λ x. x.key) (sym here))
      | inr ge ↦ let gt : place < k = omega (arith, n) in (order place k d gt h).apart (ap (λ x. x.key) here ∙ same ∙ sym e)
    ]

kept_at : (old : List Entry) (place : ℕ) (v : Entry) → place < length old → v.key ≡ (get_or old place v).key → v.first ≡ (get_or old place v).first → (k : ℕ) (d : Entry) → k < length old
    → ((get_or (set old place v) k d).key ≡ (get_or old k d).key) × ((get_or (set old place v) k d).first ≡ (get_or old k d).first)
kept_at old place v within same_key same_first k d h =
    elim (cases_eq k place) [
      | inl e ↦
          let there = ap (λ i. get_or (set old place v) i d) e ∙ get_or-set_same old place v d within in
          let here = get_or_default old place v d within ∙ sym (ap (λ i. get_or old i d) e) in
          (ap (λ x. x.key) there ∙ same_key ∙ ap (λ x. x.key) here, ap (λ x. x.first) there ∙ same_first ∙ ap (λ x. x.first) here)
      | inr n ↦ let other = get_or-set_other old place k v d n in (ap (λ x. x.key) other, ap (λ x. x.first) other)
    ]

-- a table at the list, one entry of which counts more
set_order : (old : List Entry) (place : ℕ) (v : Entry) → place < length old → v.key ≡ (get_or old place v).key → v.first ≡ (get_or old place v).first → AllPairs Precedes old
    → AllPairs Precedes (set old place v)
set_order old place v within same_key same_first order i j d less inside =
    let n : j < length old = omega (arith, length-set old place v) in
    let m : i < length old = omega arith in
    let at-i = kept_at old place v within same_key same_first i d m in
    let at-j = kept_at old place v within same_key same_first j d n in
    let p = order i j d less n in
    record {
      apart = λ e. p.apart (sym at-i.0 ∙ e ∙ at-j.0);
      earlier = subst (λ x. IsEarlier x (get_or (set old place v) j d).first) (sym at-i.1) (subst (IsEarlier (get_or old i d).first) (sym at-j.1) p.earlier);
    }

-- an entry at a place of the list
any_at : (K : List ℕ → List ℕ → Type 0) (w : List ℕ) (table : List Entry) (k : ℕ) (d : Entry) → k < length table → K w (get_or table k d).key → Any (λ e. K w e.key) table
any_at K w table k d h leads = (k, get_or table k d, h, get_or_default table k (get_or table k d) d h, leads)

module _ (S C F T D : List ℕ → Type 0) (K : List ℕ → List ℕ → Type 0) (one : HasOneKey K) (key : List ℕ) (ways : ℕ) (first : List ℕ) (more : IsMore S C F T D K key ways first) where
  -- an entry of another key stays as it is
  other_entry : (e : Entry) → e.key ≢ key → IsEntry S C F K e → IsEntry (λ w. S w ⊎ T w) (λ w. C w ⊎ D w) (λ f. F f ⊎ (f ≡ first)) K e
  other_entry e apart h = record {
    leads = h.leads;
    is = inl h.is;
    among = inl h.among;
    no_earlier = λ w s k. elim s [ inl a ↦ h.no_earlier w a k | inr b ↦ absurd (apart (one.one w e.key key k (more.leads w b))) ];
    counts = counts_same (λ w. C w × K w e.key) (λ w. (C w ⊎ D w) × K w e.key) e.ways
        (λ w. (λ p. (inl p.0, p.1), λ p. elim (p.0) [ inl a ↦ (a, p.1) | inr b ↦ absurd (apart (one.one w e.key key p.1 (more.leads w (more.within w b)))) ])) h.counts;
  }

  -- that of this key counts the others too
  same_entry : (e : Entry) → e.key ≡ key → IsEntry S C F K e → IsEntry (λ w. S w ⊎ T w) (λ w. C w ⊎ D w) (λ f. F f ⊎ (f ≡ first)) K (record e { ways = min most_told (e.ways + ways) })
  same_entry e same h = record {
    leads = h.leads;
    is = inl h.is;
    among = inl h.among;
    no_earlier = λ w s k l. elim s [ inl a ↦ h.no_earlier w a k l | inr b ↦ more.no_earlier w b (earlier_trans w e.first first l (more.later e.first h.among)) ];
    counts = counts_same (λ w. (C w × K w e.key) ⊎ D w) (λ w. (C w ⊎ D w) × K w e.key) (min most_told (e.ways + ways))
        (λ w. (λ p. elim p [ inl a ↦ (inl a.0, a.1) | inr b ↦ (inr b, subst (K w) (sym same) (more.leads w (more.within w b))) ], λ p. elim (p.0) [ inl a ↦ inl (a, p.1) | inr b ↦ inr b ]))
        (counts_both (λ w. C w × K w e.key) D e.ways ways (λ w a b. more.apart w (more.within w b) a.0) h.counts more.counts);
  }

  -- a new one counts them alone
  new_entry : (C-in : (w : List ℕ) → C w → S w) → ((w : List ℕ) → S w → K w key → ⊥) → IsEntry (λ w. S w ⊎ T w) (λ w. C w ⊎ D w) (λ f. F f ⊎ (f ≡ first)) K
      (record { key = key; ways = ways; first = first })
  new_entry C-in none = record {
    leads = more.leads first more.first_is;
    is = inr more.first_is;
    among = inr refl;
    no_earlier = λ w s k l. elim s [ inl a ↦ none w a k | inr b ↦ more.no_earlier w b l ];
    counts = counts_same D (λ w. (C w ⊎ D w) × K w key) ways
        (λ w. (λ d. (inr d, more.leads w (more.within w d)), λ p. elim (p.0) [ inl a ↦ absurd (none w (C-in w a) p.1) | inr b ↦ b ])) more.counts;
  }

  -- the list leads to one key: so an entry of this key is the only one
  found_each : (old : List Entry) (place : ℕ) (entry : Entry) → place < length old → get_or old place entry ≡ entry → entry.key ≡ key → AllPairs Precedes old → All (IsEntry S C F K) old
      → All (IsEntry (λ w. S w ⊎ T w) (λ w. C w ⊎ D w) (λ f. F f ⊎ (f ≡ first)) K) (set old place (record entry { ways = min most_told (entry.ways + ways) }))
  found_each old place entry within at same order all k d h =
      let v : Entry = record entry { ways = min most_told (entry.ways + ways) } in
      let P : Entry → Type 0 = IsEntry (λ w. S w ⊎ T w) (λ w. C w ⊎ D w) (λ f. F f ⊎ (f ≡ first)) K in
      let inside : k < length old = omega (arith, length-set old place v) in
      elim (cases_eq k place) [
        | inl e ↦ subst P (sym (ap (λ i. get_or (set old place v) i d) e ∙ get_or-set_same old place v d within)) (same_entry entry same (subst (IsEntry S C F K) at (all place entry within)))
        | inr n ↦ subst P (sym (get_or-set_other old place k v d n)) (other_entry (get_or old k d) (apart_at old place entry key within at same order k d inside n) (all k d inside))
      ]

  -- ---- whole tables

  found_whole : (old : List Entry) (place : ℕ) (entry : Entry) → place < length old → get_or old place entry ≡ entry → entry.key ≡ key → ((w : List ℕ) → S w → Any (λ e. K w e.key) old)
      → (w : List ℕ) → S w ⊎ T w → Any (λ e. K w e.key) (set old place (record entry { ways = min most_told (entry.ways + ways) }))
  found_whole old place entry within at same whole w (inl s) =
      let v : Entry = record entry { ways = min most_told (entry.ways + ways) } in
      let a = whole w s in
      let k-in : a.0 < length (set old place v) = omega (arith, length-set old place v, a.2) in
      any_at K w (set old place v) a.0 a.1 k-in
      (subst (K w) (sym (ap (λ x. x.key) a.3) ∙ sym (kept_at old place v within (sym (ap (λ x. x.key) (get_or_default old place v entry within
      ∙ at))) (sym (ap (λ x. x.first) (get_or_default old place v entry within ∙ at))) a.0 a.1 a.2).0) a.4)
  found_whole old place entry within at same whole w (inr b) =
      let v : Entry = record entry { ways = min most_told (entry.ways + ways) } in
      let k-in : place < length (set old place v) = omega (arith, length-set old place v) in
      any_at K w (set old place v) place v k-in (subst (K w) (sym same ∙ sym (ap (λ x. x.key) (get_or-set_same old place v v within))) (more.leads w b))

  found_table : (old new : List Entry) → IsFound old new key ways → IsTable S C F K old → IsTable (λ w. S w ⊎ T w) (λ w. C w ⊎ D w) (λ f. F f ⊎ (f ≡ first)) K new
  found_table old new f t =
      let v : Entry = record f.entry { ways = min most_told (f.entry.ways + ways) } in
      let here : get_or old f.place v ≡ f.entry = get_or_default old f.place v f.entry f.within ∙ f.at in
      subst (IsTable (λ w. S w ⊎ T w) (λ w. C w ⊎ D w) (λ g. F g ⊎ (g ≡ first)) K) (sym f.is) (record {
        each = found_each old f.place f.entry f.within f.at f.same t.in_order t.each;
        whole = found_whole old f.place f.entry f.within f.at f.same t.whole;
        in_order = set_order old f.place v f.within (sym (ap (λ x. x.key) here)) (sym (ap (λ x. x.first) here)) t.in_order;
      })

  new_table : (old new : List Entry) → ((w : List ℕ) → C w → S w) → IsNew old new key ways first → IsTable S C F K old → IsTable (λ w. S w ⊎ T w) (λ w. C w ⊎ D w) (λ f. F f ⊎ (f ≡ first)) K new
  new_table old new C-in n t =
      let v : Entry = record { key = key; ways = ways; first = first } in
      let P : Entry → Type 0 = IsEntry (λ w. S w ⊎ T w) (λ w. C w ⊎ D w) (λ f. F f ⊎ (f ≡ first)) K in
      subst (IsTable (λ w. S w ⊎ T w) (λ w. C w ⊎ D w) (λ g. F g ⊎ (g ≡ first)) K) (sym n.is) (record {
        each = All-push P old v (λ k d h. other_entry (get_or old k d) (n.none k d h) (t.each k d h))
            (new_entry C-in (λ w s k. let a = t.whole w s in n.none a.0 a.1 a.2 (ap (λ x. x.key) a.3 ∙ one.one w a.1.key key a.4 k)));
        whole = λ w s. elim s [
          | inl a ↦ let x = t.whole w a in
              let k-in : x.0 < length (old ++ v ∷ []) = omega (arith, length_push old v, x.2) in
              any_at K w (old ++ v ∷ []) x.0 x.1 k-in (subst (λ e. K w e.key) (sym (get_or_append_left old (v ∷ []) x.1 x.0 x.2 ∙ x.3)) x.4)
          | inr b ↦
              let k-in : length old < length (old ++ v ∷ []) = omega (arith, length_push old v) in
              any_at K w (old ++ v ∷ []) (length old) v k-in (subst (λ e. K w e.key) (sym (get_or_push old v v (length old) refl)) (more.leads w b))
        ];
        in_order = all_pairs_push Precedes old v t.in_order (λ k d h. record { apart = n.none k d h; earlier = more.later (get_or old k d).first (t.each k d h).among });
      })

  pub table_more : (old new : List Entry) → ((w : List ℕ) → C w → S w) → IsReached old new key ways first → IsTable S C F K old
      → IsTable (λ w. S w ⊎ T w) (λ w. C w ⊎ D w) (λ f. F f ⊎ (f ≡ first)) K new
  table_more old new C-in (inl f) t = found_table old new f t
  table_more old new C-in (inr n) t = new_table old new C-in n t

-- ---- the same lists, told in other words

pub table_same : (S C F S' C' F' : List ℕ → Type 0) (K : List ℕ → List ℕ → Type 0) (table : List Entry)
    → ((w : List ℕ) → S w ↔ S' w) → ((w : List ℕ) → C w ↔ C' w) → ((w : List ℕ) → F w → F' w) → IsTable S C F K table → IsTable S' C' F' K table
table_same S C F S' C' F' K table s c f t = record {
  each = λ k d h. let e = t.each k d h in record {
    leads = e.leads;
    is = (s (get_or table k d).first).0 e.is;
    among = f (get_or table k d).first e.among;
    no_earlier = λ w a. e.no_earlier w ((s w).1 a);
    counts = counts_same (λ w. C w × K w (get_or table k d).key) (λ w. C' w × K w (get_or table k d).key) (get_or table k d).ways (λ w. (λ p. ((c w).0 p.0, p.1), λ p. ((c w).1 p.0, p.1))) e.counts;
  };
  whole = λ w a. t.whole w ((s w).1 a);
  in_order = t.in_order;
}

-- and to keys told in other words
pub table_keys : (S C F : List ℕ → Type 0) (K K' : List ℕ → List ℕ → Type 0) (table : List Entry)
    → ((w : List ℕ) → C w → S w) → ((w k : List ℕ) → S w → K w k ↔ K' w k) → IsTable S C F K table → IsTable S C F K' table
table_keys S C F K K' table within same t = record {
  each = λ k d h. let e = t.each k d h in record {
    leads = (same (get_or table k d).first (get_or table k d).key e.is).0 e.leads;
    is = e.is;
    among = e.among;
    no_earlier = λ w a l. e.no_earlier w a ((same w (get_or table k d).key a).1 l);
    counts = counts_same (λ w. C w × K w (get_or table k d).key) (λ w. C w × K' w (get_or table k d).key) (get_or table k d).ways
        (λ w. (λ p. (p.0, (same w (get_or table k d).key (within w p.0)).0 p.1), λ p. (p.0, (same w (get_or table k d).key (within w p.0)).1 p.1))) e.counts;
  };
  whole = λ w a. let p = t.whole w a in (p.0, p.1, p.2, p.3, (same w p.1.key a).0 p.4);
  in_order = t.in_order;
}

-- none
pub no_table : (S C F : List ℕ → Type 0) (K : List ℕ → List ℕ → Type 0) → ((w : List ℕ) → S w → ⊥) → IsTable S C F K []
no_table S C F K none = record {
  each = λ k d h. absurd (omega (arith, h));
  whole = λ w s. absurd (none w s);
  in_order = λ i j d l h. absurd (omega (arith, h));
}

-- one
pub one_table : (S F : List ℕ → Type 0) (K : List ℕ → List ℕ → Type 0) (key first : List ℕ) → S first → F first → K first key → ((w : List ℕ) → S w → first ≡ w) → (IsEarlier first first → ⊥)
    → IsTable S S F K (record { key = key; ways = 1; first = first } ∷ [])
one_table S F K key first s f k only not_earlier = record {
  each = All-push (IsEntry S S F K) [] (record { key = key; ways = 1; first = first }) (λ i d h. absurd (omega (arith, h))) (record {
    leads = k;
    is = s;
    among = f;
    no_earlier = λ w a l less. not_earlier (subst (λ v. IsEarlier v first) (sym (only w a)) less);
    counts = counts_one (λ w. S w × K w key) first (s, k) (λ w a. only w a.0);
  });
  whole = λ w a. (0, record { key = key; ways = 1; first = first }, omega arith, refl, subst (λ v. K v key) (only w a) k);
  in_order = λ i j d l h. absurd (omega (arith, l, h));
}
