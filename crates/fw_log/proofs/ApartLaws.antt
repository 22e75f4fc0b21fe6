-- The devices of a reset's nodes, noted in a table as they are met.
use Rattle.fw_log.proofs.Common.{◌≡◌, inl, inr, ℕ, ◌+◌, ◌<◌, List, get_or, length, Bool, true, false, arith, ap, sym, ◌∙◌, cases_lt}
use Rattle.std.proofs.Math.ListN.{set, replicate, length-set, length-replicate}
use Rattle.std.proofs.lemmas.Bool.{cases_eq, false≢true}
use Rattle.std.proofs.lemmas.List.{get_or-set_same, get_or-set_other, get_or-map, get_or-replicate}
use Rattle.fw_log_entry.specs.Log.{devices, AreApart}
use Rattle.fw_log_entry.specs.declared.nodes.NodeRow.{NodeRow}

-- the row in the place of one that is not there
abbrev pub no_row : NodeRow
no_row = record { device = 0; outs = 0; ins = 0; kind = 0 }

-- a place before the n-th at which the device stands
pub record StandsBefore (numbers : List ℕ) (n d : ℕ) : Type 0 where
  pub at : ℕ
  pub before : at < n
  pub here : get_or numbers at 0 ≡ d

-- The table holds the first n numbers, which are distinct, and no others.
pub record Holds (numbers : List ℕ) (n : ℕ) (met : List Bool) : Type 0 where
  pub size : length met ≡ 256
  pub noted : (j : ℕ) → j < n → get_or met (get_or numbers j 0) false ≡ true
  pub only : (d : ℕ) → d < 256 → get_or met d false ≡ true → StandsBefore numbers n d
  pub apart : (j k : ℕ) → j < k → k < n → get_or numbers j 0 ≡ get_or numbers k 0 → ⊥

-- at first nothing is noted
pub holds_none : (numbers : List ℕ) → Holds numbers 0 (replicate 256 false)
holds_none numbers = record {
  size = length-replicate 256 false;
  noted = λ j less. absurd (omega arith);
  only = λ d small met. absurd (false≢true (sym (get_or-replicate 256 d false false small) ∙ met));
  apart = λ j k less low same. absurd (omega arith);
}

-- a device that was met stands before
pub met_again : (rows : List NodeRow) (i d : ℕ) (met : List Bool) → Holds (devices rows) i met → i < length rows → d < 256
    → d ≡ (get_or rows i no_row).device → get_or met d false ≡ true → AreApart rows → ⊥
met_again rows i d met h within small is again apart =
    let first = h.only d small again in
    apart first.at i first.before within (first.here ∙ is ∙ sym (get_or-map (λ r. r.device) rows i no_row 0 within))

noted_more : (numbers : List ℕ) (i d : ℕ) (met : List Bool) → Holds numbers i met → d < 256 → get_or numbers i 0 ≡ d
    → (j : ℕ) → j < i + 1 → get_or (set met d true) (get_or numbers j 0) false ≡ true
noted_more numbers i d met h small here j less =
    let within : d < length met = omega (arith, h.size) in
    elim (cases_eq (get_or numbers j 0) d) [
      | inl same ↦ ap (λ e. get_or (set met d true) e false) same ∙ get_or-set_same met d true false within
      | inr other ↦
          elim (cases_lt j i) [
            | inl below ↦ get_or-set_other met d (get_or numbers j 0) true false other ∙ h.noted j below
            | inr last ↦
                let e : j ≡ i = omega arith in
                absurd (other (ap (λ k. get_or numbers k 0) e ∙ here))
          ]
    ]

stands_more : (numbers : List ℕ) (i d : ℕ) → StandsBefore numbers i d → StandsBefore numbers (i + 1) d
stands_more numbers i d s = record { at = s.at; before = omega (arith, s.before); here = s.here }

only_more : (numbers : List ℕ) (i d : ℕ) (met : List Bool) → Holds numbers i met → d < 256 → get_or numbers i 0 ≡ d
    → (e : ℕ) → e < 256 → get_or (set met d true) e false ≡ true → StandsBefore numbers (i + 1) e
only_more numbers i d met h small here e low is =
    elim (cases_eq e d) [
      | inl same ↦ record { at = i; before = omega arith; here = here ∙ sym same }
      | inr other ↦ stands_more numbers i e (h.only e low (sym (get_or-set_other met d e true false other) ∙ is))
    ]

apart_more : (numbers : List ℕ) (i d : ℕ) (met : List Bool) → Holds numbers i met → get_or numbers i 0 ≡ d → get_or met d false ≡ false
    → (j k : ℕ) → j < k → k < i + 1 → get_or numbers j 0 ≡ get_or numbers k 0 → ⊥
apart_more numbers i d met h here new j k less low same =
    elim (cases_lt k i) [
      | inl below ↦ h.apart j k less below same
      | inr last ↦
          let e : k ≡ i = omega arith in
          let there : get_or numbers j 0 ≡ d = same ∙ ap (λ n. get_or numbers n 0) e ∙ here in
          false≢true (sym new ∙ ap (λ n. get_or met n false) (sym there) ∙ h.noted j (omega arith))
    ]

-- a device that was not met is noted
pub met_first : (rows : List NodeRow) (i d : ℕ) (met : List Bool) → Holds (devices rows) i met → i < length rows → d < 256
    → d ≡ (get_or rows i no_row).device → get_or met d false ≡ false → Holds (devices rows) (i + 1) (set met d true)
met_first rows i d met h within small is new =
    let here : get_or (devices rows) i 0 ≡ d = get_or-map (λ r. r.device) rows i no_row 0 within ∙ sym is in
    record {
      size = length-set met d true ∙ h.size;
      noted = noted_more (devices rows) i d met h small here;
      only = only_more (devices rows) i d met h small here;
      apart = apart_more (devices rows) i d met h here new;
    }
