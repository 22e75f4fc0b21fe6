-- Laws of schedules: the empty one, and what a longer one is made of.
use Rattle.std.proofs.Common.{ℕ, ◌≡◌, ◌+◌, ◌≤◌, List, [], ◌∷◌, ◌++◌, length, inl, inr, refl, sym, ap, subst, ◌∙◌, arith}
use Rattle.std.proofs.lemmas.Bool.{cases_lt}
use Rattle.std.proofs.lemmas.List.{length_push}
use Rattle.fw_explore_levels.specs.Schedules.{Schedule, begun, and_then, IsOfLength}

module _ (M : List ℕ → ℕ → Type 0) where
  pub record IsLonger (n : ℕ) (w : List ℕ) : Type 0 where
    pub before : List ℕ
    pub of : IsOfLength M n before
    pub last : ℕ
    pub moves : M before last
    pub is : w ≡ before ++ last ∷ []

  -- what is longer than none ends in a move
  longer : (n : ℕ) (w : List ℕ) → Schedule M w → length w ≡ n + 1 → IsLonger n w
  longer n w begun e = absurd (omega (arith, e))
  longer n w (and_then {w = v} s p m) e = record { before = v; of = record { schedule = s; size = omega (arith, e, length_push v p) }; last = p; moves = m; is = refl }

  pub longer_of : (n : ℕ) (w : List ℕ) → IsOfLength M (n + 1) w → IsLonger n w
  longer_of n w h = longer n w h.schedule h.size

  pub of_longer : (n : ℕ) (w : List ℕ) → IsLonger n w → IsOfLength M (n + 1) w
  of_longer n w h = record {
    schedule = subst (Schedule M) (sym h.is) (and_then h.of.schedule h.last h.moves);
    size = ap length h.is ∙ length_push h.before h.last ∙ ap (λ k. k + 1) h.of.size;
  }

  -- a long schedule has a prefix of each length
  pub prefix_of : (n : ℕ) (w : List ℕ) → Schedule M w → n ≤ length w → (v : List ℕ) × IsOfLength M n v
  prefix_of n w begun h = ([], record { schedule = begun; size = omega (arith, h) })
  prefix_of n w (and_then {w = v} s p m) h =
      elim (cases_lt (length v) n) [
        | inl lt ↦ (v ++ p ∷ [], record { schedule = and_then s p m; size = omega (arith, h, lt, length_push v p) })
        | inr ge ↦ prefix_of n v s ge
      ]
