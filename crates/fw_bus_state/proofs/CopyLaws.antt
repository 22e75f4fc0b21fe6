-- Controllers that are given back.
use Rattle.fw_bus_state.proofs.Common.{◌≡◌, ◌∙◌, inl, inr, ℕ, List, Bool, false, get_or, replicate, sym, subst, cases_lt, false≢true, get_or-replicate, length-replicate, Listening}
use Rattle.std.proofs.lemmas.List.{get_or_past}
use Rattle.fw_bus_state.specs.Tables.{AreMarked}

never : (n k : ℕ) → get_or (replicate n false) k false ≡ false
never n k = elim (cases_lt k n) [ inl low ↦ get_or-replicate n k false false low | inr far ↦ get_or_past (replicate n false) k false (rw length-replicate far) ]

-- if nothing is marked, nothing is said
pub none_marked : (says : Listening → Type 0) (marks : List Bool) (list : List Listening) → marks ≡ replicate 256 false → AreMarked says marks list
none_marked says marks list is = subst (λ (ms : List Bool). AreMarked says ms list) (sym is)
    (record { size = length-replicate 256 false; each = λ k marked. absurd (false≢true (sym (never 256 k) ∙ marked)) })
