-- A table that is written at one place stands for a function that changes there.
use Rattle.fw_account_tables.proofs.Common.{◌≡◌, ◌≢◌, ◌<◌, ◌⊎◌, inl, inr, ℕ, List, length, get_or, arith, get_or-set_same, get_or-set_other, cases_eq, nat_tests, update}
use Rattle.std.proofs.Common.{set}

-- the change is seen at its place
pub update_same : {B : Type 0} (g : ℕ → B) (k j : ℕ) (y : B) → j ≡ k → update g k y j ≡ y
update_same g k j y e = grind (arith, nat_tests)

-- and not elsewhere
pub update_other : {B : Type 0} (g : ℕ → B) (k j : ℕ) (y : B) → j ≢ k → update g k y j ≡ g j
update_other g k j y ne = grind (arith, nat_tests)

-- one place is written
pub related_set : {A B : Type 0} (R : A → B → Type 0) (xs : List A) (k : ℕ) (v d : A) (n : ℕ) (g : ℕ → B) (y : B) → length xs ≡ n → R v y → ((j : ℕ) → j < n → R (get_or xs j d) (g j)) → (j : ℕ)
    → j < n → R (get_or (set xs k v) j d) (update g k y j)
related_set R xs k v d n g y size here there j lt = go (cases_eq j k)
  where
    go : (j ≡ k) ⊎ (j ≢ k) → R (get_or (set xs k v) j d) (update g k y j)
    go (inl e) = rw (update_same g k j y e) (rw e (rw (get_or-set_same xs k v d (omega arith)) here))
    go (inr ne) = rw (update_other g k j y ne, get_or-set_other xs k j v d ne) (there j lt)
