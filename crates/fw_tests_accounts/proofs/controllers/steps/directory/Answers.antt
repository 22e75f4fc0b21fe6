use Rattle.std.proofs.Common.{◌≡◌, ◌≢◌, ℕ, ◌<◌, ◌≤◌, List, get_or, set, arith, Option, Some, None, ◌⊎◌, inl, inr}
use Rattle.std.specs.Prelude.{IfSome, slice_get, replicate}
use Rattle.std.proofs.lemmas.Bool.{cases_eq, cases_lt}
use Rattle.std.proofs.lemmas.List.{get_or-set_other, get_or-replicate, get_or_past}
use Rattle.std.proofs.lemmas.Option.{slice_get-get_or, slice_get_past}
use Rattle.fw_cmp_jobs.specs.Nodes.{joined}
use Rattle.fw_tests_accounts.proofs.controllers.steps.directory.Goals as goal

abbrev IsNode : Option ℕ → Type 0
IsNode o = IfSome o (λ n. n < 63)

abbrev none : List (Option ℕ)
none = replicate 63 None

abbrev first : List (Option ℕ)
first = set none 0 (Some 0)

abbrev nodes : List (Option ℕ)
nodes = set first 1 (Some 1)

none_at : (k : ℕ) → (k < 63) ⊎ (63 ≤ k) → get_or none k None ≡ None
none_at k (inl lt) = get_or-replicate 63 k None None lt
none_at k (inr le) = get_or_past none k None le

first_at : (k : ℕ) → (k ≡ 0) ⊎ (k ≢ 0) → IsNode (get_or first k None)
first_at k (inl e) = rw e (omega arith)
first_at k (inr ne) = rw (get_or-set_other none 0 k (Some 0) None ne) (rw (none_at k (cases_lt k 63)) tt)

node_at : (k : ℕ) → (k ≡ 1) ⊎ (k ≢ 1) → IsNode (get_or nodes k None)
node_at k (inl e) = rw e (omega arith)
node_at k (inr ne) = rw (get_or-set_other first 1 k (Some 1) None ne) (first_at k (cases_eq k 0))

looked_up : (k : ℕ) → (k < 63) ⊎ (63 ≤ k) → IsNode (joined (slice_get nodes k))
looked_up k (inl lt) = rw (slice_get-get_or nodes k None lt) (node_at k (cases_eq k 1))
looked_up k (inr le) = rw (slice_get_past nodes k le) tt

pub returns : goal.returns
returns c = record { devices = λ k. looked_up k (cases_lt k 63); manager = omega arith }
