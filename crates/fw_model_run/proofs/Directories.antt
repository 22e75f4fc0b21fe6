-- What controllers are told of the bus is what the latest reset entry shows.
use Rattle.fw_model_run.proofs.Common.{◌≡◌, ◌≢◌, ◌⊎◌, inl, inr, ℕ, zero, suc, ◌+◌, ◌<◌, ◌≤◌, List, [], ◌∷◌, ◌++◌}
use Rattle.fw_model_run.proofs.Common.{length, slice_get, cond, true, false, Bool, Option, Some, None, refl, ap, sym, subst, ◌∙◌}
use Rattle.fw_model_run.proofs.Common.{arith, IsTrue, cases_eq, cases_lt, ResetEntry, NodeRow, kind_at, node_number, row_of, Shows, State, list_to, with_link, linked_number, manager_in, directory_of}
use Rattle.std.proofs.Common.{add-one}
use Rattle.std.proofs.Common.{get_or}
use Rattle.std.proofs.lemmas.List.{length-append, get_or_append_left}
use Rattle.std.proofs.lemmas.Option.{slice_get-get_or, slice_get_past}
use Rattle.std.proofs.Math.Seq.{get_or-append_seam}
use Rattle.fw_cmp_jobs.specs.Nodes.{node_of, joined}
use Rattle.fw_model_controllers.specs.Controllers.{IsDirectory}
use Rattle.fw_model_controllers.specs.Requests.{IsNumbering}
use Rattle.fw_model_controllers.proofs.Directories.{directory}
use Rattle.fw_model_run.specs.State.{is_relay}

-- ---- a list by number

pub length_list_to : {A : Type 0} → (n : ℕ) (f : ℕ → A) → length (list_to n f) ≡ n
unfolding list_to
length_list_to zero f = refl
length_list_to (suc n) f = length-append (list_to n f) (f n ∷ []) ∙ (ap (λ k. k + 1) (length_list_to n f) ∙ add-one n)

pub get_list_to : {A : Type 0} → (n : ℕ) (f : ℕ → A) (d : ℕ) (x : A) → d < n → get_or (list_to n f) d x ≡ f d
unfolding list_to
get_list_to zero f d x lt = absurd (omega (arith, lt))
get_list_to (suc n) f d x lt = go (cases_eq d n) (get_list_to n f d x)
  where
    go : (d ≡ n) ⊎ (d ≢ n) → (d < n → get_or (list_to n f) d x ≡ f d) → get_or (list_to n f ++ f n ∷ []) d x ≡ f d
    go (inl e) before = subst (λ k. get_or (list_to n f ++ f n ∷ []) k x ≡ f d) (length_list_to n f ∙ sym e) (get_or-append_seam (list_to n f) (f n) [] x ∙ ap f (sym e))
    go (inr ne) before = let below : d < n = omega (arith, lt, ne) in get_or_append_left (list_to n f) (f n ∷ []) x d (subst (λ k. d < k) (sym (length_list_to n f)) below) ∙ before below

-- the node of a device in the directory
pub node_told : (s : State) (d : ℕ) → d < 63 → node_of (directory_of s) d ≡ linked_number s.account.latest d
node_told s d lt = ap joined (slice_get-get_or (list_to 63 f) d None (subst (λ k. d < k) (sym (length_list_to 63 f)) lt) ∙ ap (λ o. Some o) (get_list_to 63 f d None lt))
  where
    f : ℕ → Option ℕ
    f = linked_number s.account.latest

-- ---- nodes with a link

-- a device with a link has its node number
linked_has : (rows : List NodeRow) (o : Option ℕ) (n : ℕ) → with_link rows o ≡ Some n → o ≡ Some n
linked_has rows None n e = absurd (grind arith)
linked_has rows (Some k) n e = go (is_relay (slice_get rows k)) e
  where
    go : (b : Bool) → cond b None (Some k) ≡ Some n → Some k ≡ Some n
    go true f = absurd (grind arith)
    go false f = f

pub linked_number_is : (e : ResetEntry) (d n : ℕ) → linked_number (Some e) d ≡ Some n → node_number e.nodes d ≡ Some n
linked_number_is e d n x = linked_has e.nodes (node_number e.nodes d) n x

-- ---- the directory

pub numbering : (s : State) (e : ResetEntry) → Shows s.declared.topology s.declared.kinds e → IsNumbering e (node_number e.nodes)
numbering s e h = record {
  rows = λ n row at. (h.rows n row at).1;
  devices = λ d n at. (row_of d (kind_at s.declared.kinds d), h.numbers d n at, refl);
}

beyond_none : (s : State) (d n : ℕ) → 63 ≤ d → node_of (directory_of s) d ≡ Some n → ⊥
beyond_none s d n far e = let none : node_of (directory_of s) d ≡ None =
    ap joined (slice_get_past (list_to 63 (linked_number s.account.latest)) d (subst (λ k. k ≤ d) (sym (length_list_to 63 (linked_number s.account.latest))) far)) in grind (arith, none, e)

-- it is one for controllers in step, while a running second is not over
pub told : (s : State) (e : ResetEntry) → s.account.latest ≡ Some e → Shows s.declared.topology s.declared.kinds e → (IsTrue s.account.reclaiming → s.clock.cycle < s.clock.over_at)
    → IsDirectory s.account s.clock.cycle (directory_of s)
told s e is h second = directory s.account e (node_number e.nodes) s.clock.cycle (directory_of s) is (numbering s e h) (λ d n at. go d n at (cases_lt d 63))
    (ap (λ (o : Option ResetEntry). manager_in o) is) second
  where
    go : (d n : ℕ) → node_of (directory_of s) d ≡ Some n → (d < 63) ⊎ (63 ≤ d) → node_number e.nodes d ≡ Some n
    go d n at (inl lt) = linked_number_is e d n (sym (ap (λ o. linked_number o d) is) ∙ (sym (node_told s d lt) ∙ at))
    go d n at (inr far) = absurd (beyond_none s d n far at)
