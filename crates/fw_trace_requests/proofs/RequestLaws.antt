-- Requests of which no two are of one node under one label: a new one takes the place of at most one.
use Rattle.std.proofs.Common.{◌≡◌, refl, ap, ℕ, zero, suc, ◌<◌, length, Bool, true, false, List, cond, if◌then◌else◌}
use Rattle.std.proofs.Common.{[], ◌∷◌, ◌++◌, Some, None, inl, inr, true≢false, lt-ltb, get_or, arith}
use Rattle.std.proofs.Math.ListN.{set}
use Rattle.std.proofs.lemmas.Bool.{cases_lt}
use Rattle.std.proofs.lemmas.Bool.Decides.{nat_tests}
use Rattle.std.proofs.lemmas.List.Elements.{All-nil, All-cons, All-head, All-tail}
use Rattle.std.proofs.lemmas.List.Quantifiers.{position-Some}
use Rattle.std.proofs.lemmas.List.Sums.{fails_before_first, position_or_len_is}
use Rattle.std.specs.List.{position, position_or_len, slice_index_or}
use Rattle.std.specs.Option.{is_some}
use Rattle.std.specs.Prelude.{IsTrue, nat_lt, ◌==◌}
use Rattle.fw_log_requests.specs.declared.asked.Asked.{Asked}
use Rattle.fw_trace_requests.specs.Requests.{is_from, AreOthers, AreApart, with_latest}

-- ---- one that is there gives way

taken_first : (b : Bool) (q : Asked) (rest other : List Asked) → b ≡ true → q ∷ rest ≡ if b then q ∷ rest else other
taken_first true q rest other t = refl
taken_first false q rest other t = cc t

kept_first : (b : Bool) (here there other : List Asked) → b ≡ false → there ≡ other → there ≡ if b then here else other
kept_first true here there other t e = cc t
kept_first false here there other t e = e

taken_at : (q : Asked) (list : List Asked) (at : ℕ) (d : Asked) → at < length list → is_from q.source q.label (get_or list at d) ≡ true
    → ((k : ℕ) → k < at → is_from q.source q.label (get_or list k d) ≡ false) → set list at q ≡ with_latest q list
unfolding with_latest
taken_at q [] at d lt hit before = absurd (omega arith)
taken_at q (r ∷ rs) zero d lt hit before = taken_first (is_from q.source q.label r) q rs (r ∷ with_latest q rs) hit
taken_at q (r ∷ rs) (suc at) d lt hit before =
    let rest = taken_at q rs at d (omega (arith, lt)) hit (λ k low. before (suc k) (omega (arith, low))) in
    kept_first (is_from q.source q.label r) (q ∷ rs) (r ∷ set rs at q) (r ∷ with_latest q rs) (before 0 (omega arith)) (ap (λ (l : List Asked). r ∷ l) rest)

-- the one in the place that was found gives way
pub takes_place : (q : Asked) (list : List Asked) (at : ℕ) → position (is_from q.source q.label) list ≡ Some at → set list at q ≡ with_latest q list
takes_place q [] at found = cc found
takes_place q (r ∷ rs) at found =
    let first = position-Some (is_from q.source q.label) (r ∷ rs) at r found in
    taken_at q (r ∷ rs) at r first.0 first.1 first.2

-- ---- none is there

some≢none : (x : ℕ) → Some x ≡ None → ⊥
some≢none x e = true≢false (ap (λ o. is_some o) e)

none_passes : (p : Asked → Bool) (xs : List Asked) (d : Asked) → position p xs ≡ None → (k : ℕ) → k < length xs → p (slice_index_or xs k d) ≡ false
none_passes p xs d none k lt = elim (cases_lt (position_or_len p xs) (length xs)) [
  | inl inside ↦ absurd (some≢none (position_or_len p xs) (rw (lt-ltb (position_or_len p xs) (length xs) inside) at none))
  | inr past ↦ fails_before_first p xs k d (omega arith)
]

comes_last : (q : Asked) (list : List Asked) (d : Asked) → ((k : ℕ) → k < length list → is_from q.source q.label (get_or list k d) ≡ false) → list ++ q ∷ [] ≡ with_latest q list
unfolding with_latest
comes_last q [] d none = refl
comes_last q (r ∷ rs) d none =
    let rest = comes_last q rs d (λ k low. none (suc k) (omega (arith, low))) in
    kept_first (is_from q.source q.label r) (q ∷ rs) (r ∷ (rs ++ q ∷ [])) (r ∷ with_latest q rs) (none 0 (omega arith)) (ap (λ (l : List Asked). r ∷ l) rest)

-- no place was found, so it comes last
pub comes_new : (q : Asked) (list : List Asked) → position (is_from q.source q.label) list ≡ None → list ++ q ∷ [] ≡ with_latest q list
comes_new q list none = comes_last q list q (none_passes (is_from q.source q.label) list q none)

-- ---- no two are of one node under one label

-- what is of the node under the label has them
other_key : (source label : ℕ) (q r : Asked) → is_from source label r ≡ true → is_from q.source q.label r ≡ false → is_from source label q ≡ false
other_key source label q r t e = grind (arith, nat_tests)

others_at : (source label : ℕ) (list : List Asked) (at : ℕ) (d : Asked) → AreOthers source label list → at < length list → is_from source label (get_or list at d) ≡ false
others_at source label [] at d o lt = absurd (omega arith)
others_at source label (q ∷ qs) zero d o lt = All-head (λ r. is_from source label r ≡ false) q qs o
others_at source label (q ∷ qs) (suc at) d o lt = others_at source label qs at d (All-tail (λ r. is_from source label r ≡ false) q qs o) (omega (arith, lt))

none_before : (source label : ℕ) (list : List Asked) (at : ℕ) (d : Asked) → AreApart list → at < length list → is_from source label (get_or list at d) ≡ true
    → (k : ℕ) → k < at → is_from source label (get_or list k d) ≡ false
none_before source label [] at d apart lt hit k low = absurd (omega arith)
none_before source label (q ∷ qs) zero d apart lt hit k low = absurd (omega (arith, low))
none_before source label (q ∷ qs) (suc at) d apart lt hit zero low =
    other_key source label q (get_or qs at d) hit (others_at q.source q.label qs at d apart.0 (omega (arith, lt)))
none_before source label (q ∷ qs) (suc at) d apart lt hit (suc k) low = none_before source label qs at d apart.1 (omega (arith, lt)) hit k (omega (arith, low))

chosen : (b : Bool) (n at : ℕ) → b ≡ true → n ≡ at → cond b (Some n) None ≡ Some at
chosen true n at t e = ap Some e
chosen false n at t e = cc t

-- so one that is of the node under the label is the first
pub is_place : (source label : ℕ) (list : List Asked) (at : ℕ) (d : Asked) → AreApart list → at < length list → is_from source label (get_or list at d) ≡ true
    → position (is_from source label) list ≡ Some at
is_place source label list at d apart lt hit =
    let n = position_or_len_is (is_from source label) list at d (omega arith) (none_before source label list at d apart lt hit) (λ within. hit) in
    chosen (nat_lt (position_or_len (is_from source label) list) (length list)) (position_or_len (is_from source label) list) at
    (lt-ltb (position_or_len (is_from source label) list) (length list) (omega (arith, n))) n

either_others : (b : Bool) (source label : ℕ) (one other : List Asked) → AreOthers source label one → AreOthers source label other → AreOthers source label (if b then one else other)
either_others true source label one other o p = o
either_others false source label one other o p = p

both_are : (source label : ℕ) (q : Asked) → q.source ≡ source → IsTrue (q.label == label) → is_from source label q ≡ true
both_are source label q e t = grind (arith, nat_tests)

-- one that has the node and the label
pub stands_there : (source label : ℕ) (list : List Asked) (at : ℕ) (d : Asked) → AreApart list → at < length list → (get_or list at d).source ≡ source
    → IsTrue ((get_or list at d).label == label) → position (is_from source label) list ≡ Some at
stands_there source label list at d apart lt e t = is_place source label list at d apart lt (both_are source label (get_or list at d) e t)

latest_others : (source label : ℕ) (q : Asked) (list : List Asked) → is_from source label q ≡ false → AreOthers source label list → AreOthers source label (with_latest q list)
unfolding with_latest
latest_others source label q [] other o = All-cons (λ r. is_from source label r ≡ false) q [] other (All-nil (λ r. is_from source label r ≡ false))
latest_others source label q (r ∷ rs) other o =
    let rest = All-tail (λ s. is_from source label s ≡ false) r rs o in
    either_others (is_from q.source q.label r) source label (q ∷ rs) (r ∷ with_latest q rs)
    (All-cons (λ s. is_from source label s ≡ false) q rs other rest)
    (All-cons (λ s. is_from source label s ≡ false) r (with_latest q rs) (All-head (λ s. is_from source label s ≡ false) r rs o) (latest_others source label q rs other rest))

same_key : (q r s : Asked) → is_from q.source q.label r ≡ true → is_from r.source r.label s ≡ false → is_from q.source q.label s ≡ false
same_key q r s same e = grind (arith, nat_tests)

same_others : (q r : Asked) (list : List Asked) → is_from q.source q.label r ≡ true → AreOthers r.source r.label list → AreOthers q.source q.label list
same_others q r [] same o = All-nil (λ s. is_from q.source q.label s ≡ false)
same_others q r (s ∷ ss) same o =
    All-cons (λ t. is_from q.source q.label t ≡ false) s ss (same_key q r s same (All-head (λ t. is_from r.source r.label t ≡ false) s ss o))
    (same_others q r ss same (All-tail (λ t. is_from r.source r.label t ≡ false) s ss o))

other_way : (q r : Asked) → is_from q.source q.label r ≡ false → is_from r.source r.label q ≡ false
other_way q r e = grind (arith, nat_tests)

either_apart : (b : Bool) (one other : List Asked) → (b ≡ true → AreApart one) → (b ≡ false → AreApart other) → AreApart (if b then one else other)
either_apart true one other o p = o refl
either_apart false one other o p = p refl

-- with a new one too
pub apart_latest : (q : Asked) (list : List Asked) → AreApart list → AreApart (with_latest q list)
unfolding with_latest
apart_latest q [] a = (All-nil (λ r. is_from q.source q.label r ≡ false), tt)
apart_latest q (r ∷ rs) a =
    either_apart (is_from q.source q.label r) (q ∷ rs) (r ∷ with_latest q rs) (λ same. (same_others q r rs same a.0, a.1))
    (λ other. (latest_others r.source r.label q rs (other_way q r other) a.0, apart_latest q rs a.1))
