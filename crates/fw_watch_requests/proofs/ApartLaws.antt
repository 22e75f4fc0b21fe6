-- Requests that are apart: a response answers at most one of them.
use Rattle.std.proofs.Common.{◌≡◌, refl, ap, sym, ◌∙◌, subst, ℕ, zero, suc, ◌<◌, ◌≤◌, ◌%◌, ◌==◌, nat_le, length}
use Rattle.std.proofs.Common.{length-append, Bool, true, false, not, cond, ◌&&◌, List, [], ◌∷◌, ◌++◌, Some, drop, slice_index_or, arith}
use Rattle.std.proofs.Math.ListN.{set}
use Rattle.std.proofs.lemmas.List.{get_or-set_same}
use Rattle.std.proofs.lemmas.Bool.{eqb-true, not-true, both_ways}
use Rattle.std.proofs.lemmas.Bool.Decides.{nat_tests}
use Rattle.std.proofs.lemmas.List.Elements.{All-nil, All-head, All-tail, All-push, All-filter, All-weaker, filter_passes}
use Rattle.std.proofs.lemmas.List.Sums.{length-filter, count_by-le-length}
use Rattle.std.specs.List.{All, filter}
use Rattle.fw_async.specs.declared.packet.Head.{Head}
use Rattle.fw_watch_requests.specs.declared.asked.Asked.{Asked}
use Rattle.fw_watch_requests.specs.Standing.{is_of, answers, without_same, without_answered, without_source, is_from, latest, answered}
use Rattle.fw_watch_requests.specs.Kept.{head_as, AreOthers, AreApart, AreAskers, AreKept}

one_more : (b : Bool) (q : Asked) (kept rest : List Asked) → b ≡ true → kept ≡ rest → cond b (q ∷ kept) kept ≡ q ∷ rest
one_more true q kept rest t e = ap (λ (l : List Asked). q ∷ l) e
one_more false q kept rest t e = cc t

one_less : (b : Bool) (q : Asked) (kept rest : List Asked) → b ≡ false → kept ≡ rest → cond b (q ∷ kept) kept ≡ rest
one_less true q kept rest t e = cc t
one_less false q kept rest t e = e

-- all pass, so all are kept
all_kept : (test : Asked → Bool) (list : List Asked) → All (λ q. test q ≡ true) list → filter test list ≡ list
all_kept test [] h = refl
all_kept test (q ∷ qs) h =
    one_more (test q) q (filter test qs) qs (All-head (λ q. test q ≡ true) q qs h) (all_kept test qs (All-tail (λ q. test q ≡ true) q qs h))

-- one that is of another's requester, node and label than this is, is that one's too
other_way : (h : Head) (q r : Asked) → is_of h q ≡ true → is_of h r ≡ false → is_of (head_as r) q ≡ false
unfolding is_of
other_way h q r e f = grind (arith, nat_tests)

-- what answers one answers no other
not_answered : (read : Bool) (h : Head) (q r : Asked) → answers read h q ≡ true → is_of (head_as q) r ≡ false → not (answers read h r) ≡ true
unfolding is_of answers
not_answered read h q r t e = grind (arith, nat_tests)

answered_not : (read : Bool) (h : Head) (q : Asked) → answers read h q ≡ true → not (answers read h q) ≡ false
answered_not read h q t = ap not t

-- the first of them is answered, so it alone is taken
pub first_taken : (read : Bool) (h : Head) (q : Asked) (qs : List Asked) → AreOthers (head_as q) qs → answers read h q ≡ true → qs ≡ without_answered read h (q ∷ qs)
unfolding without_answered
first_taken read h q qs o t =
    let test : Asked → Bool = λ r. not (answers read h r) in
    let kept : filter test qs ≡ qs = all_kept test qs (All-weaker (λ r. is_of (head_as q) r ≡ false) (λ r. test r ≡ true) (λ r e. not_answered read h q r t e) qs o) in
    sym (one_less (test q) q (filter test qs) qs (answered_not read h q t) kept)

chosen : (b : Bool) (q : Asked) (rest : List Asked) → AreOthers (head_as q) rest → AreApart rest → AreApart (cond b (q ∷ rest) rest)
chosen true q rest o a = (o, a)
chosen false q rest o a = a

pub apart_filter : (test : Asked → Bool) (list : List Asked) → AreApart list → AreApart (filter test list)
apart_filter test [] h = tt
apart_filter test (q ∷ qs) h = chosen (test q) q (filter test qs) (All-filter test (λ r. is_of (head_as q) r ≡ false) qs h.0) (apart_filter test qs h.1)

pub apart_push : (h : Head) (list : List Asked) (q : Asked) → is_of h q ≡ true → AreApart list → AreOthers h list → AreApart (list ++ q ∷ [])
apart_push h [] q t a o = (All-nil (λ r. is_of (head_as q) r ≡ false), tt)
apart_push h (r ∷ rs) q t a o =
    let here : is_of h r ≡ false = All-head (λ r. is_of h r ≡ false) r rs o in
    (All-push (λ s. is_of (head_as r) s ≡ false) rs q a.0 (other_way h q r t here), apart_push h rs q t a.1 (All-tail (λ r. is_of h r ≡ false) r rs o))

pub apart_rest : (list : List Asked) → AreApart list → AreApart (drop 1 list)
apart_rest [] h = tt
apart_rest (q ∷ qs) h = h.1

pub others_left : (h : Head) (list : List Asked) → AreOthers h (without_same h list)
unfolding without_same
others_left h list =
    let test : Asked → Bool = λ r. not (is_of h r) in
    All-weaker (λ r. test r ≡ true) (λ r. is_of h r ≡ false) (λ r e. not-true (is_of h r) e) (filter test list) (filter_passes test list)

-- if all are others, all stay
pub others_stay : (h : Head) (list : List Asked) → AreOthers h list → list ≡ without_same h list
unfolding without_same
others_stay h list o = sym (all_kept (λ r. not (is_of h r)) list (All-weaker (λ r. is_of h r ≡ false) (λ r. not (is_of h r) ≡ true) (λ r e. ap not e) list o))

by_source : (b : Bool) (askers : List Bool) (h : Head) (r : Asked) → (r.source == h.source) ≡ b → slice_index_or askers (r.source % 64) false ≡ true
    → slice_index_or askers (h.source % 64) false ≡ false
    → (r.source == h.source) ≡ false
by_source true askers h r e t f = absurd (both_ways (slice_index_or askers (h.source % 64) false) f (ap (λ (n : ℕ). slice_index_or askers (n % 64) false) (sym (eqb-true r.source h.source e)) ∙ t))
by_source false askers h r e t f = e

other_source : (askers : List Bool) (h : Head) (r : Asked) → slice_index_or askers (h.source % 64) false ≡ false → slice_index_or askers (r.source % 64) false ≡ true → is_of h r ≡ false
unfolding is_of
other_source askers h r f t =
    none_of (r.source == h.source) (r.destination == h.destination) (r.label == h.tl) (by_source (r.source == h.source) askers h r refl t f)
  where
    none_of : (a b d : Bool) → a ≡ false → (a && b && d) ≡ false
    none_of true b d e = cc e
    none_of false b d e = refl

-- none of them has the source of a request with this head
pub none_asked : (askers : List Bool) (h : Head) (list : List Asked) → AreAskers askers list → slice_index_or askers (h.source % 64) false ≡ false → AreOthers h list
none_asked askers h list k f = All-weaker (λ r. slice_index_or askers (r.source % 64) false ≡ true) (λ r. is_of h r ≡ false) (λ r t. other_source askers h r f t) list k

-- so none is taken away
pub none_taken : (askers : List Bool) (h : Head) (list : List Asked) → AreKept askers list → slice_index_or askers (h.source % 64) false ≡ false → list ≡ without_same h list
none_taken askers h list k f = others_stay h list (none_asked askers h list k.marked f)

-- ---- the latest of them

kept_or_not : (b : Bool) (list : List Asked) → AreApart list → AreApart (cond b (drop 1 list) list)
kept_or_not true list a = apart_rest list a
kept_or_not false list a = a

pub apart_latest : (list : List Asked) → AreApart list → AreApart (latest list)
apart_latest list a = kept_or_not (length list == 257) list a

askers_rest : (askers : List Bool) (list : List Asked) → AreAskers askers list → AreAskers askers (drop 1 list)
askers_rest askers [] h = h
askers_rest askers (q ∷ qs) h = All-tail (λ r. slice_index_or askers (r.source % 64) false ≡ true) q qs h

asked_or_not : (b : Bool) (askers : List Bool) (list : List Asked) → AreAskers askers list → AreAskers askers (cond b (drop 1 list) list)
asked_or_not true askers list h = askers_rest askers list h
asked_or_not false askers list h = h

pub askers_latest : (askers : List Bool) (list : List Asked) → AreAskers askers list → AreAskers askers (latest list)
askers_latest askers list h = asked_or_not (length list == 257) askers list h

chosen_first : (b : Bool) (x y : List Asked) → b ≡ true → x ≡ cond b x y
chosen_first true x y e = refl
chosen_first false x y e = cc e

chosen_second : (b : Bool) (x y : List Asked) → b ≡ false → y ≡ cond b x y
chosen_second true x y e = cc e
chosen_second false x y e = refl

is_full : (q : List Asked) (n : Asked) → length q ≡ 256 → (length (q ++ n ∷ []) == 257) ≡ true
is_full q n e = grind (arith, nat_tests, length-append q (n ∷ []))

is_short : (q : List Asked) (n : Asked) → length q < 256 → (length (q ++ n ∷ []) == 257) ≡ false
is_short q n e = grind (arith, nat_tests, length-append q (n ∷ []))

without_first : (q : List Asked) (n : Asked) → 0 < length q → drop 1 q ++ n ∷ [] ≡ drop 1 (q ++ n ∷ [])
without_first [] n h = absurd (omega (arith, h))
without_first (x ∷ q) n h = refl

pub latest_full : (q : List Asked) (n : Asked) → length q ≡ 256 → drop 1 q ++ n ∷ [] ≡ latest (q ++ n ∷ [])
latest_full q n e =
    without_first q n (omega (arith, e)) ∙ chosen_first (length (q ++ n ∷ []) == 257) (drop 1 (q ++ n ∷ [])) (q ++ n ∷ []) (is_full q n e)

pub latest_short : (q : List Asked) (n : Asked) → length q < 256 → q ++ n ∷ [] ≡ latest (q ++ n ∷ [])
latest_short q n h = chosen_second (length (q ++ n ∷ []) == 257) (drop 1 (q ++ n ∷ [])) (q ++ n ∷ []) (is_short q n h)

-- ---- who asked

set_there : (xs : List Bool) (i k : ℕ) → slice_index_or xs k false ≡ true → slice_index_or (set xs i true) k false ≡ true
set_there [] i k e = e
set_there (x ∷ xs) zero zero e = refl
set_there (x ∷ xs) zero (suc k) e = e
set_there (x ∷ xs) (suc i) zero e = e
set_there (x ∷ xs) (suc i) (suc k) e = set_there xs i k e

-- after a new one
pub askers_more : (askers : List Bool) (list : List Asked) (q : Asked) (at : ℕ) → length askers ≡ 64 → at ≡ q.source % 64 → AreAskers askers list
    → AreAskers (set askers at true) (list ++ q ∷ [])
askers_more askers list q at size is h =
    let there : at < length askers = omega (arith, size, is) in
    let here : slice_index_or (set askers at true) (q.source % 64) false ≡ true = ap (λ (k : ℕ). slice_index_or (set askers at true) k false) (sym is) ∙ get_or-set_same askers at true false there in
    All-push (λ r. slice_index_or (set askers at true) (r.source % 64) false ≡ true) list q
    (All-weaker (λ r. slice_index_or askers (r.source % 64) false ≡ true) (λ r. slice_index_or (set askers at true) (r.source % 64) false ≡ true)
    (λ r t. set_there askers at (r.source % 64) t) list h) here

pub askers_filter : (askers : List Bool) (test : Asked → Bool) (list : List Asked) → AreAskers askers list → AreAskers askers (filter test list)
askers_filter askers test list h = All-filter test (λ r. slice_index_or askers (r.source % 64) false ≡ true) list h

-- ---- all of it

few_left : (test : Asked → Bool) (list : List Asked) → length (filter test list) ≤ length list
few_left test list = omega (arith, length-filter test list, count_by-le-length test list)

pub none_kept : (askers : List Bool) → AreKept askers []
none_kept askers = record { few = omega arith; apart = tt; marked = All-nil (λ q. slice_index_or askers (q.source % 64) false ≡ true) }

some_kept : (askers : List Bool) (test : Asked → Bool) (list : List Asked) → AreKept askers list → AreKept askers (filter test list)
some_kept askers test list x =
    record { few = omega (arith, x.few, few_left test list); apart = apart_filter test list x.apart; marked = askers_filter askers test list x.marked }

pub answered_kept : (askers : List Bool) (read : Bool) (h : Head) (list : List Asked) → AreKept askers list → AreKept askers (without_answered read h list)
unfolding without_answered
answered_kept askers read h list x = some_kept askers (λ q. not (answers read h q)) list x

pub same_kept : (askers : List Bool) (h : Head) (list : List Asked) → AreKept askers list → AreKept askers (without_same h list)
unfolding without_same
same_kept askers h list x = some_kept askers (λ q. not (is_of h q)) list x

pub few_others : (h : Head) (list : List Asked) → length (without_same h list) ≤ length list
unfolding without_same
few_others h list = few_left (λ r. not (is_of h r)) list

pub source_kept : (askers : List Bool) (source : ℕ) (list : List Asked) → AreKept askers list → AreKept askers (without_source source list)
unfolding without_source
source_kept askers source list x = some_kept askers (λ q. not (is_from source q)) list x

pub asked_kept : (askers : List Bool) (h : Head) (list room pushed : List Asked) (q : Asked) (at : ℕ) → AreKept askers list → is_of h q ≡ true → length askers ≡ 64 → at ≡ q.source % 64
    → length room < 256 → pushed ≡ room ++ q ∷ [] → room ++ q ∷ [] ≡ latest (without_same h list ++ q ∷ []) → AreKept (set askers at true) pushed
asked_kept askers h list room pushed q at x of size is few push e =
    let rest : AreKept askers (without_same h list) = same_kept askers h list x in
    let all : List Asked = without_same h list ++ q ∷ [] in
    let same : latest all ≡ pushed = sym (push ∙ e) in
    record {
      few = omega (arith, few, ap length push, length-append room (q ∷ []));
      apart = subst AreApart same (apart_latest all (apart_push h (without_same h list) q of rest.apart (others_left h list)));
      marked = subst (AreAskers (set askers at true)) same
          (askers_latest (set askers at true) all (askers_more askers (without_same h list) q at size is rest.marked));
    }

-- who asks is the requester of its request
source_of : (h : Head) (q : Asked) → is_of h q ≡ true → q.source ≡ h.source
unfolding is_of
source_of h q e = grind (arith, nat_tests)

pub asker_is : (h : Head) (q : Asked) (at : ℕ) → is_of h q ≡ true → at ≡ h.source % 64 → at ≡ q.source % 64
asker_is h q at of e = e ∙ ap (λ (n : ℕ). n % 64) (sym (source_of h q of))

few_rest : (list : List Asked) → length list ≤ 256 → length (drop 1 list) ≤ 256
few_rest [] h = h
few_rest (q ∷ qs) h = omega (arith, h)

pub rest_kept : (askers : List Bool) (list : List Asked) → AreKept askers list → AreKept askers (drop 1 list)
rest_kept askers list x = record { few = few_rest list x.few; apart = apart_rest list x.apart; marked = askers_rest askers list x.marked }

-- ---- the first of them

one_at_least : (n : ℕ) → nat_le 1 (suc n) ≡ true
one_at_least n = grind (arith, nat_tests)

pub first_asked : (read : Bool) (h : Head) (q : Asked) (qs : List Asked) → answers read h q ≡ true → answered read h (q ∷ qs) ≡ Some q
unfolding answered
first_asked read h q qs t = rw (t, one_at_least (length qs)) refl
