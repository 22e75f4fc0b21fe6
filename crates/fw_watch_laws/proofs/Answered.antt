-- The request that a response answers, and the swap that an answer has made.
use Rattle.fw_watch_laws.proofs.Common.{◌≡◌, refl, ap, sym, ◌∙◌, subst, ℕ, ◌<◌, ◌==◌, ◌&&◌, not, Bool, true, false, List, length, if◌then◌else◌, Option, Some, None, get_or, All, eqb-true, same_Some}
use Rattle.fw_watch_laws.proofs.Common.{quadlet_at, Swap, COMPARE_SWAP, Head, Packet, ReadQuadletReply, LockReply, Asking, Read, SwapOf, Asked, Answer, is_read, answers, answered, node_of, old_word}
use Rattle.fw_watch_laws.proofs.Common.{made_by, lock_answer}
use Rattle.std.specs.List.{position}
use Rattle.std.proofs.lemmas.List.Quantifiers.{position-Some}
use Rattle.std.proofs.lemmas.Option.{cond_some, get_or_from_slice_get}
use Rattle.fw_watch_requests.specs.declared.asked.Asking.TheVariants.{Lock}
use Rattle.fw_watch_requests.specs.Standing.{alike, asked_at, answer_of_node, read_answer}

-- ---- requests

-- a response with this head answers the request
pub record IsAnswered (read : Bool) (h : Head) (q : Asked) : Type 0 where
  pub source : q.source ≡ h.destination
  pub destination : q.destination ≡ h.source
  pub label : q.label ≡ h.tl
  pub kind : is_read q.asking ≡ read

four_true : (a b c d : Bool) → (a && b && c && d) ≡ true → (a ≡ true) × (b ≡ true) × (c ≡ true) × (d ≡ true)
four_true true true true true e = (refl, refl, refl, refl)
four_true a b c d e = cc

alike_same : (a b : Bool) → alike a b ≡ true → a ≡ b
alike_same true b e = sym e
alike_same false true e = cc
alike_same false false e = refl

is_answered : (read : Bool) (h : Head) (q : Asked) → answers read h q ≡ true → IsAnswered read h q
unfolding answers
is_answered read h q e =
    let x = four_true (q.source == h.destination) (q.destination == h.source) (q.label == h.tl) (alike (is_read q.asking) read) e in
    record {
      source = eqb-true q.source h.destination x.0;
      destination = eqb-true q.destination h.source x.1;
      label = eqb-true q.label h.tl x.2;
      kind = alike_same (is_read q.asking) read x.3;
    }

-- it stands in the list, and is answered
pub record IsIn (read : Bool) (h : Head) (xs : List Asked) (q : Asked) : Type 0 where
  pub place : ℕ
  pub within : place < length xs
  pub same : get_or xs place q ≡ q
  pub is : IsAnswered read h q

at_place : (o : Option ℕ) (read : Bool) (h : Head) (xs : List Asked) (q : Asked) → position (answers read h) xs ≡ o → asked_at xs o ≡ Some q → IsIn read h xs q
at_place None read h xs q e f = cc
at_place (Some k) read h xs q e f =
    let x = position-Some (answers read h) xs k q e in
    let same : get_or xs k q ≡ q = get_or_from_slice_get xs k q q f in
    let P : Asked → Type 0 = λ y. answers read h y ≡ true in
    record { place = k; within = x.0; same = same; is = is_answered read h q (subst P same x.1) }

pub answered_in : (read : Bool) (h : Head) (xs : List Asked) (q : Asked) → answered read h xs ≡ Some q → IsIn read h xs q
unfolding answered
answered_in read h xs q e = at_place (position (answers read h) xs) read h xs q refl e

-- what holds for all that stand holds for it
pub of_all : (P : Asked → Type 0) (read : Bool) (h : Head) (xs : List Asked) (q : Asked) → All P xs → IsIn read h xs q → P q
of_all P read h xs q a i = subst P i.same (a i.place q i.within)

-- ---- swaps

-- a lock response shows that this swap was made
pub record IsMade (asking : Asking) (function : ℕ) (bytes : List ℕ) (swap : Swap) : Type 0 where
  pub asking_is : asking ≡ SwapOf swap
  pub compare : function ≡ COMPARE_SWAP
  pub size : length bytes ≡ 4
  pub old : quadlet_at bytes 0 ≡ swap.argument
  pub changes : (swap.new == swap.argument) ≡ false

both_true : (a b : Bool) → (a && b) ≡ true → (a ≡ true) × (b ≡ true)
both_true true true e = (refl, refl)
both_true a b e = cc

not_true : (b : Bool) → not b ≡ true → b ≡ false
not_true true e = cc
not_true false e = refl

made_if : (b : Bool) (w swap : Swap) (function : ℕ) (bytes : List ℕ) → ((function == COMPARE_SWAP) && (length bytes == 4)) ≡ b
    → made_by (SwapOf w) (if b then Some (quadlet_at bytes 0) else None) ≡ Some swap → IsMade (SwapOf w) function bytes swap
unfolding made_by
made_if false w swap function bytes e m = cc
made_if true w swap function bytes e m =
    let x = both_true (function == COMPARE_SWAP) (length bytes == 4) e in
    let y = cond_some ((quadlet_at bytes 0 == w.argument) && not (w.new == w.argument)) w swap m in
    let z = both_true (quadlet_at bytes 0 == w.argument) (not (w.new == w.argument)) y.0 in
    record {
      asking_is = ap (λ (v : Swap). SwapOf v) y.1;
      compare = eqb-true function COMPARE_SWAP x.0;
      size = eqb-true (length bytes) 4 x.1;
      old = eqb-true (quadlet_at bytes 0) w.argument z.0 ∙ ap (λ (v : Swap). v.argument) y.1;
      changes = ap (λ (v : Swap). v.new == v.argument) (sym y.1) ∙ not_true (w.new == w.argument) z.1;
    }

pub made_is : (asking : Asking) (function : ℕ) (bytes : List ℕ) (swap : Swap) → made_by asking (old_word asking function bytes) ≡ Some swap → IsMade asking function bytes swap
unfolding made_by old_word
made_is Read function bytes swap e = cc
made_is (SwapOf w) function bytes swap e = made_if ((function == COMPARE_SWAP) && (length bytes == 4)) w swap function bytes refl e
made_is Lock function bytes swap e = cc

pub read_makes_none : (asking : Asking) (found : Option ℕ) (swap : Swap) → is_read asking ≡ true → made_by asking found ≡ Some swap → ⊥
unfolding made_by
read_makes_none Read found swap r e = cc
read_makes_none (SwapOf w) found swap r e = cc
read_makes_none Lock found swap r e = cc

-- an answer of a node to a request
pub record IsOfNode (q : Asked) (found : Option ℕ) (a : Answer) : Type 0 where
  pub node : node_of q.destination ≡ Some a.at.node
  pub register : a.at.register ≡ q.register
  pub by : a.by ≡ q.source
  pub found_is : a.found ≡ found
  pub swap : a.swap ≡ made_by q.asking found

of_node : (o : Option ℕ) (q : Asked) (found : Option ℕ) (a : Answer) → node_of q.destination ≡ o → answer_of_node o q found ≡ Some a → IsOfNode q found a
of_node None q found a n e = cc
of_node (Some node) q found a n e =
    let x : Answer = record { at = record { node = node; register = q.register }; by = q.source; found = found; swap = made_by q.asking found } in
    let same : x ≡ a = same_Some x a e in
    record {
      node = n ∙ ap (λ (y : Answer). Some y.at.node) same;
      register = ap (λ (y : Answer). y.at.register) (sym same);
      by = ap (λ (y : Answer). y.by) (sym same);
      found_is = ap (λ (y : Answer). y.found) (sym same);
      swap = ap (λ (y : Answer). y.swap) (sym same);
    }

-- ---- answers

-- a complete response to a read, of which the answer is
pub record IsReadAnswer (xs : List Asked) (p : Packet) (a : Answer) : Type 0 where
  pub head : Head
  pub value : ℕ
  pub packet : p ≡ ReadQuadletReply head 0 value
  pub request : Asked
  pub standing : IsIn true head xs request
  pub of : IsOfNode request (Some value) a

-- and to a lock
pub record IsLockAnswer (xs : List Asked) (p : Packet) (a : Answer) : Type 0 where
  pub head : Head
  pub function : ℕ
  pub bytes : List ℕ
  pub packet : p ≡ LockReply head 0 function bytes
  pub request : Asked
  pub standing : IsIn false head xs request
  pub of : IsOfNode request (old_word request.asking function bytes) a

pub read_by : (o : Option Asked) (h : Head) (value : ℕ) (xs : List Asked) (a : Answer) → answered true h xs ≡ o → read_answer o value ≡ Some a → IsReadAnswer xs (ReadQuadletReply h 0 value) a
read_by None h value xs a e f = cc
read_by (Some q) h value xs a e f =
    record { head = h; value = value; packet = refl; request = q; standing = answered_in true h xs q e; of = of_node (node_of q.destination) q (Some value) a refl f }

pub lock_by_request : (o : Option Asked) (h : Head) (function : ℕ) (bytes : List ℕ) (xs : List Asked) (a : Answer) → answered false h xs ≡ o → lock_answer o function bytes ≡ Some a
    → IsLockAnswer xs (LockReply h 0 function bytes) a
lock_by_request None h function bytes xs a e f = cc
lock_by_request (Some q) h function bytes xs a e f = record {
  head = h;
  function = function;
  bytes = bytes;
  packet = refl;
  request = q;
  standing = answered_in false h xs q e;
  of = of_node (node_of q.destination) q (old_word q.asking function bytes) a refl f;
}
