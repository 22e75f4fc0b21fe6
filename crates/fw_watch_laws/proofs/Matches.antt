-- A request of a procedure that stands in `watch` is the one that is outstanding in the account, if one is at the same node.
use Rattle.fw_watch_laws.proofs.Common.{◌≡◌, refl, ap, sym, ◌∙◌, ℕ, zero, suc, ◌==◌, ◌&&◌, not, Bool, true, false, List, [], ◌∷◌, ◌++◌, length, if◌then◌else◌, Option, Some, None, arith, get_or}
use Rattle.fw_watch_laws.proofs.Common.{true≢false, All, filter, eq-eqb, eqb-true, All-filter, same_Some, update, Procedure, label_code, Head, ResetEntry, device_of_id, Account, Operation, Reads}
use Rattle.fw_watch_laws.proofs.Common.{Locks, Request, asked, WatchedRegister, register_at, Asking, Read, Asked, lock_of, is_of, without_same, asked_at_register, with_request}
use Rattle.std.proofs.Common.{drop}
use Rattle.std.proofs.lemmas.List.Elements.{All-append, All-drop, filter_passes}
use Rattle.fw_watch_requests.specs.Standing.{latest}

-- no two node IDs are of one device
abbrev pub IsApart : Option ResetEntry → Type 0
IsApart r = (id other c : ℕ) → device_of_id r id ≡ Some c → device_of_id r other ≡ Some c → id ≡ other

-- what a request of the account asks, as `watch` keeps it
abbrev pub asking_of : Operation → Asking
asking_of Reads = Read
asking_of (Locks function bytes) = lock_of function bytes

-- an outstanding request is this one
pub record IsSame (r : Request) (q : Asked) : Type 0 where
  pub register : register_at r.address ≡ Some q.register
  pub asking : q.asking ≡ asking_of r.operation

-- the outstanding request of its requester, if it is to the same node, is this one
abbrev pub IsMatched : Account → Asked → Type 0
IsMatched l q = (c : ℕ) (r : Request) → q.label ≡ label_code Procedure → device_of_id l.latest q.source ≡ Some c → l.outstanding c ≡ Some r → r.target ≡ q.destination → IsSame r q

-- if the request of a controller ends, the others are as they were
pub ended_matched : (l m : Account) (c : ℕ) (q : Asked) → m.latest ≡ l.latest → m.outstanding ≡ update l.outstanding c None → IsMatched l q → IsMatched m q
ended_matched l m c q e f h d r label device out target =
    h d r label (ap (λ (x : Option ResetEntry). device_of_id x q.source) (sym e) ∙ device) (none_here (d == c) (l.outstanding d) r (ap (λ (x : ℕ → Option Request). x d) (sym f) ∙ out)) target
  where
    none_here : (b : Bool) (o : Option Request) (x : Request) → (if b then None else o) ≡ Some x → o ≡ Some x
    none_here true o x e = cc
    none_here false o x e = e

-- an outstanding request beside a new one of a procedure is of another node, or to another
pub other_matched : (b : Bool) (l : Account) (h : Head) (address c : ℕ) (operation : Operation) (q : Asked) (d : ℕ) (r : Request) → (d == c) ≡ b → IsApart l.latest
    → h.tl ≡ label_code Procedure → device_of_id l.latest h.source ≡ Some c → is_of h q ≡ false → IsMatched l q
    → q.label ≡ label_code Procedure → device_of_id l.latest q.source ≡ Some d
    → (if b then Some (record { target = h.destination; address = address; operation = operation }) else l.outstanding d) ≡ Some r → r.target ≡ q.destination → IsSame r q
unfolding is_of
other_matched false l h address c operation q d r same apart tl device other m label of out target = m d r label of out target
other_matched true l h address c operation q d r same apart tl device other m label of out target =
    let source : q.source ≡ h.source = apart q.source h.source d of (device ∙ ap (λ (x : ℕ). Some x) (sym (eqb-true d c same))) in
    let one : record { target = h.destination; address = address; operation = operation } ≡ r = same_Some _ r out in
    let to : q.destination ≡ h.destination = sym target ∙ ap (λ (x : Request). x.target) (sym one) in
    let yes : ((q.source == h.source) && (q.destination == h.destination) && (q.label == h.tl)) ≡ true =
    rw (eq-eqb q.source h.source source, eq-eqb q.destination h.destination to, eq-eqb q.label h.tl (label ∙ sym tl)) refl in
    absurd (true≢false (sym yes ∙ other))

-- the request that is new
pub new_matched : (l : Account) (h : Head) (address c : ℕ) (operation : Operation) (q : Asked) → IsApart l.latest → device_of_id l.latest h.source ≡ Some c → q.source ≡ h.source
    → register_at address ≡ Some q.register → q.asking ≡ asking_of operation → IsMatched (asked c (record { target = h.destination; address = address; operation = operation }) l) q
new_matched l h address c operation q apart device source at asks d r label of out target =
    let x : Request = record { target = h.destination; address = address; operation = operation } in
    let same : Some d ≡ Some c = sym of ∙ ap (device_of_id l.latest) source ∙ device in
    let one : Some x ≡ Some r = ap (λ (b : Bool). if b then Some x else l.outstanding d) (sym (eq-eqb d c (same_Some d c same))) ∙ out in
    let same_one : x ≡ r = same_Some x r one in
    record { register = ap (λ (y : Request). register_at y.address) (sym same_one) ∙ at; asking = asks ∙ ap (λ (y : Request). asking_of y.operation) same_one }

-- ---- a request

pub within : (l m : Account) (xs : List Asked) (h : Head) → All (IsMatched l) xs → ((q : Asked) → is_of h q ≡ false → IsMatched l q → IsMatched m q) → All (IsMatched m) (without_same h xs)
unfolding without_same
within l m xs h a f k d n =
    let kept : List Asked = filter (λ q. not (is_of h q)) xs in
    f (get_or kept k d) (is_not (is_of h (get_or kept k d)) (filter_passes (λ q. not (is_of h q)) xs k d n)) (All-filter (λ q. not (is_of h q)) (IsMatched l) xs a k d n)
  where
    is_not : (b : Bool) → not b ≡ true → b ≡ false
    is_not true e = cc
    is_not false e = refl

pub one_more : (P : Asked → Type 0) (xs : List Asked) (q : Asked) → All P xs → P q → All P (latest (xs ++ q ∷ []))
one_more P xs q a p = latest_if (length (xs ++ q ∷ []) == 257) (xs ++ q ∷ []) (All-append P xs (q ∷ []) a only)
  where
    only : All P (q ∷ [])
    only zero d h = p
    only (suc k) d h = absurd (omega (arith, h))

    latest_if : (b : Bool) (ys : List Asked) → All P ys → All P (if b then drop 1 ys else ys)
    latest_if true ys y = All-drop P 1 ys y
    latest_if false ys y = y

pub more_matched : (m : Account) (xs : List Asked) (h : Head) (o : Option WatchedRegister) (asking : Asking) → All (IsMatched m) xs
    → ((r : WatchedRegister) → o ≡ Some r → IsMatched m (record { source = h.source; destination = h.destination; label = h.tl; register = r; asking = asking }))
    → All (IsMatched m) (with_request (asked_at_register h o asking) xs)
more_matched m xs h None asking a f = a
more_matched m xs h (Some r) asking a f = one_more (IsMatched m) xs _ a (f r refl)
