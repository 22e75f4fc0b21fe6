-- Fronts of a piece.
use Rattle.fw_async.proofs.Common.{◌≡◌, ℕ, zero, suc, ◌+◌, ◌-◌, ◌≤◌, ◌<◌, List, ◌++◌, length, take, drop, Option, Some, None, arith, refl, ap, sym, ◌∙◌, length-append, length-take-le, IsPending}
use Rattle.fw_async.proofs.Common.{fault_of, need, State, ShowsFault, PacketFault}
use Rattle.std.proofs.Common.{IfNone, append_assoc, take-add}
use Rattle.fw_async.specs.Reader.{HoldsPending}
use Rattle.fw_async_fields.proofs.NeedLaws.{need_grows, fault_stays}

pub pending_of : (taken : List ℕ) (fault : Option PacketFault) → fault ≡ None → HoldsPending taken fault → IsPending taken
pending_of taken None e h = h
pending_of taken (Some f) e h = cc

-- what lies between two places of a piece
pub further : (old piece : List ℕ) (i k : ℕ) → i ≤ k → old ++ take k piece ≡ (old ++ take i piece) ++ take (k - i) (drop i piece)
further old piece i k le =
    let e : k ≡ i + (k - i) = omega arith in
    ap (λ (n : ℕ). old ++ take n piece) e ∙ ap (λ t. old ++ t) (take-add i (k - i) piece) ∙ sym (append_assoc old (take i piece) (take (k - i) (drop i piece)))

pub stays : (old piece : List ℕ) (i k : ℕ) (f : PacketFault) → i ≤ k → fault_of (old ++ take i piece) ≡ Some f → fault_of (old ++ take k piece) ≡ Some f
stays old piece i k f le h = ap fault_of (further old piece i k le) ∙ fault_stays (old ++ take i piece) (take (k - i) (drop i piece)) f h

-- less than a packet with a part more that does not go past its end, and that shows no fault, is still less
pub pending_on : (old piece : List ℕ) (i k : ℕ) → IsPending (old ++ take i piece) → i ≤ k → k ≤ length piece → length old + k < need (old ++ take i piece) → fault_of (old ++ take k piece) ≡ None
    → IsPending (old ++ take k piece)
pending_on old piece i k pending le within few clear =
    let grows : need (old ++ take i piece) ≤ need ((old ++ take i piece) ++ take (k - i) (drop i piece)) = need_grows (old ++ take i piece) (take (k - i) (drop i piece)) in
    let same : need (old ++ take k piece) ≡ need ((old ++ take i piece) ++ take (k - i) (drop i piece)) = ap need (further old piece i k le) in
    record {
      no_fault = clear;
      not_whole = less (length (old ++ take k piece)) (length old) k (need (old ++ take i piece)) (need ((old ++ take i piece) ++ take (k - i) (drop i piece)))
          (need (old ++ take k piece)) (length-append old (take k piece) ∙ ap (λ n. length old + n) (length-take-le k piece within)) few grows same;
    }
  where
    less : (n a k x y z : ℕ) → n ≡ a + k → a + k < x → x ≤ y → z ≡ y → n < z
    less n a k x y z e p q r = omega arith

-- A fault that the first n bytes from i on show is shown by one of them.
shown_by : (old piece : List ℕ) (i n : ℕ) (f : PacketFault) (o : Option PacketFault) → fault_of (old ++ take (i + n) piece) ≡ o
    → IsPending (old ++ take i piece) → i + suc n ≤ length piece → length old + (i + suc n) ≤ need (old ++ take i piece) → fault_of (old ++ take (i + suc n) piece) ≡ Some f
    → (fault_of (old ++ take (i + n) piece) ≡ Some f → (k : ℕ) × ShowsFault old piece k f) → (k : ℕ) × ShowsFault old piece k f
shown_by old piece i n f None e pending within few h earlier =
    let same : i + suc n ≡ i + n + 1 = omega arith in (
      i + n,
      record {
        within = omega arith;
        before = pending_on old piece i (i + n) pending (omega arith) (omega arith) (omega arith) e;
        shown = ap (λ (k : ℕ). fault_of (old ++ take k piece)) (sym same) ∙ h;
      },
    )
shown_by old piece i n f (Some g) e pending within few h earlier =
    let same : g ≡ f = cc (stays old piece (i + n) (i + suc n) g (omega arith) e) in
    earlier (e ∙ ap Some same)

pub first_shown : (old piece : List ℕ) (i n : ℕ) (f : PacketFault) → IsPending (old ++ take i piece) → i + n ≤ length piece → length old + (i + n) ≤ need (old ++ take i piece)
    → fault_of (old ++ take (i + n) piece) ≡ Some f → (k : ℕ) × ShowsFault old piece k f
first_shown old piece i zero f pending within few h =
    let same : i + 0 ≡ i = omega arith in
    cc (pending.no_fault, ap (λ (k : ℕ). fault_of (old ++ take k piece)) same)
first_shown old piece i (suc n) f pending within few h =
    shown_by old piece i n f (fault_of (old ++ take (i + n) piece)) refl pending within few h (first_shown old piece i n f pending (omega arith) (omega arith))

pub same_state : (s t : List ℕ) (f g : Option PacketFault) → s ≡ t → f ≡ g → let a : State = record { taken = s; fault = f } in let b : State = record { taken = t; fault = g } in a ≡ b
same_state s t f g e h = ap (λ (x : List ℕ). let a : State = record { taken = x; fault = f } in a) e ∙ ap (λ (x : Option PacketFault). let a : State = record { taken = t; fault = x } in a) h

pub if_none_by : {A : Type 0} (o : Option A) (P : Type 0) → P → IfNone o P
if_none_by None P h = h
if_none_by (Some x) P h = tt
