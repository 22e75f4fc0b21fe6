-- One part more of a piece.
use Rattle.fw_log.proofs.Common.{◌≡◌, ℕ, ◌+◌, ◌-◌, ◌*◌, ◌≤◌, List, ◌++◌, length, take, drop, nat_lt, Option, Some, None, arith, ap, sym, ◌∙◌, if◌then◌else◌, append_assoc, take-add, nat_tests}
use Rattle.fw_log.proofs.Common.{head_size, IsPending, head_fault, need, length_of, version_at, skip, HoldsPending, Position, LogFault}
use Rattle.std.proofs.Common.{IfNone}
use Rattle.fw_log.proofs.EntryLaws.{size_within}
use Rattle.fw_log.proofs.StayLaws.{epoch_few, head_stays}

pub pending_of : (s : Position) (taken : List ℕ) (fault : Option LogFault) → fault ≡ None → HoldsPending s taken fault → IsPending s taken
pending_of s taken None e h = h
pending_of s taken (Some f) e h = cc

pub if_none_by : {A : Type 0} (o : Option A) (P : Type 0) → P → IfNone o P
if_none_by None P h = h
if_none_by (Some x) P h = tt

-- there is room for the longest entry, and the header before it
most : (h k n m : ℕ) → h ≤ 16 → k ≤ 16 → (4 ≤ n → m ≤ 569) → k + (if nat_lt n 4 then h else h + 4 * m) ≤ 2308
most h k n m head le few = grind (arith, nat_tests, few)

skip_most : (start : ℕ) → skip start ≤ 16
skip_most start = grind (arith, nat_tests)

pub need_most : (s : Position) (taken : List ℕ) → IsPending s taken → need s taken ≤ 2308
need_most s taken h = let size = epoch_few (version_at s taken) in
    most (head_size (version_at s taken)) (skip s.start) (length (drop (skip s.start) taken)) (length_of (drop (skip s.start) taken)) (omega (arith, size)) (skip_most s.start)
    (size_within s taken h.no_fault)

-- what lies between two places of a piece
pub further : (old piece : List ℕ) (i k : ℕ) → i ≤ k → old ++ take k piece ≡ (old ++ take i piece) ++ take (k - i) (drop i piece)
further old piece i k le =
    let e : k ≡ i + (k - i) = omega arith in
    ap (λ (n : ℕ). old ++ take n piece) e ∙ ap (λ t. old ++ t) (take-add i (k - i) piece) ∙ sym (append_assoc old (take i piece) (take (k - i) (drop i piece)))

pub stays : (s : Position) (old piece : List ℕ) (i k : ℕ) (f : LogFault) → i ≤ k → head_fault s (old ++ take i piece) ≡ Some f → head_fault s (old ++ take k piece) ≡ Some f
stays s old piece i k f le h = ap (head_fault s) (further old piece i k le) ∙ head_stays s (old ++ take i piece) (take (k - i) (drop i piece)) f h
