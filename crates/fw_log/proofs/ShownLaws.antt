-- What follows an entry changes nothing of it; a fault of its head comes with one byte.
use Rattle.fw_log.proofs.Common.{◌≡◌, inl, inr, ℕ, ◌+◌, ◌-◌, ◌*◌, ◌≤◌, ◌<◌, List, [], ◌++◌, ◌==◌, get_or, length, take, drop, nat_lt, nat_le, Bool, true, false, Option, Some, None, arith, refl, ap}
use Rattle.fw_log.proofs.Common.{sym, ◌∙◌, if◌then◌else◌, length-append, length-drop, cases_lt, nat_tests, take_all, quadlet_at, is_some, version_of, head_size, Version, One, Two, tested, fault_at}
use Rattle.fw_log.proofs.Common.{length_of, cycle_at, cycle_of, is_kind, is_length, is_epoch, epoch_fault, cycle_fault, entry_fault, header_fault, head_fault, skip, version_in, version_at, entry_need}
use Rattle.fw_log.proofs.Common.{need, IsPending, ShowsFault, Position, LogFault, AfterEnd, BadEpoch}
use Rattle.std.proofs.Common.{zero, suc, append-nil}
use Rattle.std.proofs.lemmas.List.{drop-append-le}
use Rattle.fw_log.specs.declared.LogWhy.TheVariants.{TimeBack}
use Rattle.fw_log.proofs.ByteLaws.{quadlet_at-append}
use Rattle.fw_log.proofs.FeedLaws.{further, stays}
use Rattle.fw_log.proofs.StayLaws.{head_stays, need_least, need_head, length_of-append, cycle_of-append, kind_append, length_append, epoch_append, version_in_same, version_same}

-- If an entry's length is known, what follows does not change how many bytes it takes.
same_by : (h n m l k : ℕ) → 4 ≤ n → n ≤ m → k ≡ l → (if nat_lt m 4 then h else h + 4 * k) ≡ (if nat_lt n 4 then h else h + 4 * l)
same_by h n m l k enough le same = grind (arith, nat_tests)

pub need_same : (s : Position) (prefix more : List ℕ) → skip s.start + 4 ≤ length prefix → need s (prefix ++ more) ≡ need s prefix
need_same s prefix more enough =
    let v : Version = version_at s prefix in
    let cut : drop (skip s.start) (prefix ++ more) ≡ drop (skip s.start) prefix ++ more = drop-append-le (skip s.start) prefix more (omega arith) in
    let long : 4 ≤ length (drop (skip s.start) prefix) = omega (arith, length-drop (skip s.start) prefix) in
    let le : length (drop (skip s.start) prefix) ≤ length (drop (skip s.start) prefix ++ more) = omega (arith, length-append (drop (skip s.start) prefix) more) in
    ap (λ w. skip s.start + entry_need w (drop (skip s.start) (prefix ++ more))) (version_same s prefix more (omega arith))
    ∙ ap (λ e. skip s.start + entry_need v e) cut
    ∙ ap (λ n. skip s.start + n) (same_by (head_size v) (length (drop (skip s.start) prefix)) (length (drop (skip s.start) prefix ++ more)) (length_of (drop (skip s.start) prefix))
    (length_of (drop (skip s.start) prefix ++ more)) long le (length_of-append (drop (skip s.start) prefix) more long))

-- What no fault shows in, none shows in a prefix of.
pub clear_by : (s : Position) (prefix more : List ℕ) (o : Option LogFault) → head_fault s prefix ≡ o → head_fault s (prefix ++ more) ≡ None → head_fault s prefix ≡ None
clear_by s prefix more None e h = e
clear_by s prefix more (Some g) e h = cc (head_stays s prefix more g e, h)

-- a prefix of a whole entry is a part of it
pub prefix_pending : (s : Position) (prefix more : List ℕ) → 0 < length more → head_fault s (prefix ++ more) ≡ None → length (prefix ++ more) ≡ need s (prefix ++ more) → IsPending s prefix
prefix_pending s prefix more some clear complete = record {
  no_fault = clear_by s prefix more (head_fault s prefix) refl clear;
  not_complete = elim (cases_lt (length prefix) (skip s.start + 4)) [
    | inl short ↦ omega (arith, need_least s prefix)
    | inr long ↦ omega (arith, need_same s prefix more long, length-append prefix more)
  ];
}

-- Once the head is there, what follows shows no fault of it.
tested_same : (n m k : ℕ) (ok again : Bool) (f : LogFault) (x y : Option LogFault) → k ≤ n → n ≤ m → again ≡ ok → y ≡ x → tested m k again f y ≡ tested n k ok f x
tested_same n m k ok again f x y enough le same others = rw (same, others) (grind (arith, nat_tests))

cycle_same : (v : Version) (place last : ℕ) (e more : List ℕ) → head_size v ≤ length e → cycle_fault v place last (e ++ more) ≡ cycle_fault v place last e
cycle_same v place last e more enough =
    tested_same (length e) (length (e ++ more)) (head_size v) (nat_le last (cycle_of v e)) _ (fault_at (place + cycle_at v) TimeBack) None None enough (omega (arith, length-append e more))
    (ap (nat_le last) (cycle_of-append v e more enough)) refl

epoch_same : (v : Version) (epoch place last : ℕ) (e more : List ℕ) → head_size v ≤ length e
    → epoch_fault v epoch place (e ++ more) (cycle_fault v place last (e ++ more)) ≡ epoch_fault v epoch place e (cycle_fault v place last e)
epoch_same One epoch place last e more enough = cycle_same One place last e more enough
epoch_same Two epoch place last e more enough =
    let long : 8 ≤ length e = omega (arith, enough) in
    ap (λ q. tested (length (e ++ more)) 8 (is_epoch epoch (e ++ more)) (fault_at (place + 4) (BadEpoch q)) (cycle_fault Two place last (e ++ more))) (quadlet_at-append e more 4 long)
    ∙ tested_same (length e) (length (e ++ more)) 8 (is_epoch epoch e) _ (fault_at (place + 4) (BadEpoch (quadlet_at e 4))) _ _ long (omega (arith, length-append e more))
    (epoch_append epoch e more long) (cycle_same Two place last e more enough)

entry_same : (v : Version) (epoch place last : ℕ) (e more : List ℕ) → head_size v ≤ length e → entry_fault v epoch place last (e ++ more) ≡ entry_fault v epoch place last e
entry_same v epoch place last e more enough =
    let le : length e ≤ length (e ++ more) = omega (arith, length-append e more) in
    tested_same (length e) (length (e ++ more)) 2 (is_kind (get_or e 0 0) (get_or e 1 0)) _ _ _ _ (omega (arith, enough)) le (kind_append e more (omega (arith, enough)))
    (tested_same (length e) (length (e ++ more)) 4 (is_length (get_or e 0 0) (length_of e)) _ _ _ _ (omega (arith, enough)) le (length_append e more (omega (arith, enough)))
    (epoch_same v epoch place last e more enough))

header_same : (epoch last : ℕ) (bytes more : List ℕ) → 16 + head_size (version_in bytes) ≤ length bytes
    → header_fault (bytes ++ more) (entry_fault (version_in (bytes ++ more)) epoch 16 last (drop 16 (bytes ++ more)))
    ≡ header_fault bytes (entry_fault (version_in bytes) epoch 16 last (drop 16 bytes))
header_same epoch last bytes more enough =
    let v : Version = version_in bytes in
    let long : 16 ≤ length bytes = omega (arith, enough) in
    let le : length bytes ≤ length (bytes ++ more) = omega (arith, length-append bytes more) in
    let rest : entry_fault (version_in (bytes ++ more)) epoch 16 last (drop 16 (bytes ++ more)) ≡ entry_fault v epoch 16 last (drop 16 bytes) =
    ap (λ w. entry_fault w epoch 16 last (drop 16 (bytes ++ more))) (version_in_same bytes more (omega (arith, long)))
    ∙ ap (entry_fault v epoch 16 last) (drop-append-le 16 bytes more long) ∙ entry_same v epoch 16 last (drop 16 bytes) more (omega (arith, enough, length-drop 16 bytes)) in
    tested_same (length bytes) (length (bytes ++ more)) 4 (quadlet_at bytes 0 == 825440564) _ _ _ _ (omega (arith, long)) le
    (ap (λ q. q == 825440564) (quadlet_at-append bytes more 0 (omega (arith, long))))
    (tested_same (length bytes) (length (bytes ++ more)) 8 (is_some (version_of (quadlet_at bytes 4))) _ _ _ _ (omega (arith, long)) le
    (ap (λ q. is_some (version_of q)) (quadlet_at-append bytes more 4 (omega (arith, long))))
    (tested_same (length bytes) (length (bytes ++ more)) 12 (quadlet_at bytes 8 == 0) _ _ _ _ (omega (arith, long)) le (ap (λ q. q == 0) (quadlet_at-append bytes more 8 (omega (arith, long))))
    (tested_same (length bytes) (length (bytes ++ more)) 16 (quadlet_at bytes 12 == 0) _ _ _ _ long le (ap (λ q. q == 0) (quadlet_at-append bytes more 12 long)) rest)))

settled_by : (ended first : Bool) (v : Version) (epoch start last : ℕ) (bytes more : List ℕ) → (if first then 16 else 0) + head_size (if first then version_in bytes else v) ≤ length bytes
    → (if ended then (if length bytes == 0 then None else Some (fault_at start AfterEnd)) else if first then header_fault bytes (entry_fault (version_in bytes) epoch 16 last (drop 16 bytes))
    else entry_fault v epoch start last bytes) ≡ None
    → (if ended then (if length (bytes ++ more) == 0 then None else Some (fault_at start AfterEnd)) else if first
    then header_fault (bytes ++ more) (entry_fault (version_in (bytes ++ more)) epoch 16 last (drop 16 (bytes ++ more))) else entry_fault v epoch start last (bytes ++ more)) ≡ None
settled_by true first v epoch start last bytes more enough h = by (length bytes) (fault_at start AfterEnd) (omega (arith, enough)) h
  where
    by : {A : Type 0} (n : ℕ) (f : LogFault) → 12 ≤ n → (if n == 0 then None else Some f) ≡ None → A
    by n f enough h = absurd (grind (arith, nat_tests))
settled_by false true v epoch start last bytes more enough h = header_same epoch last bytes more (omega (arith, enough)) ∙ h
settled_by false false v epoch start last bytes more enough h = entry_same v epoch start last bytes more (omega (arith, enough)) ∙ h

head_settled : (s : Position) (bytes more : List ℕ) → need s bytes ≤ length bytes → head_fault s bytes ≡ None → head_fault s (bytes ++ more) ≡ None
head_settled s bytes more complete clear =
    let low = need_head s bytes in settled_by s.ended (s.start == 0) s.version s.epoch s.start s.last bytes more (omega (arith, low, complete)) clear

-- A fault of the head comes with one byte of the piece.
still_pending : (s : Position) (old piece : List ℕ) (n : ℕ) (f : LogFault) → head_fault s (old ++ take n piece) ≡ None → head_fault s (old ++ take (suc n) piece) ≡ Some f
    → IsPending s (old ++ take n piece)
still_pending s old piece n f clear shown = record {
  no_fault = clear;
  not_complete = elim (cases_lt (length (old ++ take n piece)) (need s (old ++ take n piece))) [
    | inl less ↦ less
    | inr more ↦ cc (shown, ap (head_fault s) (further old piece n (suc n) (omega arith)), head_settled s (old ++ take n piece) (take (suc n - n) (drop n piece)) more clear)
  ];
}

shown_by : (s : Position) (old piece : List ℕ) (n : ℕ) (f : LogFault) (o : Option LogFault) → head_fault s (old ++ take n piece) ≡ o → suc n ≤ length piece
    → head_fault s (old ++ take (suc n) piece) ≡ Some f
    → (head_fault s (old ++ take n piece) ≡ Some f → (k : ℕ) × ShowsFault s old piece k f) → (k : ℕ) × ShowsFault s old piece k f
shown_by s old piece n f None e within h earlier =
    let same : suc n ≡ n + 1 = omega arith in
    (n, record { within = omega arith; before = still_pending s old piece n f e h; shown = inl (ap (λ (k : ℕ). head_fault s (old ++ take k piece)) (sym same) ∙ h) })
shown_by s old piece n f (Some g) e within h earlier =
    let same : g ≡ f = cc (stays s old piece n (suc n) g (omega arith) e, h) in
    earlier (e ∙ ap Some same)

pub head_shown : (s : Position) (old piece : List ℕ) (n : ℕ) (f : LogFault) → head_fault s old ≡ None → n ≤ length piece → head_fault s (old ++ take n piece) ≡ Some f → (k : ℕ)
    × ShowsFault s old piece k f
head_shown s old piece zero f clear within h = cc (clear, h, ap (head_fault s) (append-nil old))
head_shown s old piece (suc n) f clear within h = shown_by s old piece n f (head_fault s (old ++ take n piece)) refl within h (λ e. head_shown s old piece n f clear (omega arith) e)

-- no bytes show no fault
nothing : (a b : Bool) (x y z : Option LogFault) → x ≡ None → y ≡ None → z ≡ None → (if a then x else if b then y else z) ≡ None
nothing true b x y z e f g = e
nothing false true x y z e f g = f
nothing false false x y z e f g = g

clear_first : (s : Position) → head_fault s [] ≡ None
clear_first s = nothing s.ended (s.start == 0) None None None refl refl refl

pub head_shown_first : (s : Position) (bytes : List ℕ) (f : LogFault) → head_fault s bytes ≡ Some f → (k : ℕ) × ShowsFault s [] bytes k f
head_shown_first s bytes f h = head_shown s [] bytes (length bytes) f (clear_first s) (omega arith) (ap (head_fault s) (take_all (length bytes) bytes (omega arith)) ∙ h)
