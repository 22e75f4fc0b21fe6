-- A fault that is shown stays, and what is whole stays as long as it is, whatever follows.
use Rattle.fw_log.proofs.Common.{◌≡◌, inl, inr, ℕ, ◌+◌, ◌*◌, ◌≤◌, ◌<◌, List, ◌++◌, ◌==◌, ◌||◌, ◌&&◌, get_or, length, take, drop, nat_lt, nat_le, Bool, true, false, Option, Some, None, arith, refl, ap}
use Rattle.fw_log.proofs.Common.{◌∙◌, if◌then◌else◌, length-append, length-drop, cases_lt, nat_tests, take-append-le, quadlet_at, is_some, version_of, head_size, Version, One, Two, tested, fault_at}
use Rattle.fw_log.proofs.Common.{length_of, cycle_at, cycle_of, is_kind, is_length, is_epoch, epoch_fault, cycle_fault, entry_fault, header_fault, head_fault, skip, version_in, version_at, entry_need}
use Rattle.fw_log.proofs.Common.{need, IsPending, Position, LogFault, AfterEnd, BadEpoch}
use Rattle.std.proofs.lemmas.List.{get_or_append_left, drop-append-le}
use Rattle.std.specs.Int.{from_be_bytes, w64}
use Rattle.fw_log.proofs.ByteLaws.{quadlet_at-append}
use Rattle.fw_log_entry.specs.Log.{epoch_size}

-- a part that was judged is judged alike, whatever follows
level_by : (n m k : ℕ) (ok : Bool) (f g : LogFault) (x y : Option LogFault) → n ≤ m → k ≤ n → (x ≡ Some g → y ≡ Some g) → tested n k ok f x ≡ Some g → tested m k ok f y ≡ Some g
level_by n m k ok f g x y le enough more h = grind (arith, nat_tests, more)

early : (n k : ℕ) (ok : Bool) (f : LogFault) (x : Option LogFault) → n < k → tested n k ok f x ≡ None
early n k ok f x short = grind (arith, nat_tests)

level : (n m k : ℕ) (ok again : Bool) (f g : LogFault) (x y : Option LogFault) → n ≤ m → (k ≤ n → again ≡ ok) → (k ≤ n → x ≡ Some g → y ≡ Some g) → tested n k ok f x ≡ Some g
    → tested m k again f y ≡ Some g
level n m k ok again f g x y le same more h =
    elim (cases_lt n k) [
      | inl short ↦ cc (early n k ok f x short)
      | inr long ↦ ap (λ b. tested m k b f y) (same long) ∙ level_by n m k ok f g x y le long (more long) h
    ]

-- the same, if the part tells the fault
level_as : (n m k : ℕ) (ok again : Bool) (f told g : LogFault) (x y : Option LogFault) → n ≤ m → (k ≤ n → again ≡ ok) → (k ≤ n → told ≡ f) → (k ≤ n → x ≡ Some g → y ≡ Some g)
    → tested n k ok f x ≡ Some g → tested m k again told y ≡ Some g
level_as n m k ok again f told g x y le same tells more h =
    elim (cases_lt n k) [
      | inl short ↦ cc (early n k ok f x short)
      | inr long ↦ ap (λ z. tested m k again z y) (tells long) ∙ level n m k ok again f g x y le same more h
    ]

-- heads of both versions
pub epoch_few : (v : Version) → epoch_size v ≤ 4
epoch_few One = omega arith
epoch_few Two = omega arith

pub length_of-append : (e more : List ℕ) → 4 ≤ length e → length_of (e ++ more) ≡ length_of e
length_of-append e more enough = omega (arith, get_or_append_left e more 0 2 (omega arith), get_or_append_left e more 0 3 (omega arith))

pub cycle_of-append : (v : Version) (e more : List ℕ) → head_size v ≤ length e → cycle_of v (e ++ more) ≡ cycle_of v e
cycle_of-append v e more enough =
    ap (λ t. from_be_bytes w64 (take 8 t)) (drop-append-le (cycle_at v) e more (omega arith))
    ∙ ap (from_be_bytes w64) (take-append-le 8 (drop (cycle_at v) e) more (omega (arith, length-drop (cycle_at v) e)))

pub kind_append : (e more : List ℕ) → 2 ≤ length e → is_kind (get_or (e ++ more) 0 0) (get_or (e ++ more) 1 0) ≡ is_kind (get_or e 0 0) (get_or e 1 0)
kind_append e more enough = ap (λ k. is_kind k (get_or (e ++ more) 1 0)) (get_or_append_left e more 0 0 (omega arith)) ∙ ap (is_kind (get_or e 0 0)) (get_or_append_left e more 0 1 (omega arith))

pub length_append : (e more : List ℕ) → 4 ≤ length e → is_length (get_or (e ++ more) 0 0) (length_of (e ++ more)) ≡ is_length (get_or e 0 0) (length_of e)
length_append e more enough = ap (λ k. is_length k (length_of (e ++ more))) (get_or_append_left e more 0 0 (omega arith)) ∙ ap (is_length (get_or e 0 0)) (length_of-append e more enough)

pub epoch_append : (epoch : ℕ) (e more : List ℕ) → 8 ≤ length e → is_epoch epoch (e ++ more) ≡ is_epoch epoch e
epoch_append epoch e more enough =
    ap (λ k. (k == 1) || (quadlet_at (e ++ more) 4 == epoch)) (get_or_append_left e more 0 0 (omega arith))
    ∙ ap (λ q. (get_or e 0 0 == 1) || (q == epoch)) (quadlet_at-append e more 4 (omega arith))

cycle_stays : (v : Version) (place last : ℕ) (e more : List ℕ) (g : LogFault) → cycle_fault v place last e ≡ Some g → cycle_fault v place last (e ++ more) ≡ Some g
cycle_stays v place last e more g h =
    level (length e) (length (e ++ more)) (head_size v) (nat_le last (cycle_of v e)) _ _ g None None (omega (arith, length-append e more))
    (λ k. ap (nat_le last) (cycle_of-append v e more k)) (λ d none. none) h

epoch_stays : (v : Version) (epoch place last : ℕ) (e more : List ℕ) (g : LogFault) → epoch_fault v epoch place e (cycle_fault v place last e) ≡ Some g
    → epoch_fault v epoch place (e ++ more) (cycle_fault v place last (e ++ more)) ≡ Some g
epoch_stays One epoch place last e more g h = cycle_stays One place last e more g h
epoch_stays Two epoch place last e more g h =
    level_as (length e) (length (e ++ more)) 8 (is_epoch epoch e) _ _ _ g _ _ (omega (arith, length-append e more)) (epoch_append epoch e more)
    (λ k. ap (λ q. fault_at (place + 4) (BadEpoch q)) (quadlet_at-append e more 4 k)) (λ k. cycle_stays Two place last e more g) h

entry_stays : (v : Version) (epoch place last : ℕ) (e more : List ℕ) (g : LogFault) → entry_fault v epoch place last e ≡ Some g → entry_fault v epoch place last (e ++ more) ≡ Some g
entry_stays v epoch place last e more g h =
    let le : length e ≤ length (e ++ more) = omega (arith, length-append e more) in
    level (length e) (length (e ++ more)) 2 (is_kind (get_or e 0 0) (get_or e 1 0)) _ _ g _ _ le (kind_append e more)
    (λ b. level (length e) (length (e ++ more)) 4 (is_length (get_or e 0 0) (length_of e)) _ _ g _ _ le (length_append e more)
    (λ c. epoch_stays v epoch place last e more g))
    h

-- the version that a header names
pub version_in_same : (bytes more : List ℕ) → 8 ≤ length bytes → version_in (bytes ++ more) ≡ version_in bytes
version_in_same bytes more enough =
    by (length bytes) (length (bytes ++ more)) (quadlet_at bytes 4) (quadlet_at (bytes ++ more) 4) enough (omega (arith, length-append bytes more)) (quadlet_at-append bytes more 4 enough)
  where
    by : (n m q r : ℕ) → 8 ≤ n → n ≤ m → r ≡ q → (if nat_le 8 m && (r == 2) then Two else One) ≡ (if nat_le 8 n && (q == 2) then Two else One)
    by n m q r a b e = rw e (grind (arith, nat_tests))

pub version_same : (s : Position) (bytes more : List ℕ) → skip s.start ≤ length bytes → version_at s (bytes ++ more) ≡ version_at s bytes
version_same s bytes more enough = by (s.start == 0) enough
  where
    by : (first : Bool) → (if first then 16 else 0) ≤ length bytes → (if first then version_in (bytes ++ more) else s.version) ≡ (if first then version_in bytes else s.version)
    by true enough = version_in_same bytes more (omega (arith, enough))
    by false enough = refl

header_stays : (epoch last : ℕ) (bytes more : List ℕ) (g : LogFault) → header_fault bytes (entry_fault (version_in bytes) epoch 16 last (drop 16 bytes)) ≡ Some g
    → header_fault (bytes ++ more) (entry_fault (version_in (bytes ++ more)) epoch 16 last (drop 16 (bytes ++ more))) ≡ Some g
header_stays epoch last bytes more g h =
    let le : length bytes ≤ length (bytes ++ more) = omega (arith, length-append bytes more) in
    level (length bytes) (length (bytes ++ more)) 4 (quadlet_at bytes 0 == 825440564) _ _ g _ _ le (λ k. ap (λ q. q == 825440564) (quadlet_at-append bytes more 0 k))
    (λ a. level (length bytes) (length (bytes ++ more)) 8 (is_some (version_of (quadlet_at bytes 4))) _ _ g _ _ le (λ k. ap (λ q. is_some (version_of q)) (quadlet_at-append bytes more 4 k))
    (λ b. level (length bytes) (length (bytes ++ more)) 12 (quadlet_at bytes 8 == 0) _ _ g _ _ le (λ k. ap (λ q. q == 0) (quadlet_at-append bytes more 8 k))
    (λ c. level (length bytes) (length (bytes ++ more)) 16 (quadlet_at bytes 12 == 0) _ _ g _ _ le (λ k. ap (λ q. q == 0) (quadlet_at-append bytes more 12 k))
    (λ d shown. ap (λ v. entry_fault v epoch 16 last (drop 16 (bytes ++ more))) (version_in_same bytes more (omega (arith, d)))
    ∙ ap (entry_fault (version_in bytes) epoch 16 last) (drop-append-le 16 bytes more d) ∙ entry_stays (version_in bytes) epoch 16 last (drop 16 bytes) more g shown))))
    h

stays_by : (ended first : Bool) (v : Version) (epoch start last : ℕ) (bytes more : List ℕ) (g : LogFault)
    → (if ended then (if length bytes == 0 then None else Some (fault_at start AfterEnd)) else if first then header_fault bytes (entry_fault (version_in bytes) epoch 16 last (drop 16 bytes))
    else entry_fault v epoch start last bytes) ≡ Some g
    → (if ended then (if length (bytes ++ more) == 0 then None else Some (fault_at start AfterEnd)) else if first
    then header_fault (bytes ++ more) (entry_fault (version_in (bytes ++ more)) epoch 16 last (drop 16 (bytes ++ more))) else entry_fault v epoch start last (bytes ++ more)) ≡ Some g
stays_by true first v epoch start last bytes more g h = by (length bytes) (length (bytes ++ more)) (fault_at start AfterEnd) (omega (arith, length-append bytes more)) h
  where
    by : (n m : ℕ) (f : LogFault) → n ≤ m → (if n == 0 then None else Some f) ≡ Some g → (if m == 0 then None else Some f) ≡ Some g
    by n m f le h = grind (arith, nat_tests)
stays_by false true v epoch start last bytes more g h = header_stays epoch last bytes more g h
stays_by false false v epoch start last bytes more g h = entry_stays v epoch start last bytes more g h

pub head_stays : (s : Position) (bytes more : List ℕ) (g : LogFault) → head_fault s bytes ≡ Some g → head_fault s (bytes ++ more) ≡ Some g
head_stays s bytes more g h = stays_by s.ended (s.start == 0) s.version s.epoch s.start s.last bytes more g h

-- what is whole, by the bytes of its head
done_by : (h n m l k : ℕ) → 4 ≤ h → n ≡ (if nat_lt n 4 then h else h + 4 * l) → n ≤ m → (4 ≤ n → k ≡ l) → (if nat_lt m 4 then h else h + 4 * k) ≡ n
done_by h n m l k long complete le same = grind (arith, nat_tests, same)

least : (h n m : ℕ) → h ≤ (if nat_lt n 4 then h else h + 4 * m)
least h n m = grind (arith, nat_tests)

pub need_head : (s : Position) (bytes : List ℕ) → skip s.start + head_size (version_at s bytes) ≤ need s bytes
need_head s bytes =
    let low = least (head_size (version_at s bytes)) (length (drop (skip s.start) bytes)) (length_of (drop (skip s.start) bytes)) in omega (arith, low)

pub need_least : (s : Position) (bytes : List ℕ) → skip s.start + 12 ≤ need s bytes
need_least s bytes = let low = need_head s bytes in omega (arith, low)

pub need_done : (s : Position) (prefix more : List ℕ) → length prefix ≡ need s prefix → need s (prefix ++ more) ≡ length prefix
need_done s prefix more complete =
    let v : Version = version_at s prefix in
    let low = need_least s prefix in
    let within : skip s.start ≤ length prefix = omega (arith, low, complete) in
    let size : length (drop (skip s.start) prefix) ≡ entry_need v (drop (skip s.start) prefix) = omega (arith, complete, length-drop (skip s.start) prefix) in
    let cut : drop (skip s.start) (prefix ++ more) ≡ drop (skip s.start) prefix ++ more = drop-append-le (skip s.start) prefix more within in
    let le : length (drop (skip s.start) prefix) ≤ length (drop (skip s.start) prefix ++ more) = omega (arith, length-append (drop (skip s.start) prefix) more) in
    let done : entry_need v (drop (skip s.start) prefix ++ more) ≡ length (drop (skip s.start) prefix) =
    done_by (head_size v) (length (drop (skip s.start) prefix)) (length (drop (skip s.start) prefix ++ more)) (length_of (drop (skip s.start) prefix)) (length_of (drop (skip s.start) prefix ++ more))
    (omega arith) size le (length_of-append (drop (skip s.start) prefix) more) in
    ap (λ w. skip s.start + entry_need w (drop (skip s.start) (prefix ++ more))) (version_same s prefix more within)
    ∙ ap (λ e. skip s.start + entry_need v e) cut ∙ omega (arith, done, within, length-drop (skip s.start) prefix)

-- bytes that are pending have no prefix that is whole
pub no_complete_prefix : {A : Type 0} (s : Position) (prefix more : List ℕ) → IsPending s (prefix ++ more) → length prefix ≡ need s prefix → A
no_complete_prefix s prefix more pending complete =
    let done = need_done s prefix more complete in
    absurd (omega (arith, pending.not_complete, done, length-append prefix more))
