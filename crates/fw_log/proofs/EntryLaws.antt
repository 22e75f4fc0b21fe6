-- A whole entry whose head has no fault.
use Rattle.fw_log.proofs.Common.{◌≡◌, ℕ, ◌+◌, ◌*◌, ◌/◌, ◌≤◌, ◌<◌, List, [], ◌∷◌, ◌++◌, ◌==◌, ◌&&◌, length, take, drop, get_or, nat_lt, nat_le, Bool, true, false, Option, Some, None, arith, refl, ap}
use Rattle.fw_log.proofs.Common.{sym, ◌∙◌, if◌then◌else◌, length-drop, append_assoc, nat_tests, take-append-drop, drop-drop, to_be_bytes, w32, quadlet_at, AreBytes, is_some, version_of, head_size}
use Rattle.fw_log.proofs.Common.{header_bytes, Version, One, Two, tested, header_fault, entry_fault, epoch_fault, cycle_fault, head_fault, fault_at, skip, version_in, version_at, need, entry_need}
use Rattle.fw_log.proofs.Common.{length_of, cycle_at, cycle_of, is_kind, is_length, is_epoch, HasEpoch, IsComplete, Position, LogFault, AfterEnd, BadEpoch}
use Rattle.std.proofs.Common.{◌%◌}
use Rattle.std.proofs.lemmas.Grind.{common_steps}
use Rattle.std.proofs.lemmas.Nat.{be_bytes_8}
use Rattle.std.specs.Int.{w16, w64}
use Rattle.fw_log.proofs.ByteLaws.{are_bytes_part, peel}
use Rattle.fw_log_entry.specs.Log.{number_of, epoch_bytes, entry_head}
use Rattle.fw_log.specs.Reading.{has_epoch, HeadFits}
use Rattle.fw_log.proofs.StayLaws.{need_least, need_head}
use Rattle.fw_log.specs.declared.LogWhy.TheVariants.{BadHeader, BadKind, BadLength, TimeBack}

record Passed (ok : Bool) (x : Option LogFault) : Type 0 where
  pub test : ok ≡ true
  pub others : x ≡ None

passed : (n end : ℕ) (ok : Bool) (f : LogFault) (x : Option LogFault) → end ≤ n → tested n end ok f x ≡ None → Passed ok x
passed n end true f x enough h = record { test = refl; others = grind (arith, nat_tests) }
passed n end false f x enough h = cc (shown (grind (arith, nat_tests)))
  where
    shown : nat_lt n end ≡ false → Some f ≡ None
    shown e = rw e at h

epoch_passed : (v : Version) (epoch place : ℕ) (e : List ℕ) (x : Option LogFault) → head_size v ≤ length e → epoch_fault v epoch place e x ≡ None → Passed (has_epoch v epoch e) x
epoch_passed One epoch place e x enough h = record { test = refl; others = h }
epoch_passed Two epoch place e x enough h = passed (length e) 8 (is_epoch epoch e) (fault_at (place + 4) (BadEpoch (quadlet_at e 4))) x (omega (arith, enough)) h

pub head_fits : (v : Version) (epoch place last : ℕ) (e : List ℕ) → head_size v ≤ length e → entry_fault v epoch place last e ≡ None → HeadFits v epoch last e
head_fits v epoch place last e enough h =
    let b = passed (length e) 2 (is_kind (get_or e 0 0) (get_or e 1 0)) (fault_at place BadKind) _ (omega (arith, enough)) h in
    let c = passed (length e) 4 (is_length (get_or e 0 0) (length_of e)) (fault_at (place + 2) BadLength) _ (omega (arith, enough)) b.others in
    let d = epoch_passed v epoch place e (cycle_fault v place last e) enough c.others in
    let f = passed (length e) (head_size v) (nat_le last (cycle_of v e)) (fault_at (place + cycle_at v) TimeBack) None enough d.others in
    record { kind = b.test; size = c.test; latest = d.test; later = f.test }

-- what a header without a fault has
record IsHeader (bytes : List ℕ) (x : Option LogFault) : Type 0 where
  pub a : quadlet_at bytes 0 ≡ 825440564
  pub b : quadlet_at bytes 4 ≡ number_of (version_in bytes)
  pub c : quadlet_at bytes 8 ≡ 0
  pub d : quadlet_at bytes 12 ≡ 0
  pub others : x ≡ None

pub equal : (a b : ℕ) → (a == b) ≡ true → a ≡ b
equal a b h = grind (arith, nat_tests)

-- a number that a header may have names its version
named : (n q : ℕ) → 8 ≤ n → is_some (version_of q) ≡ true → q ≡ number_of (if nat_le 8 n && (q == 2) then Two else One)
named n q long h = by (q == 1) (q == 2) (nat_le 8 n) refl refl (there n long) h
  where
    there : (n : ℕ) → 8 ≤ n → nat_le 8 n ≡ true
    there n long = grind (arith, nat_tests)

    two : (q : ℕ) → (q == 1) ≡ true → (q == 2) ≡ true → ⊥
    two q e f = grind (arith, nat_tests)

    by : (a b c : Bool) → (q == 1) ≡ a → (q == 2) ≡ b → c ≡ true → is_some (if a then Some One else if b then Some Two else None) ≡ true → q ≡ number_of (if c && b then Two else One)
    by true true c e f g h = absurd (two q e f)
    by true false true e f g h = equal q 1 e
    by true false false e f g h = cc g
    by false true true e f g h = equal q 2 f
    by false true false e f g h = cc g
    by false false c e f g h = cc h

is_header : (bytes : List ℕ) (x : Option LogFault) → 16 ≤ length bytes → header_fault bytes x ≡ None → IsHeader bytes x
is_header bytes x enough h =
    let p = passed (length bytes) 4 (quadlet_at bytes 0 == 825440564) (fault_at 0 BadHeader) _ (omega arith) h in
    let q = passed (length bytes) 8 (is_some (version_of (quadlet_at bytes 4))) (fault_at 4 BadHeader) _ (omega arith) p.others in
    let r = passed (length bytes) 12 (quadlet_at bytes 8 == 0) (fault_at 8 BadHeader) _ (omega arith) q.others in
    let s = passed (length bytes) 16 (quadlet_at bytes 12 == 0) (fault_at 12 BadHeader) x enough r.others in
    record { a = equal _ _ p.test; b = named (length bytes) (quadlet_at bytes 4) (omega arith) q.test; c = equal _ _ r.test; d = equal _ _ s.test; others = s.others }

header_back : (bytes : List ℕ) (x : Option LogFault) → AreBytes bytes → 16 ≤ length bytes → header_fault bytes x ≡ None → header_bytes (version_in bytes) ++ drop 16 bytes ≡ bytes
header_back bytes x fit enough h =
    let i = is_header bytes x enough h in
    let n : ℕ = number_of (version_in bytes) in
    let last : drop 12 bytes ≡ to_be_bytes w32 0 ++ drop 16 bytes = peel bytes 12 fit (omega arith) ∙ ap (λ q. to_be_bytes w32 q ++ drop 16 bytes) i.d in
    let third : drop 8 bytes ≡ to_be_bytes w32 0 ++ (to_be_bytes w32 0 ++ drop 16 bytes) =
    peel bytes 8 fit (omega arith) ∙ ap (λ q. to_be_bytes w32 q ++ drop 12 bytes) i.c ∙ ap (λ t. to_be_bytes w32 0 ++ t) last in
    let second : drop 4 bytes ≡ to_be_bytes w32 n ++ (to_be_bytes w32 0 ++ (to_be_bytes w32 0 ++ drop 16 bytes)) =
    peel bytes 4 fit (omega arith) ∙ ap (λ q. to_be_bytes w32 q ++ drop 8 bytes) i.b ∙ ap (λ t. to_be_bytes w32 n ++ t) third in
    sym (peel bytes 0 fit (omega arith) ∙ ap (λ q. to_be_bytes w32 q ++ drop 4 bytes) i.a ∙ ap (λ t. to_be_bytes w32 825440564 ++ t) second)

-- the head and the body of an entry are its bytes
two_bytes : (n a b : ℕ) → n ≡ 256 * a + b → a < 256 → b < 256 → to_be_bytes w16 n ≡ a ∷ b ∷ []
two_bytes n a b e f g =
    let high : n / 256 % 256 ≡ a = omega arith in
    let low : n % 256 ≡ b = omega arith in
    cc

four_first : (e : List ℕ) → 4 ≤ length e → e ≡ get_or e 0 0 ∷ get_or e 1 0 ∷ get_or e 2 0 ∷ get_or e 3 0 ∷ drop 4 e
four_first [] h = absurd (none h)
  where
    none : 4 ≤ 0 → ⊥
    none h = omega arith
four_first (a ∷ []) h = absurd (none h)
  where
    none : 4 ≤ 1 → ⊥
    none h = omega arith
four_first (a ∷ b ∷ []) h = absurd (none h)
  where
    none : 4 ≤ 2 → ⊥
    none h = omega arith
four_first (a ∷ b ∷ c ∷ []) h = absurd (none h)
  where
    none : 4 ≤ 3 → ⊥
    none h = omega arith
four_first (a ∷ b ∷ c ∷ d ∷ rest) h = refl

-- the epoch and the cycle in a head
middle_back : (v : Version) (epoch : ℕ) (e : List ℕ) → AreBytes e → head_size v ≤ length e → HasEpoch v epoch e
    → (epoch_bytes v epoch ++ to_be_bytes w64 (cycle_of v e)) ++ drop (head_size v) e ≡ drop 4 e
middle_back One epoch e fit long own =
    let eight : to_be_bytes w64 (cycle_of One e) ≡ take 8 (drop 4 e) = be_bytes_8 (take 8 (drop 4 e)) (cycle_of One e) (grind (arith, common_steps)) (are_bytes_part e 8 4 fit) refl in
    ap (λ t. t ++ drop 12 e) eight ∙ (ap (λ t. take 8 (drop 4 e) ++ t) (sym (drop-drop 8 4 e)) ∙ take-append-drop 8 (drop 4 e))
middle_back Two epoch e fit long own =
    let eight : to_be_bytes w64 (cycle_of Two e) ≡ take 8 (drop 8 e) = be_bytes_8 (take 8 (drop 8 e)) (cycle_of Two e) (grind (arith, common_steps)) (are_bytes_part e 8 8 fit) refl in
    let cycle : to_be_bytes w64 (cycle_of Two e) ++ drop 16 e ≡ drop 8 e =
    ap (λ t. t ++ drop 16 e) eight ∙ (ap (λ t. take 8 (drop 8 e) ++ t) (sym (drop-drop 8 8 e)) ∙ take-append-drop 8 (drop 8 e)) in
    append_assoc (to_be_bytes w32 epoch) (to_be_bytes w64 (cycle_of Two e)) (drop 16 e)
    ∙ (ap (λ t. to_be_bytes w32 epoch ++ t) cycle ∙ (ap (λ q. to_be_bytes w32 q ++ drop 8 e) (sym own) ∙ sym (peel e 4 fit (omega (arith, long)))))

pub entry_back : (v : Version) (epoch : ℕ) (e : List ℕ) → AreBytes e → length e ≡ head_size v + 4 * length_of e → get_or e 1 0 ≡ 0 → HasEpoch v epoch e
    → entry_head v epoch (get_or e 0 0) (length (drop (head_size v) e) / 4) (cycle_of v e) ++ drop (head_size v) e ≡ e
entry_back v epoch e fit size zero own =
    let middle : List ℕ = epoch_bytes v epoch ++ to_be_bytes w64 (cycle_of v e) in
    let rest : List ℕ = drop (head_size v) e in
    let long : head_size v ≤ length e = omega arith in
    let count : length (drop (head_size v) e) / 4 ≡ length_of e = omega (arith, length-drop (head_size v) e) in
    let two : to_be_bytes w16 (length_of e) ≡ get_or e 2 0 ∷ get_or e 3 0 ∷ [] = two_bytes (length_of e) (get_or e 2 0) (get_or e 3 0) refl (fit 2) (fit 3) in
    let first : e ≡ get_or e 0 0 ∷ get_or e 1 0 ∷ get_or e 2 0 ∷ get_or e 3 0 ∷ drop 4 e = four_first e (omega (arith, long)) in
    ap (λ n. entry_head v epoch (get_or e 0 0) n (cycle_of v e) ++ rest) count
    ∙ ap (λ t. get_or e 0 0 ∷ 0 ∷ ((t ++ middle) ++ rest)) two
    ∙ ap (λ t. get_or e 0 0 ∷ 0 ∷ get_or e 2 0 ∷ get_or e 3 0 ∷ t) (middle_back v epoch e fit long own)
    ∙ ap (λ n. get_or e 0 0 ∷ n ∷ get_or e 2 0 ∷ get_or e 3 0 ∷ drop 4 e) (sym zero)
    ∙ sym first

need_complete : (h n m : ℕ) → 4 ≤ h → n ≡ (if nat_lt n 4 then h else h + 4 * m) → n ≡ h + 4 * m
need_complete h n m long e = grind (arith, nat_tests)

still_open : (s : Position) (bytes : List ℕ) → 0 < length bytes → head_fault s bytes ≡ None → s.ended ≡ false
still_open s bytes some h = by s.ended (length bytes) some _ (fault_at s.start AfterEnd) h
  where
    by : (b : Bool) (n : ℕ) → 0 < n → (x : Option LogFault) (f : LogFault) → (if b then (if n == 0 then None else Some f) else x) ≡ None → b ≡ false
    by b n some x f h = grind (arith, nat_tests)

-- a first entry, and one after others
opened : (s : Position) (bytes : List ℕ) → s.ended ≡ false → head_fault s bytes ≡ None
    → (if s.start == 0 then header_fault bytes (entry_fault (version_in bytes) s.epoch 16 s.last (drop 16 bytes)) else entry_fault s.version s.epoch s.start s.last bytes) ≡ None
opened s bytes e h = rw e at h

record CompleteBy (v : Version) (epoch last : ℕ) (before e bytes : List ℕ) : Type 0 where
  pub head : HeadFits v epoch last e
  pub before_is : before ++ e ≡ bytes
  pub size : length e ≡ head_size v + 4 * length_of e

complete_by : (v : Version) (epoch start last : ℕ) (bytes : List ℕ) (z : Bool) → AreBytes bytes
    → (if z then header_fault bytes (entry_fault (version_in bytes) epoch 16 last (drop 16 bytes)) else entry_fault v epoch start last bytes) ≡ None
    → length bytes ≡ (if z then 16 else 0) + entry_need (if z then version_in bytes else v) (drop (if z then 16 else 0) bytes)
    → (if z then 16 else 0) + head_size (if z then version_in bytes else v) ≤ length bytes
    → CompleteBy (if z then version_in bytes else v) epoch last (if z then header_bytes (if z then version_in bytes else v) else []) (drop (if z then 16 else 0) bytes) bytes
complete_by v epoch start last bytes true fit h complete enough =
    let w : Version = version_in bytes in
    let long : 16 ≤ length bytes = omega (arith, enough) in
    let size : length (drop 16 bytes) ≡ entry_need w (drop 16 bytes) = omega (arith, complete, long, length-drop 16 bytes) in
    let more : head_size w ≤ length (drop 16 bytes) = omega (arith, enough, length-drop 16 bytes) in
    let i = is_header bytes (entry_fault w epoch 16 last (drop 16 bytes)) long h in
    record {
      head = head_fits w epoch 16 last (drop 16 bytes) more i.others;
      before_is = header_back bytes (entry_fault w epoch 16 last (drop 16 bytes)) fit long h;
      size = need_complete (head_size w) (length (drop 16 bytes)) (length_of (drop 16 bytes)) (omega arith) size;
    }
complete_by v epoch start last bytes false fit h complete enough =
    let size : length bytes ≡ entry_need v bytes = omega (arith, complete) in
    let more : head_size v ≤ length bytes = omega (arith, enough) in
    record {
      head = head_fits v epoch start last bytes more h;
      before_is = refl;
      size = need_complete (head_size v) (length bytes) (length_of bytes) (omega arith) size;
    }

pub complete_head : (s : Position) (bytes : List ℕ) → AreBytes bytes → head_fault s bytes ≡ None → length bytes ≡ need s bytes → IsComplete (version_at s bytes) s bytes
complete_head s bytes fit h complete =
    let least = need_least s bytes in
    let most = need_head s bytes in
    let more : 0 < length bytes = omega (arith, least, complete) in
    let enough : skip s.start + head_size (version_at s bytes) ≤ length bytes = omega (arith, most, complete) in
    let going_on = still_open s bytes more h in
    let w = complete_by s.version s.epoch s.start s.last bytes (s.start == 0) fit (opened s bytes going_on h) complete enough in
    record { here = refl; going_on = going_on; head = w.head; before = w.before_is; size = w.size }

-- the length of an entry whose head has no fault
entry_size : (v : Version) (epoch place last : ℕ) (e : List ℕ) → 4 ≤ length e → entry_fault v epoch place last e ≡ None → length_of e ≤ 569
entry_size v epoch place last e enough h =
    let b = passed (length e) 2 (is_kind (get_or e 0 0) (get_or e 1 0)) (fault_at place BadKind) _ (omega arith) h in
    let c = passed (length e) 4 (is_length (get_or e 0 0) (length_of e)) (fault_at (place + 2) BadLength) _ (omega arith) b.others in
    few (get_or e 0 0) (length_of e) c.test
  where
    few : (k n : ℕ) → is_length k n ≡ true → n ≤ 569
    few k n h = grind (arith, nat_tests)

size_by : (v : Version) (epoch start last : ℕ) (bytes : List ℕ) (z : Bool)
    → (if z then header_fault bytes (entry_fault (version_in bytes) epoch 16 last (drop 16 bytes)) else entry_fault v epoch start last bytes) ≡ None
    → 4 ≤ length (drop (if z then 16 else 0) bytes) → length_of (drop (if z then 16 else 0) bytes) ≤ 569
size_by v epoch start last bytes true h enough =
    let long : 16 ≤ length bytes = omega (arith, enough, length-drop 16 bytes) in
    entry_size (version_in bytes) epoch 16 last (drop 16 bytes) enough (is_header bytes (entry_fault (version_in bytes) epoch 16 last (drop 16 bytes)) long h).others
size_by v epoch start last bytes false h enough = entry_size v epoch start last bytes enough h

pub size_within : (s : Position) (bytes : List ℕ) → head_fault s bytes ≡ None → 4 ≤ length (drop (skip s.start) bytes) → length_of (drop (skip s.start) bytes) ≤ 569
size_within s bytes h enough =
    let more : 0 < length bytes = omega (arith, enough, length-drop (skip s.start) bytes) in
    size_by s.version s.epoch s.start s.last bytes (s.start == 0) (opened s bytes (still_open s bytes more h) h) enough
