-- The version that a reader knows is that of the bytes that were fed.
use Rattle.fw_log.proofs.Common.{◌≡◌, inl, inr, ℕ, ◌+◌, ◌≤◌, ◌<◌, List, [], ◌∷◌, ◌++◌, ◌==◌, ◌&&◌, nat_le, nat_lt, length, take, drop, Bool, true, false, Option, Some, None, Result, Ok, Err, arith}
use Rattle.fw_log.proofs.Common.{refl, ap, sym, subst, ◌∙◌, append_assoc, length-append, if◌then◌else◌, is_some, cases_lt, nat_tests, take-append-drop, take_all, quadlet_at, version_of, header_bytes}
use Rattle.fw_log.proofs.Common.{Version, One, Two, Timed, LogFed, LogFault, Position, tested, fault_at, Faulty, State, ShowsFault, Feeds}
use Rattle.std.proofs.Common.{◌⊎◌}
use Rattle.std.specs.Prelude.{IfErr}
use Rattle.fw_log.specs.declared.LogWhy.TheVariants.{BadHeader}
use Rattle.fw_log_entry.specs.Log.{entries_bytes}
use Rattle.fw_log.specs.Reader.{Remembers, version_read, known}
use Rattle.fw_log.specs.History.{bytes_of, stand_after, HasRead, Names}
use Rattle.fw_log.proofs.ByteLaws.{quadlet_at-append}
use Rattle.fw_log.proofs.StayLaws.{need_least}
use Rattle.fw_log.proofs.HistoryLaws.{dead}

by_tests : (a b : Bool) (o : Option Version) → a ≡ true → b ≡ true → (if a && b then o else None) ≡ o
by_tests true true o e f = refl
by_tests true false o e f = cc f
by_tests false b o e f = cc e

by_first : (a b c d : Bool) (o p : Option Version) → a ≡ c → b ≡ d → o ≡ p → (if a && b then o else None) ≡ (if c && d then p else None)
by_first a b c d o p e f g = cc

none_by : (a b : Bool) (o : Option Version) → b ≡ false → (if a && b then o else None) ≡ None
none_by true true o e = cc e
none_by true false o e = refl
none_by false b o e = refl

none_short : (a b : Bool) (o : Option Version) → a ≡ false → (if a && b then o else None) ≡ None
none_short true b o e = cc e
none_short false b o e = refl

enough : (n : ℕ) → 8 ≤ n → nat_le 8 n ≡ true
enough n h = grind (arith, nat_tests)

few : (n : ℕ) → n < 8 → nat_le 8 n ≡ false
few n h = grind (arith, nat_tests)

later : (n : ℕ) (x : Option Version) (v : Version) → 0 < n → (if n == 0 then x else Some v) ≡ Some v
later n x v h = by (n == 0) (positive n h)
  where
    positive : (k : ℕ) → 0 < k → (k == 0) ≡ false
    positive k h = grind (arith, nat_tests)

    by : (b : Bool) → b ≡ false → (if b then x else Some v) ≡ Some v
    by true e = cc e
    by false e = refl

-- after the first entry it is kept
known_later : (v : Version) (t : Timed) (ts : List Timed) (taken : List ℕ) → known (record { stand = stand_after v (t ∷ ts); taken = taken; fault = None }) ≡ Some v
known_later v t ts taken = later (length (bytes_of v (t ∷ ts))) (version_read taken) v (omega (arith, length-append (header_bytes v) (entries_bytes v 0 (t ∷ ts))))

-- the version of a header, whatever follows
version_written : (v : Version) (rest : List ℕ) → version_read (header_bytes v ++ rest) ≡ Some v
version_written One rest = by_tests (nat_le 8 (length (header_bytes One ++ rest))) true (Some One)
    (enough (length (header_bytes One ++ rest)) (omega (arith, length-append (header_bytes One) rest))) refl
version_written Two rest = by_tests (nat_le 8 (length (header_bytes Two ++ rest))) true (Some Two)
    (enough (length (header_bytes Two ++ rest)) (omega (arith, length-append (header_bytes Two) rest))) refl

-- once there are eight bytes, it is the same whatever follows
version_stays : (bytes more : List ℕ) → 8 ≤ length bytes → version_read (bytes ++ more) ≡ version_read bytes
version_stays bytes more h =
    by_first (nat_le 8 (length (bytes ++ more))) (quadlet_at (bytes ++ more) 0 == 825440564) (nat_le 8 (length bytes)) (quadlet_at bytes 0 == 825440564) (version_of (quadlet_at (bytes ++ more) 4))
    (version_of (quadlet_at bytes 4))
    (enough (length (bytes ++ more)) (omega (arith, h, length-append bytes more)) ∙ sym (enough (length bytes) h))
    (ap (λ (n : ℕ). n == 825440564) (quadlet_at-append bytes more 0 (omega (arith, h))))
    (ap version_of (quadlet_at-append bytes more 4 (omega (arith, h))))

-- ---- if no fault was answered

known_read : (v : Version) (entries : List Timed) (taken bytes : List ℕ) → bytes_of v entries ++ taken ≡ bytes
    → known (record { stand = stand_after v entries; taken = taken; fault = None }) ≡ version_read bytes
known_read v [] taken bytes same = ap version_read same
known_read v (t ∷ ts) taken bytes same =
    known_later v t ts taken ∙ sym (version_written v (entries_bytes v 0 (t ∷ ts) ++ taken)) ∙ ap version_read (sym (append_assoc (header_bytes v) (entries_bytes v 0 (t ∷ ts)) taken) ∙ same)

known_as : (r : State) (s : Position) → r.stand ≡ s → known r ≡ known (record { stand = s; taken = r.taken; fault = None })
known_as r s e = ap (λ (p : Position). if p.start == 0 then version_read r.taken else Some p.version) e

pub version_known : (entries : List Timed) (bytes : List ℕ) (r : State) → HasRead entries bytes r → known r ≡ version_read bytes
version_known entries bytes r h = known_as r (stand_after h.version entries) h.stand ∙ known_read h.version entries r.taken bytes h.same

-- ---- at a fault

-- a fault before eight bytes is that of the first quadlet
first_refused : (n : ℕ) (a : Bool) (x y f : LogFault) (b : Bool) (rest : Option LogFault) → n < 8 → tested n 4 a x (tested n 8 b y rest) ≡ Some f → (4 ≤ n) × (a ≡ false)
first_refused n a x y f b rest h e = by (nat_lt n 4) (nat_lt n 8) a (late n h) (λ (z : nat_lt n 4 ≡ false). past n z) e
  where
    late : (k : ℕ) → k < 8 → nat_lt k 8 ≡ true
    late k h = grind (arith, nat_tests)

    past : (k : ℕ) → nat_lt k 4 ≡ false → 4 ≤ k
    past k h = grind (arith, nat_tests)

    by : (p q c : Bool) → q ≡ true → (p ≡ false → 4 ≤ n) → (if p then None else if c then (if q then None else if b then rest else Some y) else Some x) ≡ Some f → (4 ≤ n) × (c ≡ false)
    by true q c g k i = cc i
    by false true true g k i = cc i
    by false false true g k i = cc g
    by false q false g k i = (k refl, refl)

refused_first : (v : Version) (bytes : List ℕ) (f : LogFault) → length bytes < 8 → Faulty (stand_after v []) bytes f → (4 ≤ length bytes) × ((quadlet_at bytes 0 == 825440564) ≡ false)
refused_first v bytes f few (inl e) = first_refused (length bytes) (quadlet_at bytes 0 == 825440564) (fault_at 0 BadHeader) (fault_at 4 BadHeader) f (is_some (version_of (quadlet_at bytes 4))) _ few e
refused_first v bytes f few (inr w) = let no : ⊥ = omega (arith, few, w.complete, need_least (stand_after v []) bytes) in absurd no

full_of : (old piece : List ℕ) (n : ℕ) → (length piece ≤ n) ⊎ (8 ≤ length (old ++ take n piece)) → version_read (old ++ take n piece) ≡ version_read (old ++ piece)
full_of old piece n (inl all) = ap (λ (p : List ℕ). version_read (old ++ p)) (take_all n piece all)
full_of old piece n (inr some) =
    sym (version_stays (old ++ take n piece) (drop n piece) some) ∙ ap version_read (append_assoc old (take n piece) (drop n piece) ∙ ap (λ (p : List ℕ). old ++ p) (take-append-drop n piece))

pub names_at : (v : Version) (entries : List Timed) (bytes piece : List ℕ) (r new : State) (k : ℕ) (f : LogFault) → bytes_of v entries ++ r.taken ≡ bytes → r.stand ≡ stand_after v entries
    → ShowsFault r.stand r.taken piece k f → Remembers r.stand r.taken piece new → known new ≡ version_read (bytes ++ take (k + 1) piece)
names_at v [] bytes piece r new k f same stand shows m =
    known_as new (stand_after v []) (m.stand ∙ stand) ∙ ap version_read m.kept.taken ∙ full_of r.taken piece m.kept.count (m.kept.enough (ap (λ (p : Position). p.start) stand))
    ∙ back (cases_lt (length (r.taken ++ take (k + 1) piece)) 8) ∙ ap (λ (x : List ℕ). version_read (x ++ take (k + 1) piece)) same
  where
    F : Position → Type 0
    F s = Faulty s (r.taken ++ take (k + 1) piece) f

    whole : (r.taken ++ take (k + 1) piece) ++ drop (k + 1) piece ≡ r.taken ++ piece
    whole = append_assoc r.taken (take (k + 1) piece) (drop (k + 1) piece) ∙ ap (λ (p : List ℕ). r.taken ++ p) (take-append-drop (k + 1) piece)

    back : (length (r.taken ++ take (k + 1) piece) < 8) ⊎ (8 ≤ length (r.taken ++ take (k + 1) piece)) → version_read (r.taken ++ piece) ≡ version_read (r.taken ++ take (k + 1) piece)
    back (inr some) = sym (full_of r.taken piece (k + 1) (inr some))
    back (inl less) =
        let x : List ℕ = r.taken ++ take (k + 1) piece in
        let no = refused_first v x f less (subst F stand shows.shown) in
        let first : (quadlet_at (r.taken ++ piece) 0 == 825440564) ≡ false =
        ap (λ (l : List ℕ). quadlet_at l 0 == 825440564) (sym whole) ∙ ap (λ (n : ℕ). n == 825440564) (quadlet_at-append x (drop (k + 1) piece) 0 no.0) ∙ no.1 in
        none_by (nat_le 8 (length (r.taken ++ piece))) (quadlet_at (r.taken ++ piece) 0 == 825440564) (version_of (quadlet_at (r.taken ++ piece) 4)) first
        ∙ sym (none_short (nat_le 8 (length x)) (quadlet_at x 0 == 825440564) (version_of (quadlet_at x 4)) (few (length x) less))
names_at v (t ∷ ts) bytes piece r new k f same stand shows m =
    known_as new (stand_after v (t ∷ ts)) (m.stand ∙ stand) ∙ known_later v t ts new.taken
    ∙ sym (version_written v (entries_bytes v 0 (t ∷ ts) ++ (r.taken ++ take (k + 1) piece)))
    ∙ ap version_read (sym (append_assoc (header_bytes v) (entries_bytes v 0 (t ∷ ts)) (r.taken ++ take (k + 1) piece))
    ∙ sym (append_assoc (bytes_of v (t ∷ ts)) r.taken (take (k + 1) piece)) ∙ ap (λ (x : List ℕ). x ++ take (k + 1) piece) same)

pub names : (entries : List Timed) (bytes piece : List ℕ) (r new : State) (result : Result LogFed LogFault) → HasRead entries bytes r → Feeds r.stand r.taken piece result new
    → IfErr result (λ f. Remembers r.stand r.taken piece new) → Names bytes piece result new
names entries bytes piece r new (Ok fed) h f m = tt
names entries bytes piece r new (Err g) h f m =
    (f.0.0, f.0.1.within, dead entries bytes piece r f.0.0 g h f.0.1, names_at h.version entries bytes piece r new f.0.0 g h.same h.stand f.0.1 m)
