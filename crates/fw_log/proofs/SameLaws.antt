-- One list of bytes is of one entry.
use Rattle.fw_log.proofs.Common.{◌≡◌, ℕ, ◌+◌, ◌*◌, ◌/◌, ◌≤◌, List, [], ◌++◌, ◌==◌, ◌||◌, ◌&&◌, get_or, length, drop, nat_lt, nat_le, Bool, true, false, Option, None, arith, refl, ap, sym, subst, ◌∙◌}
use Rattle.fw_log.proofs.Common.{if◌then◌else◌, length-append, nat_tests, quadlet_at, is_some, Version, One, Two, version_of, head_size, epoch_after, header_bytes, kind_of, body, IsBody, tested}
use Rattle.fw_log.proofs.Common.{fault_at, length_of, cycle_at, cycle_of, is_kind, is_length, is_epoch, epoch_fault, cycle_fault, entry_fault, header_fault, head_fault, skip, version_in, version_at}
use Rattle.fw_log.proofs.Common.{entry_need, need, HasEpoch, Spells, Position, Entry, Reset, Async, Iso, Event, Outcome, Shown, End, Timed, LogFault, BadEpoch}
use Rattle.std.proofs.lemmas.List.{append_cancel_left}
use Rattle.fw_log_entry.specs.Log.{number_of, entry_head, TimedFits, entry_bytes}
use Rattle.fw_log.specs.Reading.{header_at, EpochFits}
use Rattle.fw_log.specs.declared.LogWhy.TheVariants.{BadHeader, TimeBack}
use Rattle.fw_log.proofs.IdsLaws.{back}
use Rattle.fw_log.proofs.SizeLaws.{has_length}
use Rattle.fw_log.proofs.SameBodyLaws.{cycle_is, body_is, same_timed}

-- the head of an entry's bytes
pub length_back : (v : Version) (epoch : ℕ) (t : Timed) → TimedFits t → length_of (entry_bytes v epoch t) ≡ length (body t.what) / 4
length_back v epoch t f = let h = has_length t.what f.entry in let few = most (kind_of t.what) h.quadlets h.right in omega (arith, h.size, few)
  where
    most : (k n : ℕ) → is_length k n ≡ true → n ≤ 569
    most k n h = grind (arith, nat_tests)

all_of : (v : Version) (epoch : ℕ) (t : Timed) → length (entry_bytes v epoch t) ≡ head_size v + length (body t.what)
all_of One epoch t = omega (arith, length-append (entry_head One epoch (kind_of t.what) (length (body t.what) / 4) t.cycle) (body t.what))
all_of Two epoch t = omega (arith, length-append (entry_head Two epoch (kind_of t.what) (length (body t.what) / 4) t.cycle) (body t.what))

pub length-entry : (v : Version) (epoch : ℕ) (t : Timed) → TimedFits t → length (entry_bytes v epoch t) ≡ head_size v + 4 * (length (body t.what) / 4)
length-entry v epoch t f = let h = has_length t.what f.entry in all_of v epoch t ∙ omega (arith, h.size)

passes : (n end : ℕ) (ok : Bool) (f : LogFault) (x : Option LogFault) → ok ≡ true → x ≡ None → tested n end ok f x ≡ None
passes n end ok f x e none = grind (arith, nat_tests)

kind_right : (e : Entry) → is_kind (kind_of e) 0 ≡ true
kind_right (Reset r) = refl
kind_right (Async p) = refl
kind_right (Iso p) = refl
kind_right (Event e) = refl
kind_right (Outcome o) = refl
kind_right (Shown s) = refl
kind_right End = refl

length_right : (v : Version) (epoch : ℕ) (t : Timed) → TimedFits t → is_length (kind_of t.what) (length_of (entry_bytes v epoch t)) ≡ true
length_right v epoch t f =
    let h = has_length t.what f.entry in
    let e : length_of (entry_bytes v epoch t) ≡ h.quadlets = length_back v epoch t f ∙ omega (arith, h.size) in
    ap (is_length (kind_of t.what)) e ∙ h.right

later_right : (a b c : ℕ) → c ≡ b → a ≤ b → nat_le a c ≡ true
later_right a b c e le = grind (arith, nat_tests)

-- the epoch in a head
pub epoch_is : (v : Version) (epoch : ℕ) (t : Timed) → EpochFits v epoch → HasEpoch v epoch (entry_bytes v epoch t)
epoch_is One epoch t f = tt
epoch_is Two epoch t f = back epoch [] f

epoch_by : (epoch n : ℕ) (what : Entry) → n ≡ epoch_after epoch what → ((kind_of what == 1) || (n == epoch)) ≡ true
epoch_by epoch n (Reset r) e = refl
epoch_by epoch n (Async p) e = grind (arith, nat_tests)
epoch_by epoch n (Iso p) e = grind (arith, nat_tests)
epoch_by epoch n (Event x) e = grind (arith, nat_tests)
epoch_by epoch n (Outcome o) e = grind (arith, nat_tests)
epoch_by epoch n (Shown s) e = grind (arith, nat_tests)
epoch_by epoch n End e = grind (arith, nat_tests)

cycle_clear : (v : Version) (epoch place last : ℕ) (t : Timed) → TimedFits t → last ≤ t.cycle → cycle_fault v place last (entry_bytes v epoch t) ≡ None
cycle_clear v epoch place last t f later =
    passes (length (entry_bytes v epoch t)) (head_size v) (nat_le last (cycle_of v (entry_bytes v epoch t))) (fault_at (place + cycle_at v) TimeBack) None
    (later_right last t.cycle (cycle_of v (entry_bytes v epoch t)) (cycle_is v epoch t f) later) refl

epoch_clear : (v : Version) (epoch place last : ℕ) (t : Timed) → TimedFits t → last ≤ t.cycle → EpochFits v (epoch_after epoch t.what)
    → epoch_fault v epoch place (entry_bytes v (epoch_after epoch t.what) t) (cycle_fault v place last (entry_bytes v (epoch_after epoch t.what) t)) ≡ None
epoch_clear One epoch place last t f later fits = cycle_clear One (epoch_after epoch t.what) place last t f later
epoch_clear Two epoch place last t f later fits =
    let e : List ℕ = entry_bytes Two (epoch_after epoch t.what) t in
    passes (length e) 8 (is_epoch epoch e) (fault_at (place + 4) (BadEpoch (quadlet_at e 4))) (cycle_fault Two place last e)
    (epoch_by epoch (quadlet_at e 4) t.what (epoch_is Two (epoch_after epoch t.what) t fits)) (cycle_clear Two (epoch_after epoch t.what) place last t f later)

pub entry_clear : (v : Version) (epoch place last : ℕ) (t : Timed) → TimedFits t → last ≤ t.cycle → EpochFits v (epoch_after epoch t.what)
    → entry_fault v epoch place last (entry_bytes v (epoch_after epoch t.what) t) ≡ None
entry_clear v epoch place last t f later fits =
    let e : List ℕ = entry_bytes v (epoch_after epoch t.what) t in
    passes (length e) 2 (is_kind (kind_of t.what) 0) _ _ (kind_right t.what)
    (passes (length e) 4 (is_length (kind_of t.what) (length_of e)) _ _ (length_right v (epoch_after epoch t.what) t f)
    (epoch_clear v epoch place last t f later fits))

named : (v : Version) → is_some (version_of (number_of v)) ≡ true
named One = refl
named Two = refl

number_back : (v : Version) (rest : List ℕ) → quadlet_at (header_bytes v ++ rest) 4 ≡ number_of v
number_back One rest = refl
number_back Two rest = refl

-- the version that a header names
pub version_back : (v : Version) (rest : List ℕ) → version_in (header_bytes v ++ rest) ≡ v
version_back One rest = by (nat_le 8 (length (header_bytes One ++ rest)))
  where
    by : (b : Bool) → (if b && false then Two else One) ≡ One
    by true = refl
    by false = refl
version_back Two rest = by (nat_le 8 (length (header_bytes Two ++ rest))) (long (length (header_bytes Two ++ rest)) (omega (arith, length-append (header_bytes Two) rest)))
  where
    long : (n : ℕ) → 8 ≤ n → nat_le 8 n ≡ true
    long n h = grind (arith, nat_tests)

    by : (b : Bool) → b ≡ true → (if b && true then Two else One) ≡ Two
    by true e = refl
    by false e = cc e

header_clear : (v : Version) (rest : List ℕ) (x : Option LogFault) → x ≡ None → header_fault (header_bytes v ++ rest) x ≡ None
header_clear v rest x none =
    passes (length (header_bytes v ++ rest)) 4 (quadlet_at (header_bytes v ++ rest) 0 == 825440564) (fault_at 0 BadHeader) _ refl
    (passes (length (header_bytes v ++ rest)) 8 (is_some (version_of (quadlet_at (header_bytes v ++ rest) 4))) (fault_at 4 BadHeader) _
    (ap (λ n. is_some (version_of n)) (number_back v rest) ∙ named v)
    (passes (length (header_bytes v ++ rest)) 12 (quadlet_at (header_bytes v ++ rest) 8 == 0) (fault_at 8 BadHeader) _ refl
    (passes (length (header_bytes v ++ rest)) 16 (quadlet_at (header_bytes v ++ rest) 12 == 0) (fault_at 12 BadHeader) x refl none)))

-- the header alone, and nothing, show no fault
pub header_alone : (v : Version) (s : Position) → s.ended ≡ false → head_fault s (header_at v s.start) ≡ None
header_alone v s e = rw e (by (s.start == 0))
  where
    by : (first : Bool) → (if first then header_fault (if first then header_bytes v else [])
        (entry_fault (version_in (if first then header_bytes v else [])) s.epoch 16 s.last (drop 16 (if first then header_bytes v else [])))
        else entry_fault s.version s.epoch s.start s.last (if first then header_bytes v else [])) ≡ None
    by true = header_clear v [] (entry_fault (version_in (header_bytes v)) s.epoch 16 s.last []) (nothing (version_in (header_bytes v)))
      where
        nothing : (w : Version) → entry_fault w s.epoch 16 s.last [] ≡ None
        nothing One = refl
        nothing Two = refl
    by false = nothing s.version
      where
        nothing : (w : Version) → entry_fault w s.epoch s.start s.last [] ≡ None
        nothing One = refl
        nothing Two = refl

-- the bytes of an entry, after the header if it is the first, show no fault and are as many as it needs
clear_by : (first : Bool) (v w : Version) (epoch start last : ℕ) (bytes : List ℕ) (t : Timed) → TimedFits t → last ≤ t.cycle → EpochFits v (epoch_after epoch t.what)
    → (if first then version_in bytes else w) ≡ v → (if first then header_bytes v else []) ++ entry_bytes v (epoch_after epoch t.what) t ≡ bytes
    → (if first then header_fault bytes (entry_fault (version_in bytes) epoch 16 last (drop 16 bytes)) else entry_fault w epoch start last bytes) ≡ None
clear_by true v w epoch start last bytes t f later fits here e =
    let entry : List ℕ = entry_bytes v (epoch_after epoch t.what) t in
    let following : drop 16 bytes ≡ entry = ap (drop 16) (sym e) in
    ap (λ b. header_fault b (entry_fault (version_in bytes) epoch 16 last (drop 16 bytes))) (sym e)
    ∙ header_clear v entry (entry_fault (version_in bytes) epoch 16 last (drop 16 bytes))
    (ap (λ u. entry_fault u epoch 16 last (drop 16 bytes)) here ∙ ap (entry_fault v epoch 16 last) following ∙ entry_clear v epoch 16 last t f later fits)
clear_by false v w epoch start last bytes t f later fits here e =
    ap (λ u. entry_fault u epoch start last bytes) here ∙ ap (entry_fault v epoch start last) (sym e) ∙ entry_clear v epoch start last t f later fits

pub spelled_clear : (s : Position) (t : Timed) (bytes : List ℕ) → Spells s t bytes → head_fault s bytes ≡ None
spelled_clear s t bytes h = rw h.going_on (clear_by (s.start == 0) h.version s.version s.epoch s.start s.last bytes t h.fits h.later h.epoch h.here h.same)

-- the entry after the header
tail_by : (first : Bool) (v : Version) (e bytes : List ℕ) → (if first then header_bytes v else []) ++ e ≡ bytes → drop (if first then 16 else 0) bytes ≡ e
tail_by true v e bytes h = ap (drop 16) (sym h)
tail_by false v e bytes h = sym h

pub spelled_tail : (s : Position) (t : Timed) (bytes : List ℕ) (h : Spells s t bytes) → drop (skip s.start) bytes ≡ entry_bytes h.version (epoch_after s.epoch t.what) t
spelled_tail s t bytes h = tail_by (s.start == 0) h.version (entry_bytes h.version (epoch_after s.epoch t.what) t) bytes h.same

size_by : (first : Bool) (v : Version) (e bytes : List ℕ) → (if first then header_bytes v else []) ++ e ≡ bytes → length bytes ≡ (if first then 16 else 0) + length e
size_by true v e bytes h = ap length (sym h) ∙ length-append (header_bytes v) e
size_by false v e bytes h = omega (arith, ap length h)

pub spelled_complete : (s : Position) (t : Timed) (bytes : List ℕ) → Spells s t bytes → length bytes ≡ need s bytes
spelled_complete s t bytes h =
    let epoch : ℕ = epoch_after s.epoch t.what in
    let e : List ℕ = entry_bytes h.version epoch t in
    let size = size_by (s.start == 0) h.version e bytes h.same in
    size ∙ ap (λ n. skip s.start + n)
    (by (head_size h.version) (length e) (length_of e) (omega arith) (length-entry h.version epoch t h.fits ∙ ap (λ n. head_size h.version + 4 * n) (sym (length_back h.version epoch t h.fits)))
    ∙ ap (λ w. entry_need w e) (sym h.here) ∙ ap (entry_need (version_at s bytes)) (sym (spelled_tail s t bytes h)))
  where
    by : (k n m : ℕ) → 4 ≤ k → n ≡ k + 4 * m → n ≡ (if nat_lt n 4 then k else k + 4 * m)
    by k n m long e = grind (arith, nat_tests)

pub same_spelled : (s : Position) (t u : Timed) (bytes : List ℕ) → Spells s t bytes → Spells s u bytes → t ≡ u
same_spelled s t u bytes h g =
    let v : g.version ≡ h.version = sym g.here ∙ h.here in
    let other : header_at h.version s.start ++ entry_bytes h.version (epoch_after s.epoch u.what) u ≡ bytes =
    ap (λ w. header_at w s.start ++ entry_bytes w (epoch_after s.epoch u.what) u) (sym v) ∙ g.same in
    same_timed h.version (epoch_after s.epoch t.what) (epoch_after s.epoch u.what) t u h.fits g.fits
    (append_cancel_left (header_at h.version s.start) (entry_bytes h.version (epoch_after s.epoch t.what) t) (entry_bytes h.version (epoch_after s.epoch u.what) u) (h.same ∙ sym other))

-- the body, and the epoch in the head, of an entry that is spelled
pub spelled_body : (s : Position) (t : Timed) (bytes : List ℕ) → Spells s t bytes
    → IsBody (get_or (drop (skip s.start) bytes) 0 0) (drop (head_size (version_at s bytes)) (drop (skip s.start) bytes)) t.what
spelled_body s t bytes h =
    let epoch : ℕ = epoch_after s.epoch t.what in
    let P : List ℕ → Type 0 = λ e. IsBody (get_or e 0 0) (drop (head_size h.version) e) t.what in
    let Q : Version → Type 0 = λ w. IsBody (get_or (drop (skip s.start) bytes) 0 0) (drop (head_size w) (drop (skip s.start) bytes)) t.what in
    subst Q (sym h.here) (subst P (sym (spelled_tail s t bytes h)) (record { fits = h.fits.entry; kind = refl; same = sym (body_is h.version epoch t) }))

pub spelled_epoch : (s : Position) (t : Timed) (bytes : List ℕ) → Spells s t bytes → HasEpoch (version_at s bytes) (epoch_after s.epoch t.what) (drop (skip s.start) bytes)
spelled_epoch s t bytes h =
    let epoch : ℕ = epoch_after s.epoch t.what in
    let P : List ℕ → Type 0 = HasEpoch h.version epoch in
    let Q : Version → Type 0 = λ w. HasEpoch w epoch (drop (skip s.start) bytes) in
    subst Q (sym h.here) (subst P (sym (spelled_tail s t bytes h)) (epoch_is h.version epoch t h.epoch))
