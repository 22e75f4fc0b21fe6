-- The body, the cycle and the epoch that are an entry's spell its bytes; a body or an epoch that is none is refused.
use Rattle.fw_log.proofs.Common.{◌≡◌, ℕ, ◌+◌, ◌*◌, ◌/◌, ◌^◌, ◌≤◌, ◌<◌, List, ◌++◌, ◌==◌, ◌||◌, inl, inr, length, drop, get_or, nat_le, true, false, arith, refl, ap, sym, subst, ◌∙◌, length-drop}
use Rattle.fw_log.proofs.Common.{nat_tests, quadlet_at, AreBytes, head_size, epoch_after, body, kind_of, Version, One, Two, Entry, Reset, Async, Iso, Event, Outcome, Shown, End, fault_at, skip}
use Rattle.fw_log.proofs.Common.{length_of, cycle_of, is_kind, is_length, HasEpoch, IsComplete, Spells, WrongBody, Position, IsBody, BodyRefused, Timed, BodyFault, Fields}
use Rattle.std.proofs.lemmas.List.{get_or-drop}
use Rattle.fw_log.proofs.ByteLaws.{are_bytes_part}
use Rattle.fw_log_entry.specs.Log.{entry_head, entry_bytes}
use Rattle.fw_log.specs.Reading.{header_at, has_epoch, is_written, is_own_epoch, EpochFits, EntryRefused, HeadFits}
use Rattle.fw_log.specs.declared.LogWhy.TheVariants.{BadBody}
use Rattle.fw_log.proofs.EntryLaws.{equal, entry_back}

kind_alone : (k low : ℕ) → is_kind k low ≡ true → (is_kind k 0 ≡ true) × (low ≡ 0)
kind_alone k low h = (grind (arith, nat_tests), grind (arith, nat_tests))

-- the epoch in the head of an entry that is no reset is that of the latest reset, and in that of a reset its own
other_epoch : (v : Version) (epoch k : ℕ) (e : List ℕ) → has_epoch v epoch e ≡ true → get_or e 0 0 ≡ k → (k == 1) ≡ false → HasEpoch v epoch e
other_epoch One epoch k e h is apart = tt
other_epoch Two epoch k e h is apart = by (get_or e 0 0) k (quadlet_at e 4) epoch h is apart
  where
    by : (a k q epoch : ℕ) → ((a == 1) || (q == epoch)) ≡ true → a ≡ k → (k == 1) ≡ false → q ≡ epoch
    by a k q epoch h is apart = grind (arith, nat_tests)

written : (v : Version) (epoch : ℕ) (e : List ℕ) → is_written v epoch e ≡ true → HasEpoch v epoch e
written One epoch e h = tt
written Two epoch e h = equal (quadlet_at e 4) epoch h

not_written : (v : Version) (epoch : ℕ) (e : List ℕ) → is_written v epoch e ≡ false → HasEpoch v epoch e → ⊥
not_written One epoch e h own = cc h
not_written Two epoch e h own = by (quadlet_at e 4) epoch h own
  where
    by : (a b : ℕ) → (a == b) ≡ false → a ≡ b → ⊥
    by a b h e = grind (arith, nat_tests)

pub own_epoch : (v : Version) (epoch : ℕ) (e : List ℕ) (what : Entry) → has_epoch v epoch e ≡ true → kind_of what ≡ get_or e 0 0 → is_own_epoch v what e ≡ true
    → HasEpoch v (epoch_after epoch what) e
own_epoch v epoch e (Reset r) h k own = written v r.epoch e own
own_epoch v epoch e (Async p) h k own = other_epoch v epoch 2 e h (sym k) refl
own_epoch v epoch e (Iso p) h k own = other_epoch v epoch 3 e h (sym k) refl
own_epoch v epoch e (Event x) h k own = other_epoch v epoch 4 e h (sym k) refl
own_epoch v epoch e (Outcome o) h k own = other_epoch v epoch 5 e h (sym k) refl
own_epoch v epoch e (Shown s) h k own = other_epoch v epoch 6 e h (sym k) refl
own_epoch v epoch e End h k own = other_epoch v epoch 7 e h (sym k) refl

pub not_own_epoch : (v : Version) (epoch : ℕ) (e : List ℕ) (what : Entry) → is_own_epoch v what e ≡ false → HasEpoch v (epoch_after epoch what) e → ⊥
not_own_epoch v epoch e (Reset r) own = not_written v r.epoch e own
not_own_epoch v epoch e (Async p) own = cc own
not_own_epoch v epoch e (Iso p) own = cc own
not_own_epoch v epoch e (Event x) own = cc own
not_own_epoch v epoch e (Outcome o) own = cc own
not_own_epoch v epoch e (Shown s) own = cc own
not_own_epoch v epoch e End own = cc own

-- an epoch that stands in a head fits
epoch_fits : (v : Version) (epoch : ℕ) (e : List ℕ) → AreBytes e → HasEpoch v epoch e → EpochFits v epoch
epoch_fits One epoch e fit own = tt
epoch_fits Two epoch e fit own = let p = are_bytes_part e 4 4 fit in omega (arith, own, p 0, p 1, p 2, p 3)

-- a body that is an entry's, its cycle, and an epoch in the head spell the bytes
pub spelled_by : (v : Version) (s : Position) (bytes e : List ℕ) (t : Timed) → AreBytes e → e ≡ drop (skip s.start) bytes → IsComplete v s bytes → t.cycle ≡ cycle_of v e
    → HasEpoch v (epoch_after s.epoch t.what) e → IsBody (get_or e 0 0) (drop (head_size v) e) t.what → Spells s t bytes
spelled_by v s bytes e t fit is w c own b =
    let epoch : ℕ = epoch_after s.epoch t.what in
    let P : List ℕ → Type 0 = HeadFits v s.epoch s.last in
    let h = subst P (sym is) w.head in
    let size : length e ≡ head_size v + 4 * length_of e = let Q : List ℕ → Type 0 = λ x. length x ≡ head_size v + 4 * length_of x in subst Q (sym is) w.size in
    let k = kind_alone (get_or e 0 0) (get_or e 1 0) h.kind in
    let back = entry_back v epoch e fit size k.1 own in
    let mine : entry_bytes v epoch t ≡ e =
    ap (λ x. entry_head v epoch x (length (body t.what) / 4) t.cycle ++ body t.what) b.kind
    ∙ ap (λ x. entry_head v epoch (get_or e 0 0) (length x / 4) t.cycle ++ x) b.same
    ∙ ap (λ x. entry_head v epoch (get_or e 0 0) (length (drop (head_size v) e) / 4) x ++ drop (head_size v) e) c
    ∙ back in
    record {
      going_on = w.going_on;
      fits = record { cycle = rw c (below v e fit); entry = b.fits };
      later = rw c (later s.last (cycle_of v e) h.later);
      version = v;
      here = w.here;
      epoch = epoch_fits v epoch e fit own;
      same = ap (λ x. header_at v s.start ++ x) (mine ∙ is) ∙ w.before;
    }
  where
    later : (a b : ℕ) → nat_le a b ≡ true → a ≤ b
    later a b h = grind (arith, nat_tests)

    below : (v : Version) (e : List ℕ) → AreBytes e → cycle_of v e < 2 ^ 64
    below One e fit = let p = are_bytes_part e 8 4 fit in omega (arith, p 0, p 1, p 2, p 3, p 4, p 5, p 6, p 7)
    below Two e fit = let p = are_bytes_part e 8 8 fit in omega (arith, p 0, p 1, p 2, p 3, p 4, p 5, p 6, p 7)

pub bytes_drop : (bytes : List ℕ) (k : ℕ) → AreBytes bytes → AreBytes (drop k bytes)
bytes_drop bytes k fit i = rw (get_or-drop k bytes i 0) (fit (k + i))

-- the part of the bytes that the code looks at
pub entry_is : (start at : ℕ) (bytes e : List ℕ) → at ≡ skip start → e ≡ drop at bytes → e ≡ drop (skip start) bytes
entry_is start at bytes e a b = b ∙ ap (λ k. drop k bytes) a

pub kind_of_complete : (v : Version) (s : Position) (bytes e : List ℕ) → e ≡ drop (skip s.start) bytes → IsComplete v s bytes → is_kind (get_or e 0 0) 0 ≡ true
kind_of_complete v s bytes e is w = rw is (kind_alone (get_or (drop (skip s.start) bytes) 0 0) (get_or (drop (skip s.start) bytes) 1 0) w.head.kind).0

pub size_of_complete : (v : Version) (s : Position) (bytes e more : List ℕ) → e ≡ drop (skip s.start) bytes → more ≡ drop (head_size v) e → IsComplete v s bytes
    → (n : ℕ) × (length more ≡ 4 * n) × (is_length (get_or e 0 0) n ≡ true)
size_of_complete v s bytes e more is after w =
    let size : length e ≡ head_size v + 4 * length_of e = let Q : List ℕ → Type 0 = λ x. length x ≡ head_size v + 4 * length_of x in subst Q (sym is) w.size in
    (length_of e, ap length after ∙ omega (arith, size, length-drop (head_size v) e), rw is w.head.size)

pub long_of_complete : (v : Version) (s : Position) (bytes e : List ℕ) → e ≡ drop (skip s.start) bytes → IsComplete v s bytes → head_size v ≤ length e
long_of_complete v s bytes e is w = rw is (omega (arith, w.size))

pub complete_ok : (v : Version) (s : Position) (bytes e more : List ℕ) (t : Timed) → AreBytes bytes → e ≡ drop (skip s.start) bytes → more ≡ drop (head_size v) e → IsComplete v s bytes
    → t.cycle ≡ cycle_of v e → HasEpoch v (epoch_after s.epoch t.what) e → IsBody (get_or e 0 0) more t.what → Spells s t bytes
complete_ok v s bytes e more t fit is after w c own b =
    let A : List ℕ → Type 0 = AreBytes in
    let B : List ℕ → Type 0 = λ x. IsBody (get_or e 0 0) x t.what in
    spelled_by v s bytes e t (subst A (sym is) (bytes_drop bytes (skip s.start) fit)) is w c own (subst B after b)

pub complete_own : (v : Version) (s : Position) (bytes e more : List ℕ) (what : Entry) → e ≡ drop (skip s.start) bytes → IsComplete v s bytes
    → IsBody (get_or e 0 0) more what → is_own_epoch v what e ≡ true → HasEpoch v (epoch_after s.epoch what) e
complete_own v s bytes e more what is w b own =
    let P : List ℕ → Type 0 = HeadFits v s.epoch s.last in
    own_epoch v s.epoch e what (subst P (sym is) w.head).latest b.kind own

pub complete_err : (v : Version) (s : Position) (at head : ℕ) (bytes e : List ℕ) (g : BodyFault) → at ≡ skip s.start → head ≡ head_size v → e ≡ drop (skip s.start) bytes → IsComplete v s bytes
    → EntryRefused v s.epoch e g → WrongBody s bytes (fault_at (s.start + (at + head)) (BadBody g))
complete_err v s at head bytes e g here size is w r =
    let C : List ℕ → Type 0 = λ x. EntryRefused v s.epoch x g in
    record {
      why = g;
      version = v;
      here = w.here;
      is = ap (λ n. fault_at (s.start + (n + head)) (BadBody g)) here ∙ ap (λ n. fault_at (s.start + (skip s.start + n)) (BadBody g)) size;
      refused = subst C is r;
    }

-- a body that is refused, and the epoch of a reset that is
pub refused_body : (v : Version) (epoch : ℕ) (e more : List ℕ) (g : BodyFault) → more ≡ drop (head_size v) e → BodyRefused (get_or e 0 0) more g → EntryRefused v epoch e g
refused_body v epoch e more g after b = let B : List ℕ → Type 0 = λ x. BodyRefused (get_or e 0 0) x g in inl (subst B after b)

pub refused_epoch : (v : Version) (epoch : ℕ) (e more : List ℕ) (what : Entry) → more ≡ drop (head_size v) e → IsBody (get_or e 0 0) more what → is_own_epoch v what e ≡ false
    → EntryRefused v epoch e Fields
refused_epoch v epoch e more what after b own =
    let B : List ℕ → Type 0 = λ x. IsBody (get_or e 0 0) x what in
    inr (refl, record { entry = what; body = subst B after b; other = not_own_epoch v epoch e what own })
