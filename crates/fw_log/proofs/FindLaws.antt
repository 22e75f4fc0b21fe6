-- What is found in bytes at hand.
use Rattle.fw_log.proofs.Common.{◌≡◌, inl, inr, ℕ, ◌+◌, ◌-◌, ◌≤◌, ◌<◌, List, [], ◌∷◌, ◌++◌, length, take, drop, Bool, Option, Some, None, Result, Ok, Err, arith, refl, ap, sym, subst, ◌∙◌, State}
use Rattle.fw_log.proofs.Common.{length-append, cases_lt, take-append-drop, length-take-le, take_all, drop-drop, AreBytes, head_size, body, Version, head_fault, skip, version_at, need, IsPending}
use Rattle.fw_log.proofs.Common.{IsComplete, Spells, Faulty, WrongBody, HoldsPending, Joins, ShowsFault, Position, Timed, LogFault}
use Rattle.std.proofs.Common.{◌⊎◌}
use Rattle.fw_log.specs.Reader.{Ends, Finds, FindsIn}
use Rattle.fw_log.specs.declared.first.Found.{Found}
use Rattle.fw_log.proofs.ByteLaws.{are_bytes_part}
use Rattle.fw_log.proofs.EntryLaws.{complete_head}
use Rattle.fw_log.proofs.SameLaws.{spelled_body}
use Rattle.fw_log.proofs.FeedLaws.{further}
use Rattle.fw_log.proofs.StayLaws.{need_least}
use Rattle.fw_log.proofs.ShownLaws.{need_same, clear_by, prefix_pending}
use Rattle.fw_log.proofs.KeptLaws.{length_joined}

-- the beginning that is the first entry
record FirstEntry (s : Position) (bytes : List ℕ) (n : ℕ) : Type 0 where
  pub clear : head_fault s (take n bytes) ≡ None
  pub size : length (take n bytes) ≡ n
  pub whole : length (take n bytes) ≡ need s (take n bytes)
  pub some : 12 ≤ n

first_of : (s : Position) (bytes : List ℕ) (n : ℕ) → Ends s bytes (Ok (Some n)) → FirstEntry s bytes n
first_of s bytes n h =
    let size : length (take n bytes) ≡ n = length-take-le n bytes h.2 in
    let parts : take n bytes ++ drop n bytes ≡ bytes = take-append-drop n bytes in
    let low = need_least s bytes in
    let same : need s bytes ≡ need s (take n bytes) = ap (need s) (sym parts) ∙ need_same s (take n bytes) (drop n bytes) (omega (arith, h.1)) in
    record {
      clear = clear_by s (take n bytes) (drop n bytes) (head_fault s (take n bytes)) refl (ap (head_fault s) parts ∙ h.0);
      size = size;
      whole = size ∙ h.1 ∙ same;
      some = omega (arith, h.1);
    }

pub first_complete : (v : Version) (s : Position) (bytes : List ℕ) (n : ℕ) → AreBytes bytes → v ≡ version_at s (take n bytes) → Ends s bytes (Ok (Some n)) → IsComplete v s (take n bytes)
first_complete v s bytes n fit is h =
    let e = first_of s bytes n h in
    let P : Version → Type 0 = λ w. IsComplete w s (take n bytes) in
    subst P (sym is) (complete_head s (take n bytes) (are_bytes_part bytes n 0 fit) e.clear e.whole)

-- the body of the entry that is given
pub body_after : (v : Version) (s : Position) (bytes rest : List ℕ) (t : Timed) (at head : ℕ) → v ≡ version_at s bytes → at ≡ skip s.start → head ≡ head_size v
    → rest ≡ drop (at + head) bytes → Spells s t bytes → rest ≡ body t.what
body_after v s bytes rest t at head is here size after h =
    let e : version_at s bytes ≡ v = sym is in
    after ∙ ap (λ n. drop (n + head) bytes) here ∙ ap (λ n. drop (skip s.start + n) bytes) size
    ∙ sym (drop-drop (head_size v) (skip s.start) bytes ∙ ap (λ n. drop n bytes) (omega arith))
    ∙ ap (λ w. drop (head_size w) (drop (skip s.start) bytes)) (sym e) ∙ sym (spelled_body s t bytes h).same

-- a body that is refused is refused with its last byte
pub first_wrong : (s : Position) (bytes : List ℕ) (n : ℕ) (f : LogFault) → Ends s bytes (Ok (Some n)) → WrongBody s (take n bytes) f → (k : ℕ) × ShowsFault s [] bytes k f
first_wrong s bytes n f h w =
    let e = first_of s bytes n h in
    let last : n - 1 + 1 ≡ n = omega (arith, e.some) in
    let parts : take n bytes ≡ take (n - 1) bytes ++ take (n - (n - 1)) (drop (n - 1) bytes) = further [] bytes (n - 1) n (omega arith) in
    let some : 0 < length (take (n - (n - 1)) (drop (n - 1) bytes)) =
    omega (arith, ap length parts, length-append (take (n - 1) bytes) (take (n - (n - 1)) (drop (n - 1) bytes)), e.size, e.some, length-take-le (n - 1) bytes (omega (arith, h.2))) in
    let P : ℕ → Type 0 = λ m. Faulty s (take m bytes) f in
    let Q : List ℕ → Type 0 = λ x. length x ≡ need s x in (
      n - 1,
      record {
        within = omega (arith, h.2, e.some);
        before = prefix_pending s (take (n - 1) bytes) (take (n - (n - 1)) (drop (n - 1) bytes)) some (ap (head_fault s) (sym parts) ∙ e.clear) (subst Q parts e.whole);
        shown = subst P (sym last) (inr (record { no_fault = e.clear; complete = e.whole; wrong = w }));
      },
    )

pub ends_at : (s : Position) (bytes : List ℕ) (o : Option ℕ) (n : ℕ) → o ≡ Some n → Ends s bytes (Ok o) → Ends s bytes (Ok (Some n))
ends_at s bytes o n e h = let P : Option ℕ → Type 0 = λ x. Ends s bytes (Ok x) in subst P e h

-- what was found, by its two cases
pub found_as : (s : Position) (old piece : List ℕ) (r : Result (Option Found) LogFault) (o p : Option Found) → r ≡ Ok o → o ≡ p → FindsIn s old piece r → FindsIn s old piece (Ok p)
found_as s old piece r o p e g h =
    let P : Result (Option Found) LogFault → Type 0 = FindsIn s old piece in
    subst P (e ∙ ap (λ (x : Option Found). let y : Result (Option Found) LogFault = Ok x in y) g) h

pub found_err : (s : Position) (old piece : List ℕ) (r : Result (Option Found) LogFault) (f : LogFault) → r ≡ Err f → FindsIn s old piece r → FindsIn s old piece (Err f)
found_err s old piece r f e h = let P : Result (Option Found) LogFault → Type 0 = FindsIn s old piece in subst P e h

pub pending_at : (s t : Position) (a b : List ℕ) → t ≡ s → b ≡ a → IsPending s a → IsPending t b
pending_at s t a b e g h =
    let P : Position → Type 0 = λ x. IsPending x a in
    let Q : List ℕ → Type 0 = IsPending t in
    subst Q (sym g) (subst P (sym e) h)

pub holds_by : (s : Position) (taken : List ℕ) (f : Option LogFault) → f ≡ None → IsPending s taken → HoldsPending s taken f
holds_by s taken None e h = h
holds_by s taken (Some f) e h = cc

pub same_state : (s t : Position) (a b : List ℕ) (f g : Option LogFault) → s ≡ t → a ≡ b → f ≡ g → let x : State = record { stand = s; taken = a; fault = f } in
    let y : State = record { stand = t; taken = b; fault = g } in x ≡ y
same_state s t a b f g d e h =
    ap (λ (z : Position). let x : State = record { stand = z; taken = a; fault = f } in x) d
    ∙ ap (λ (z : List ℕ). let x : State = record { stand = t; taken = z; fault = f } in x) e
    ∙ ap (λ (z : Option LogFault). let x : State = record { stand = t; taken = b; fault = z } in x) h

pub same_stand : (a b last : ℕ) (x y : Bool) (v w : Version) (n m : ℕ) → a ≡ b → x ≡ y → v ≡ w → n ≡ m →
    let s : Position = record { start = a; last = last; ended = x; version = v; epoch = n } in
    let t : Position = record { start = b; last = last; ended = y; version = w; epoch = m } in s ≡ t
same_stand a b last x y v w n m e g k l =
    ap (λ (z : ℕ). let s : Position = record { start = z; last = last; ended = x; version = v; epoch = n } in s) e
    ∙ ap (λ (z : Bool). let s : Position = record { start = b; last = last; ended = z; version = v; epoch = n } in s) g
    ∙ ap (λ (z : Version). let s : Position = record { start = b; last = last; ended = y; version = z; epoch = n } in s) k
    ∙ ap (λ (z : ℕ). let s : Position = record { start = b; last = last; ended = y; version = w; epoch = z } in s) l

-- the piece alone, or what was kept and as much of the piece as there is room for, or as the entry takes
pub joins_none : (s : Position) (old piece : List ℕ) → length old ≡ 0 → Joins s old piece piece
joins_none s old piece none = record {
  count = length piece;
  within = omega arith;
  enough = λ less. absurd (omega arith);
  same = sym (ap (λ x. x ++ take (length piece) piece) (empty old none) ∙ take_all (length piece) piece (omega arith));
}
  where
    empty : (xs : List ℕ) → length xs ≡ 0 → xs ≡ []
    empty [] h = refl
    empty (x ∷ xs) h = absurd (omega arith)

pub joins_both : (s : Position) (old piece bytes : List ℕ) (whole : ℕ) → length old ≤ whole → (whole ≡ 2308) ⊎ ((skip s.start + 4 ≤ length old) × (whole ≡ need s old))
    → bytes ≡ old ++ take (whole - length old) piece → Joins s old piece bytes
joins_both s old piece bytes whole low known same = record {
  count = length piece - (length piece - (whole - length old));
  within = omega arith;
  enough = λ less. elim known [
    | inl full ↦ inl (omega (arith, full, low, less))
    | inr head ↦
        let needs : need s bytes ≡ whole = ap (need s) same ∙ need_same s old (take (whole - length old) piece) head.0 ∙ sym head.1 in
        let size : length bytes ≡ length old + (whole - length old) = ap length same ∙ length_joined old piece (whole - length old) (omega (arith, less)) in
        inr (omega (arith, needs, size, low))
  ];
  same = same ∙ ap (λ x. old ++ x) (at_most (whole - length old) piece);
}
  where
    at_most : (n : ℕ) (xs : List ℕ) → take n xs ≡ take (length xs - (length xs - n)) xs
    at_most n xs = elim (cases_lt n (length xs)) [
      | inl less ↦ let e : n ≡ length xs - (length xs - n) = omega arith in ap (λ (k : ℕ). take k xs) e
      | inr more ↦ take_all n xs more ∙ sym (take_all (length xs - (length xs - n)) xs (omega arith))
    ]

-- what was found in the bytes at hand
pub found_in : (s t : Position) (old kept piece bytes : List ℕ) (r : Result (Option Found) LogFault) → t ≡ s → kept ≡ old → Joins t kept piece bytes → Finds t bytes r → FindsIn s old piece r
found_in s t old kept piece bytes r e g j h =
    let P : Position → Type 0 = λ x. Finds x bytes r in
    let Q : List ℕ → Type 0 = λ x. Finds s x r in
    let R : List ℕ → Type 0 = λ x. FindsIn s x piece r in
    let D : Position → Type 0 = λ x. j.count < length piece → (2308 ≤ length kept + j.count) ⊎ (need x bytes ≤ length bytes) in
    let E : List ℕ → Type 0 = λ x. j.count < length piece → (2308 ≤ length kept + j.count) ⊎ (need s x ≤ length x) in
    subst R g (record { count = j.count; within = j.within; enough = subst E j.same (subst D e j.enough); finds = subst Q j.same (subst P e h) })
