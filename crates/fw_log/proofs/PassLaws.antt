-- Entries that are passed over.
use Rattle.fw_log.specs.declared.first.Found.{Found}
use Rattle.fw_log.proofs.Common.{◌≡◌, ℕ, ◌+◌, ◌-◌, ◌*◌, ◌≤◌, ◌<◌, List, [], ◌++◌, length, take, Bool, true, false, Option, Some, None, Ok, Result, refl, ap, sym, subst, ◌∙◌, arith, nat_tests, is_some}
use Rattle.fw_log.proofs.Common.{body, epoch_after, Timed, IsBody, is_length, version_at, IsPending, State, HoldsPending, EndsEntry, Joins, Feeds, Position, LogFault, LogFed}
use Rattle.fw_log_entry.specs.Log.{is_end}
use Rattle.fw_log.specs.Passing.{IsPassed, IsPlain, IsPlainBody, IsAnnotationBody, IsFirst, HeadFirst, PassesFirst, BodyFirst, AnnotationFirst, CountsUp, PassesOn, PassesBody, PassesAnnotation}
use Rattle.fw_log.specs.Reader.{after}
use Rattle.fw_log.specs.History.{HasRead}
use Rattle.fw_log.specs.declared.first_look.Passed.{Passed}
use Rattle.fw_log.specs.declared.first_look.PlainEntry.{PlainEntry}
use Rattle.fw_log.specs.declared.first_look.PlainHead.{PlainHead}
use Rattle.fw_log.specs.declared.plain.PlainBody.{PlainBody}
use Rattle.fw_log.proofs.ExactLaws.{counts}
use Rattle.fw_log.proofs.FeedLaws.{pending_of}
use Rattle.fw_log.proofs.FindLaws.{found_in, same_state, same_stand}
use Rattle.fw_log.proofs.KeptLaws.{kept_entry}
use Rattle.fw_log.proofs.HistoryLaws.{reads_on}
use Rattle.fw_log.proofs.PlainHeadLaws.{not_end, annotation_goes_on}

-- a reset has the quadlet of its epoch
pub reset_long : (kind n : ℕ) (more : List ℕ) → length more ≡ 4 * n → is_length kind n ≡ true → kind ≡ 1 → 4 ≤ length more
reset_long kind n more size fits e = omega (arith, size, five n (sym (ap (λ k. is_length k n) e) ∙ fits))
  where
    five : (n : ℕ) → is_length 1 n ≡ true → 5 ≤ n
    five n h = grind (arith, nat_tests)

pub passes_first : (s : Position) (bytes given : List ℕ) (h : PlainHead) → HeadFirst s bytes h → given ≡ h.content → IsPlain h.kind given → PassesFirst s bytes h.passed
passes_first s bytes given h first same plain =
    let P : List ℕ → Type 0 = λ x. IsBody h.kind x plain.entry in
    record {
      entry = record { cycle = h.passed.cycle; what = plain.entry };
      passed = plain.passed;
      first = first.first plain.entry (subst P same plain.is) (not_end plain.entry plain.passed);
    }

pub annotation_first : (s : Position) (bytes given : List ℕ) (kind : ℕ) (h : PlainHead) → HeadFirst s bytes h → given ≡ h.content → h.kind ≡ kind → IsAnnotationBody h.kind given
    → AnnotationFirst s bytes kind h
annotation_first s bytes given kind h first same is n =
    let P : List ℕ → Type 0 = λ x. IsBody h.kind x n.entry in
    let Q : ℕ → Type 0 = λ k. IsBody k h.content n.entry in
    let body = subst P same n.is in
    record {
      entry = record { cycle = h.passed.cycle; what = n.entry };
      is = subst Q is body;
      annotation = n.annotation;
      first = first.first n.entry body (annotation_goes_on n.entry n.annotation);
    }

pub body_first : (s : Position) (bytes given : List ℕ) (h : PlainHead) (b : PlainBody) → HeadFirst s bytes h → given ≡ h.content → IsPlainBody h.kind given b
    → BodyFirst s bytes (record { passed = h.passed; body = b })
body_first s bytes given h b first same plain =
    let P : List ℕ → Type 0 = λ x. IsBody h.kind x plain.entry in
    record {
      entry = record { cycle = h.passed.cycle; what = plain.entry };
      made = plain.made;
      first = first.first plain.entry (subst P same plain.is) plain.goes_on;
    }

-- the entry ends in the piece
pub record EndsPassed (s : Position) (old piece : List ℕ) (p : Passed) (entry : Timed) : Type 0 where
  pub goes_on : is_end entry.what ≡ false
  pub cycle : entry.cycle ≡ p.cycle
  pub version : p.version ≡ version_at s (old ++ take (p.end - length old) piece)
  pub epoch : p.epoch ≡ epoch_after s.epoch entry.what
  pub past : length old ≤ p.end
  pub some : 0 < p.end
  pub ends : EndsEntry s old piece (p.end - length old) entry
  pub size : length (old ++ take (p.end - length old) piece) ≡ p.end

ends_at : (s t : Position) (old kept piece bytes : List ℕ) (p : Passed) (entry : Timed) → IsPending s old → t ≡ s → kept ≡ old
    → Joins t kept piece bytes → IsFirst t bytes entry p → EndsPassed s old piece p entry
ends_at s t old kept piece bytes p entry pending e g j h =
    let found : Found = record { end = p.end; version = p.version; body = body entry.what; entry = entry } in
    let k = kept_entry s old piece found pending (found_in s t old kept piece bytes (Ok (Some found)) e g j (h.within, h.spells, refl, h.version)) in
    record {
      goes_on = h.goes_on;
      cycle = h.cycle;
      version = k.version;
      epoch = h.epoch ∙ ap (λ (x : Position). epoch_after x.epoch entry.what) e;
      past = k.past;
      some = k.some;
      ends = k.ends;
      size = k.size;
    }

-- of a reader without a fault, in the bytes at hand
pub ends_passed : (r : State) (stand : Position) (taken kept piece bytes : List ℕ) (fault : Option LogFault) (p : Passed) (entry : Timed)
    → record { stand = stand; taken = taken; fault = fault } ≡ r → HoldsPending stand taken fault → fault ≡ None → kept ≡ taken
    → Joins stand kept piece bytes → IsFirst stand bytes entry p → EndsPassed r.stand r.taken piece p entry
ends_passed r stand taken kept piece bytes fault p entry is holds clear same j h =
    let P : State → Type 0 = λ x. IsPending x.stand x.taken in
    ends_at r.stand stand r.taken kept piece bytes p entry (subst P is (pending_of stand taken fault clear holds)) (ap (λ (x : State). x.stand) is)
    (same ∙ ap (λ (x : State). x.taken) is) j h

-- what the reader gives if the entry is not passed over
abbrev pub fed : ℕ → Timed → Result LogFed LogFault
fed used t = Ok (record { used = used; entry = Some t; body = body t.what })

-- the reader stands after it
pub after_passed : (r : State) (piece : List ℕ) (p : Passed) (entry : Timed) (e : EndsPassed r.stand r.taken piece p entry) (n start : ℕ) (stand : Position) (taken : List ℕ)
    (fault : Option LogFault) → n ≡ length r.taken → start ≡ r.stand.start
    → stand ≡ record { start = start + p.end; last = p.cycle; ended = false; version = p.version; epoch = p.epoch } → taken ≡ [] → fault ≡ None
    → Feeds r.stand r.taken piece (fed (p.end - n) entry) (record { stand = stand; taken = taken; fault = fault })
after_passed r piece p entry e n start stand taken fault same from stands none clear =
    let P : ℕ → Type 0 = λ m. EndsEntry r.stand r.taken piece (p.end - m) entry in
    let cut : length (r.taken ++ take (p.end - n) piece) ≡ p.end = ap (λ (m : ℕ). length (r.taken ++ take (p.end - m) piece)) same ∙ e.size in
    let last : record { start = start + p.end; last = p.cycle; ended = false; version = p.version; epoch = p.epoch } ≡ (after r.stand (r.taken ++ take (p.end - n) piece) entry).stand =
    ap (λ c. let x : Position = record { start = start + p.end; last = c; ended = false; version = p.version; epoch = p.epoch } in x) (sym e.cycle)
    ∙ same_stand (start + p.end) (r.stand.start + length (r.taken ++ take (p.end - n) piece)) entry.cycle false (is_end entry.what)
    p.version (version_at r.stand (r.taken ++ take (p.end - n) piece)) p.epoch (epoch_after r.stand.epoch entry.what)
    (omega (arith, from, cut))
    (sym e.goes_on)
    (e.version ∙ ap (λ (m : ℕ). version_at r.stand (r.taken ++ take (p.end - m) piece)) (sym same))
    e.epoch in
    ((subst P (sym same) e.ends, same_state stand _ taken [] fault None (stands ∙ last) none clear), refl)

pub counts_up : (r new : State) (stand : Position) (taken piece : List ℕ) (fault : Option LogFault) (used : ℕ) (t : Timed)
    → record { stand = stand; taken = taken; fault = fault } ≡ r → HoldsPending stand taken fault → fault ≡ None → Feeds r.stand r.taken piece (fed used t) new
    → CountsUp r piece new used
counts_up r new stand taken piece fault used t is holds clear f =
    let P : State → Type 0 = λ x. IsPending x.stand x.taken in
    let c = counts r piece (fed used t) new f (subst P is (pending_of stand taken fault clear holds)) in
    record { total = c.0; within = c.1; some = c.2 }

pub passes_on : (r new : State) (piece : List ℕ) (entry : Timed) → IsPassed entry.what → (used : ℕ) → Feeds r.stand r.taken piece (fed used entry) new
    → (entries : List Timed) (bytes : List ℕ) → HasRead entries bytes r → PassesOn entries (bytes ++ take used piece) new
passes_on r new piece entry passed used f entries bytes h = record { entry = entry; passed = passed; read = reads_on entries bytes piece r new (fed used entry) h f }

pub passes_body : (r new : State) (piece : List ℕ) (s : Position) (all : List ℕ) (p : PlainEntry) (x : BodyFirst s all p) (used : ℕ)
    → Feeds r.stand r.taken piece (fed used x.entry) new → (entries : List Timed) (bytes : List ℕ) → HasRead entries bytes r
    → PassesBody entries (bytes ++ take used piece) new (record { used = used; cycle = p.passed.cycle; body = p.body })
passes_body r new piece s all p x used f entries bytes h = record {
  entry = x.entry;
  cycle = x.first.cycle;
  made = x.made;
  read = reads_on entries bytes piece r new (fed used x.entry) h f;
}

pub passes_annotation : (r new : State) (piece : List ℕ) (s : Position) (all : List ℕ) (kind : ℕ) (p : PlainHead) (x : AnnotationFirst s all kind p) (used : ℕ)
    → Feeds r.stand r.taken piece (fed used x.entry) new → (entries : List Timed) (bytes : List ℕ) → HasRead entries bytes r
    → PassesAnnotation entries (bytes ++ take used piece) new kind (record { used = used; cycle = p.passed.cycle; body = p.content })
passes_annotation r new piece s all kind p x used f entries bytes h = record {
  entry = x.entry;
  cycle = x.first.cycle;
  is = x.is;
  annotation = x.annotation;
  read = reads_on entries bytes piece r new (fed used x.entry) h f;
}

pub without_fault : (o : Option LogFault) (b : Bool) → b ≡ is_some o → b ≡ false → o ≡ None
without_fault None b e h = refl
without_fault (Some f) b e h = cc (e, h)
