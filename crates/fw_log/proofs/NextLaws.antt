-- The entry that comes next, and the reader after it.
use Rattle.fw_log.proofs.Common.{◌≡◌, ℕ, ◌+◌, ◌-◌, List, [], length, false, Option, Some, None, IfSome, refl, subst, State, HoldsPending, Joins, Feeds, Position, LogFault}
use Rattle.fw_log.specs.Next.{IsNext}
use Rattle.fw_log.specs.Passing.{BodyFirst}
use Rattle.fw_log.specs.declared.first_look.PlainEntry.{PlainEntry}
use Rattle.fw_log.proofs.PassLaws.{EndsPassed, ends_passed, after_passed, fed}

-- of a reader without a fault, in the bytes at hand
pub is_next : (r : State) (stand : Position) (taken kept piece bytes : List ℕ) (fault : Option LogFault) (o : Option PlainEntry)
    → record { stand = stand; taken = taken; fault = fault } ≡ r → fault ≡ None → kept ≡ taken → Joins stand kept piece bytes → IfSome o (BodyFirst stand bytes)
    → IfSome o (IsNext r piece)
is_next r stand taken kept piece bytes fault None is clear same j first = tt
is_next r stand taken kept piece bytes fault (Some p) is clear same j first =
    let J : List ℕ → Type 0 = λ t. Joins stand t piece bytes in
    let P : State → Type 0 = λ x. IsNext x piece p in
    subst P is (record { clear = clear; bytes = bytes; joins = subst J same j; next = first })

pub holds_at : (r : State) (stand : Position) (taken : List ℕ) (fault : Option LogFault) → record { stand = stand; taken = taken; fault = fault } ≡ r
    → HoldsPending stand taken fault → HoldsPending r.stand r.taken r.fault
holds_at r stand taken fault is holds =
    let P : State → Type 0 = λ x. HoldsPending x.stand x.taken x.fault in
    subst P is holds

-- it ends in the piece
pub next_ends : (r : State) (piece : List ℕ) (p : PlainEntry) (x : IsNext r piece p) → HoldsPending r.stand r.taken r.fault → EndsPassed r.stand r.taken piece p.passed x.next.entry
next_ends r piece p x holds = ends_passed r r.stand r.taken r.taken piece x.bytes r.fault p.passed x.next.entry refl holds x.clear refl x.joins x.next.first

-- after it
pub next_feeds : (r : State) (piece : List ℕ) (p : PlainEntry) (x : IsNext r piece p) (n start : ℕ) (stand : Position) (taken : List ℕ) (fault : Option LogFault)
    → HoldsPending r.stand r.taken r.fault → n ≡ length r.taken → start ≡ r.stand.start
    → stand ≡ record { start = start + p.passed.end; last = p.passed.cycle; ended = false; version = p.passed.version; epoch = p.passed.epoch } → taken ≡ [] → fault ≡ None
    → Feeds r.stand r.taken piece (fed (p.passed.end - n) x.next.entry) (record { stand = stand; taken = taken; fault = fault })
next_feeds r piece p x n start stand taken fault holds size from stands none clear =
    after_passed r piece p.passed x.next.entry (next_ends r piece p x holds) n start stand taken fault size from stands none clear
