-- A packet or an annotation that is found at the first look.
use Rattle.fw_log.proofs.Common.{◌≡◌, ℕ, List, Option, Some, Ok, Result, refl, sym, subst, ◌∙◌, Entry, Async, IsBody, Joins, Position, LogFault}
use Rattle.fw_async.specs.Reader.{IsPacket}
use Rattle.fw_async.specs.declared.packet.Packet.{Packet}
use Rattle.fw_log.specs.Passing.{HeadFirst, IsAnnotation}
use Rattle.fw_log.specs.Reader.{Finds, FindsIn}
use Rattle.fw_log.specs.declared.first.Found.{Found}
use Rattle.fw_log.specs.declared.first_look.PlainHead.{PlainHead}
use Rattle.fw_log.proofs.FindLaws.{found_in}
use Rattle.fw_log.proofs.PlainHeadLaws.{annotation_goes_on}

pub found_packet : (s : Position) (bytes given : List ℕ) (h : PlainHead) (p : Packet) → HeadFirst s bytes h → given ≡ h.content → h.kind ≡ 2 → (x : IsPacket given) → p ≡ x.packet
    → Finds s bytes (Ok (Some (record { end = h.passed.end; version = h.passed.version; body = h.content; entry = record { cycle = h.passed.cycle; what = Async p } })))
found_packet s bytes given h p head same kind x is =
    let body : IsBody h.kind h.content (Async x.packet) = record { fits = x.spells.fits; kind = sym kind; same = x.spells.same ∙ same } in
    let f = head.first (Async x.packet) body refl in
    let P : Packet → Type 0 = λ q. Finds s bytes (Ok (Some (record { end = h.passed.end; version = h.passed.version; body = h.content; entry = record { cycle = h.passed.cycle; what = Async q } }))) in
    subst P (sym is) (f.within, f.spells, sym body.same, f.version)

pub found_annotation : (s : Position) (bytes given : List ℕ) (h : PlainHead) (e : Entry) → HeadFirst s bytes h → given ≡ h.content → IsBody h.kind given e → IsAnnotation e
    → Finds s bytes (Ok (Some (record { end = h.passed.end; version = h.passed.version; body = h.content; entry = record { cycle = h.passed.cycle; what = e } })))
found_annotation s bytes given h e head same b annotation =
    let body : IsBody h.kind h.content e = record { fits = b.fits; kind = b.kind; same = b.same ∙ same } in
    let f = head.first e body (annotation_goes_on e annotation) in
    (f.within, f.spells, sym body.same, f.version)

-- by another place
pub joins_at : (s t : Position) (old kept piece bytes : List ℕ) → t ≡ s → kept ≡ old → Joins t kept piece bytes → Joins s old piece bytes
joins_at s t old kept piece bytes e g j =
    let P : Position → Type 0 = λ x. Joins x kept piece bytes in
    let Q : List ℕ → Type 0 = λ x. Joins s x piece bytes in
    subst Q g (subst P e j)

pub found_at : (s t : Position) (old piece bytes : List ℕ) (r : Result (Option Found) LogFault) → t ≡ s → Joins s old piece bytes → Finds t bytes r → FindsIn s old piece r
found_at s t old piece bytes r e j f =
    let P : Position → Type 0 = λ x. Finds x bytes r in
    found_in s s old old piece bytes r refl refl j (subst P e f)
