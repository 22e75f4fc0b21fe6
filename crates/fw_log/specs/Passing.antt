-- Entries that are passed over.
use Rattle.std.specs.Prelude.{◌≡◌, true, false, ◌⊎◌, ℕ, ◌+◌, ◌*◌, ◌≤◌, ◌<◌, slice_index, List, [], ◌∷◌, ◌++◌, length, take}
use Rattle.fw_log_entry.specs.declared.entry.Entry.{Entry}
use Rattle.fw_log_entry.specs.declared.entry.Entry.TheVariants.{Reset, Async, Iso, Event, Outcome, Shown, End}
use Rattle.fw_log_entry.specs.declared.entry.Timed.{Timed}
use Rattle.fw_log.specs.Bodies.{IsBody}
use Rattle.fw_log_entry.specs.Log.{epoch_after, is_end, body, ResetFits}
use Rattle.fw_log_entry.specs.declared.entry.ResetEntry.{ResetEntry}
use Rattle.fw_log_entry.specs.declared.version.Version.{Version}
use Rattle.fw_words.specs.Quadlet.{quadlet_at}
use Rattle.fw_log.specs.Reading.{is_kind, is_length, version_at, HasEpoch, Spells}
use Rattle.fw_log.specs.Reader.{State, total}
use Rattle.fw_log.specs.History.{HasRead}
use Rattle.fw_log.specs.Stands.{Position}
use Rattle.fw_async.specs.Reader as Packets
use Rattle.fw_cip.specs.Iso.{Fits as IsoFits, spelling as iso_spelling}
use Rattle.fw_cip.specs.declared.packet.IsoPacket.{IsoPacket}
use Rattle.fw_async.specs.declared.packet.Packet.{Packet}
use Rattle.fw_log.specs.declared.first_look.Passed.{Passed}
use Rattle.fw_log.specs.declared.first_look.PlainHead.{PlainHead}
use Rattle.fw_log.specs.declared.first_look.PlainEntry.{PlainEntry}
use Rattle.fw_log.specs.declared.plain.PlainBody.{PlainBody}
use Rattle.fw_log.specs.declared.plain.PlainBody.TheVariants as PlainBodies
use Rattle.fw_log.specs.declared.passing.PassedBody.{PassedBody}
use Rattle.fw_log.specs.declared.annotation.PassedAnnotation.{PassedAnnotation}

-- an entry that may be passed over: it is of no stream, and others may follow
abbrev pub IsPassed : Entry → Type 0
IsPassed (Reset r) = Unit {0}
IsPassed (Async p) = Unit {0}
IsPassed (Iso p) = ⊥
IsPassed (Event e) = Unit {0}
IsPassed (Outcome o) = Unit {0}
IsPassed (Shown s) = Unit {0}
IsPassed End = ⊥

-- the bytes are the body of some entry of this kind that may be passed over
pub record IsPlain (kind : ℕ) (bytes : List ℕ) : Type 0 where
  pub entry : Entry
  pub is : IsBody kind bytes entry
  pub passed : IsPassed entry

-- an annotation: an entry that is no traffic, no bus reset and not the end
abbrev pub IsAnnotation : Entry → Type 0
IsAnnotation (Reset r) = ⊥
IsAnnotation (Async p) = ⊥
IsAnnotation (Iso p) = ⊥
IsAnnotation (Event e) = Unit {0}
IsAnnotation (Outcome o) = Unit {0}
IsAnnotation (Shown s) = Unit {0}
IsAnnotation End = ⊥

-- the bytes are the body of some annotation of this kind
pub record IsAnnotationBody (kind : ℕ) (bytes : List ℕ) : Type 0 where
  pub entry : Entry
  pub is : IsBody kind bytes entry
  pub annotation : IsAnnotation entry

-- the epoch of a reset, which its body begins with and its head has, or that of the latest before another entry
abbrev pub IsPlainEpoch : Version → ℕ → List ℕ → List ℕ → ℕ → Type 0
IsPlainEpoch v epoch e bytes n = ((slice_index e 0 ≡ 1) × (quadlet_at bytes 0 ≡ n) × HasEpoch v n e) ⊎ ((slice_index e 0 ≡ 1 → ⊥) × (n ≡ epoch))

-- the bytes begin with this entry, which is not the end, with this end and cycle, of this version and with this epoch after it
pub record IsFirst (s : Position) (bytes : List ℕ) (entry : Timed) (p : Passed) : Type 0 where
  pub goes_on : is_end entry.what ≡ false
  pub cycle : entry.cycle ≡ p.cycle
  pub version : p.version ≡ version_at s (take p.end bytes)
  pub epoch : p.epoch ≡ epoch_after s.epoch entry.what
  pub within : p.end ≤ length bytes
  pub spells : Spells s entry (take p.end bytes)

-- the bytes begin with the head of an entry, and any entry but the end that has the body after it is that entry
pub record HeadFirst (s : Position) (bytes : List ℕ) (h : PlainHead) : Type 0 where
  pub kind : is_kind h.kind 0 ≡ true
  pub size : (n : ℕ) × (length h.content ≡ 4 * n) × (is_length h.kind n ≡ true)
  pub first : (what : Entry) → IsBody h.kind h.content what → is_end what ≡ false → IsFirst s bytes (record { cycle = h.passed.cycle; what = what }) h.passed

-- the bytes begin with some entry that may be passed over
pub record PassesFirst (s : Position) (bytes : List ℕ) (p : Passed) : Type 0 where
  pub entry : Timed
  pub passed : IsPassed entry.what
  pub first : IsFirst s bytes entry p

-- so many bytes of a piece were taken, and some if there are any
pub record CountsUp (old : State) (piece : List ℕ) (new : State) (used : ℕ) : Type 0 where
  pub total : total new ≡ total old + used
  pub within : used ≤ length piece
  pub some : 0 < length piece → 0 < used

-- one entry more was read, and it may be passed over
pub record PassesOn (entries : List Timed) (bytes : List ℕ) (new : State) : Type 0 where
  pub entry : Timed
  pub passed : IsPassed entry.what
  pub read : HasRead (entries ++ entry ∷ []) bytes new

-- the entry has this body: these are the bytes of its packet, of its isochronous packet, or of its bus reset
abbrev pub HasBody : PlainBody → Entry → Type 0
HasBody (PlainBodies.Packet bytes) e = (p : Packet) × (e ≡ Async p) × Packets.Spells p bytes
HasBody (PlainBodies.Iso bytes) e = (p : IsoPacket) × (e ≡ Iso p) × IsoFits p × (iso_spelling p ≡ bytes)
HasBody (PlainBodies.Reset bytes) e = (r : ResetEntry) × (e ≡ Reset r) × ResetFits r × (body (Reset r) ≡ bytes)

-- the bytes are this body of some entry of this kind, which is not the end
pub record IsPlainBody (kind : ℕ) (bytes : List ℕ) (b : PlainBody) : Type 0 where
  pub entry : Entry
  pub is : IsBody kind bytes entry
  pub goes_on : is_end entry ≡ false
  pub made : HasBody b entry

-- the bytes begin with some entry that has this body
pub record BodyFirst (s : Position) (bytes : List ℕ) (p : PlainEntry) : Type 0 where
  pub entry : Timed
  pub made : HasBody p.body entry.what
  pub first : IsFirst s bytes entry p.passed

-- one entry more was read, of this cycle and with this body
pub record PassesBody (entries : List Timed) (bytes : List ℕ) (new : State) (p : PassedBody) : Type 0 where
  pub entry : Timed
  pub cycle : entry.cycle ≡ p.cycle
  pub made : HasBody p.body entry.what
  pub read : HasRead (entries ++ entry ∷ []) bytes new

-- the bytes begin with some annotation of this kind, which has the body after the head
pub record AnnotationFirst (s : Position) (bytes : List ℕ) (kind : ℕ) (h : PlainHead) : Type 0 where
  pub entry : Timed
  pub is : IsBody kind h.content entry.what
  pub annotation : IsAnnotation entry.what
  pub first : IsFirst s bytes entry h.passed

-- one annotation more was read, of this kind, this cycle and with the bytes of this body
pub record PassesAnnotation (entries : List Timed) (bytes : List ℕ) (new : State) (kind : ℕ) (p : PassedAnnotation) : Type 0 where
  pub entry : Timed
  pub cycle : entry.cycle ≡ p.cycle
  pub is : IsBody kind p.body entry.what
  pub annotation : IsAnnotation entry.what
  pub read : HasRead (entries ++ entry ∷ []) bytes new
