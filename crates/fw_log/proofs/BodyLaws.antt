-- Bodies that are packets.
use Rattle.fw_log.proofs.Common.{◌≡◌, ℕ, ◌<◌, ◌≤◌, ◌+◌, List, length, take, Some, Result, Ok, Err, arith, ap, sym, subst, take_all, IsBody, BodyRefused, Entry, Reset, Event, Outcome, Shown, End}
use Rattle.fw_log.proofs.Common.{BodyFault, Fields}
use Rattle.fw_async_fields.specs.Reading as Packets
use Rattle.fw_async.specs.Reader.{Spells}
use Rattle.fw_async.specs.declared.packet.Packet.{Packet}
use Rattle.fw_async_fields.specs.declared.PacketFault.{PacketFault}
use Rattle.fw_async.specs.declared.reader.Fed.{Fed}
use Rattle.fw_cip.specs.Iso.{Fits as IsoFits, spelling as iso_spelling}
use Rattle.fw_cip.specs.declared.packet.IsoPacket.{IsoPacket}
use Rattle.fw_log.specs.Bodies.{PacketRefuses, Refuses}
use Rattle.fw_log_entry.specs.declared.entry.Entry.TheVariants.{Async as AsyncEntry, Iso as IsoEntry}
use Rattle.fw_log.specs.declared.BodyFault.TheVariants.{Phy, Packet as PacketFails, Iso as IsoFails}

pub packet_in : {A : Type 0} (bytes : List ℕ) (e : Entry) → IsBody 2 bytes e → ((p : Packet) → Spells p bytes → A) → A
packet_in bytes (Reset r) b f = cc b.kind
packet_in bytes (AsyncEntry p) b f = f p (record { fits = b.fits; same = b.same })
packet_in bytes (IsoEntry p) b f = cc b.kind
packet_in bytes (Event e) b f = cc b.kind
packet_in bytes (Outcome o) b f = cc b.kind
packet_in bytes (Shown s) b f = cc b.kind
packet_in bytes End b f = cc b.kind

-- what reading gives at a packet and at a fault
abbrev pub GivesPacket : List ℕ → Result Fed PacketFault → Type 0
GivesPacket bytes r = (k : ℕ) → (p : Packet) → k ≤ length bytes → Spells p (take k bytes) → r ≡ Ok (record { used = k; packet = Some p })

abbrev pub GivesFault : List ℕ → Result Fed PacketFault → Type 0
GivesFault bytes r = (k : ℕ) → (f : PacketFault) → k < length bytes → Packets.IsPending (take k bytes) → Packets.fault_of (take (k + 1) bytes) ≡ Some f → r ≡ Err f

differ : (fed : Fed) (k : ℕ) (p : Packet) (r : Result Fed PacketFault) → r ≡ Ok fed → r ≡ Ok (record { used = k; packet = Some p }) → (fed.used ≡ k) × (fed.packet ≡ Some p)
differ fed k p r e g = let h : fed ≡ record { used = k; packet = Some p } = cc in (ap (λ f. f.used) h, ap (λ f. f.packet) h)

refuses_none : (bytes : List ℕ) → ((f : PacketFault) → PacketRefuses bytes f → ⊥) → (g : BodyFault) → Refuses 2 bytes g → ⊥
refuses_none bytes n (Phy f) h = cc h.0
refuses_none bytes n (PacketFails f) h = n f h.1
refuses_none bytes n (IsoFails f) h = cc h.0
refuses_none bytes n Fields h = h

-- no packet and no fault: the body is of no packet
pub none_given : (bytes : List ℕ) (r : Result Fed PacketFault) (fed : Fed) → GivesPacket bytes r → GivesFault bytes r → r ≡ Ok fed
    → ((p : Packet) → fed.used ≡ length bytes → fed.packet ≡ Some p → ⊥) → BodyRefused 2 bytes Fields
none_given bytes r fed packet fault is never = (
  (λ x b. packet_in bytes x b (λ p spelled.
      let all : Spells p (take (length bytes) bytes) = let P : List ℕ → Type 0 = Spells p in subst P (sym (take_all (length bytes) bytes (omega arith))) spelled in
      let d = differ fed (length bytes) p r is (packet (length bytes) p (omega arith) all) in
      never p d.0 d.1)),
  refuses_none bytes (λ f h. cc (is, fault h.at f h.shown.within h.shown.before h.shown.shown)),
)

-- a body of kind 3 is an isochronous packet's
pub iso_in : {A : Type 0} (bytes : List ℕ) (e : Entry) → IsBody 3 bytes e → ((p : IsoPacket) → IsoFits p → iso_spelling p ≡ bytes → A) → A
iso_in bytes (Reset r) b f = cc b.kind
iso_in bytes (AsyncEntry p) b f = cc b.kind
iso_in bytes (IsoEntry p) b f = f p b.fits b.same
iso_in bytes (Event e) b f = cc b.kind
iso_in bytes (Outcome o) b f = cc b.kind
iso_in bytes (Shown s) b f = cc b.kind
iso_in bytes End b f = cc b.kind
