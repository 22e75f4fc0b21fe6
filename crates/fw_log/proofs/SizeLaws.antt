-- How long the bodies of entries are.
use Rattle.fw_log.proofs.Common.{◌≡◌, ℕ, ◌+◌, ◌*◌, ◌/◌, ◌≤◌, List, [], ◌∷◌, flat_map, length, Bool, true, false, Option, Some, None, IfSome, ◌∙◌, arith, refl, if◌then◌else◌, length-append, nat_tests}
use Rattle.fw_log.proofs.Common.{packed, PhyPacket, quads, node_quad, are_ids, kind_of, body, is_length, Entry, Reset, Event, Outcome, Shown, End}
use Rattle.std.proofs.Common.{replicate}
use Rattle.std.proofs.Common.{IsTrue}
use Rattle.std.proofs.lemmas.List.{length-map, length-replicate}
use Rattle.fw_phy.specs.Phy.{spelling as phy_spelling}
use Rattle.fw_async.specs.Async.{Parts, bytes_of, padded, spelling, parts}
use Rattle.fw_async_fields.specs.Data.{padding}
use Rattle.fw_async.specs.Async as Async
use Rattle.fw_async_fields.proofs.NeedLaws.{need_least, need_most}
use Rattle.fw_async.proofs.SpelledLaws.{spelled_none}
use Rattle.fw_async.proofs.SpelledSizeLaws.{spelled_need}
use Rattle.fw_async.specs.declared.packet.Packet.{Packet}
use Rattle.fw_cip.specs.Iso.{block_bytes, IsBlock}
use Rattle.fw_cip.specs.Iso as Iso
use Rattle.fw_cip.specs.declared.packet.IsoPacket.{IsoPacket}
use Rattle.fw_cip.proofs.SpelledLaws.{spelled_size}
use Rattle.fw_log_entry.specs.Log.{reset_quads, ResetFits, Fits}
use Rattle.fw_log_entry.specs.Rows.{event_form, has_tape}
use Rattle.fw_log_entry.specs.declared.entry.Entry.TheVariants.{Async as AsyncEntry, Iso as IsoEntry}
use Rattle.fw_log_entry.specs.declared.entry.ResetEntry.{ResetEntry}
use Rattle.fw_log_entry.specs.declared.entry.EventEntry.{EventEntry}
use Rattle.fw_log.proofs.ResetLaws.{length-quads}

-- a body is whole quadlets, as many as its kind may have
pub record HasLength (e : Entry) : Type 0 where
  pub quadlets : ℕ
  pub size : length (body e) ≡ 4 * quadlets
  pub right : is_length (kind_of e) quadlets ≡ true

length-ids : (ids : List PhyPacket) → length (flat_map phy_spelling ids) ≡ 8 * length ids
length-ids [] = refl
length-ids (p ∷ ps) = omega (arith, length-ids ps)

some_ids : (ids : List PhyPacket) (n : ℕ) → 1 ≤ n → IsTrue (are_ids 0 None ids n) → 1 ≤ length ids
some_ids [] n some h = absurd (grind (arith, nat_tests))
some_ids (p ∷ ps) n some h = omega arith

reset_length : (n k : ℕ) → 1 ≤ n → n ≤ 63 → 1 ≤ k → k ≤ 252 → is_length 1 (2 + n + 2 * k) ≡ true
reset_length n k a b c d = grind (arith, nat_tests)

reset_has : (r : ResetEntry) → ResetFits r → HasLength (Reset r)
reset_has r f = record {
  quadlets = 2 + length r.nodes + 2 * length r.ids;
  size = omega (arith, length-append (quads (reset_quads r)) (flat_map phy_spelling r.ids), length-quads (reset_quads r), length-map r.nodes node_quad, length-ids r.ids);
  right = reset_length (length r.nodes) (length r.ids) f.some f.few (some_ids r.ids (length r.nodes) f.some f.ids) f.few_packets;
}

-- a packet is whole quadlets
length-padded : (bytes : List ℕ) → length (padded bytes) ≡ 4 * ((length bytes + 3) / 4)
length-padded bytes = omega (arith, length-append bytes (replicate (padding (length bytes)) 0), length-replicate {A = ℕ} (padding (length bytes)) 0)

length-parts : (p : Parts) → length (bytes_of p) ≡ 4 * (length p.quadlets + (length p.bytes + 3) / 4)
length-parts p = omega (arith, length-append (quads p.quadlets) (padded p.bytes), length-quads p.quadlets, length-padded p.bytes)

packet_length : (n : ℕ) → 12 ≤ 4 * n → 4 * n ≤ 528 → is_length 2 n ≡ true
packet_length n a b = grind (arith, nat_tests)

packet_has : (p : Packet) → Async.Fits p → HasLength (AsyncEntry p)
packet_has p f =
    let size = length-parts (parts p) in
    let low = need_least (spelling p) in
    let high = need_most (spelling p) (spelled_none p f) in
    let e = spelled_need p f in
    record {
      quadlets = length (parts p).quadlets + (length (parts p).bytes + 3) / 4;
      size = size;
      right = packet_length (length (parts p).quadlets + (length (parts p).bytes + 3) / 4) (omega (arith, size, low, e)) (omega (arith, size, high, e));
    }

iso_size : (block : Option (List ℕ)) → IfSome block IsBlock → (n : ℕ) × (12 + length (block_bytes block) ≡ 4 * n) × (is_length 3 n ≡ true)
iso_size None f = (3, refl, refl)
iso_size (Some block) f = (123, omega (arith, f.size), refl)

iso_has : (p : IsoPacket) → Iso.Fits p → HasLength (IsoEntry p)
iso_has p f = let h = iso_size p.block f.block in record { quadlets = h.0; size = spelled_size p ∙ h.1; right = h.2 }

event_size : (b : Bool) (q r : ℕ) → (n : ℕ) × (length (quads (q ∷ (if b then r ∷ [] else []))) ≡ 4 * n) × (is_length 4 n ≡ true)
event_size true q r = (2, refl, refl)
event_size false q r = (1, refl, refl)

event_has : (e : EventEntry) → HasLength (Event e)
event_has e =
    let h = event_size (has_tape (event_form e.code)) (packed ((8, e.code) ∷ (8, e.device) ∷ (16, 0) ∷ []) 0) (packed ((16, e.tape) ∷ (16, e.system) ∷ []) 0) in
    record { quadlets = h.0; size = h.1; right = h.2 }

pub has_length : (e : Entry) → Fits e → HasLength e
has_length (Reset r) f = reset_has r f
has_length (AsyncEntry p) f = packet_has p f
has_length (IsoEntry p) f = iso_has p f
has_length (Event e) f = event_has e
has_length (Outcome o) f = record { quadlets = 2; size = refl; right = refl }
has_length (Shown s) f = record { quadlets = 2; size = refl; right = refl }
has_length End f = record { quadlets = 0; size = refl; right = refl }
