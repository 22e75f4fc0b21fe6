-- How long the bodies of entries are, and what follows of their bytes.
use Rattle.std.proofs.Common.{◌≡◌, ℕ, ◌+◌, ◌*◌, ◌/◌, ◌%◌, ◌<◌, ◌≤◌, Option, Some, None, IfSome, List, [], ◌∷◌, ◌++◌, flat_map, map, length, replicate, get_or}
use Rattle.std.proofs.Common.{Bool, true, false, if◌then◌else◌, ◌∙◌, append_assoc, append-nil, arith, refl, sym, ap, length-append}
use Rattle.std.proofs.lemmas.List.{length-map, length-replicate, get_or_append_left}
use Rattle.std.specs.Int.{to_be_bytes, w32}
use Rattle.fw_async_fields.specs.Data.{padding}
use Rattle.fw_async.specs.Async.{Parts, bytes_of, padded, parts}
use Rattle.fw_async.proofs.SpelledSizeLaws.{spelled_most}
use Rattle.fw_cip.specs.Iso.{block_bytes, IsBlock}
use Rattle.fw_cip.specs.Iso as Iso
use Rattle.fw_cip.specs.declared.packet.IsoPacket.{IsoPacket}
use Rattle.fw_cip.proofs.SpelledLaws.{spelled_size}
use Rattle.fw_phy.specs.Phy.{spelling}
use Rattle.fw_phy.specs.declared.packet.PhyPacket.{PhyPacket}
use Rattle.fw_words.specs.Layout.{packed}
use Rattle.fw_log_entry.specs.Log.{quads, node_quad, manager_byte, reset_quads, body, entry_bytes, Fits, TimedFits}
use Rattle.fw_log_entry.specs.Rows.{event_form, has_tape}
use Rattle.fw_log_entry.specs.declared.entry.Entry.{Entry}
use Rattle.fw_log_entry.specs.declared.entry.Entry.TheVariants.{Reset, Async as AsyncEntry, Iso as IsoEntry, Event, Outcome, Shown, End}
use Rattle.fw_log_entry.specs.declared.entry.ResetEntry.{ResetEntry}
use Rattle.fw_log_entry.specs.declared.nodes.NodeRow.{NodeRow}
use Rattle.fw_log_entry.specs.declared.entry.Timed.{Timed}
use Rattle.fw_log_entry.specs.declared.version.Version.TheVariants.{Two}

pub length-quads : (qs : List ℕ) → length (quads qs) ≡ 4 * length qs
length-quads [] = refl
length-quads (q ∷ qs) = omega (arith, length-quads qs, length-append (to_be_bytes w32 q) (quads qs))

pub length-ids : (ids : List PhyPacket) → length (flat_map spelling ids) ≡ 8 * length ids
length-ids [] = refl
length-ids (p ∷ ps) = omega (arith, length-ids ps)

pub length-reset : (r : ResetEntry) → length (body (Reset r)) ≡ 4 * (2 + length r.nodes + 2 * length r.ids)
length-reset r = omega (arith, length-append (quads (reset_quads r)) (flat_map spelling r.ids), length-quads (reset_quads r), length-map r.nodes node_quad, length-ids r.ids)

-- one after the other
parts_in : (old a b rows ids begun more nodes all : List ℕ) → begun ≡ old ++ a → more ≡ begun ++ b → nodes ≡ more ++ rows → all ≡ nodes ++ ids → all ≡ old ++ ((a ++ (b ++ rows)) ++ ids)
parts_in old a b rows ids begun more nodes all e f g h =
    h ∙ ap (λ t. t ++ ids) (g ∙ ap (λ t. t ++ rows) (f ∙ ap (λ t. t ++ b) e) ∙ append_assoc (old ++ a) b rows ∙ append_assoc old a (b ++ rows))
    ∙ append_assoc old (a ++ (b ++ rows)) ids

-- two quadlets, the nodes and the packets are the body of a reset
pub reset_parts : (r : ResetEntry) (rows : List NodeRow) (ids : List PhyPacket) (old begun more nodes all : List ℕ) (q : ℕ) → rows ≡ r.nodes → ids ≡ r.ids
    → q ≡ packed ((8, r.root) ∷ (8, manager_byte r.manager) ∷ (8, r.initiator) ∷ (8, length r.nodes) ∷ []) 0
    → begun ≡ old ++ to_be_bytes w32 r.epoch → more ≡ begun ++ to_be_bytes w32 q → nodes ≡ more ++ quads (map node_quad rows) → all ≡ nodes ++ flat_map spelling ids → all ≡ old ++ body (Reset r)
reset_parts r rows ids old begun more nodes all q d i s e f g h =
    parts_in old (to_be_bytes w32 r.epoch) (to_be_bytes w32 q) (quads (map node_quad rows)) (flat_map spelling ids) begun more nodes all e f g h
    ∙ ap (λ k. old ++ ((to_be_bytes w32 r.epoch ++ (to_be_bytes w32 k ++ quads (map node_quad rows))) ++ flat_map spelling ids)) s
    ∙ ap (λ (rs : List NodeRow). old ++ (quads (r.epoch ∷ packed ((8, r.root) ∷ (8, manager_byte r.manager) ∷ (8, r.initiator) ∷ (8, length r.nodes) ∷ []) 0 ∷ map node_quad rs)
    ++ flat_map spelling ids)) d
    ∙ ap (λ (ps : List PhyPacket). old ++ (quads (reset_quads r) ++ flat_map spelling ps)) i

pub quadlets_of_reset : (r : ResetEntry) (n : ℕ) → n ≡ 2 + length r.nodes + 2 * length r.ids → n ≡ length (body (Reset r)) / 4
quadlets_of_reset r n e = quarter (length (body (Reset r))) (2 + length r.nodes + 2 * length r.ids) n (length-reset r) e
  where
    quarter : (a m k : ℕ) → a ≡ 4 * m → k ≡ m → k ≡ a / 4
    quarter a m k e f = omega (arith, e, f)

block_few : (b : Option (List ℕ)) → IfSome b IsBlock → length (block_bytes b) ≤ 480
block_few None f = omega arith
block_few (Some block) f = omega (arith, f.size)

pub iso_few : (p : IsoPacket) → Iso.Fits p → length (Iso.spelling p) ≤ 492
iso_few p f = omega (arith, spelled_size p, block_few p.block f.block)

-- ---- the size of an entry

-- the body is whole quadlets, few enough for two bytes
pub record HasQuadlets (e : Entry) : Type 0 where
  pub quadlets : ℕ
  pub size : length (body e) ≡ 4 * quadlets
  pub few : quadlets ≤ 569

pub length-padded : (bytes : List ℕ) → length (padded bytes) ≡ 4 * ((length bytes + 3) / 4)
length-padded bytes = omega (arith, length-append bytes (replicate (padding (length bytes)) 0), length-replicate {A = ℕ} (padding (length bytes)) 0)

-- a packet is whole quadlets
pub length-parts : (p : Parts) → length (bytes_of p) ≡ 4 * (length p.quadlets + (length p.bytes + 3) / 4)
length-parts p = omega (arith, length-append (quads p.quadlets) (padded p.bytes), length-quads p.quadlets, length-padded p.bytes)

iso_quadlets : (block : Option (List ℕ)) → IfSome block IsBlock → (n : ℕ) × (12 + length (block_bytes block) ≡ 4 * n) × (n ≤ 569)
iso_quadlets None f = (3, refl, omega arith)
iso_quadlets (Some block) f = (123, omega (arith, f.size), omega arith)

event_quadlets : (b : Bool) (q r : ℕ) → (n : ℕ) × (length (quads (q ∷ (if b then r ∷ [] else []))) ≡ 4 * n) × (n ≤ 569)
event_quadlets true q r = (2, refl, omega arith)
event_quadlets false q r = (1, refl, omega arith)

pub has_quadlets : (e : Entry) → Fits e → HasQuadlets e
has_quadlets (Reset r) f = record { quadlets = 2 + length r.nodes + 2 * length r.ids; size = length-reset r; few = omega (arith, f.few, f.few_packets) }
has_quadlets (AsyncEntry p) f =
    record { quadlets = length (parts p).quadlets + (length (parts p).bytes + 3) / 4; size = length-parts (parts p); few = omega (arith, length-parts (parts p), spelled_most p f) }
has_quadlets (IsoEntry p) f = let h = iso_quadlets p.block f.block in record { quadlets = h.0; size = spelled_size p ∙ h.1; few = h.2 }
has_quadlets (Event e) f =
    let h = event_quadlets (has_tape (event_form e.code)) (packed ((8, e.code) ∷ (8, e.device) ∷ (16, 0) ∷ []) 0) (packed ((16, e.tape) ∷ (16, e.system) ∷ []) 0) in
    record { quadlets = h.0; size = h.1; few = h.2 }
has_quadlets (Outcome o) f = record { quadlets = 2; size = refl; few = omega arith }
has_quadlets (Shown s) f = record { quadlets = 2; size = refl; few = omega arith }
has_quadlets End f = record { quadlets = 0; size = refl; few = omega arith }

by_length : (n q a b : ℕ) → n ≡ 4 * q → q ≤ 569 → a ≡ n / 4 / 256 % 256 → b ≡ n / 4 % 256 → 4 * (256 * a + b) ≡ n
by_length n q a b e few f g = omega (arith, e, few, f, g)

-- by the two bytes of its length
pub size_of_first : (epoch : ℕ) (t : Timed) (log more : List ℕ) (a b : ℕ) → TimedFits t → log ≡ entry_bytes Two epoch t ++ more → a ≡ get_or log 2 0 → b ≡ get_or log 3 0
    → 16 + 4 * (256 * a + b) ≡ length (entry_bytes Two epoch t)
size_of_first epoch t log more a b f e high low =
    let h = has_quadlets t.what f.entry in
    let size = by_length (length (body t.what)) h.quadlets a b h.size h.few
    (high ∙ ap (λ (l : List ℕ). get_or l 2 0) e) (low ∙ ap (λ (l : List ℕ). get_or l 3 0) e) in
    omega (arith, size)

-- a prefix that has the head has its length
pub size_of_part : (epoch : ℕ) (t : Timed) (log more : List ℕ) (a b : ℕ) → TimedFits t → log ++ more ≡ entry_bytes Two epoch t → 16 ≤ length log → 1 ≤ length more
    → a ≡ get_or log 2 0 → b ≡ get_or log 3 0 → length log < 16 + 4 * (256 * a + b)
size_of_part epoch t log more a b f e long some high low =
    let all = size_of_first epoch t (log ++ more) [] a b f (e ∙ sym (append-nil (entry_bytes Two epoch t)))
    (high ∙ sym (get_or_append_left log more 0 2 (omega (arith, long)))) (low ∙ sym (get_or_append_left log more 0 3 (omega (arith, long)))) in
    let size : length (log ++ more) ≡ length (entry_bytes Two epoch t) = ap (λ (l : List ℕ). length l) e in
    omega (arith, all, size, length-append log more, some)
