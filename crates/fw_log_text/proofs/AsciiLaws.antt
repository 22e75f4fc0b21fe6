-- The line of an entry is ASCII, and so it is text.
use Rattle.std.proofs.Common.{◌≡◌, ℕ, zero, suc, ◌*◌, ◌/◌, ◌%◌, ◌^◌, ◌≤◌, ◌<◌, ◌==◌, ◌&&◌, nat_lt, Bool, true, false}
use Rattle.std.proofs.Common.{List, [], ◌∷◌, ◌++◌, length, flat_map, map, codes, decimal, Option, Some, None, if◌then◌else◌, IfSome, refl, arith}
use Rattle.std.proofs.lemmas.Bool.Decides.{nat_tests}
use Rattle.std.proofs.lemmas.Fmt.{IsAscii-decimal}
use Rattle.std.proofs.lemmas.Str.{IsAscii-append, IsUtf8-from_ascii}
use Rattle.std.proofs.lemmas.Str.Ascii.{IsAscii-nil}
use Rattle.std.specs.Fmt.{digit_glyph}
use Rattle.std.specs.Str.{IsAscii, IsUtf8}
use Rattle.fw_words.specs.Quadlet.{quadlet_at}
use Rattle.fw_phy.specs.declared.packet.PhyPacket.{PhyPacket}
use Rattle.fw_async.specs.Async as Async
use Rattle.fw_async.specs.declared.packet.Packet.{Packet}
use Rattle.fw_async.specs.declared.packet.Packet.TheVariants.{WriteQuadlet, WriteBlock, WriteReply, ReadQuadlet, ReadBlock, ReadQuadletReply, ReadBlockReply, CycleStart, Lock, LockReply}
use Rattle.fw_cip.specs.Iso.{Fits as IsoFits, data_length}
use Rattle.fw_cip.specs.declared.packet.IsoPacket.{IsoPacket}
use Rattle.fw_log_entry.specs.Log.{Fits, ResetFits, EventFits, OutcomeFits, ShownFits}
use Rattle.fw_log_entry.specs.Rows.{event_form, has_tape, may_have}
use Rattle.fw_log_entry.proofs.RowLaws.{small_system}
use Rattle.fw_log_entry.specs.declared.entry.ResetEntry.{ResetEntry}
use Rattle.fw_log_entry.specs.declared.entry.EventEntry.{EventEntry}
use Rattle.fw_log_entry.specs.declared.entry.OutcomeEntry.{OutcomeEntry}
use Rattle.fw_log_entry.specs.declared.entry.ShownEntry.{ShownEntry}
use Rattle.fw_log_entry.specs.declared.entry.Entry.{Entry}
use Rattle.fw_log_entry.specs.declared.entry.Entry.TheVariants.{Reset, Async as AsyncEntry, Iso as IsoEntry, Event, Outcome, Shown, End}
use Rattle.fw_log_entry.specs.declared.entry.Timed.{Timed}
use Rattle.fw_log_names.specs.Names.{event_name, outcome_name}
use Rattle.fw_log_names.specs.declared.entries.TheConstants.{EVENTS, OUTCOMES}
use Rattle.fw_text.specs.Names.{name_in, rows}
use Rattle.fw_log_text.specs.Names.{packet_name}
use Rattle.fw_log_text.specs.Line.{hex, quadlet_text, first_quadlets, quadlets_text, id_text, manager_text, reset_text, packet_text, iso_text}
use Rattle.fw_log_text.specs.Line.{name_text, device_text, tape_text, event_text, outcome_text, offset_text, shown_text, what_text, entry_line}

abbrev plain : List ℕ → Bool
plain [] = true
plain (b ∷ bs) = nat_lt b 128 && plain bs

abbrev all_plain : List (List ℕ) → Bool
all_plain [] = true
all_plain (n ∷ ns) = plain n && all_plain ns

both_left : (a b : Bool) → (a && b) ≡ true → a ≡ true
both_left true b e = refl
both_left false b e = cc e

both_right : (a b : Bool) → (a && b) ≡ true → b ≡ true
both_right true b e = e
both_right false b e = cc e

small : (b : ℕ) → nat_lt b 128 ≡ true → b < 128
small b e = grind (arith, nat_tests)

-- each byte is ASCII
record Plain (bs : List ℕ) : Type 0 where
  all : IsAscii bs

nothing : Plain []
nothing = record { all = IsAscii-nil }

bytes_by : (bs : List ℕ) → plain bs ≡ true → IsAscii bs
bytes_by [] e i = IsAscii-nil i
bytes_by (b ∷ bs) e zero = small b (both_left (nat_lt b 128) (plain bs) e)
bytes_by (b ∷ bs) e (suc i) = bytes_by bs (both_right (nat_lt b 128) (plain bs) e) i

-- words are ASCII: a test tells
word : (bs : List ℕ) → plain bs ≡ true → Plain bs
word bs e = record { all = bytes_by bs e }

-- the names in a table are ASCII
name_at : (table : List (ℕ × List ℕ)) → all_plain (map (λ (r : ℕ × List ℕ). r.1) table) ≡ true → (code : ℕ) → Plain (name_text (name_in table code))
name_at [] e code = nothing
name_at (r ∷ table) e code =
    let names : List (List ℕ) = map (λ (w : ℕ × List ℕ). w.1) table in
    elim (code == r.0) as (λ b. Plain (name_text (if b then Some r.1 else name_in table code))) [
      | true ↦ word r.1 (both_left (plain r.1) (all_plain names) e)
      | false ↦ name_at table (both_right (plain r.1) (all_plain names) e) code
    ]

two : (xs ys : List ℕ) → Plain xs → Plain ys → Plain (xs ++ ys)
two xs ys a b = record { all = IsAscii-append xs ys a.all b.all }

number : (n : ℕ) → n < 2 ^ 64 → Plain (decimal n)
number n h = record { all = IsAscii-decimal n h }

glyph : (d : ℕ) → d < 16 → digit_glyph false d < 128
glyph d h = grind (arith, nat_tests)

one_by : (b : ℕ) → b < 128 → IsAscii (b ∷ [])
one_by b h zero = h
one_by b h (suc i) = IsAscii-nil i

one : (b : ℕ) → b < 128 → Plain (b ∷ [])
one b h = record { all = one_by b h }

digits : (k n : ℕ) → Plain (hex k n)
unfolding hex
digits zero n = nothing
digits (suc k) n = two (hex k (n / 16)) (digit_glyph false (n % 16) ∷ []) (digits k (n / 16)) (one (digit_glyph false (n % 16)) (glyph (n % 16) (omega arith)))

quadlet : (q : ℕ) → Plain (quadlet_text q)
quadlet q = two (codes " ") (hex 8 q) (word (codes " ") refl) (digits 8 q)

quadlets : (bytes : List ℕ) (n : ℕ) → Plain (first_quadlets bytes n)
quadlets bytes zero = nothing
quadlets bytes (suc n) = two (first_quadlets bytes n) (quadlet_text (quadlet_at bytes (4 * n))) (quadlets bytes n) (quadlet (quadlet_at bytes (4 * n)))

ids : (packets : List PhyPacket) → Plain (flat_map id_text packets)
ids [] = nothing
ids (p ∷ ps) = two (id_text p) (flat_map id_text ps) (quadlet _) (ids ps)

name : (p : Packet) → Plain (packet_name p)
name (WriteQuadlet h offset value) = word (codes "write-quadlet") refl
name (WriteBlock h offset bytes) = word (codes "write-block") refl
name (WriteReply h rcode) = word (codes "write-reply") refl
name (ReadQuadlet h offset) = word (codes "read-quadlet") refl
name (ReadBlock h offset len) = word (codes "read-block") refl
name (ReadQuadletReply h rcode value) = word (codes "read-quadlet-reply") refl
name (ReadBlockReply h rcode bytes) = word (codes "read-block-reply") refl
name (CycleStart h offset time) = word (codes "cycle-start") refl
name (Lock h offset function bytes) = word (codes "lock") refl
name (LockReply h rcode function bytes) = word (codes "lock-reply") refl

manager : (m : Option ℕ) (count : ℕ) → count ≤ 63 → IfSome m (λ n. n < count) → Plain (manager_text m)
manager None count few h = word (codes "none") refl
manager (Some n) count few h = number n (omega (arith, few, h))

-- what was ASCII, and a word or a number after it
say : (xs w : List ℕ) → plain w ≡ true → Plain xs → Plain (xs ++ w)
say xs w e h = two xs w h (word w e)

count : (xs : List ℕ) (n : ℕ) → n < 2 ^ 64 → Plain xs → Plain (xs ++ decimal n)
count xs n few h = two xs (decimal n) h (number n few)

part : (n : ℕ) → n < 2 ^ 64 → Plain (codes " " ++ decimal n)
part n h = count (codes " ") n h (word (codes " ") refl)

reset : (r : ResetEntry) → ResetFits r → Plain (reset_text r)
reset r f =
    let a = count (codes "reset ") r.epoch (omega (arith, f.epoch)) (word (codes "reset ") refl) in
    let b = count _ r.root (omega (arith, f.root, f.few)) (say _ (codes " root ") refl a) in
    let c = two _ (manager_text r.manager) (say _ (codes " manager ") refl b) (manager r.manager (length r.nodes) f.few f.manager) in
    let d = count _ r.initiator (omega (arith, f.initiator, f.few)) (say _ (codes " by ") refl c) in
    two _ (flat_map id_text r.ids) (say _ (codes ":") refl d) (ids r.ids)

packet : (p : Packet) → Plain (packet_text p)
packet p = two _ (quadlets_text (Async.spelling p)) (two (codes "async ") (packet_name p) (word (codes "async ") refl) (name p)) (quadlets (Async.spelling p) (length (Async.spelling p) / 4))

lengths : (block : Option (List ℕ)) → data_length block < 2 ^ 64
lengths None = omega arith
lengths (Some b) = omega arith

iso : (p : IsoPacket) → IsoFits p → Plain (iso_text p)
iso p f =
    let a = count (codes "iso ") p.channel (omega (arith, f.header)) (word (codes "iso ") refl) in
    let b = count _ (data_length p.block) (lengths p.block) (say _ (codes " ") refl a) in
    count _ p.cip.dbc (omega (arith, f.first)) (say _ (codes " ") refl b)

device : (d : ℕ) → d < 2 ^ 8 → Plain (device_text d)
device d h = by (d == 255)
  where
    by : (b : Bool) → Plain (if b then [] else codes " " ++ decimal d)
    by true = nothing
    by false = part d (omega (arith, h))

tape : (e : EventEntry) → e.tape < 2 ^ 16 → e.system < 2 ^ 16 → Plain (tape_text e)
tape e t s = by (has_tape (event_form e.code))
  where
    by : (b : Bool) → Plain (if b then codes " " ++ decimal e.tape ++ codes " " ++ decimal e.system else [])
    by true = count _ e.system (omega (arith, s)) (say _ (codes " ") refl (part e.tape (omega (arith, t))))
    by false = nothing

event : (e : EventEntry) → EventFits e → e.system < 2 ^ 16 → Plain (event_text e)
event e f s =
    let a = two (codes "event ") (name_text (event_name e.code)) (word (codes "event ") refl) (name_at (map (λ r. (r.0, r.1.now)) EVENTS) refl e.code) in
    two _ (tape_text e) (two _ (device_text e.device) a (device e.device f.device)) (tape e f.tape s)

outcome : (o : OutcomeEntry) → OutcomeFits o → Plain (outcome_text o)
outcome o f =
    let a = two (codes "outcome ") (name_text (outcome_name o.code)) (word (codes "outcome ") refl) (name_at (rows OUTCOMES) refl o.code) in
    let b = count _ o.device (omega (arith, f.device)) (say _ (codes " ") refl a) in
    two _ (quadlet_text o.value) (count _ o.slot (omega (arith, f.slot)) (say _ (codes " ") refl b)) (quadlet o.value)

shown : (s : ShownEntry) → ShownFits s → Plain (shown_text s)
shown s f =
    let a = count (codes "shown ") s.device (omega (arith, f.device)) (word (codes "shown ") refl) in
    two _ (quadlet_text s.word) (two _ (offset_text s.offset) a (two (codes " ") (hex 3 s.offset) (word (codes " ") refl) (digits 3 s.offset))) (quadlet s.word)

what : (e : Entry) → Fits e → Plain (what_text e)
what (Reset r) f = reset r f
what (AsyncEntry p) f = packet p
what (IsoEntry p) f = iso p f
what (Event e) f = event e f (small_system (may_have (event_form e.code) e.device) (has_tape (event_form e.code)) e.tape e.system f.shape)
what (Outcome o) f = outcome o f
what (Shown s) f = shown s f
what End f = word (codes "end") refl

pub line_is_text : (t : Timed) → t.cycle < 2 ^ 64 → Fits t.what → IsUtf8 (entry_line t)
line_is_text t c f =
    let a = say (decimal t.cycle) (codes " ") refl (number t.cycle c) in
    let b : Plain (entry_line t) = say _ (10 ∷ []) refl (two _ (what_text t.what) a (what t.what f)) in
    IsUtf8-from_ascii (entry_line t) b.all
