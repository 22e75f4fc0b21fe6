-- The object of an entry is one line of plain bytes.
use Rattle.fw_log_json.proofs.Common.{ℕ, ◌+◌, ◌^◌, ◌<◌, ◌≤◌, Bool, true, false, if◌then◌else◌, List, [], ◌∷◌, ◌++◌, length, map, codes, Some, refl, sym, append_assoc, arith, Packet, Reset, tcode_name}
use Rattle.fw_log_json.proofs.Common.{rcode_name, function_name, format_name, id_object, node_objects, prefix_fields, object}
use Rattle.fw_async.specs.Async.{HeadFits, Fits as PacketFits}
use Rattle.fw_async.specs.Heads.{head_of}
use Rattle.fw_async.specs.declared.packet.Head.{Head}
use Rattle.fw_async.specs.declared.packet.Packet.TheVariants.{WriteQuadlet, WriteBlock, WriteReply, ReadQuadlet, ReadBlock, ReadQuadletReply, ReadBlockReply, CycleStart, Lock, LockReply}
use Rattle.fw_async.proofs.KindLaws.{lock_most, reply_most}
use Rattle.fw_cip.specs.Iso.{Fits as IsoFits, bit, block_bytes, data_length}
use Rattle.fw_cip.specs.declared.packet.IsoPacket.{IsoPacket}
use Rattle.fw_csr.specs.declared.offset.TheConstants.{REGISTER_SPACE}
use Rattle.fw_log_entry.specs.Log.{kind_of, Fits, ResetFits, EventFits, OutcomeFits, ShownFits, TimedFits}
use Rattle.fw_log_entry.specs.Rows.{event_form, has_tape, may_have}
use Rattle.fw_log_entry.specs.declared.entry.ResetEntry.{ResetEntry}
use Rattle.fw_log_entry.specs.declared.entry.EventEntry.{EventEntry}
use Rattle.fw_log_entry.specs.declared.entry.OutcomeEntry.{OutcomeEntry}
use Rattle.fw_log_entry.specs.declared.entry.ShownEntry.{ShownEntry}
use Rattle.fw_log_entry.specs.declared.entry.Entry.{Entry}
use Rattle.fw_log_entry.specs.declared.entry.Entry.TheVariants.{Async, Iso, Event, Outcome, Shown, End}
use Rattle.fw_log_entry.specs.declared.entry.Timed.{Timed}
use Rattle.fw_log_entry.proofs.RowLaws.{event_code, outcome_code, small_system}
use Rattle.fw_log_names.specs.Names.{tcode, event_name, outcome_name, kind_name, system_name}
use Rattle.fw_log_json.specs.Laws.{IsLine}
use Rattle.fw_log_json_packets.specs.Packets.{head_fields, place_fields, rcode_fields, target_fields, quadlet_field, block_fields, lock_fields, data_fields, packet_fields, iso_fields}
use Rattle.fw_log_json.specs.Objects.{reset_fields, device_of, inserted_fields, tape_fields, event_fields, outcome_fields, shown_fields, what_fields}
use Rattle.fw_log_json.proofs.ToldEntries.{few_manager, small_kind}
use Rattle.fw_log_json.proofs.ToldEvents.{few_device}
use Rattle.fw_log_json.proofs.ToldIso.{one_bit, some_size}
use Rattle.fw_log_json.proofs.ToldPackets.{small}
use Rattle.fw_log_json.proofs.PlainLaws.{Plain, each, word, two, number, digits, bytes, in_quotes, named, perhaps, cycle, keyed, coded, in_brackets}
use Rattle.fw_log_json.proofs.PlainNames.{kinds, tcodes, rcodes, functions, retries, systems, formats, events, outcomes}
use Rattle.fw_log_json.proofs.PlainIds.{ids_plain, nodes_plain}

reset : (r : ResetEntry) → ResetFits r → Plain (reset_fields r)
reset r a =
    (two (two (two (two (keyed (codes ",\"epoch\":") refl (number r.epoch (omega (arith, a.epoch))))
    (keyed (codes ",\"root\":") refl (number r.root (omega (arith, a.root, a.few)))))
    (keyed (codes ",\"manager\":") refl (perhaps r.manager (few_manager r.manager (length r.nodes) a.few a.manager))))
    (keyed (codes ",\"initiator\":") refl (number r.initiator (omega (arith, a.initiator, a.few)))))
    (two (keyed (codes ",\"nodes\":") refl (in_brackets (node_objects 0 r.nodes) (nodes_plain 0 r.nodes (omega (arith, a.few)) a.rows)))
    (keyed (codes ",\"self_ids\":") refl (in_brackets (map id_object r.ids) (ids_plain r.ids a.packets)))))

head : (h : Head) → HeadFits h → Plain (head_fields h)
head h a =
    (two (two (two (two (keyed (codes ",\"dst_id\":") refl (in_quotes (digits 4 h.destination)))
    (keyed (codes ",\"tlabel\":") refl (number h.tl (omega (arith, a)))))
    (coded (codes ",\"retry\":") h.rt (codes ",\"retry_name\":") _ refl refl (omega (arith, a)) (retries h.rt)))
    (keyed (codes ",\"priority\":") refl (number h.pri (omega (arith, a)))))
    (keyed (codes ",\"src_id\":") refl (in_quotes (digits 4 h.source))))

place : (offset : ℕ) → Plain (place_fields offset)
place offset = keyed (codes ",\"offset\":") refl (in_quotes (digits 12 offset))

rcode : (n : ℕ) → n < 2 ^ 4 → Plain (rcode_fields n)
rcode n h = coded (codes ",\"rcode\":") n (codes ",\"rcode_name\":") (rcode_name n) refl refl (omega (arith, h)) (rcodes n)

quadlet : (q : ℕ) → Plain (quadlet_field q)
quadlet q = keyed (codes ",\"data\":") refl (in_quotes (digits 8 q))

block : (bs : List ℕ) → length bs ≤ 512 → Plain (block_fields bs)
block bs h = two (keyed (codes ",\"data_length\":") refl (number (length bs) (omega (arith, h)))) (keyed (codes ",\"data\":") refl (in_quotes (bytes bs)))

lock : (f : ℕ) (bs : List ℕ) → f < 8 → length bs ≤ 512 → Plain (lock_fields f bs)
lock f bs g h =
    two (two (keyed (codes ",\"data_length\":") refl (number (length bs) (omega (arith, h))))
    (coded (codes ",\"extended_tcode\":") f (codes ",\"extended_tcode_name\":") (function_name f) refl refl (omega (arith, g)) (functions f)))
    (keyed (codes ",\"data\":") refl (in_quotes (bytes bs)))

kind : (p : Packet) → HeadFits (head_of p) → Plain (target_fields p) → Plain (data_fields p) → Plain (packet_fields p)
kind p a t d =
    two (two (two (coded (codes ",\"tcode\":") (tcode p) (codes ",\"tcode_name\":") (Some (tcode_name p)) refl refl (small p) (tcodes p)) (head (head_of p) a)) t) d

nothing : Plain []
nothing = word [] refl

packet : (p : Packet) → PacketFits p → Plain (packet_fields p)
packet (WriteQuadlet h o v) a = kind (WriteQuadlet h o v) a.0 (place o) (quadlet v)
packet (WriteBlock h o bs) a = kind (WriteBlock h o bs) a.0 (place o) (block bs a.2)
packet (WriteReply h c) a = kind (WriteReply h c) a.0 (rcode c a.1) nothing
packet (ReadQuadlet h o) a = kind (ReadQuadlet h o) a.0 (place o) nothing
packet (ReadBlock h o l) a = kind (ReadBlock h o l) a.0 (place o) (keyed (codes ",\"data_length\":") refl (number l (omega (arith, a.2))))
packet (ReadQuadletReply h c v) a = kind (ReadQuadletReply h c v) a.0 (rcode c a.1) (quadlet v)
packet (ReadBlockReply h c bs) a = kind (ReadBlockReply h c bs) a.0 (rcode c a.1) (block bs a.2)
packet (CycleStart h o v) a = kind (CycleStart h o v) a.0 (place o) (quadlet v)
packet (Lock h o f bs) a = kind (Lock h o f bs) a.0 (place o) (lock f bs a.3 (omega (arith, lock_most f (length bs) a.4)))
packet (LockReply h c f bs) a = kind (LockReply h c f bs) a.0 (rcode c a.1) (lock f bs a.3 (omega (arith, reply_most (length bs) a.4)))

iso : (p : IsoPacket) → IsoFits p → Plain (iso_fields p)
iso p a =
    (two (two (two (two (two (two (keyed (codes ",\"data_length\":") refl (number (data_length p.block) (some_size p.block)))
    (keyed (codes ",\"tag\":") refl (number 1 (omega arith))))
    (keyed (codes ",\"channel\":") refl (number p.channel (omega (arith, a.header)))))
    (coded (codes ",\"tcode\":") 10 (codes ",\"tcode_name\":") (Some (codes "iso_data")) refl refl (omega arith) (record { is = word (codes "iso_data") refl })))
    (keyed (codes ",\"sy\":") refl (number p.sy (omega (arith, a.header)))))
    (two (two (two (two (two (two (two (two (keyed (codes ",\"sid\":") refl (number p.cip.sid (omega (arith, a.first))))
    (keyed (codes ",\"dbs\":") refl (number p.cip.dbs (omega (arith, a.first)))))
    (keyed (codes ",\"fn\":") refl (number p.cip.fraction (omega (arith, a.first)))))
    (keyed (codes ",\"qpc\":") refl (number p.cip.qpc (omega (arith, a.first)))))
    (keyed (codes ",\"sph\":") refl (number (bit p.cip.sph) (one_bit p.cip.sph))))
    (keyed (codes ",\"dbc\":") refl (number p.cip.dbc (omega (arith, a.first)))))
    (keyed (codes ",\"fmt\":") refl (number p.cip.fmt (omega (arith, a.second)))))
    (keyed (codes ",\"fdf\":") refl (in_quotes (digits 6 p.cip.fdf))))
    (keyed (codes ",\"format_name\":") refl (named (format_name p.cip) (formats p.cip)))))
    (keyed (codes ",\"data\":") refl (in_quotes (bytes (block_bytes p.block)))))

inserted : (e : EventEntry) → EventFits e → Plain (tape_fields e)
inserted e a = by (has_tape (event_form e.code))
  where
    by : (b : Bool) → Plain (if b then inserted_fields e else [])
    by true = two (keyed (codes ",\"tape\":") refl (number e.tape (omega (arith, a.tape))))
        (coded (codes ",\"system\":") e.system (codes ",\"system_name\":") (system_name e.system) refl refl
        (omega (arith, small_system (may_have (event_form e.code) e.device) (has_tape (event_form e.code)) e.tape e.system a.shape)) (systems e.system))
    by false = nothing

event : (e : EventEntry) → EventFits e → Plain (event_fields e)
event e a =
    two (two (coded (codes ",\"code\":") e.code (codes ",\"code_name\":") (event_name e.code) refl refl (omega (arith, event_code e.code e.device e.tape e.system a.shape)) (events e.code))
    (keyed (codes ",\"device\":") refl (perhaps (device_of e.device) (few_device e.device a.device)))) (inserted e a)

outcome : (o : OutcomeEntry) → OutcomeFits o → Plain (outcome_fields o)
outcome o a =
    two (two (two (coded (codes ",\"code\":") o.code (codes ",\"code_name\":") (outcome_name o.code) refl refl (omega (arith, outcome_code o.code o.value a.shape)) (outcomes o.code))
    (keyed (codes ",\"device\":") refl (number o.device (omega (arith, a.device))))) (keyed (codes ",\"slot\":") refl (number o.slot (omega (arith, a.slot)))))
    (keyed (codes ",\"value\":") refl (in_quotes (digits 8 o.value)))

shown : (s : ShownEntry) → ShownFits s → Plain (shown_fields s)
shown s a =
    two (two (keyed (codes ",\"device\":") refl (number s.device (omega (arith, a.device)))) (keyed (codes ",\"offset\":") refl (in_quotes (digits 12 (REGISTER_SPACE + s.offset)))))
    (keyed (codes ",\"word\":") refl (in_quotes (digits 8 s.word)))

what : (e : Entry) → Fits e → Plain (what_fields e)
what (Reset r) a = reset r a
what (Async p) a = packet p a
what (Iso p) a = iso p a
what (Event e) a = event e a
what (Outcome o) a = outcome o a
what (Shown s) a = shown s a
what End a = nothing

prefix : (c k : ℕ) → c < 2 ^ 64 → k < 2 ^ 64 → Plain (prefix_fields c k)
unfolding prefix_fields
prefix c k h g = two (keyed (codes "{\"cycle\":") refl (cycle c h)) (coded (codes ",\"kind\":") k (codes ",\"kind_name\":") (kind_name k) refl refl g (kinds k))

pub object_is_line : (t : Timed) → TimedFits t → IsLine (object t)
object_is_line t a =
    let fields : List ℕ = prefix_fields t.cycle (kind_of t.what) ++ what_fields t.what in
    let all : Plain (fields ++ codes "}") = two (two (prefix t.cycle (kind_of t.what) a.cycle (small_kind t.what)) (what t.what a.entry)) (word (codes "}") refl) in
    record { text = fields ++ codes "}"; plain = each (fields ++ codes "}") all.is; same = sym (append_assoc fields (codes "}") (10 ∷ [])) }
