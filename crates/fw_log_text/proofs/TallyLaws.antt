-- The counts of a report, entry by entry.
use Rattle.std.proofs.Common.{◌≡◌, ◌≢◌, ℕ, min, ◌+◌, ◌-◌, ◌^◌, ◌≤◌, ◌<◌, ◌==◌, Bool, true, false, cond, not, List, [], ◌∷◌}
use Rattle.std.proofs.Common.{◌++◌, length, get_or, replicate, Some, arith, refl, ap, sym, subst, ◌∙◌, append_assoc, length-append, add-one, if◌then◌else◌, inl, inr}
use Rattle.std.proofs.lemmas.Bool.{cases_order}
use Rattle.std.proofs.lemmas.Bool.Decides.{nat_tests}
use Rattle.std.proofs.lemmas.Grind.{flat_map-append}
use Rattle.std.proofs.lemmas.List.{append-nil, length-set, length-replicate, get_or-replicate, get_or-set_same, get_or-set_other}
use Rattle.std.proofs.lemmas.List.Sums.{sum_by-append}
use Rattle.std.proofs.lemmas.Option.{slice_get_within, slice_get-get_or, get_or_from_slice_get}
use Rattle.std.proofs.Math.ListN.{set}
use Rattle.std.specs.List.{fold, slice_get}
use Rattle.fw_cip.specs.declared.packet.IsoPacket.{IsoPacket}
use Rattle.std.specs.Option.{is_some}
use Rattle.fw_cip.specs.declared.listener.Heard.{Heard}
use Rattle.fw_cip.specs.declared.listener.Heard.TheVariants.{Block, Empty, Gap}
use Rattle.fw_cip.specs.Iso.{Fits as IsoFits}
use Rattle.fw_cip.specs.Streams.{expected_of, heard}
use Rattle.fw_log_entry.specs.declared.entry.Entry.{Entry}
use Rattle.fw_log_entry.specs.declared.entry.Entry.TheVariants.{Reset, Async, Iso, Event, Outcome, Shown, End}
use Rattle.fw_log_entry.specs.declared.entry.Timed.{Timed}
use Rattle.fw_log_text.specs.declared.report.Channel.{Channel}
use Rattle.fw_log_text.specs.Report.{packet_on, packets_on, blocks_of, empties_of, gap_of, gaps_after, counts_text, channel_text, channels_text}
use Rattle.fw_log_text.specs.Tallies.{Counts, Reports}

-- ---- one channel

blocks_more : (packets : List IsoPacket) (p : IsoPacket) → blocks_of (packets ++ p ∷ []) ≡ blocks_of packets + cond (is_some p.block) 1 0
blocks_more packets p = sum_by-append (λ (q : IsoPacket). cond (is_some q.block) 1 0) packets (p ∷ []) ∙ omega arith

gaps_more : (before packets : List IsoPacket) (p : IsoPacket) → gaps_after before (packets ++ p ∷ []) ≡ gaps_after before packets + gap_of (heard (expected_of (before ++ packets)) p)
gaps_more before [] p = ap (λ b. gap_of (heard (expected_of b) p) + 0) (sym (append-nil before)) ∙ omega arith
gaps_more before (q ∷ qs) p =
    let h = gaps_more (before ++ q ∷ []) qs p in
    let e = ap (λ b. gap_of (heard (expected_of b) p)) (append_assoc before (q ∷ []) qs) in
    omega (arith, h, e)

-- what a channel has after a packet more
pub counts_more : (packets : List IsoPacket) (p : IsoPacket) (old new : Channel) → Counts packets old → new.listener ≡ expected_of (packets ++ p ∷ []) → new.packets ≡ old.packets + 1
    → new.blocks ≡ old.blocks + cond (is_some p.block) 1 0 → new.gaps ≡ old.gaps + gap_of (heard old.listener p) → Counts (packets ++ p ∷ []) new
counts_more packets p old new h listener count blocks gaps = record {
  listener = listener;
  count = omega (arith, count, h.count, length-append packets (p ∷ []));
  blocks = omega (arith, blocks, h.blocks, blocks_more packets p);
  gaps = gaps ∙ ap (λ e. old.gaps + gap_of (heard e p)) h.listener ∙ ap (λ n. n + gap_of (heard (expected_of packets) p)) h.gaps ∙ sym (gaps_more [] packets p);
}

-- a count that does not stand still
pub not_full : (all old more one : ℕ) (packets : List IsoPacket) {new : ℕ} → all ≡ length packets → length packets + 1 < 2 ^ 64 → old ≤ all → one ≤ 1 → more ≡ one → new ≡ min (old + more) (2 ^ 64 - 1)
    → new ≡ old + one
not_full all old more one packets count few less most e h = omega arith

pub one_block : (p : IsoPacket) → cond (is_some p.block) 1 0 ≤ 1
one_block p = grind arith

pub one_gap : (h : Heard) → gap_of h ≤ 1
one_gap Block = omega arith
one_gap Empty = omega arith
one_gap (Gap expected found) = omega arith

one : (b : Bool) → cond b 1 0 + cond (not b) 1 0 ≡ 1
one true = refl
one false = refl

split : (packets : List IsoPacket) (a b : ℕ)
    → fold (λ (n : ℕ) (p : IsoPacket). n + cond (is_some p.block) 1 0) a packets + fold (λ (n : ℕ) (p : IsoPacket). n + cond (not (is_some p.block)) 1 0) b packets ≡ a + b + length packets
split [] a b = omega arith
split (p ∷ ps) a b =
    let h = split ps (a + cond (is_some p.block) 1 0) (b + cond (not (is_some p.block)) 1 0) in
    omega (arith, h, one (is_some p.block))

empties_are : (packets : List IsoPacket) → length packets - blocks_of packets ≡ empties_of packets
empties_are packets = omega (arith, split packets 0 0)

-- the line of a channel that has packets
pub line_is : (packets : List IsoPacket) (number : ℕ) (c : Channel) → Counts packets c → c.packets ≢ 0
    → counts_text number c.packets c.blocks (c.packets - c.blocks) c.gaps ≡ channel_text number packets
line_is [] number c h some = absurd (some h.count)
line_is (p ∷ ps) number c h some =
    let empties : c.packets - c.blocks ≡ empties_of (p ∷ ps) = ap (λ n. n - c.blocks) h.count ∙ ap (λ n. length (p ∷ ps) - n) h.blocks ∙ empties_are (p ∷ ps) in
    ap (λ n. counts_text number c.packets c.blocks n c.gaps) empties ∙ ap (λ n. counts_text number n c.blocks (empties_of (p ∷ ps)) c.gaps) h.count
    ∙ ap (λ n. counts_text number (length (p ∷ ps)) n (empties_of (p ∷ ps)) c.gaps) h.blocks ∙ ap (counts_text number (length (p ∷ ps)) (blocks_of (p ∷ ps)) (empties_of (p ∷ ps))) h.gaps

-- a channel without packets has no line
pub no_line : (packets : List IsoPacket) (number : ℕ) (c : Channel) → Counts packets c → c.packets ≡ 0 → [] ≡ channel_text number packets
no_line [] number c h none = refl
no_line (p ∷ ps) number c h none = absurd (omega (arith, h.count, none))

-- ---- all channels

packets_more : (channel : ℕ) (entries : List Timed) (t : Timed) → packets_on channel (entries ++ t ∷ []) ≡ packets_on channel entries ++ packet_on channel t.what
packets_more channel entries t = flat_map-append (λ (u : Timed). packet_on channel u.what) entries (t ∷ []) ∙ ap (λ x. packets_on channel entries ++ x) (append-nil (packet_on channel t.what))

on_its_channel : (channel : ℕ) (p : IsoPacket) → channel ≡ p.channel → packet_on channel (Iso p) ≡ p ∷ []
on_its_channel channel p e = grind (arith, nat_tests)

on_no_other : (channel : ℕ) (p : IsoPacket) → channel ≢ p.channel → packet_on channel (Iso p) ≡ []
on_no_other channel p e = grind (arith, nat_tests)

none_on : (channel : ℕ) (e : Entry) → ((p : IsoPacket) → e ≡ Iso p → ⊥) → packet_on channel e ≡ []
none_on channel (Reset r) h = refl
none_on channel (Async p) h = refl
none_on channel (Iso p) h = absurd (h p refl)
none_on channel (Event e) h = refl
none_on channel (Outcome o) h = refl
none_on channel (Shown s) h = refl
none_on channel End h = refl

-- at most one packet an entry
few_on : (channel : ℕ) (e : Entry) → length (packet_on channel e) ≤ 1
few_on channel (Reset r) = omega arith
few_on channel (Async p) = omega arith
few_on channel (Iso p) = by (p.channel == channel)
  where
    by : (b : Bool) → length (if b then p ∷ [] else []) ≤ 1
    by true = omega arith
    by false = omega arith
few_on channel (Event e) = omega arith
few_on channel (Outcome o) = omega arith
few_on channel (Shown s) = omega arith
few_on channel End = omega arith

pub length-packets_on : (channel : ℕ) (entries : List Timed) → length (packets_on channel entries) ≤ length entries
length-packets_on channel [] = omega arith
length-packets_on channel (t ∷ ts) = omega (arith, few_on channel t.what, length-packets_on channel ts, length-append (packet_on channel t.what) (packets_on channel ts))

-- the report of no entries
pub reports_none : (c : Channel) → Counts [] c → Reports [] (replicate 64 c)
reports_none c h = record {
  all = length-replicate 64 c;
  each = λ channel d e.
      let within : channel < 64 = omega (arith, slice_get_within (replicate 64 c) channel d e, length-replicate 64 c) in
      let same : c ≡ d = sym (get_or-replicate 64 channel c c within) ∙ get_or_from_slice_get (replicate 64 c) channel d c e in
      let P : Channel → Type 0 = Counts [] in
      subst P same h;
}

-- an entry that is no isochronous packet
pub reports_other : (entries : List Timed) (t : Timed) (channels : List Channel) → ((p : IsoPacket) → t.what ≡ Iso p → ⊥) → Reports entries channels → Reports (entries ++ t ∷ []) channels
reports_other entries t channels other h = record {
  all = h.all;
  each = λ channel c e.
      let P : List IsoPacket → Type 0 = λ ps. Counts ps c in
      let same : packets_on channel entries ≡ packets_on channel (entries ++ t ∷ []) =
      sym (packets_more channel entries t ∙ ap (λ x. packets_on channel entries ++ x) (none_on channel t.what other) ∙ append-nil (packets_on channel entries)) in
      subst P same (h.each channel c e);
}

-- an isochronous packet
pub reports_iso : (entries : List Timed) (t : Timed) (p : IsoPacket) (channels : List Channel) (number : ℕ) (old new : Channel) → t.what ≡ Iso p → number ≡ p.channel → number < 64
    → length entries + 1 < 2 ^ 64 → ((packets : List IsoPacket) → length packets + 1 < 2 ^ 64 → Counts packets (get_or channels number old) → Counts (packets ++ p ∷ []) new) → Reports entries channels
    → Reports (entries ++ t ∷ []) (set channels number new)
reports_iso entries t p channels number old new is at within few counts h =
    let size : length (set channels number new) ≡ 64 = length-set channels number new ∙ h.all in
    record {
      all = size;
      each = λ channel c e. elim (cases_order channel number) [
        | inl same ↦
            let there : slice_get channels number ≡ Some (get_or channels number old) = slice_get-get_or channels number old (omega (arith, h.all)) in
            let set_is : new ≡ c = sym (get_or-set_same channels number new new (omega (arith, h.all))) ∙ ap (λ i. get_or (set channels number new) i new) (sym same)
            ∙ get_or_from_slice_get (set channels number new) channel c new e in
            let P : Channel → Type 0 = Counts (packets_on number entries ++ p ∷ []) in
            let Q : List IsoPacket → Type 0 = λ ps. Counts ps c in
            let packets : packets_on number entries ++ p ∷ [] ≡ packets_on channel (entries ++ t ∷ []) =
            ap (λ i. packets_on i entries ++ p ∷ []) (sym same) ∙ sym (packets_more channel entries t ∙ ap (λ x. packets_on channel entries ++ packet_on channel x) is
            ∙ ap (λ x. packets_on channel entries ++ x) (on_its_channel channel p (same ∙ at))) in
            subst Q packets (subst P set_is (counts (packets_on number entries) (omega (arith, length-packets_on number entries)) (h.each number (get_or channels number old) there)))
        | inr other ↦
            let apart : channel ≢ number = λ x. omega (arith, x, other) in
            let kept : get_or (set channels number new) channel c ≡ get_or channels channel c = get_or-set_other channels number channel new c apart in
            let here : channel < length channels = omega (arith, slice_get_within (set channels number new) channel c e, size, h.all) in
            let old_is : slice_get channels channel ≡ Some c = slice_get-get_or channels channel c here ∙ ap Some (sym kept ∙ get_or_from_slice_get (set channels number new) channel c c e) in
            let elsewhere : channel ≢ p.channel = λ x. apart (x ∙ sym at) in
            let Q : List IsoPacket → Type 0 = λ ps. Counts ps c in
            let packets : packets_on channel entries ≡ packets_on channel (entries ++ t ∷ []) =
            sym (packets_more channel entries t ∙ ap (λ x. packets_on channel entries ++ packet_on channel x) is ∙ ap (λ x. packets_on channel entries ++ x) (on_no_other channel p elsewhere)
            ∙ append-nil (packets_on channel entries)) in
            subst Q packets (h.each channel c old_is)
      ];
    }

-- one channel's line more
pub channels_none : (entries : List Timed) → [] ≡ channels_text 0 entries
unfolding channels_text
channels_none entries = refl

pub channels_next : (channel : ℕ) (entries : List Timed) → channels_text (channel + 1) entries ≡ channels_text channel entries ++ channel_text channel (packets_on channel entries)
unfolding channels_text
channels_next channel entries = rw (add-one channel) refl

pub channel_below : (p : IsoPacket) → IsoFits p → p.channel < 64
channel_below p f = omega (arith, f.header)
