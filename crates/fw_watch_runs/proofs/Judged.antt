-- An audit judges each lock at a watched register of a run.
use Rattle.fw_watch_runs.proofs.Common.{◌≡◌, refl, ap, ◌∙◌, ℕ, ◌+◌, ◌==◌, Bool, true, false, List, [], ◌∷◌, Some, None, is_some, arith, nat_tests, All, Procedure, label_code, Head}
use Rattle.fw_watch_runs.proofs.Common.{Packet, register_at, Entry, Async, Timed, IsLabelledIn, IsOrderly, if◌then◌else◌}
use Rattle.std.proofs.Common.{◌-◌, ◌%◌, ◌≤◌, ◌&&◌, ◌||◌, nat_le, nat_lt, not}
use Rattle.std.proofs.lemmas.List.Elements.{All-head, All-tail}
use Rattle.std.proofs.lemmas.List.Sums.{sum_by-cons}
use Rattle.fw_csr.specs.declared.offset.TheConstants.{BANDWIDTH_AVAILABLE, CHANNELS_AVAILABLE_HI, CHANNELS_AVAILABLE_LO, OPCR, IPCR}
use Rattle.fw_log_entry.specs.declared.entry.Entry.TheVariants.{Reset, Iso, Event, Outcome, Shown, End}
use Rattle.fw_async.specs.declared.packet.Packet.TheVariants.{WriteQuadlet, WriteBlock, WriteReply, ReadQuadlet, ReadBlock, ReadQuadletReply, ReadBlockReply, CycleStart, Lock, LockReply}
use Rattle.fw_model_account.specs.Words.{first_address, first_output, first_input}
use Rattle.fw_model_audit.specs.Judged.{watched_offset}
use Rattle.fw_model_audit.specs.Looked.{is_watched, is_plug_offset}
use Rattle.fw_audit.specs.Unjudged.{is_unjudged, is_unjudged_packet, unjudged}
use Rattle.fw_watch_remarks.specs.Registers.{plug_number, output_or, input_of}
use Rattle.fw_watch_remarks.specs.declared.register.WatchedRegister.TheVariants.{Bandwidth, ChannelsHigh, ChannelsLow}
use Rattle.fw_watch_laws.specs.Orderly.{IsLabelled}

-- ---- the registers that an audit watches are those that `watch` does

same_place : (first k at : ℕ) → first ≤ at → (at - first == k) ≡ (at == first + k)
same_place first k at h = grind (arith, nat_tests)

-- the number of a plug register can be told by its address
is_numbered : ℕ → ℕ → Bool
is_numbered first at = nat_le first at && nat_lt at (first + 124) && ((at - first) % 4 == 0)

same_plug : (first k at : ℕ) → first ≤ at → is_plug_offset k (at - first) ≡ is_numbered (first + k) at
unfolding is_numbered
same_plug first k at h =
    let low : nat_le k (at - first) ≡ nat_le (first + k) at = grind (arith, nat_tests) in
    let high : nat_lt (at - first) (k + 124) ≡ nat_lt at (first + k + 124) = grind (arith, nat_tests) in
    let rest : at - first - k ≡ at - (first + k) = omega arith in
    rw (low, high, rest) refl

some_of : (b c d e f : Bool) (m n : ℕ) → (b || c || d || e || f) ≡ true
    → is_some (if b then Some Bandwidth else if c then Some ChannelsHigh else if d then Some ChannelsLow else output_or (if e then Some m else None) (input_of (if f then Some n else None))) ≡ true
some_of true c d e f m n h = refl
some_of false true d e f m n h = refl
some_of false false true e f m n h = refl
some_of false false false true f m n h = refl
some_of false false false false true m n h = refl
some_of false false false false false m n h = let z : ⊥ = cc in absurd z

is_one_of : (at : ℕ) → first_address ≤ at → is_watched (at - first_address) ≡ true
    → ((at == BANDWIDTH_AVAILABLE) || (at == CHANNELS_AVAILABLE_HI) || (at == CHANNELS_AVAILABLE_LO) || is_numbered OPCR at || is_numbered IPCR at) ≡ true
is_one_of at h w =
    rw (
      ← same_place first_address 0x220 at h,
      ← same_place first_address 0x224 at h,
      ← same_place first_address 0x228 at h,
      ← same_plug first_address first_output at h,
      ← same_plug first_address first_input at h,
    ) w

named : (at : ℕ) → first_address ≤ at → is_watched (at - first_address) ≡ true → is_some (register_at at) ≡ true
unfolding register_at plug_number is_numbered
named at h w = some_of (at == BANDWIDTH_AVAILABLE) (at == CHANNELS_AVAILABLE_HI) (at == CHANNELS_AVAILABLE_LO) (is_numbered OPCR at) (is_numbered IPCR at) _ _ (is_one_of at h w)

watched_named : (at : ℕ) → is_some (watched_offset at) ≡ true → is_some (register_at at) ≡ true
watched_named at h = by (nat_le first_address at) (is_watched (at - first_address)) refl refl h
  where
    by : (b c : Bool) → nat_le first_address at ≡ b → is_watched (at - first_address) ≡ c → is_some (if b && c then Some (at - first_address) else None) ≡ true → is_some (register_at at) ≡ true
    by true true e f g = named at (grind (arith, nat_tests, e)) f
    by true false e f g = let z : ⊥ = cc in absurd z
    by false c e f g = let z : ⊥ = cc in absurd z

-- ---- locks of a run

lock_judged : (h : Head) (offset : ℕ) (b w : Bool) → (h.tl == label_code Procedure) ≡ b → is_some (watched_offset offset) ≡ w → (is_some (register_at offset) ≡ true → h.tl ≡ label_code Procedure)
    → (not b && w) ≡ false
lock_judged h offset true w e f l = refl
lock_judged h offset false false e f l = refl
lock_judged h offset false true e f l =
    let same : h.tl ≡ label_code Procedure = l (watched_named offset f) in
    let z : ⊥ = grind (arith, nat_tests, e, same) in
    absurd z

packet_judged : (p : Packet) → IsLabelled p → is_unjudged_packet p ≡ false
packet_judged (Lock h offset function bytes) l = lock_judged h offset (h.tl == label_code Procedure) (is_some (watched_offset offset)) refl refl l
packet_judged (WriteQuadlet h offset value) l = refl
packet_judged (WriteBlock h offset bytes) l = refl
packet_judged (WriteReply h rcode) l = refl
packet_judged (ReadQuadlet h offset) l = refl
packet_judged (ReadBlock h offset len) l = refl
packet_judged (ReadQuadletReply h rcode value) l = refl
packet_judged (ReadBlockReply h rcode bytes) l = refl
packet_judged (CycleStart h offset time) l = refl
packet_judged (LockReply h rcode function bytes) l = refl

entry_judged : (e : Entry) → IsLabelledIn e → is_unjudged e ≡ false
entry_judged (Async p) l = packet_judged p l
entry_judged (Reset r) l = refl
entry_judged (Iso p) l = refl
entry_judged (Event e) l = refl
entry_judged (Outcome o) l = refl
entry_judged (Shown w) l = refl
entry_judged End l = refl

all_judged : (log : List Timed) → All (λ t. IsLabelledIn t.what) log → unjudged log ≡ 0
all_judged [] l = refl
all_judged (t ∷ ts) l =
    let first = entry_judged t.what (All-head (λ (x : Timed). IsLabelledIn x.what) t ts l) in
    sum_by-cons (λ (x : Timed). if is_unjudged x.what then 1 else 0) t ts
    ∙ ap (λ (b : Bool). (if b then 1 else 0) + unjudged ts) first
    ∙ omega (arith, all_judged ts (All-tail (λ (x : Timed). IsLabelledIn x.what) t ts l))

-- so none is left
pub none_left : (log : List Timed) → IsOrderly log → unjudged log ≡ 0
none_left log o = all_judged log o.labels
