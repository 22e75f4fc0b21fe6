-- How many entries the lines of a command tell.
use Rattle.std.proofs.Common.{◌≡◌, refl, ap, sym, subst, ℕ, zero, suc, ◌+◌, Bool, true, false, List, [], ◌∷◌, ◌++◌, Option, Some, None, if◌then◌else◌, arith}
use Rattle.std.specs.Option.{is_some}
use Rattle.fw_async.specs.Heads.{head_of}
use Rattle.fw_async.specs.declared.packet.Head.{Head}
use Rattle.fw_async.specs.declared.packet.Packet.{Packet}
use Rattle.fw_async.specs.declared.packet.Packet.TheVariants.{WriteQuadlet, WriteBlock, WriteReply, ReadQuadlet, ReadBlock, ReadQuadletReply, ReadBlockReply, CycleStart, Lock, LockReply}
use Rattle.fw_log_entry.specs.declared.entry.Entry.{Entry}
use Rattle.fw_log_entry.specs.declared.entry.Entry.TheVariants.{Reset, Async, Iso, Event, Outcome, Shown, End}
use Rattle.fw_log_entry.specs.declared.entry.Timed.{Timed}
use Rattle.fw_log_requests.specs.declared.asked.Answer.{Answer}
use Rattle.fw_log_requests.specs.Requests.{asked_by}
use Rattle.fw_trace_lines.specs.declared.streams.Stream.{Stream}
use Rattle.fw_trace_names.specs.Names.{Naming}
use Rattle.fw_trace_lines.specs.Streams.{stream_at}
use Rattle.fw_trace_lines.specs.Caused.{Telling, kind_of, held_by, joined_lines, joined_line, late_lines, response_lines, packet_lines}
use Rattle.fw_trace_lines.specs.Caused.{own_lines, lines_by, entry_lines, renumbered, naming_after, held_after, telling_after}
use Rattle.fw_trace_names.specs.CausedLines.{Caused}
use Rattle.fw_trace_requests.specs.Held.{DeferredRequest, is_joined, lone_lines}
use Rattle.fw_trace_lines.specs.Commands.{stream_lines, first_streams, last_lines, lines_from, telling_following, command_lines}
use Rattle.fw_trace_lines.specs.Laws.{entries_told, packets_due, lines_due, entries_due, TellsAll}

-- ---- sums

added : (a x y z : ℕ) → x ≡ y + z → a + x ≡ (a + y) + z
added a x y z e = omega (arith, e)

none_first : (x : ℕ) → x ≡ 0 + x
none_first x = omega arith

none_more : (x : ℕ) → x ≡ 0 → x + 0 ≡ 0
none_more x e = omega (arith, e)

no_sum : (x y z : ℕ) → x ≡ y + z → y ≡ 0 → z ≡ 0 → x ≡ 0
no_sum x y z e f g = omega (arith, e, f, g)

sum_first : (x y z : ℕ) → x ≡ y + z → z ≡ 0 → x ≡ y
sum_first x y z e f = omega (arith, e, f)

sum_second : (x y z : ℕ) → x ≡ y + z → y ≡ 0 → x ≡ z
sum_second x y z e f = omega (arith, e, f)

same_more : (x y : ℕ) → x ≡ y → x ≡ y + 0
same_more x y e = omega (arith, e)

first_same : (w h h' x : ℕ) → w ≡ h + x → h ≡ h' → w ≡ h' + x
first_same w h h' x e f = omega (arith, e, f)

after_sum : (w h x m n : ℕ) → w ≡ h + x → x + m ≡ n → w + m ≡ h + n
after_sum w h x m n e f = omega (arith, e, f)

two_told : (j k h p : ℕ) → j ≡ 2 → k ≡ 0 → h ≡ 1 → p ≡ 1 → j + k ≡ h + p
two_told j k h p a b c d = omega (arith, a, b, c, d)

other_none : (j k l r : ℕ) → k ≡ 0 → l ≡ 0 → j + l ≡ r → j + k ≡ r
other_none j k l r a b c = omega (arith, a, b, c)

told_next : (w a l e f g later d h u : ℕ) → w ≡ a + l → a ≡ e + f → g ≡ f + l → g ≡ later + d → e + later ≡ h + u → w ≡ h + (u + d)
told_next w a l e f g later d h u p q r s t = omega (arith, p, q, r, s, t)

-- ---- lines

-- a request that is held back is still to be told
abbrev held_count : Option DeferredRequest → ℕ
held_count None = 0
held_count (Some h) = 1

told_append : (a b : List Caused) → entries_told (a ++ b) ≡ entries_told a + entries_told b
told_append [] b = none_first (entries_told b)
told_append (l ∷ ls) b = added l.entries (entries_told (ls ++ b)) (entries_told ls) (entries_told b) (told_append ls b)

lone_count : (h : Option DeferredRequest) → entries_told (lone_lines h) ≡ held_count h
unfolding lone_lines
lone_count None = refl
lone_count (Some h) = refl

-- after the line of a request that is held back
after_lone : (h : Option DeferredRequest) (ls : List Caused) → entries_told (lone_lines h ++ ls) ≡ held_count h + entries_told ls
after_lone h ls = first_same (entries_told (lone_lines h ++ ls)) (entries_told (lone_lines h)) (held_count h) (entries_told ls) (told_append (lone_lines h) ls) (lone_count h)

one_after : (h : Option DeferredRequest) (ls : List Caused) (n m : ℕ) → entries_told ls + m ≡ n → entries_told (lone_lines h ++ ls) + m ≡ held_count h + n
one_after h ls n m e = after_sum (entries_told (lone_lines h ++ ls)) (held_count h) (entries_told ls) m n (after_lone h ls) e

-- ---- packets

joined_some : (k : Option Answer) (head : Head) (held : Option DeferredRequest) → is_joined k head held ≡ true → (is_some k ≡ true) × ((h : DeferredRequest) × (held ≡ Some h))
unfolding is_joined
joined_some None head None e = absurd cc
joined_some None head (Some h) e = absurd cc
joined_some (Some k) head None e = absurd cc
joined_some (Some k) head (Some h) e = (refl, (h, refl))

-- a response is no request, and has a line
response_due : (n : Naming) (cycle : ℕ) (p : Packet) → is_some (kind_of p) ≡ true → (held_count (held_by n cycle p (asked_by p)) ≡ 0) × (packets_due p ≡ 1)
unfolding held_by asked_by
response_due n cycle (WriteQuadlet h offset value) e = absurd cc
response_due n cycle (WriteBlock h offset bytes) e = absurd cc
response_due n cycle (WriteReply h rcode) e = (refl, refl)
response_due n cycle (ReadQuadlet h offset) e = absurd cc
response_due n cycle (ReadBlock h offset len) e = absurd cc
response_due n cycle (ReadQuadletReply h rcode value) e = (refl, refl)
response_due n cycle (ReadBlockReply h rcode bytes) e = (refl, refl)
response_due n cycle (CycleStart h offset time) e = absurd cc
response_due n cycle (Lock h offset function bytes) e = absurd cc
response_due n cycle (LockReply h rcode function bytes) e = (refl, refl)

-- a response has its own line, and a request is held back
lone_due : (t : Telling) (n : Naming) (cycle : ℕ) (p : Packet) → entries_told (response_lines t cycle p (kind_of p)) + held_count (held_by n cycle p (asked_by p)) ≡ packets_due p
unfolding response_lines late_lines held_by asked_by
lone_due t n cycle (WriteQuadlet h offset value) = refl
lone_due t n cycle (WriteBlock h offset bytes) = refl
lone_due t n cycle (WriteReply h rcode) = refl
lone_due t n cycle (ReadQuadlet h offset) = refl
lone_due t n cycle (ReadBlock h offset len) = refl
lone_due t n cycle (ReadQuadletReply h rcode value) = refl
lone_due t n cycle (ReadBlockReply h rcode bytes) = refl
lone_due t n cycle (CycleStart h offset time) = refl
lone_due t n cycle (Lock h offset function bytes) = refl
lone_due t n cycle (LockReply h rcode function bytes) = refl

joined_two : (n : Naming) (p : Packet) (h : DeferredRequest) → entries_told (joined_lines n p (Some h)) ≡ 2
unfolding joined_lines joined_line
joined_two n p h = refl

-- a response with the request that is held back
joined_due : (n : Naming) (cycle : ℕ) (p : Packet) (held : Option DeferredRequest) → is_joined (kind_of p) (head_of p) held ≡ true
    → entries_told (joined_lines n p held) + held_count (held_by n cycle p (asked_by p)) ≡ held_count held + packets_due p
joined_due n cycle p held e =
    let s = joined_some (kind_of p) (head_of p) held e in
    let r = response_due n cycle p s.0 in
    let two : entries_told (joined_lines n p held) ≡ 2 = subst (λ (x : Option DeferredRequest). entries_told (joined_lines n p x) ≡ 2) (sym s.1.1) (joined_two n p s.1.0) in
    let one : held_count held ≡ 1 = ap held_count s.1.1 in
    two_told (entries_told (joined_lines n p held)) (held_count (held_by n cycle p (asked_by p))) (held_count held) (packets_due p) two r.0 one r.1

packet_due : (t : Telling) (n : Naming) (cycle : ℕ) (p : Packet)
    → entries_told (packet_lines t cycle p) + held_count (held_by n cycle p (asked_by p)) ≡ held_count t.held + packets_due p
unfolding packet_lines
packet_due t n cycle p = by_joined (is_joined (kind_of p) (head_of p) t.held) refl
  where
    by_joined : (b : Bool) → is_joined (kind_of p) (head_of p) t.held ≡ b
        → entries_told (if b then joined_lines t.naming p t.held else (lone_lines t.held ++ response_lines t cycle p (kind_of p))) + held_count (held_by n cycle p (asked_by p))
        ≡ held_count t.held + packets_due p
    by_joined true e =
        let r = response_due n cycle p (joined_some (kind_of p) (head_of p) t.held e).0 in
        let j = joined_due t.naming cycle p t.held e in
        let s = response_due t.naming cycle p (joined_some (kind_of p) (head_of p) t.held e).0 in
        other_none (entries_told (joined_lines t.naming p t.held)) (held_count (held_by n cycle p (asked_by p))) (held_count (held_by t.naming cycle p (asked_by p)))
        (held_count t.held + packets_due p) r.0 s.0 j
    by_joined false e = one_after t.held (response_lines t cycle p (kind_of p)) (packets_due p) (held_count (held_by n cycle p (asked_by p))) (lone_due t n cycle p)

-- ---- entries

entry_due : (t : Telling) (cycle : ℕ) (what : Entry)
    → entries_told (lines_by (renumbered what t) cycle what) + held_count (held_after (naming_after t.naming what) cycle what) ≡ held_count t.held + lines_due what
unfolding lines_by own_lines
entry_due t cycle (Reset r) = one_after t.held _ 1 0 refl
entry_due t cycle (Async p) = packet_due (renumbered (Async p) t) t.naming cycle p
entry_due t cycle (Iso p) = one_after t.held [] 0 0 refl
entry_due t cycle (Event e) = one_after t.held _ 1 0 refl
entry_due t cycle (Outcome o) = one_after t.held _ 1 0 refl
entry_due t cycle (Shown s) = one_after t.held _ 1 0 refl
entry_due t cycle End = one_after t.held _ 1 0 refl

-- ---- streams

if_any : (b : Bool) (l : Caused) → l.entries ≡ 0 → entries_told (if b then [] else l ∷ []) ≡ 0
if_any true l e = refl
if_any false l e = none_more l.entries e

stream_due : (n : Naming) (cycle channel : ℕ) (s : Stream) → entries_told (stream_lines n cycle channel s) ≡ 0
unfolding stream_lines
stream_due n cycle channel s = if_any _ _ refl

streams_due : (n : Naming) (cycle : ℕ) (streams : List Stream) (k : ℕ) → entries_told (first_streams n cycle streams k) ≡ 0
unfolding first_streams
streams_due n cycle streams zero = refl
streams_due n cycle streams (suc k) =
    no_sum (entries_told (first_streams n cycle streams k ++ stream_lines n cycle k (stream_at streams k)))
    (entries_told (first_streams n cycle streams k)) (entries_told (stream_lines n cycle k (stream_at streams k)))
    (told_append (first_streams n cycle streams k) (stream_lines n cycle k (stream_at streams k))) (streams_due n cycle streams k) (stream_due n cycle k (stream_at streams k))

last_due : (t : Telling) → entries_told (last_lines t) ≡ held_count t.held
unfolding last_lines
last_due t =
    sum_first (entries_told (lone_lines t.held ++ first_streams t.naming t.cycle t.streams 64)) (held_count t.held) (entries_told (first_streams t.naming t.cycle t.streams 64))
    (after_lone t.held (first_streams t.naming t.cycle t.streams 64)) (streams_due t.naming t.cycle t.streams 64)

-- ---- commands

command_due : (t : Telling) (entries : List Timed) → entries_told (lines_from t entries ++ last_lines (telling_following t entries)) ≡ held_count t.held + entries_due entries
command_due t [] = same_more (entries_told (last_lines t)) (held_count t.held) (last_due t)
command_due t (e ∷ es) =
    let after : Telling = telling_after t e in
    let last : List Caused = last_lines (telling_following after es) in
    told_next (entries_told ((entry_lines t e ++ lines_from after es) ++ last)) (entries_told (entry_lines t e ++ lines_from after es)) (entries_told last)
    (entries_told (entry_lines t e)) (entries_told (lines_from after es)) (entries_told (lines_from after es ++ last)) (held_count after.held) (entries_due es) (held_count t.held) (lines_due e.what)
    (told_append (entry_lines t e ++ lines_from after es) last) (told_append (entry_lines t e) (lines_from after es)) (told_append (lines_from after es) last)
    (command_due after es) (entry_due t e.cycle e.what)

pub tells_all : TellsAll
tells_all t entries none = sum_second (entries_told (command_lines t entries)) (held_count t.held) (entries_due entries) (command_due t entries) (ap held_count none)
