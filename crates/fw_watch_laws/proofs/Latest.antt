-- The latest bus reset of an account, after an entry.
use Rattle.fw_watch_laws.proofs.Common.{◌≡◌, ap, sym, ℕ, ◌==◌, Bool, true, false, if◌then◌else◌, Option, Some, None, is_none, is_some, same_Some, Procedure, label_code, Packet, WriteQuadlet}
use Rattle.fw_watch_laws.proofs.Common.{WriteBlock, WriteReply, ReadQuadlet, ReadBlock, ReadQuadletReply, ReadBlockReply, CycleStart, LockRequest, LockReply, ResetEntry, Entry, Reset, Async, Iso}
use Rattle.fw_watch_laws.proofs.Common.{Event, Outcome, Shown, End, device_of_id, Account, Reads, Locks, Request, after_second, after_withholding, asked, asked_by, Reply, ReadReply, Locked}
use Rattle.fw_watch_laws.proofs.Common.{next_account}
use Rattle.fw_log_entry.specs.declared.codes.event.TheConstants as Events
use Rattle.fw_model_account.specs.Events.{after_death}
use Rattle.fw_model_account.specs.Packets.{answered, after_packet}
use Rattle.fw_watch_laws.proofs.Matching.{reply_to}

-- the latest bus reset after an entry
abbrev pub latest_after : Entry → Option ResetEntry → Option ResetEntry
latest_after (Reset r) o = Some r
latest_after (Async p) o = o
latest_after (Iso p) o = o
latest_after (Event e) o = o
latest_after (Outcome x) o = o
latest_after (Shown w) o = o
latest_after End o = o

same_of : (l m : Account) → Some l ≡ Some m → m.latest ≡ l.latest
same_of l m e = ap (λ (x : Account). x.latest) (sym (same_Some l m e))

asked_latest : (o : Option ℕ) (r : Request) (l m : Account) → asked_by o r l ≡ Some m → m.latest ≡ l.latest
asked_latest None r l m e = cc
asked_latest (Some c) r l m e = free (is_none (l.outstanding c)) e
  where
    free : (b : Bool) → (if b then Some (asked c r l) else None) ≡ Some m → m.latest ≡ l.latest
    free true n = same_of (asked c r l) m n
    free false n = cc

request_latest : (b : Bool) (o : Option ℕ) (r : Request) (l m : Account) → (if b then asked_by o r l else Some l) ≡ Some m → m.latest ≡ l.latest
request_latest true o r l m e = asked_latest o r l m e
request_latest false o r l m e = same_of l m e

answered_latest : (o : Option ℕ) (source : ℕ) (reply : Reply) (l m : Account) → answered o source reply l ≡ Some m → m.latest ≡ l.latest
answered_latest None source reply l m e = cc
answered_latest (Some c) source reply l m e = (reply_to true (l.outstanding c) c source reply l m e).latest

reply_latest : (b : Bool) (o : Option ℕ) (source : ℕ) (reply : Reply) (l m : Account) → (if b then answered o source reply l else Some l) ≡ Some m → m.latest ≡ l.latest
reply_latest true o source reply l m e = answered_latest o source reply l m e
reply_latest false o source reply l m e = same_of l m e

packet_latest : (p : Packet) (l m : Account) → after_packet p l ≡ Some m → m.latest ≡ l.latest
packet_latest (WriteQuadlet h offset value) l m e = same_of l m e
packet_latest (WriteBlock h offset bytes) l m e = same_of l m e
packet_latest (WriteReply h rcode) l m e = same_of l m e
packet_latest (ReadQuadlet h offset) l m e =
    request_latest (h.tl == label_code Procedure) (device_of_id l.latest h.source) (record { target = h.destination; address = offset; operation = Reads }) l m e
packet_latest (ReadBlock h offset len) l m e = same_of l m e
packet_latest (ReadQuadletReply h rcode value) l m e = reply_latest (h.tl == label_code Procedure) (device_of_id l.latest h.destination) h.source ReadReply l m e
packet_latest (ReadBlockReply h rcode bytes) l m e = same_of l m e
packet_latest (CycleStart h offset time) l m e = same_of l m e
packet_latest (LockRequest h offset function bytes) l m e =
    request_latest (h.tl == label_code Procedure) (device_of_id l.latest h.source) (record { target = h.destination; address = offset; operation = Locks function bytes }) l m e
packet_latest (LockReply h rcode function bytes) l m e =
    reply_latest (h.tl == label_code Procedure) (device_of_id l.latest h.destination) h.source (Locked function rcode bytes) l m e

event_if : (a b c d f : Bool) (device : ℕ) (l m : Account)
    → (if a then (if d then Some (after_second l) else None) else (if b then Some (after_death device l) else (if c then (if f then None else Some (after_withholding l)) else Some l))) ≡ Some m
    → m.latest ≡ l.latest
event_if true b c true f device l m e = same_of (after_second l) m e
event_if true b c false f device l m e = cc
event_if false true c d f device l m e = same_of (after_death device l) m e
event_if false false true d true device l m e = cc
event_if false false true d false device l m e = same_of (after_withholding l) m e
event_if false false false d f device l m e = same_of l m e

pub next_latest : (e : Entry) (l m : Account) → next_account l e ≡ Some m → m.latest ≡ latest_after e l.latest
next_latest (Reset r) l m e = ap (λ (x : Account). x.latest) (sym (same_Some _ m e))
next_latest (Async p) l m e = packet_latest p l m e
next_latest (Iso p) l m e = same_of l m e
next_latest (Event x) l m e = event_if (x.code == Events.SECOND_OVER) (x.code == Events.DIED) (x.code == Events.WITHHELD) l.reclaiming (is_some l.latest) x.device l m e
next_latest (Outcome x) l m e = same_of l m e
next_latest (Shown w) l m e = same_of l m e
next_latest End l m e = same_of l m e
