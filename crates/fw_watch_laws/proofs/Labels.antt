-- Locks that stand are those of procedures.
use Rattle.fw_watch_laws.proofs.Common.{◌≡◌, refl, not, Bool, true, false, List, Option, Some, None, is_some, All, All-filter, Procedure, label_code, Head, Packet, WriteQuadlet, WriteBlock}
use Rattle.fw_watch_laws.proofs.Common.{
  WriteReply,
  ReadQuadlet,
  ReadBlock,
  ReadQuadletReply,
  ReadBlockReply,
  CycleStart,
  LockRequest,
  LockReply,
  WatchedRegister,
  register_at,
  Asking,
  Read,
  Asked,
  is_read,
}
use Rattle.fw_watch_laws.proofs.Common.{lock_of, is_of, answers, without_same, without_answered, asked_at_register, with_request, standing_following}
use Rattle.std.proofs.Common.{IsTrue}
use Rattle.fw_watch_laws.specs.Orderly.{IsLabelled}
use Rattle.fw_watch_laws.proofs.Matches.{one_more}

-- a request is a read, or has the label of procedures
abbrev pub IsOwn : Asked → Type 0
IsOwn q = is_read q.asking ≡ false → q.label ≡ label_code Procedure

same_own : (h : Head) (xs : List Asked) → All IsOwn xs → All IsOwn (without_same h xs)
unfolding without_same
same_own h xs a = All-filter (λ q. not (is_of h q)) IsOwn xs a

left_own : (read : Bool) (h : Head) (xs : List Asked) → All IsOwn xs → All IsOwn (without_answered read h xs)
unfolding without_answered
left_own read h xs a = All-filter (λ q. not (answers read h q)) IsOwn xs a

more_own : (xs : List Asked) (h : Head) (o : Option WatchedRegister) (asking : Asking) → All IsOwn xs → (IsTrue (is_some o) → is_read asking ≡ false → h.tl ≡ label_code Procedure)
    → All IsOwn (with_request (asked_at_register h o asking) xs)
more_own xs h None asking a f = a
more_own xs h (Some r) asking a f = one_more IsOwn xs (record { source = h.source; destination = h.destination; label = h.tl; register = r; asking = asking }) a (f refl)

-- after a packet
pub own_following : (p : Packet) (xs : List Asked) → IsLabelled p → All IsOwn xs → All IsOwn (standing_following p xs)
unfolding standing_following
own_following (WriteQuadlet h offset value) xs l a = same_own h xs a
own_following (WriteBlock h offset bytes) xs l a = same_own h xs a
own_following (WriteReply h rcode) xs l a = a
own_following (ReadQuadlet h offset) xs l a = more_own (without_same h xs) h (register_at offset) Read (same_own h xs a) (λ there e. absurd (reads e))
  where
    reads : true ≡ false → ⊥
    reads e = cc
own_following (ReadBlock h offset len) xs l a = same_own h xs a
own_following (ReadQuadletReply h rcode value) xs l a = left_own true h xs a
own_following (ReadBlockReply h rcode bytes) xs l a = a
own_following (CycleStart h offset time) xs l a = a
own_following (LockRequest h offset function bytes) xs l a = more_own (without_same h xs) h (register_at offset) (lock_of function bytes) (same_own h xs a) (λ there e. l there)
own_following (LockReply h rcode function bytes) xs l a = left_own false h xs a
