-- Requests that are outstanding and requests that are outstanding, after a packet.
use Rattle.fw_watch_laws.proofs.Common.{◌≡◌, refl, ap, sym, ◌∙◌, subst, ℕ, ◌==◌, not, Bool, true, false, List, if◌then◌else◌, Option, Some, None, is_none, ◌&&◌, get_or, All, eqb-true, eq-eqb}
use Rattle.fw_watch_laws.proofs.Common.{All-filter, same_Some, update, PlugAt, Procedure, label_code, Head, Packet, WriteQuadlet, WriteBlock, WriteReply, ReadQuadlet, ReadBlock, ReadQuadletReply}
use Rattle.fw_watch_laws.proofs.Common.{ReadBlockReply, CycleStart, LockRequest, LockReply, device_of_id, Account, Operation, Reads, Locks, Request, Move, AllocateChannel, AllocateUnits, ConnectFirst}
use Rattle.fw_watch_laws.proofs.Common.{ConnectOverlaid, ConnectInput, DisconnectInput, DisconnectOutput, ReleaseUnits, ReleaseChannel, Place, register_of, move_at, asked_by, Reply, ReadReply, Locked}
use Rattle.fw_watch_laws.proofs.Common.{ended, is_swapped, replied, is_reply_to, quadlet_at, register_at, Asking, Read, Asked, lock_of, answers, without_same, without_answered, asked_at_register}
use Rattle.fw_watch_laws.proofs.Common.{with_request, standing_following}
use Rattle.fw_model_account.specs.Moves.{after}
use Rattle.fw_model_account.specs.Packets.{asked as asked_in, moved}
use Rattle.fw_model_account.specs.Packets.{swapped, replied_to, answered as answered_in, after_packet}
use Rattle.fw_watch_laws.proofs.Matches.{IsApart, IsMatched, asking_of, ended_matched, other_matched, new_matched, within, more_matched}

-- the outstanding requests are matched
abbrev pub AllMatched : Account → List Asked → Type 0
AllMatched l xs = All (IsMatched l) xs

same_matched : (l : Account) (h : Head) (xs : List Asked) → AllMatched l xs → AllMatched l (without_same h xs)
same_matched l h xs a = within l l xs h a (λ q e m. m)

-- a new request with the label of procedures
labelled_request : (l : Account) (h : Head) (address c : ℕ) (operation : Operation) (asking : Asking) (xs : List Asked) → IsApart l.latest → h.tl ≡ label_code Procedure
    → device_of_id l.latest h.source ≡ Some c → asking ≡ asking_of operation → AllMatched l xs
    → AllMatched (asked_in c (record { target = h.destination; address = address; operation = operation }) l) (with_request (asked_at_register h (register_at address) asking) (without_same h xs))
labelled_request l h address c operation asking xs apart tl device asks a =
    let m : Account = asked_in c (record { target = h.destination; address = address; operation = operation }) l in
    more_matched m (without_same h xs) h (register_at address) asking
    (within l m xs h a (λ q other k d r label of out target. other_matched (d == c) l h address c operation q d r refl apart tl device other k label of out target))
    (λ r e. new_matched l h address c operation (record { source = h.source; destination = h.destination; label = h.tl; register = r; asking = asking }) apart device refl e asks)

-- and with another
other_request : (l : Account) (h : Head) (address : ℕ) (asking : Asking) (xs : List Asked) → (h.tl == label_code Procedure) ≡ false → AllMatched l xs
    → AllMatched l (with_request (asked_at_register h (register_at address) asking) (without_same h xs))
other_request l h address asking xs n a =
    more_matched l (without_same h xs) h (register_at address) asking (same_matched l h xs a) (λ r e d q label. absurd (differs (eq-eqb h.tl (label_code Procedure) label)))
  where
    differs : (h.tl == label_code Procedure) ≡ true → ⊥
    differs y = cc

request_if : (b : Bool) (l m : Account) (h : Head) (address : ℕ) (operation : Operation) (asking : Asking) (o : Option ℕ) (xs : List Asked) → (h.tl == label_code Procedure) ≡ b
    → device_of_id l.latest h.source ≡ o → IsApart l.latest → asking ≡ asking_of operation → AllMatched l xs
    → (if b then asked_by o (record { target = h.destination; address = address; operation = operation }) l else Some l) ≡ Some m
    → AllMatched m (with_request (asked_at_register h (register_at address) asking) (without_same h xs))
request_if false l m h address operation asking o xs e f apart asks a next =
    let P : Account → Type 0 = λ x. AllMatched x (with_request (asked_at_register h (register_at address) asking) (without_same h xs)) in
    subst P (same_Some l m next) (other_request l h address asking xs e a)
request_if true l m h address operation asking None xs e f apart asks a next = cc
request_if true l m h address operation asking (Some c) xs e f apart asks a next =
    let P : Account → Type 0 = λ x. AllMatched x (with_request (asked_at_register h (register_at address) asking) (without_same h xs)) in
    subst P (same_Some _ m (free (is_none (l.outstanding c)) next)) (labelled_request l h address c operation asking xs apart (eqb-true h.tl (label_code Procedure) e) f asks a)
  where
    free : (b : Bool) → (if b then Some (asked_in c (record { target = h.destination; address = address; operation = operation }) l) else None) ≡ Some m
        → Some (asked_in c (record { target = h.destination; address = address; operation = operation }) l) ≡ Some m
    free true n = n
    free false n = cc

-- ---- a response

-- a move changes neither the nodes nor what is outstanding
moved_same : (c : ℕ) (p : PlugAt) (m : Move) (l : Account) → (after c p m l).latest ≡ l.latest
moved_same c p (AllocateChannel ch) l = refl
moved_same c p (AllocateUnits ch u) l = refl
moved_same c p (ConnectFirst kind ch overhead) l = refl
moved_same c p (ConnectOverlaid kind) l = refl
moved_same c p (ConnectInput kind ch) l = refl
moved_same c p (DisconnectInput kind) l = refl
moved_same c p (DisconnectOutput kind) l = refl
moved_same c p (ReleaseUnits ch u) l = refl
moved_same c p (ReleaseChannel ch) l = refl

moved_asks : (c : ℕ) (p : PlugAt) (m : Move) (l : Account) → (after c p m l).outstanding ≡ l.outstanding
moved_asks c p (AllocateChannel ch) l = refl
moved_asks c p (AllocateUnits ch u) l = refl
moved_asks c p (ConnectFirst kind ch overhead) l = refl
moved_asks c p (ConnectOverlaid kind) l = refl
moved_asks c p (ConnectInput kind ch) l = refl
moved_asks c p (DisconnectInput kind) l = refl
moved_asks c p (DisconnectOutput kind) l = refl
moved_asks c p (ReleaseUnits ch u) l = refl
moved_asks c p (ReleaseChannel ch) l = refl

-- the request of a controller has ended
pub record IsEnded (l m : Account) (c : ℕ) : Type 0 where
  pub latest : m.latest ≡ l.latest
  pub outstanding : m.outstanding ≡ update l.outstanding c None

ended_is : (l m : Account) (c : ℕ) → Some (ended c l) ≡ Some m → IsEnded l m c
ended_is l m c e = let s : ended c l ≡ m = same_Some _ m e in record { latest = ap (λ (x : Account). x.latest) (sym s); outstanding = ap (λ (x : Account). x.outstanding) (sym s) }

moved_is : (o : Option (PlugAt × Move)) (l m : Account) (c : ℕ) → moved c o l ≡ Some m → IsEnded l m c
moved_is None l m c e = cc
moved_is (Some x) l m c e =
    let i = ended_is (after c x.0 x.1 l) m c e in
    record { latest = i.latest ∙ moved_same c x.0 x.1 l; outstanding = i.outstanding ∙ ap (λ (f : ℕ → Option Request). update f c None) (moved_asks c x.0 x.1 l) }

swapped_is : (o : Option Place) (arg new : ℕ) (l m : Account) (c : ℕ) → swapped c o arg new l ≡ Some m → IsEnded l m c
swapped_is None arg new l m c e = ended_is l m c e
swapped_is (Some r) arg new l m c e = moved_is (move_at l c r arg new) l m c e

replied_is : (b : Bool) (o : Option Place) (arg new : ℕ) (l m : Account) (c : ℕ) → (if b then swapped c o arg new l else Some (ended c l)) ≡ Some m → IsEnded l m c
replied_is true o arg new l m c e = swapped_is o arg new l m c e
replied_is false o arg new l m c e = ended_is l m c e

replied_ends : (operation : Operation) (reply : Reply) (r : Request) (l m : Account) (c : ℕ) → replied c r operation reply l ≡ Some m → IsEnded l m c
replied_ends Reads reply r l m c e = ended_is l m c e
replied_ends (Locks function bytes) ReadReply r l m c e = ended_is l m c e
replied_ends (Locks function bytes) (Locked f rcode old) r l m c e =
    replied_is (is_swapped function bytes rcode old) (register_of l.latest r.target r.address) (quadlet_at bytes 0) (quadlet_at bytes 4) l m c e

pub ended_all : (l m : Account) (c : ℕ) (xs : List Asked) → IsEnded l m c → AllMatched l xs → AllMatched m xs
ended_all l m c xs i a k d n = ended_matched l m c (get_or xs k d) i.latest i.outstanding (a k d n)

pub reply_to : (b : Bool) (o : Option Request) (c source : ℕ) (reply : Reply) (l m : Account) → replied_to c o source reply l ≡ Some m → IsEnded l m c
reply_to b None c source reply l m e = cc
reply_to b (Some r) c source reply l m e = asked_if ((r.target == source) && is_reply_to r.operation reply) e
  where
    asked_if : (x : Bool) → (if x then replied c r r.operation reply l else None) ≡ Some m → IsEnded l m c
    asked_if true n = replied_ends r.operation reply r l m c n
    asked_if false n = cc

answered_all : (o : Option ℕ) (source : ℕ) (reply : Reply) (l m : Account) (xs : List Asked) → AllMatched l xs → answered_in o source reply l ≡ Some m → AllMatched m xs
answered_all None source reply l m xs a e = cc
answered_all (Some c) source reply l m xs a e = ended_all l m c xs (reply_to true (l.outstanding c) c source reply l m e) a

reply_all : (b : Bool) (o : Option ℕ) (source : ℕ) (reply : Reply) (l m : Account) (xs : List Asked) → AllMatched l xs
    → (if b then answered_in o source reply l else Some l) ≡ Some m → AllMatched m xs
reply_all true o source reply l m xs a e = answered_all o source reply l m xs a e
reply_all false o source reply l m xs a e = let P : Account → Type 0 = λ x. AllMatched x xs in subst P (same_Some l m e) a

left_all : (l : Account) (read : Bool) (h : Head) (xs : List Asked) → AllMatched l xs → AllMatched l (without_answered read h xs)
unfolding without_answered
left_all l read h xs a = All-filter (λ q. not (answers read h q)) (IsMatched l) xs a

-- ---- packets

-- they are matched after a packet, if the account goes on
pub packet_matched : (p : Packet) (l m : Account) (xs : List Asked) → IsApart l.latest → AllMatched l xs → after_packet p l ≡ Some m → AllMatched m (standing_following p xs)
unfolding standing_following
packet_matched (WriteQuadlet h offset value) l m xs i a e = let P : Account → Type 0 = λ x. AllMatched x (without_same h xs) in subst P (same_Some l m e) (same_matched l h xs a)
packet_matched (WriteBlock h offset bytes) l m xs i a e = let P : Account → Type 0 = λ x. AllMatched x (without_same h xs) in subst P (same_Some l m e) (same_matched l h xs a)
packet_matched (WriteReply h rcode) l m xs i a e = let P : Account → Type 0 = λ x. AllMatched x xs in subst P (same_Some l m e) a
packet_matched (ReadQuadlet h offset) l m xs i a e = request_if (h.tl == label_code Procedure) l m h offset Reads Read (device_of_id l.latest h.source) xs refl refl i refl a e
packet_matched (ReadBlock h offset len) l m xs i a e = let P : Account → Type 0 = λ x. AllMatched x (without_same h xs) in subst P (same_Some l m e) (same_matched l h xs a)
packet_matched (ReadQuadletReply h rcode value) l m xs i a e =
    left_all m true h xs (reply_all (h.tl == label_code Procedure) (device_of_id l.latest h.destination) h.source ReadReply l m xs a e)
packet_matched (ReadBlockReply h rcode bytes) l m xs i a e = let P : Account → Type 0 = λ x. AllMatched x xs in subst P (same_Some l m e) a
packet_matched (CycleStart h offset time) l m xs i a e = let P : Account → Type 0 = λ x. AllMatched x xs in subst P (same_Some l m e) a
packet_matched (LockRequest h offset function bytes) l m xs i a e =
    request_if (h.tl == label_code Procedure) l m h offset (Locks function bytes) (lock_of function bytes) (device_of_id l.latest h.source) xs refl refl i refl a e
packet_matched (LockReply h rcode function bytes) l m xs i a e =
    left_all m false h xs (reply_all (h.tl == label_code Procedure) (device_of_id l.latest h.destination) h.source (Locked function rcode bytes) l m xs a e)
