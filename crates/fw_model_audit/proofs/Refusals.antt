-- Entries after which there is no account have a fault.
use Rattle.fw_async.specs.declared.packet.Head.{Head}
use Rattle.fw_async.specs.declared.packet.Packet.{Packet}
use Rattle.fw_async.specs.declared.packet.Packet.TheVariants.{WriteQuadlet, WriteBlock, WriteReply, ReadQuadlet, ReadBlock, ReadQuadletReply, ReadBlockReply, CycleStart, Lock, LockReply}
use Rattle.fw_log_entry.specs.declared.entry.Entry.{Entry}
use Rattle.fw_log_entry.specs.declared.entry.Entry.TheVariants.{Reset, Async, Iso, Event, Outcome, Shown, End}
use Rattle.std.proofs.Common.{◌≡◌, ◌≢◌, ℕ, ◌+◌, ◌==◌, true, false, Option, Some, None, List, length, refl, ap, sym, subst, ◌∙◌, true≢false, arith, IsTrue}
use Rattle.std.proofs.lemmas.Bool.Decides.{nat_tests}
use Rattle.std.proofs.lemmas.Option.{same_Some}
use Rattle.fw_words.specs.Quadlet.{quadlet_at}
use Rattle.fw_log_entry.specs.Network.{device_of_id}
use Rattle.fw_model_account.specs.Account.{Account, Locks, Request}
use Rattle.fw_model_account.specs.Packets.{Reply, Read, Locked, is_reply_to}
use Rattle.fw_model_account.specs.Refused.{IsRequestRefused, NoNode, Overlap, Ends, IsReplyRefused, NoReceiver, NoRequest, OtherNode, IsReadRefused, OtherKind, IsLockRefused, WasRead, OtherFunction}
use Rattle.fw_model_account.specs.Refused.{NoMove, IsPacketRefused, IsRefused}
use Rattle.fw_model_account.specs.Words.{Register, register_of, first_address}
use Rattle.fw_model_audit.specs.Looked.{Response, Looked, Asks, Replies, labelled, looked, looked_packet, quadlet_in, IsAnswer, is_watched}
use Rattle.fw_model_audit.specs.Faults.{HasNoNode, Overlaps, IsOrphan, IsNoMove, IsNoEvent}

-- ---- labels

pub label_zero : (h : Head) (x : Looked) → h.tl ≡ 0 → labelled h x ≡ x
label_zero h x e = let t : (h.tl == 0) ≡ true = grind (arith, nat_tests) in rw t refl

-- ---- what the account refuses has a fault

-- the faults for which there is no account after an entry
pub data IsRefusal (l : Account) (x : Looked) : Type 0 where
  NoNodeOf : (id : ℕ) → HasNoNode l x id → IsRefusal l x
  OverlapOf : (id : ℕ) → Overlaps l x id → IsRefusal l x
  OrphanOf : (id : ℕ) → IsOrphan l x id → IsRefusal l x
  NoMoveOf : (old new : ℕ) → IsNoMove l x old new → IsRefusal l x
  NoEventOf : (code : ℕ) → IsNoEvent l x code → IsRefusal l x

there : (o : Option Request) → o ≢ None → (q : Request) × (o ≡ Some q)
there None ne = absurd (ne refl)
there (Some q) ne = (q, refl)

request_refusal : (h : Head) (l : Account) → IsRequestRefused h l → IsRefusal l (labelled h (Asks h.source))
request_refusal h l (NoNode tl none) = subst (IsRefusal l) (sym (label_zero h (Asks h.source) tl)) (NoNodeOf h.source (refl, none))
request_refusal h l (Overlap c tl device ne) =
    let q = there (l.outstanding c) ne in
    subst (IsRefusal l) (sym (label_zero h (Asks h.source) tl)) (OverlapOf h.source (refl, (c, q.0, device, q.1)))

-- the response in a packet
abbrev pub response : Head → ℕ → Reply → Option ℕ → Response
response h rcode reply word = record { requester = h.destination; responder = h.source; rcode = rcode; reply = reply; word = word }

-- a request of its requester is the one that stands
pub same_request : (l : Account) (r : Response) (c : ℕ) (request : Request) → device_of_id l.latest r.requester ≡ Some c → l.outstanding c ≡ Some request → (q : Request) → IsAnswer l r q → q ≡ request
same_request l r c request device outstanding q a =
    let same : a.controller ≡ c = same_Some a.controller c (sym a.device ∙ device) in
    same_Some q request (sym a.outstanding ∙ (ap l.outstanding same ∙ outstanding))

reply_refusal : (h : Head) (rcode : ℕ) (reply : Reply) (word : Option ℕ) (l : Account) → IsReplyRefused h l → IsRefusal l (labelled h (Replies (response h rcode reply word)))
reply_refusal h rcode reply word l (NoReceiver tl none) = subst (IsRefusal l) (sym (label_zero h _ tl)) (NoNodeOf h.destination (refl, none))
reply_refusal h rcode reply word l (NoRequest c tl device none) = subst (IsRefusal l) (sym (label_zero h _ tl)) (OrphanOf h.destination (refl, never))
  where
    never : (q : Request) → IsAnswer l (response h rcode reply word) q → ⊥
    never q a =
        let same : a.controller ≡ c = same_Some a.controller c (sym a.device ∙ device) in
        let clash : Some q ≡ None = sym a.outstanding ∙ (ap l.outstanding same ∙ none) in
        cc clash
reply_refusal h rcode reply word l (OtherNode c request n ne) = subst (IsRefusal l) (sym (label_zero h _ n.label)) (OrphanOf h.destination (refl, never))
  where
    never : (q : Request) → IsAnswer l (response h rcode reply word) q → ⊥
    never q a = ne (ap (λ (x : Request). x.target) (sym (same_request l (response h rcode reply word) c request n.device n.outstanding q a)) ∙ a.responder)

-- a response of another kind, or of another lock function
kind_refusal : (h : Head) (rcode : ℕ) (reply : Reply) (word : Option ℕ) (l : Account) (c : ℕ) (request : Request) → Ends h c request l → is_reply_to request.operation reply ≡ false
    → IsRefusal l (labelled h (Replies (response h rcode reply word)))
kind_refusal h rcode reply word l c request n other = subst (IsRefusal l) (sym (label_zero h _ n.label)) (OrphanOf h.destination (refl, never))
  where
    never : (q : Request) → IsAnswer l (response h rcode reply word) q → ⊥
    never q a = true≢false (sym a.kind ∙ (ap (λ (x : Request). is_reply_to x.operation reply) (same_request l (response h rcode reply word) c request n.device n.outstanding q a) ∙ other))

read_refusal : (h : Head) (rcode value : ℕ) (l : Account) → IsReadRefused h l → IsRefusal l (looked_packet (ReadQuadletReply h rcode value))
read_refusal h rcode value l (IsReadRefused.Unexpected r) = reply_refusal h rcode Read (Some value) l r
read_refusal h rcode value l (OtherKind c request function bytes n o) = kind_refusal h rcode Read (Some value) l c request n (rw o refl)

differs : (a b : ℕ) → a ≢ b → (a == b) ≡ false
differs a b ne = grind (arith, nat_tests)

-- the offset that an address of a register is
pub record IsRegisterAt (address : ℕ) : Type 0 where
  pub offset : ℕ
  pub place : address ≡ first_address + offset
  pub watched : IsTrue (is_watched offset)

lock_refusal : (h : Head) (rcode function : ℕ) (old : List ℕ) (l : Account) → ((id address : ℕ) (register : Register) → register_of l.latest id address ≡ Some register → IsRegisterAt address)
    → IsLockRefused h rcode function old l → IsRefusal l (looked_packet (LockReply h rcode function old))
lock_refusal h rcode function old l at (IsLockRefused.Unexpected r) = reply_refusal h rcode (Locked function rcode old) (quadlet_in old) l r
lock_refusal h rcode function old l at (WasRead c request n o) = kind_refusal h rcode (Locked function rcode old) (quadlet_in old) l c request n (rw o refl)
lock_refusal h rcode function old l at (OtherFunction c request asked bytes n o ne) = kind_refusal h rcode (Locked function rcode old) (quadlet_in old) l c request n (rw o (differs asked function ne))
lock_refusal h rcode function old l at (NoMove c address bytes register two w none) =
    let x = at h.source address register w.place in
    subst (IsRefusal l) (sym (label_zero h _ w.ends.label)) (NoMoveOf (quadlet_at bytes 0) (quadlet_at bytes 4) (record {
      request = record { target = h.source; address = address; operation = Locks 2 bytes };
      offset = x.offset;
      watched = record {
        answer = record { controller = c; device = w.ends.device; outstanding = w.ends.outstanding; responder = refl; kind = kind };
        complete = w.complete;
        address = x.place;
        watched = x.watched;
      };
      bytes = bytes;
      swap = refl;
      quadlets = w.quadlets;
      argument = refl;
      value = refl;
      shown = shown;
      register = register;
      place = w.place;
      none = none;
    }))
  where
    kind : (2 == function) ≡ true
    kind = grind (arith, nat_tests)

    shown : quadlet_in old ≡ Some (quadlet_at bytes 0)
    shown = let t : (length old == 4) ≡ true = (let q = w.quadlet in grind (arith, nat_tests)) in rw t (ap (λ v. Some v) w.shown)

packet_refusal : (p : Packet) (l : Account) → ((id address : ℕ) (register : Register) → register_of l.latest id address ≡ Some register → IsRegisterAt address) → IsPacketRefused p l
    → IsRefusal l (looked_packet p)
packet_refusal (WriteQuadlet h offset value) l at r = absurd r
packet_refusal (WriteBlock h offset bytes) l at r = absurd r
packet_refusal (WriteReply h rcode) l at r = absurd r
packet_refusal (ReadQuadlet h offset) l at r = request_refusal h l r
packet_refusal (ReadBlock h offset len) l at r = absurd r
packet_refusal (ReadQuadletReply h rcode value) l at r = read_refusal h rcode value l r
packet_refusal (ReadBlockReply h rcode bytes) l at r = absurd r
packet_refusal (CycleStart h offset time) l at r = absurd r
packet_refusal (Lock h offset function bytes) l at r = request_refusal h l r
packet_refusal (LockReply h rcode function bytes) l at r = lock_refusal h rcode function bytes l at r

pub entry_refusal : (e : Entry) (l : Account) → ((id address : ℕ) (register : Register) → register_of l.latest id address ≡ Some register → IsRegisterAt address) → IsRefused e l
    → IsRefusal l (looked e)
entry_refusal (Reset r) l at x = absurd x
entry_refusal (Async p) l at x = packet_refusal p l at x
entry_refusal (Iso p) l at x = absurd x
entry_refusal (Event v) l at x = NoEventOf v.code (refl, x)
entry_refusal (Outcome o) l at x = absurd x
entry_refusal (Shown s) l at x = absurd x
entry_refusal End l at x = absurd x
