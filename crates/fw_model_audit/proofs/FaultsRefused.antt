-- There is no account after what has such a fault.
use Rattle.fw_async.specs.declared.packet.Head.{Head}
use Rattle.fw_async.specs.declared.packet.Packet.{Packet}
use Rattle.fw_async.specs.declared.packet.Packet.TheVariants.{WriteQuadlet, WriteBlock, WriteReply, ReadQuadlet, ReadBlock, ReadQuadletReply, ReadBlockReply, CycleStart, Lock, LockReply}
use Rattle.fw_log_entry.specs.declared.entry.EventEntry.{EventEntry}
use Rattle.fw_log_entry.specs.declared.entry.ShownEntry.{ShownEntry}
use Rattle.fw_log_entry.specs.declared.entry.Entry.{Entry}
use Rattle.fw_log_entry.specs.declared.entry.Entry.TheVariants.{Reset, Async, Iso, Event, Outcome, Shown, End}
use Rattle.std.proofs.Common.{◌≡◌, ◌≢◌, ℕ, ◌==◌, Bool, true, false, Option, Some, None, List, length, refl, ap, sym, subst, ◌∙◌, true≢false, arith, cond}
use Rattle.std.proofs.lemmas.Bool.Decides.{nat_tests}
use Rattle.std.proofs.lemmas.Option.{same_Some}
use Rattle.fw_words.specs.Quadlet.{quadlet_at}
use Rattle.fw_log_entry.specs.Network.{device_of_id}
use Rattle.fw_model_account.specs.Account.{Account, Operation, Reads, Locks, Request}
use Rattle.fw_model_account.specs.Decode.{IsMove}
use Rattle.fw_model_account.specs.Packets.{Reply, Read, Locked, is_reply_to}
use Rattle.fw_model_account.specs.Refused.{IsRequestRefused, NoNode, Overlap, Ends, IsReplyRefused, NoReceiver, NoRequest, OtherNode, IsReadRefused, OtherKind, IsLockRefused, WasRead, OtherFunction}
use Rattle.fw_model_account.specs.Refused.{NoMove, IsPacketRefused, IsRefused}
use Rattle.fw_model_account.specs.Words.{register_of}
use Rattle.fw_model_audit.specs.Looked.{Looked, Asks, Replies, Shows, Happens, Other, labelled, looked, looked_packet, quadlet_in, IsAnswer}
use Rattle.fw_model_audit.proofs.Refusals.{IsRefusal, NoNodeOf, OverlapOf, OrphanOf, NoMoveOf, NoEventOf, response}

-- ---- and what has such a fault is refused

-- a labelled packet has a fault only if its label is 0
by_label : (h : Head) (x : Looked) (R : Type 0) → ((l : Account) → IsRefusal l Other → ⊥) → (l : Account) → IsRefusal l (labelled h x) → (h.tl ≡ 0 → IsRefusal l x → R) → R
by_label h x R other l r go = test (h.tl == 0) refl r
  where
    test : (b : Bool) → (h.tl == 0) ≡ b → IsRefusal l (cond b x Other) → R
    test true t f = go (grind (arith, nat_tests)) f
    test false t f = absurd (other l f)

nothing_other : (l : Account) → IsRefusal l Other → ⊥
nothing_other l (NoNodeOf id f) = f
nothing_other l (OverlapOf id f) = f
nothing_other l (OrphanOf id f) = f
nothing_other l (NoMoveOf old new f) = f
nothing_other l (NoEventOf code f) = f

some_not : (o : Option Request) (q : Request) → o ≡ Some q → o ≢ None
some_not o q e = λ n. let clash : Some q ≡ None = sym e ∙ n in cc clash

refused_request : (h : Head) (l : Account) → h.tl ≡ 0 → IsRefusal l (Asks h.source) → IsRequestRefused h l
refused_request h l tl (NoNodeOf id f) = NoNode tl (ap (device_of_id l.latest) f.0 ∙ f.1)
refused_request h l tl (OverlapOf id f) = Overlap f.1.0 tl (ap (device_of_id l.latest) f.0 ∙ f.1.2) (some_not _ f.1.1 f.1.3)
refused_request h l tl (OrphanOf id f) = absurd f
refused_request h l tl (NoMoveOf old new f) = absurd f
refused_request h l tl (NoEventOf code f) = absurd f

-- a response to which no request is outstanding
orphan_refused : (h : Head) (rcode : ℕ) (reply : Reply) (word : Option ℕ) (l : Account) (R : Type 0) → h.tl ≡ 0
    → ((q : Request) → IsAnswer l (response h rcode reply word) q → ⊥) → (IsReplyRefused h l → R)
    → ((c : ℕ) (request : Request) → Ends h c request l → is_reply_to request.operation reply ≡ false → R) → R
orphan_refused h rcode reply word l R tl never unexpected other = by (device_of_id l.latest h.destination) refl
  where
    kind : (c : ℕ) (q : Request) (b : Bool) → Ends h c q l → q.target ≡ h.source → is_reply_to q.operation reply ≡ b → R
    kind c q true n same t = absurd (never q (record { controller = c; device = n.device; outstanding = n.outstanding; responder = same; kind = t }))
    kind c q false n same t = other c q n t

    from : (c : ℕ) (q : Request) (b : Bool) → Ends h c q l → (q.target == h.source) ≡ b → R
    from c q true n t = kind c q (is_reply_to q.operation reply) n (grind (arith, nat_tests)) refl
    from c q false n t = unexpected (OtherNode c q n (λ same. true≢false (sym (rw same (grind (arith, nat_tests))) ∙ t)))

    to : (c : ℕ) (o : Option Request) → device_of_id l.latest h.destination ≡ Some c → l.outstanding c ≡ o → R
    to c None d out = unexpected (NoRequest c tl d out)
    to c (Some q) d out = from c q (q.target == h.source) (record { label = tl; device = d; outstanding = out }) refl

    by : (o : Option ℕ) → device_of_id l.latest h.destination ≡ o → R
    by None d = unexpected (NoReceiver tl d)
    by (Some c) d = to c (l.outstanding c) d refl

refused_read : (h : Head) (rcode value : ℕ) (l : Account) → h.tl ≡ 0 → IsRefusal l (Replies (response h rcode Read (Some value))) → IsReadRefused h l
refused_read h rcode value l tl (NoNodeOf id f) = IsReadRefused.Unexpected (NoReceiver tl (ap (device_of_id l.latest) f.0 ∙ f.1))
refused_read h rcode value l tl (OverlapOf id f) = absurd f
refused_read h rcode value l tl (OrphanOf id f) =
    orphan_refused h rcode Read (Some value) l (IsReadRefused h l) tl f.1 (λ r. IsReadRefused.Unexpected r) (λ c q n k. other c q n q.operation refl k)
  where
    other : (c : ℕ) (q : Request) → Ends h c q l → (operation : Operation) → q.operation ≡ operation → is_reply_to operation Read ≡ false → IsReadRefused h l
    other c q n Reads o k = absurd (true≢false k)
    other c q n (Locks function bytes) o k = OtherKind c q function bytes n o
refused_read h rcode value l tl (NoMoveOf old new f) =
    let wrong : is_reply_to (Locks 2 f.bytes) Read ≡ true = ap (λ o. is_reply_to o Read) (sym f.swap) ∙ f.watched.answer.kind in
    absurd (true≢false (sym wrong))
refused_read h rcode value l tl (NoEventOf code f) = absurd f

-- the quadlet of an old value
quadlet_shown : (bytes : List ℕ) (v : ℕ) → quadlet_in bytes ≡ Some v → (length bytes ≡ 4) × (quadlet_at bytes 0 ≡ v)
quadlet_shown bytes v e = go (length bytes == 4) refl e
  where
    go : (b : Bool) → (length bytes == 4) ≡ b → cond b (Some (quadlet_at bytes 0)) None ≡ Some v → (length bytes ≡ 4) × (quadlet_at bytes 0 ≡ v)
    go true t f = (grind (arith, nat_tests), same_Some (quadlet_at bytes 0) v f)
    go false t f = let no : ⊥ = cc f in absurd no

refused_lock : (h : Head) (rcode function : ℕ) (old : List ℕ) (l : Account) → h.tl ≡ 0 → IsRefusal l (Replies (response h rcode (Locked function rcode old) (quadlet_in old)))
    → IsLockRefused h rcode function old l
refused_lock h rcode function old l tl (NoNodeOf id f) = IsLockRefused.Unexpected (NoReceiver tl (ap (device_of_id l.latest) f.0 ∙ f.1))
refused_lock h rcode function old l tl (OverlapOf id f) = absurd f
refused_lock h rcode function old l tl (OrphanOf id f) =
    orphan_refused h rcode (Locked function rcode old) (quadlet_in old) l (IsLockRefused h rcode function old l) tl f.1 (λ r. IsLockRefused.Unexpected r) (λ c q n k. other c q n q.operation refl k)
  where
    other : (c : ℕ) (q : Request) → Ends h c q l → (operation : Operation) → q.operation ≡ operation → is_reply_to operation (Locked function rcode old) ≡ false → IsLockRefused h rcode function old l
    other c q n Reads o k = WasRead c q n o
    other c q n (Locks asked bytes) o k = OtherFunction c q asked bytes n o (λ same. true≢false (sym (rw same (grind (arith, nat_tests))) ∙ k))
refused_lock h rcode function old l tl (NoMoveOf arg new f) =
    NoMove f.watched.answer.controller f.request.address f.bytes f.register two (record {
      ends = record { label = tl; device = f.watched.answer.device; outstanding = f.watched.answer.outstanding ∙ ap (λ q. Some q) same };
      quadlets = f.quadlets;
      complete = f.watched.complete;
      quadlet = shown.0;
      shown = shown.1 ∙ sym f.argument;
      place = ap (λ t. register_of l.latest t f.request.address) (sym f.watched.answer.responder) ∙ f.place;
    }) (λ p m. subst (λ a. IsMove f.watched.answer.controller p m f.register a (quadlet_at f.bytes 4) l → ⊥) (sym f.argument)
    (subst (λ v. IsMove f.watched.answer.controller p m f.register arg v l → ⊥) (sym f.value) (f.none p m)))
  where
    shown : (length old ≡ 4) × (quadlet_at old 0 ≡ arg)
    shown = quadlet_shown old arg f.shown

    kind : (2 == function) ≡ true
    kind = ap (λ o. is_reply_to o (Locked function rcode old)) (sym f.swap) ∙ f.watched.answer.kind

    two : function ≡ 2
    two = grind (arith, nat_tests)

    same : f.request ≡ record { target = h.source; address = f.request.address; operation = Locks 2 f.bytes }
    same = ap (λ t. record { target = t; address = f.request.address; operation = f.request.operation }) f.watched.answer.responder
        ∙ ap (λ o. record { target = h.source; address = f.request.address; operation = o }) f.swap
refused_lock h rcode function old l tl (NoEventOf code f) = absurd f

refused_packet : (p : Packet) (l : Account) → IsRefusal l (looked_packet p) → IsPacketRefused p l
refused_packet (WriteQuadlet h offset value) l r = nothing_other l r
refused_packet (WriteBlock h offset bytes) l r = nothing_other l r
refused_packet (WriteReply h rcode) l r = nothing_other l r
refused_packet (ReadQuadlet h offset) l r = by_label h (Asks h.source) (IsRequestRefused h l) nothing_other l r (refused_request h l)
refused_packet (ReadBlock h offset len) l r = nothing_other l r
refused_packet (ReadQuadletReply h rcode value) l r = by_label h (Replies (response h rcode Read (Some value))) (IsReadRefused h l) nothing_other l r (refused_read h rcode value l)
refused_packet (ReadBlockReply h rcode bytes) l r = nothing_other l r
refused_packet (CycleStart h offset time) l r = nothing_other l r
refused_packet (Lock h offset function bytes) l r = by_label h (Asks h.source) (IsRequestRefused h l) nothing_other l r (refused_request h l)
refused_packet (LockReply h rcode function bytes) l r = by_label h (Replies (response h rcode (Locked function rcode bytes) (quadlet_in bytes)))
    (IsLockRefused h rcode function bytes l) nothing_other l r (refused_lock h rcode function bytes l)

event_refused : (v : EventEntry) (l : Account) → IsRefusal l (Happens v) → IsRefused (Event v) l
event_refused v l (NoNodeOf id f) = absurd f
event_refused v l (OverlapOf id f) = absurd f
event_refused v l (OrphanOf id f) = absurd f
event_refused v l (NoMoveOf old new f) = absurd f
event_refused v l (NoEventOf code f) = f.1

shown_refused : (s : ShownEntry) (l : Account) → IsRefusal l (Shows s) → ⊥
shown_refused s l (NoNodeOf id f) = f
shown_refused s l (OverlapOf id f) = f
shown_refused s l (OrphanOf id f) = f
shown_refused s l (NoMoveOf old new f) = f
shown_refused s l (NoEventOf code f) = f

pub refused_entry : (e : Entry) (l : Account) → IsRefusal l (looked e) → IsRefused e l
refused_entry (Reset r) l x = nothing_other l x
refused_entry (Async p) l x = refused_packet p l x
refused_entry (Iso p) l x = nothing_other l x
refused_entry (Event v) l x = event_refused v l x
refused_entry (Outcome o) l x = nothing_other l x
refused_entry (Shown s) l x = shown_refused s l x
refused_entry End l x = nothing_other l x
