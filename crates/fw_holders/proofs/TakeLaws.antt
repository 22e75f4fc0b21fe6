-- What is told of an entry that was taken.
use Rattle.fw_holders.proofs.Common.{◌≡◌, ◌==◌, ℕ, Bool, true, false, cond, Option, Some, None, List, ◌++◌, length, refl, ap, sym, subst, ◌∙◌, device_of_id, Entry, Reset, Async, Iso, ResetEntry}
use Rattle.fw_holders.proofs.Common.{Account, Looked, Asks, Replies, Shows, Happens, Other, Response, looked, looked_packet, IsAnswered, ShowsAnswer, Answer, packet_told, told}
use Rattle.std.proofs.Common.{◌≢◌, take, is_some}
use Rattle.std.proofs.Math.Seq.{take-append_seam}
use Rattle.fw_async.specs.declared.packet.Packet.{Packet}
use Rattle.fw_async.specs.declared.packet.Packet.TheVariants.{WriteQuadlet, WriteBlock, WriteReply, ReadQuadlet, ReadBlock, ReadQuadletReply, ReadBlockReply, CycleStart, Lock, LockReply}
use Rattle.fw_terms.specs.Labels.{label_code}
use Rattle.fw_terms.specs.declared.label.Label.TheVariants.{Procedure}
use Rattle.fw_log_entry.specs.declared.entry.Entry.TheVariants.{Event, Outcome, Shown, End}
use Rattle.fw_log_entry.specs.declared.entry.EventEntry.{EventEntry}
use Rattle.fw_model_account.specs.Fold.{next_account}
use Rattle.fw_model_account.specs.Packets.{Read, Locked, answered, after_packet}
use Rattle.fw_model_audit.specs.Looked.{quadlet_in}
use Rattle.fw_holders.specs.Deeds.{event_told}
use Rattle.fw_holders.specs.Found.{HasReply}
use Rattle.fw_holders.proofs.TextLaws.{both_put}

pub some_of : {A : Type 0} (o : Option A) → is_some o ≡ true → (x : A) × (o ≡ Some x)
some_of None h = let z : ⊥ = cc in absurd z
some_of (Some x) h = (x, refl)

-- what stood before two texts that were appended
pub cut_back : (n : ℕ) (t0 t1 t2 a b : List ℕ) → length t0 ≡ n → t1 ≡ t0 ++ a → t2 ≡ t1 ++ b → take n t2 ≡ t0
cut_back n t0 t1 t2 a b size e f = ap (λ k. take k t2) (sym size) ∙ ap (λ (t : List ℕ). take (length t0) t) (both_put t0 t1 t2 a b e f) ∙ take-append_seam t0 (a ++ b)

-- an entry that is a response, and what is told of it
pub record IsResponse (l k : Account) (e : Entry) (a : Answer) : Type 0 where
  pub response : Response
  pub told : told l e ≡ packet_told l (Replies response)
  pub reply : HasReply response.reply response.rcode response.word
  pub answered : answered (device_of_id l.latest response.requester) response.responder response.reply l ≡ Some k
  pub is : IsAnswered l response a

pub not_shown : {X : Type 0} (a : Answer) → None ≡ Some a → X
not_shown a e = let z : ⊥ = cc in absurd z

not_answer : {X : Type 0} (a : Answer) → Some a ≡ None → X
not_answer a e = let z : ⊥ = cc in absurd z

same_answer : (l : Account) (r : Response) (a : Answer) → ShowsAnswer l (Replies r) (Some a) → IsAnswered l r a
same_answer l r a h =
    let same : h.0 ≡ a = let e = h.1 in cc in
    subst (IsAnswered l r) same h.2

packet_answers : (l k : Account) (p : Packet) (a : Answer) → ShowsAnswer l (looked_packet p) (Some a) → after_packet p l ≡ Some k → IsResponse l k (Async p) a
packet_answers l k (WriteQuadlet h offset value) a is next = not_answer a is
packet_answers l k (WriteBlock h offset bytes) a is next = not_answer a is
packet_answers l k (WriteReply h rcode) a is next = not_answer a is
packet_answers l k (ReadQuadlet h offset) a is next = by (h.tl == label_code Procedure) is
  where
    by : (b : Bool) → ShowsAnswer l (cond b (Asks h.source) Other) (Some a) → IsResponse l k (Async (ReadQuadlet h offset)) a
    by true s = not_answer a s
    by false s = not_answer a s
packet_answers l k (ReadBlock h offset len) a is next = not_answer a is
packet_answers l k (ReadQuadletReply h rcode value) a is next = by (h.tl == label_code Procedure) refl is next
  where
    r : Response
    r = record { requester = h.destination; responder = h.source; rcode = rcode; reply = Read; word = Some value }

    by : (b : Bool) → (h.tl == label_code Procedure) ≡ b → ShowsAnswer l (cond b (Replies r) Other) (Some a) → cond b (answered (device_of_id l.latest h.destination) h.source Read l) (Some l) ≡ Some k
        → IsResponse l k (Async (ReadQuadletReply h rcode value)) a
    by true t s n = record { response = r; told = ap (λ b. packet_told l (cond b (Replies r) Other)) t; reply = tt; answered = n; is = same_answer l r a s }
    by false t s n = not_answer a s
packet_answers l k (ReadBlockReply h rcode bytes) a is next = not_answer a is
packet_answers l k (CycleStart h offset time) a is next = not_answer a is
packet_answers l k (Lock h offset function bytes) a is next = by (h.tl == label_code Procedure) is
  where
    by : (b : Bool) → ShowsAnswer l (cond b (Asks h.source) Other) (Some a) → IsResponse l k (Async (Lock h offset function bytes)) a
    by true s = not_answer a s
    by false s = not_answer a s
packet_answers l k (LockReply h rcode function bytes) a is next = by (h.tl == label_code Procedure) refl is next
  where
    r : Response
    r = record { requester = h.destination; responder = h.source; rcode = rcode; reply = Locked function rcode bytes; word = quadlet_in bytes }

    by : (b : Bool) → (h.tl == label_code Procedure) ≡ b → ShowsAnswer l (cond b (Replies r) Other) (Some a)
        → cond b (answered (device_of_id l.latest h.destination) h.source (Locked function rcode bytes) l) (Some l) ≡ Some k
        → IsResponse l k (Async (LockReply h rcode function bytes)) a
    by true t s n = record { response = r; told = ap (λ b. packet_told l (cond b (Replies r) Other)) t; reply = (refl, refl); answered = n; is = same_answer l r a s }
    by false t s n = not_answer a s

pub entry_answers : (l k : Account) (e : Entry) (a : Answer) → ShowsAnswer l (looked e) (Some a) → next_account l e ≡ Some k → IsResponse l k e a
entry_answers l k (Reset r) a is next = not_answer a is
entry_answers l k (Async p) a is next = packet_answers l k p a is next
entry_answers l k (Iso p) a is next = not_answer a is
entry_answers l k (Event v) a is next = not_answer a is
entry_answers l k (Outcome o) a is next = not_answer a is
entry_answers l k (Shown s) a is next = not_answer a is
entry_answers l k End a is next = not_answer a is

pub packet_quiet : (l : Account) (x : Looked) → ShowsAnswer l x None → packet_told l x ≡ None
packet_quiet l (Asks id) h = refl
packet_quiet l (Replies r) h = not_shown h.0 h.1
packet_quiet l (Shows s) h = refl
packet_quiet l (Happens e) h = refl
packet_quiet l Other h = refl

-- of an entry that is no response, no bus reset and no event that is told, nothing is told
pub entry_quiet : (l : Account) (e : Entry) → ((r : ResetEntry) → e ≢ Reset r) → ((v : EventEntry) → e ≡ Event v → event_told l v ≡ None) → ShowsAnswer l (looked e) None → told l e ≡ None
entry_quiet l (Reset r) reset event h = absurd (reset r refl)
entry_quiet l (Async p) reset event h = packet_quiet l (looked_packet p) h
entry_quiet l (Iso p) reset event h = refl
entry_quiet l (Event v) reset event h = event v refl
entry_quiet l (Outcome o) reset event h = refl
entry_quiet l (Shown s) reset event h = refl
entry_quiet l End reset event h = refl
