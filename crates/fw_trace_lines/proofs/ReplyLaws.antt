-- What a packet brings, by what it says as a response or asks.
use Rattle.std.proofs.Common.{◌≡◌, refl, ap, sym, ◌∙◌, ℕ, ◌<◌, ◌^◌, ◌==◌, Bool, true, false, List, [], ◌∷◌, ◌++◌, length, Option, Some, None, if◌then◌else◌, OnOk, Ok, Err, append_assoc}
use Rattle.std.specs.declared.result.Result.{Result}
use Rattle.std.proofs.lemmas.List.{append-nil}
use Rattle.std.proofs.lemmas.Nat.{from_be_bytes-to_be_bytes_4}
use Rattle.std.specs.Prelude.{codes}
use Rattle.std.specs.Int.{to_be_bytes, w32}
use Rattle.fw_async.specs.Heads.{head_of}
use Rattle.fw_async.specs.declared.packet.Head.{Head}
use Rattle.fw_async.specs.declared.packet.Packet.{Packet}
use Rattle.fw_async.specs.declared.packet.Packet.TheVariants.{WriteQuadlet, WriteBlock, WriteReply, ReadQuadlet, ReadBlock, ReadQuadletReply, ReadBlockReply, CycleStart, Lock, LockReply}
use Rattle.fw_words.specs.Quadlet.{quadlet_at}
use Rattle.fw_words.specs.declared.swap.Swap.{Swap}
use Rattle.fw_log_entry.specs.declared.entry.Entry.TheVariants.{Async}
use Rattle.fw_log_registers.specs.declared.place.RegisterPlace.{RegisterPlace}
use Rattle.fw_log_registers.specs.Places.{place_of}
use Rattle.fw_log_requests.specs.declared.asked.Answer.TheVariants.{Lock as LockResponse}
use Rattle.fw_log_requests.specs.declared.asked.Asked.{Asked}
use Rattle.fw_log_requests.specs.Requests.{asked_by}
use Rattle.fw_trace_requests.specs.declared.carried.Carried.{Carried}
use Rattle.fw_trace_requests.specs.declared.packets.Reply.{Reply}
use Rattle.fw_trace_requests.specs.Carried.{frame_told}
use Rattle.fw_trace_requests.specs.Requests.{with_asked, latest_asked}
use Rattle.fw_trace_names.specs.Names.{Naming, id_text}
use Rattle.fw_trace_requests.specs.Answers.{asked_text, carried_text, changes_asked, rcode_or, swapped_text, answer_text, response_text}
use Rattle.fw_trace_requests.specs.Held.{DeferredRequest, is_joined, lone_lines, joined_with}
use Rattle.fw_trace_lines.specs.Caused.{Telling, one, kind_of, held_by, joined_line, joined_lines, late_lines, response_lines, packet_lines, lines_by, entry_lines, telling_after}
use Rattle.fw_trace_names.specs.CausedLines.{Caused, caused_text, at_cycle}
use Rattle.fw_trace_requests.specs.Replies.{quadlet_of, reply_of, found_text, word_told, brought_text, reply_text, replied_text}
use Rattle.fw_trace_lines.specs.Replies.{late_reply, reply_lines, said_lines, with_request, with_response}
use Rattle.fw_trace_lines.specs.Commands.{Traced}

-- ---- swaps

either_way : (b : Bool) (l : List ℕ) → l ≡ if b then l else l
either_way true l = refl
either_way false l = refl

swapped_by : (n : Naming) (place : RegisterPlace) (s : Option Swap) (bytes : List ℕ) → swapped_text n place s bytes ≡ if length bytes == 4 then found_text n place s (quadlet_at bytes 0) else []
unfolding swapped_text found_text
swapped_by n place None bytes = either_way (length bytes == 4) []
swapped_by n place (Some s) bytes = refl

brought_by : (n : Naming) (q : Asked) (b : Bool) (word : ℕ)
    → (if b then found_text n (place_of q.offset) q.swap word else []) ≡ brought_text n q LockResponse (if b then Some word else None)
unfolding brought_text word_told
brought_by n q true word = refl
brought_by n q false word = refl

swapped_same : (n : Naming) (q : Asked) (bytes : List ℕ) → swapped_text n (place_of q.offset) q.swap bytes ≡ brought_text n q LockResponse (quadlet_of bytes)
swapped_same n q bytes = swapped_by n (place_of q.offset) q.swap bytes ∙ brought_by n q (length bytes == 4) (quadlet_at bytes 0)

-- ---- responses

joined_same : (n : Naming) (p : Packet) (r : Reply) (h : Option DeferredRequest) → ((q : Asked) → answer_text n q p ≡ reply_text n q r) → joined_lines n p h ≡ joined_with n r h
unfolding joined_lines joined_line joined_with
joined_same n p r None same = refl
joined_same n p r (Some h) same = ap (λ (x : List ℕ). record { entries = 2; text = h.prefix ++ codes " <-> " ++ h.told ++ x } ∷ []) (same h.asked)

response_same : (n : Naming) (p : Packet) (r : Reply) (o : Option Asked) → ((q : Asked) → answer_text n q p ≡ reply_text n q r) → response_text n o p ≡ replied_text n o r
unfolding response_text replied_text
response_same n p r None same = refl
response_same n p r (Some q) same = ap (λ (x : List ℕ). asked_text q ++ x) (same q)

late_same : (t : Telling) (cycle : ℕ) (p : Packet) (r : Reply) → head_of p ≡ r.head → ((q : Asked) → answer_text t.naming q p ≡ reply_text t.naming q r)
    → late_lines t cycle p ≡ late_reply t cycle r
unfolding late_lines late_reply
late_same t cycle p r e same =
    (λ i. one cycle (id_text t.naming (e i).destination ++ codes " <- " ++ id_text t.naming (e i).source ++ codes " " ++ response_text t.naming (latest_asked (e i) t.requests) p))
    ∙ ap (λ (x : List ℕ). one cycle (id_text t.naming r.head.destination ++ codes " <- " ++ id_text t.naming r.head.source ++ codes " " ++ x))
    (response_same t.naming p r (latest_asked r.head t.requests) same)

late_by : (t : Telling) (cycle : ℕ) (p : Packet) (r : Reply) → kind_of p ≡ Some r.kind → head_of p ≡ r.head → ((q : Asked) → answer_text t.naming q p ≡ reply_text t.naming q r)
    → response_lines t cycle p (kind_of p) ≡ late_reply t cycle r
unfolding response_lines
late_by t cycle p r k e same = ap (response_lines t cycle p) k ∙ late_same t cycle p r e same

reply_same : (t : Telling) (cycle : ℕ) (p : Packet) (r : Reply) → kind_of p ≡ Some r.kind → head_of p ≡ r.head → ((q : Asked) → answer_text t.naming q p ≡ reply_text t.naming q r)
    → packet_lines t cycle p ≡ reply_lines t cycle r
unfolding packet_lines reply_lines
reply_same t cycle p r k e same =
    let joined = joined_same t.naming p r t.held same in
    let late = late_by t cycle p r k e same in
    λ i. if is_joined (k i) (e i) t.held then joined i else lone_lines t.held ++ late i

-- ---- others

unjoined : (h : Head) (held : Option DeferredRequest) → is_joined None h held ≡ false
unfolding is_joined
unjoined h None = refl
unjoined h (Some held) = refl

other_same : (t : Telling) (cycle : ℕ) (p : Packet) → kind_of p ≡ None → packet_lines t cycle p ≡ lone_lines t.held
unfolding packet_lines response_lines
other_same t cycle p k =
    (λ i. if is_joined (k i) (head_of p) t.held then joined_lines t.naming p t.held else lone_lines t.held ++ response_lines t cycle p (k i))
    ∙ ap (λ (b : Bool). if b then joined_lines t.naming p t.held else lone_lines t.held ++ []) (unjoined (head_of p) t.held)
    ∙ append-nil (lone_lines t.held)

-- the lines of a packet, by what it says as a response
pub said_is : (t : Telling) (cycle : ℕ) (p : Packet) → packet_lines t cycle p ≡ said_lines t cycle (reply_of p)
unfolding said_lines reply_of answer_text reply_text brought_text word_told
said_is t cycle (WriteReply h rcode) = reply_same t cycle (WriteReply h rcode) _ refl refl (λ q. refl)
said_is t cycle (ReadQuadletReply h rcode value) = reply_same t cycle (ReadQuadletReply h rcode value) _ refl refl (λ q. refl)
said_is t cycle (ReadBlockReply h rcode bytes) = reply_same t cycle (ReadBlockReply h rcode bytes) _ refl refl (λ q. refl)
said_is t cycle (LockReply h rcode function bytes) =
    reply_same t cycle (LockReply h rcode function bytes) _ refl refl (λ q. ap (rcode_or rcode) (swapped_same t.naming q bytes))
said_is t cycle (WriteQuadlet h offset value) = other_same t cycle (WriteQuadlet h offset value) refl
said_is t cycle (WriteBlock h offset bytes) = other_same t cycle (WriteBlock h offset bytes) refl
said_is t cycle (ReadQuadlet h offset) = other_same t cycle (ReadQuadlet h offset) refl
said_is t cycle (ReadBlock h offset len) = other_same t cycle (ReadBlock h offset len) refl
said_is t cycle (CycleStart h offset time) = other_same t cycle (CycleStart h offset time) refl
said_is t cycle (Lock h offset function bytes) = other_same t cycle (Lock h offset function bytes) refl

-- ---- what is put

text_same : {X E : Type 0} (r : Result X E) (t t' : Traced) (a b : List Caused) → a ≡ b → OnOk r (t'.text ≡ t.text ++ caused_text a) → OnOk r (t'.text ≡ t.text ++ caused_text b)
text_same (Ok x) t t' a b e put = put ∙ ap (λ (l : List Caused). t.text ++ caused_text l) e
text_same (Err x) t t' a b e put = tt

kept_same : {X E : Type 0} (r : Result X E) (t' : Traced) (a b : Telling) → a ≡ b → OnOk r (t'.telling ≡ a) → OnOk r (t'.telling ≡ b)
kept_same (Ok x) t' a b e put = put ∙ e
kept_same (Err x) t' a b e put = tt

pub said_put : {X E : Type 0} (result : Result X E) (t t' : Traced) (cycle : ℕ) (p : Packet) (o : Option Reply) → o ≡ reply_of p
    → OnOk result (t'.text ≡ t.text ++ caused_text (said_lines t.telling cycle o)) → OnOk result (t'.text ≡ t.text ++ caused_text (packet_lines t.telling cycle p))
said_put result t t' cycle p o e put = text_same result t t' _ _ (ap (said_lines t.telling cycle) e ∙ sym (said_is t.telling cycle p)) put

pub reply_put : {X E : Type 0} (result : Result X E) (t t' : Traced) (cycle : ℕ) (p : Packet) (r : Reply) → reply_of p ≡ Some r
    → OnOk result (t'.text ≡ t.text ++ caused_text (reply_lines t.telling cycle r)) → OnOk result (t'.text ≡ t.text ++ caused_text (entry_lines t.telling (record { cycle = cycle; what = Async p })))
unfolding lines_by said_lines
reply_put result t t' cycle p r e put = text_same result t t' _ _ (sym (said_is t.telling cycle p ∙ ap (said_lines t.telling cycle) e)) put

pub request_put : {X E : Type 0} (result : Result X E) (t t' : Traced) (cycle : ℕ) (p : Packet) → kind_of p ≡ None
    → OnOk result (t'.text ≡ t.text ++ caused_text (lone_lines t.telling.held)) → OnOk result (t'.text ≡ t.text ++ caused_text (entry_lines t.telling (record { cycle = cycle; what = Async p })))
unfolding lines_by
request_put result t t' cycle p k put = text_same result t t' _ _ (sym (other_same t.telling cycle p k)) put

-- ---- what is kept

response_keeps : (t : Telling) (cycle : ℕ) (p : Packet) → asked_by p ≡ None → with_response cycle t ≡ telling_after t (record { cycle = cycle; what = Async p })
unfolding held_by
response_keeps t cycle p e =
    sym (λ i. record { naming = t.naming; requests = with_asked (e i) t.requests; jobs = t.jobs; held = held_by t.naming cycle p (e i); streams = t.streams; cycle = cycle })

-- what is kept after a request that is told so
abbrev with_told : Telling → ℕ → Asked → List ℕ → Telling
with_told t cycle q x = record {
  naming = t.naming;
  requests = with_asked (Some q) t.requests;
  jobs = t.jobs;
  held = Some (record { asked = q; prefix = at_cycle cycle ++ id_text t.naming q.source; told = x; changes = changes_asked t.naming q });
  streams = t.streams;
  cycle = cycle;
}

request_keeps : (t : Telling) (cycle : ℕ) (p : Packet) (q : Asked) (carried : Carried) → asked_by p ≡ Some q → carried_text p ≡ frame_told carried
    → with_request cycle q carried t ≡ telling_after t (record { cycle = cycle; what = Async p })
unfolding held_by
request_keeps t cycle p q carried e same =
    let told = ap (λ (x : List ℕ). id_text t.naming q.destination ++ codes " " ++ asked_text q ++ x) same in
    sym ((λ i. record { naming = t.naming; requests = with_asked (e i) t.requests; jobs = t.jobs; held = held_by t.naming cycle p (e i); streams = t.streams; cycle = cycle })
    ∙ ap (λ (x : List ℕ). with_told t cycle q x) told)

pub response_kept : {X E : Type 0} (result : Result X E) (t t' : Traced) (cycle : ℕ) (p : Packet) → asked_by p ≡ None → OnOk result (t'.telling ≡ with_response cycle t.telling)
    → OnOk result (t'.telling ≡ telling_after t.telling (record { cycle = cycle; what = Async p }))
response_kept result t t' cycle p e put = kept_same result t' _ _ (response_keeps t.telling cycle p e) put

pub request_kept : {X E : Type 0} (result : Result X E) (t t' : Traced) (cycle : ℕ) (p : Packet) (q : Asked) (carried : Carried) → asked_by p ≡ Some q
    → carried_text p ≡ frame_told carried → OnOk result (t'.telling ≡ with_request cycle q carried t.telling)
    → OnOk result (t'.telling ≡ telling_after t.telling (record { cycle = cycle; what = Async p }))
request_kept result t t' cycle p q carried e same put = kept_same result t' _ _ (request_keeps t.telling cycle p q carried e same) put

-- ---- a quadlet, from its bytes

pub word_back : (word : ℕ) → word < 2 ^ 32 → quadlet_of (to_be_bytes w32 word) ≡ Some word
word_back word small = ap Some (from_be_bytes-to_be_bytes_4 word small)

-- ---- a line

pub late_put : (text cycle left arrow right blank told feed : List ℕ)
    → text ++ ((cycle ++ left ++ arrow ++ right ++ blank) ++ (told ++ feed)) ≡ text ++ ((cycle ++ (left ++ arrow ++ right ++ blank ++ told)) ++ feed)
late_put text cycle left arrow right blank told feed = simp append_assoc
