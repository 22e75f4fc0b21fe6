-- A swap that an answer has made is a move of the account, at the register of the answer.
use Rattle.fw_watch_laws.proofs.Common.{◌≡◌, refl, ap, sym, ◌∙◌, subst, ℕ, ◌+◌, ◌<◌, ◌==◌, Bool, true, false, List, if◌then◌else◌, Option, Some, IfSome, All, eq-eqb, Swap, Procedure, label_code, Head}
use Rattle.fw_watch_laws.proofs.Common.{Packet, LockReply, Entry, Async, Timed, device_of_id, Account, Request, Reply, Locked, replied, next_account, IsSound, Place, place_at, register_of, word_of}
use Rattle.fw_watch_laws.proofs.Common.{looked_packet, ShowsWords, WatchedRegister, register_at, Asked, Answer, answer_of, node_of, known, IsNumber, offset_of}
use Rattle.fw_model_account.specs.Packets.{after_packet}
use Rattle.fw_model_account.specs.Words.{first_address}
use Rattle.fw_model_account.proofs.Packets.{device_below}
use Rattle.fw_model_audit.specs.Looked.{Looked, Replies, Other, looked, quadlet_in, IsQuadlet}
use Rattle.fw_watch_laws.proofs.Numbers.{register_number}
use Rattle.fw_watch_laws.proofs.Matches.{IsMatched, IsSame}
use Rattle.fw_watch_laws.proofs.Matching.{AllMatched}
use Rattle.fw_watch_laws.proofs.Labels.{IsOwn}
use Rattle.fw_watch_laws.proofs.Answered.{IsIn, of_all}
use Rattle.fw_watch_laws.proofs.SwapAnswers.{IsSwapAnswer, swap_answer}
use Rattle.fw_watch_laws.proofs.Outstanding.{IsReplyTo, reply_to, is_swap_of, IsSwapMove, swap_moves}
use Rattle.fw_watch_laws.proofs.Offsets.{offset_at, watched, place_of}
use Rattle.fw_watch_laws.proofs.Passing.{Passes}

-- ---- responses with the label of procedures

-- the register at which the outstanding request is that a response to an outstanding request is to
pub record IsPlaced (l : Account) (r : Request) (q : Asked) (o : Option ℕ) : Type 0 where
  pub register : Place
  pub named : register_of l.latest r.target r.address ≡ Some register
  pub number : IsNumber q.register
  pub address : r.address ≡ first_address + offset_of q.register
  pub word : o ≡ Some (word_of l register)
  pub quadlet : IsQuadlet r.operation

pub number_of : (address : ℕ) (r : WatchedRegister) → register_at address ≡ Some r → IsNumber r
number_of address r e = let P : Option WatchedRegister → Type 0 = λ o. IfSome o IsNumber in subst P e (register_number address)

-- it is the outstanding request
pub same_request : (l m : Account) (h : Head) (reply : Reply) (read : Bool) (xs : List Asked) (q : Asked) (r : IsReplyTo l m h reply) → AllMatched l xs → IsIn read h xs q
    → q.label ≡ label_code Procedure → IsSame r.request q
same_request l m h reply read xs q r a i label =
    of_all (IsMatched l) read h xs q a i r.controller r.request label (ap (device_of_id l.latest) i.is.source ∙ r.device) r.outstanding (r.target ∙ sym i.is.destination)

-- if it is complete, its register is there and has the word that is shown
pub placed : (l m : Account) (h : Head) (reply : Reply) (word : Option ℕ) (q : Asked) (r : IsReplyTo l m h reply) → IsSame r.request q
    → ShowsWords l (Replies (record { requester = h.destination; responder = h.source; rcode = 0; reply = reply; word = word })) → IsPlaced l r.request q word
placed l m h reply word q r s w =
    let number : IsNumber q.register = number_of r.request.address q.register s.register in
    let address : r.request.address ≡ first_address + offset_of q.register = offset_at r.request.address q.register s.register in
    let x = w r.request (offset_of q.register)
    (record {
      answer = record { controller = r.controller; device = r.device; outstanding = r.outstanding; responder = r.target; kind = r.kind };
      complete = refl;
      address = address;
      watched = watched q.register number;
    }) in
    record { register = x.0; named = x.1; number = number; address = address; word = x.2; quadlet = x.3 }

-- ---- swaps

-- a swap is a move of the account, at the register of the answer
pub record IsAccountSwap (l m : Account) (a : Answer) (swap : Swap) : Type 0 where
  pub controller : ℕ
  pub below : controller < 63
  pub register : Place
  pub number : IsNumber a.at.register
  pub place : place_at l.latest a.at.node (offset_of a.at.register) ≡ Some register
  pub move : IsSwapMove l m controller register swap

-- what an audit looks at in a response with the label of procedures
pub looked_if : (b : Bool) (l : Account) (x : Looked) → b ≡ true → ShowsWords l (if b then x else Other) → ShowsWords l x
looked_if true l x e w = w
looked_if false l x e w = cc

pub lock_in : (l m : Account) (xs : List Asked) (a : Answer) (swap : Swap) (p : Packet) (x : IsSwapAnswer xs p a swap) → IsSound l → AllMatched l xs → All IsOwn xs
    → ShowsWords l (looked_packet (LockReply x.lock.head 0 x.lock.function x.lock.bytes)) → after_packet (LockReply x.lock.head 0 x.lock.function x.lock.bytes) l ≡ Some m
    → IsAccountSwap l m a swap
lock_in l m xs a swap p x s matched own w n =
    let k = x.lock in
    let q : Asked = k.request in
    let h : Head = k.head in
    let reply : Reply = Locked k.function 0 k.bytes in
    let label : q.label ≡ label_code Procedure = of_all IsOwn false h xs q own k.standing k.standing.is.kind in
    let tl : h.tl ≡ label_code Procedure = sym k.standing.is.label ∙ label in
    let r : IsReplyTo l m h reply = reply_to h reply l m tl n in
    let same : IsSame r.request q = same_request l m h reply false xs q r matched k.standing label in
    let y : IsPlaced l r.request q (quadlet_in k.bytes) = placed l m h reply (quadlet_in k.bytes) q r same
    (looked_if (h.tl == label_code Procedure) l (Replies (record { requester = h.destination; responder = h.source; rcode = 0; reply = reply; word = quadlet_in k.bytes }))
    (eq-eqb h.tl (label_code Procedure) tl) w) in
    let node : node_of r.request.target ≡ Some a.at.node = ap node_of (r.target ∙ sym k.standing.is.destination) ∙ k.of.node in
    let R : WatchedRegister → Type 0 = λ z. place_at l.latest a.at.node (offset_of z) ≡ Some y.register in
    let S : WatchedRegister → Type 0 = λ z. IsNumber z in
    record {
      controller = r.controller;
      below = device_below l.latest h.destination r.controller s.range r.device;
      register = y.register;
      number = subst S (sym k.of.register) y.number;
      place = subst R (sym k.of.register) (place_of l.latest r.request.target r.request.address a.at.node q.register y.register node y.address y.named);
      move = swap_moves l m r.controller r.request swap k.bytes y.register s (is_swap_of r.request.operation swap (sym same.asking ∙ x.made.asking_is)) x.made.size x.made.old y.named
          (ap (λ (f : ℕ). replied r.controller r.request r.request.operation (Locked f 0 k.bytes) l) (sym x.made.compare) ∙ r.next);
    }

-- a swap of an entry that passes
pub swap_in : (entries prefix rest : List Timed) (t : Timed) (l m : Account) (p : Packet) (a : Answer) (swap : Swap) → Passes entries prefix rest t l m → t.what ≡ Async p
    → answer_of (known prefix).standing p ≡ Some a → a.swap ≡ Some swap → IsAccountSwap l m a swap
swap_in entries prefix rest t l m p a swap y e f g =
    let x : IsSwapAnswer (known prefix).standing p a swap = swap_answer p (known prefix).standing a swap f g in
    let P : Entry → Type 0 = λ z. ShowsWords l (looked z) in
    let Q : Packet → Type 0 = λ z. ShowsWords l (looked_packet z) in
    lock_in l m (known prefix).standing a swap p x y.sound y.agrees.matched y.agrees.own (subst Q x.lock.packet (subst P e y.words))
    (ap (λ (z : Packet). after_packet z l) (sym x.lock.packet) ∙ ap (next_account l) (sym e) ∙ y.next)
