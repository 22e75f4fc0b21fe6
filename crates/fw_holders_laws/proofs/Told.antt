-- What is told of a response is a move.
use Rattle.std.proofs.Common.{◌≡◌, ◌==◌, ◌&&◌, ℕ, Bool, true, false, cond, List, Option, Some, None, refl}
use Rattle.fw_async.specs.declared.packet.Packet.{Packet}
use Rattle.fw_async.specs.declared.packet.Packet.TheVariants.{WriteQuadlet, WriteBlock, WriteReply, ReadQuadlet, ReadBlock, ReadQuadletReply, ReadBlockReply, CycleStart, Lock, LockReply}
use Rattle.fw_terms.specs.Labels.{label_code}
use Rattle.fw_terms.specs.declared.label.Label.TheVariants.{Procedure}
use Rattle.fw_terms.specs.declared.plug.PlugAt.{PlugAt}
use Rattle.fw_words.specs.Quadlet.{quadlet_at}
use Rattle.fw_log_entry.specs.Network.{device_of_id}
use Rattle.fw_model_account.specs.Account.{Account, Operation, Reads, Locks, Request}
use Rattle.fw_model_account.specs.Decode.{move_at}
use Rattle.fw_model_account.specs.Moves.{Move}
use Rattle.fw_model_account.specs.Packets.{Reply, Read, Locked, is_reply_to, is_swapped, moved, swapped, replied, replied_to, answered, ended, after_packet}
use Rattle.fw_model_account.specs.Sound.{IsSound}
use Rattle.fw_model_account.specs.Words.{Register, register_of}
use Rattle.fw_model_account.proofs.Decoded.{move_at_is}
use Rattle.fw_model_audit.specs.Looked.{Asks, Replies, Other, Response, looked_packet, quadlet_in}
use Rattle.fw_holders.specs.Deeds.{move_told, swap_told, answer_told, reply_told, response_told, packet_told}
use Rattle.fw_holders_laws.specs.Moves.{IsMoveTold}

nothing : {X : Type 0} (what : List ℕ) → None ≡ Some what → X
nothing what e = let z : ⊥ = cc in absurd z

nowhere : {X : Type 0} (k : Account) → None ≡ Some k → X
nowhere k e = let z : ⊥ = cc in absurd z

same_some : {X : Type 0} (x y : X) → Some x ≡ Some y → x ≡ y
same_some x y e = cc

moves : (l k : Account) (c : ℕ) (v : Register) (a n : ℕ) (what : List ℕ) → IsSound l → moved c (move_at l c v a n) l ≡ Some k → move_told l c (move_at l c v a n) ≡ Some what → IsMoveTold l k what
moves l k c v a n what s e f = by (move_at l c v a n) refl e f
  where
    by : (o : Option (PlugAt × Move)) → move_at l c v a n ≡ o → moved c o l ≡ Some k → move_told l c o ≡ Some what → IsMoveTold l k what
    by None at x y = nowhere k x
    by (Some m) at x y = record {
      controller = c;
      plug = m.0;
      move = m.1;
      register = v;
      argument = a;
      new = n;
      is = move_at_is l c v a n m.0 m.1 s at;
      made = same_some _ k x;
      text = same_some _ what y;
    }

swaps : (l k : Account) (c : ℕ) (o : Option Register) (a n : ℕ) (what : List ℕ) → IsSound l → swapped c o a n l ≡ Some k → swap_told l c o a n ≡ Some what → IsMoveTold l k what
swaps l k c None a n what s e f = nothing what f
swaps l k c (Some v) a n what s e f = moves l k c v a n what s e f

replies : (l k : Account) (c : ℕ) (q : Request) (op : Operation) (reply : Reply) (what : List ℕ) → IsSound l → replied c q op reply l ≡ Some k
    → answer_told l c q op reply ≡ Some what → IsMoveTold l k what
replies l k c q Reads reply what s e f = nothing what f
replies l k c q (Locks function bytes) Read what s e f = nothing what f
replies l k c q (Locks function bytes) (Locked g rcode old) what s e f = by (is_swapped function bytes rcode old) e f
  where
    by : (b : Bool) → cond b (swapped c (register_of l.latest q.target q.address) (quadlet_at bytes 0) (quadlet_at bytes 4) l) (Some (ended c l)) ≡ Some k
        → cond b (swap_told l c (register_of l.latest q.target q.address) (quadlet_at bytes 0) (quadlet_at bytes 4)) None ≡ Some what → IsMoveTold l k what
    by true x y = swaps l k c (register_of l.latest q.target q.address) (quadlet_at bytes 0) (quadlet_at bytes 4) what s x y
    by false x y = nothing what y

responds : (l k : Account) (d : Option ℕ) (source : ℕ) (reply : Reply) (what : List ℕ) → IsSound l → answered d source reply l ≡ Some k → response_told l d reply ≡ Some what → IsMoveTold l k what
responds l k None source reply what s e f = nothing what f
responds l k (Some c) source reply what s e f = by (l.outstanding c) e f
  where
    taken : (b : Bool) (o : Option Account) → cond b o None ≡ Some k → o ≡ Some k
    taken true o x = x
    taken false o x = nowhere k x

    by : (o : Option Request) → replied_to c o source reply l ≡ Some k → reply_told l c o reply ≡ Some what → IsMoveTold l k what
    by None x y = nothing what y
    by (Some q) x y = replies l k c q q.operation reply what s (taken ((q.target == source) && is_reply_to q.operation reply) (replied c q q.operation reply l) x) y

labelled : (l k : Account) (b : Bool) (r : Response) (what : List ℕ) → IsSound l
    → cond b (answered (device_of_id l.latest r.requester) r.responder r.reply l) (Some l) ≡ Some k → packet_told l (cond b (Replies r) Other) ≡ Some what
    → IsMoveTold l k what
labelled l k true r what s e f = responds l k (device_of_id l.latest r.requester) r.responder r.reply what s e f
labelled l k false r what s e f = nothing what f

asked : {X : Type 0} (l : Account) (b : Bool) (id : ℕ) (what : List ℕ) → packet_told l (cond b (Asks id) Other) ≡ Some what → X
asked l true id what f = nothing what f
asked l false id what f = nothing what f

pub move_told_is : (l k : Account) (p : Packet) (what : List ℕ) → IsSound l → after_packet p l ≡ Some k → packet_told l (looked_packet p) ≡ Some what → IsMoveTold l k what
move_told_is l k (WriteQuadlet h offset value) what s e f = nothing what f
move_told_is l k (WriteBlock h offset bytes) what s e f = nothing what f
move_told_is l k (WriteReply h rcode) what s e f = nothing what f
move_told_is l k (ReadQuadlet h offset) what s e f = asked l (h.tl == label_code Procedure) h.source what f
move_told_is l k (ReadBlock h offset len) what s e f = nothing what f
move_told_is l k (ReadQuadletReply h rcode value) what s e f =
    labelled l k (h.tl == label_code Procedure) (record { requester = h.destination; responder = h.source; rcode = rcode; reply = Read; word = Some value }) what s e f
move_told_is l k (ReadBlockReply h rcode bytes) what s e f = nothing what f
move_told_is l k (CycleStart h offset time) what s e f = nothing what f
move_told_is l k (Lock h offset function bytes) what s e f = asked l (h.tl == label_code Procedure) h.source what f
move_told_is l k (LockReply h rcode function bytes) what s e f =
    labelled l k (h.tl == label_code Procedure) (record { requester = h.destination; responder = h.source; rcode = rcode; reply = Locked function rcode bytes; word = quadlet_in bytes }) what s e f
