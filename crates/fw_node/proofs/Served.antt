-- The reply that a node gives is the one that its response carries.
use Rattle.std.proofs.Common.{◌≡◌, ℕ, ◌<◌, ◌^◌, List, [], Option, Some, None, refl, ap, sym, subst, ◌∙◌}
use Rattle.std.proofs.lemmas.Option.{same_Some, none-some}
use Rattle.std.proofs.lemmas.Nat.{from_be_bytes-to_be_bytes_4}
use Rattle.fw_async.specs.Reader.{Spells}
use Rattle.fw_async.specs.declared.packet.Packet.{Packet}
use Rattle.fw_async.specs.declared.packet.Packet.TheVariants.{WriteQuadlet, WriteBlock, WriteReply, ReadQuadlet, ReadBlock, ReadQuadletReply, ReadBlockReply, CycleStart, Lock, LockReply}
use Rattle.fw_csr.specs.Replies.{reply, swap_reply}
use Rattle.fw_csr.specs.Requests.{offset_of}
use Rattle.fw_words.specs.Swaps.{quadlet_swap}
use Rattle.fw_csr.specs.declared.register.RegisterAccess.{RegisterAccess}
use Rattle.fw_csr.specs.declared.register.RegisterAccess.TheVariants.{ReadOnly, ReadSwap, WriteOnly}
use Rattle.fw_csr.specs.declared.reply.Reply.{Reply}
use Rattle.fw_csr.specs.declared.request.Request.{Request}
use Rattle.fw_csr.specs.declared.request.Request.TheVariants as Asks
use Rattle.fw_words.specs.declared.swap.Swap.{Swap}
use Rattle.fw_node.specs.Packets.{request_in, response_to, response_with, reply_in, old_bytes, old_value, IsServed}
use Rattle.fw_node.specs.Space.{Space, register_at}

-- ---- what stands in a response, by the kind of its request

write_carries : (offset value : ℕ) (o : Option RegisterAccess) → Some (record { rcode = (reply o (Asks.Write offset value)).rcode; value = 0 }) ≡ Some (reply o (Asks.Write offset value))
write_carries offset value None = refl
write_carries offset value (Some (ReadOnly word)) = refl
write_carries offset value (Some (ReadSwap word)) = refl
write_carries offset value (Some WriteOnly) = refl

block_carries : (offset : ℕ) (bytes : List ℕ) (o : Option RegisterAccess)
    → Some (record { rcode = (reply o (Asks.WriteBlock offset bytes)).rcode; value = 0 }) ≡ Some (reply o (Asks.WriteBlock offset bytes))
block_carries offset bytes None = refl
block_carries offset bytes (Some (ReadOnly word)) = refl
block_carries offset bytes (Some (ReadSwap word)) = refl
block_carries offset bytes (Some WriteOnly) = refl

none_carries : (offset len : ℕ) (o : Option RegisterAccess) → old_value (reply o (Asks.ReadBlock offset len)).rcode [] ≡ Some (reply o (Asks.ReadBlock offset len))
none_carries offset len None = refl
none_carries offset len (Some (ReadOnly word)) = refl
none_carries offset len (Some (ReadSwap word)) = refl
none_carries offset len (Some WriteOnly) = refl

lock_carries : (offset function : ℕ) (bytes : List ℕ) (o : Option RegisterAccess) → (reply o (Asks.Lock offset function bytes)).value < 2 ^ 32
    → old_value (reply o (Asks.Lock offset function bytes)).rcode (old_bytes (reply o (Asks.Lock offset function bytes))) ≡ Some (reply o (Asks.Lock offset function bytes))
lock_carries offset function bytes None low = refl
lock_carries offset function bytes (Some (ReadOnly word)) low = refl
lock_carries offset function bytes (Some WriteOnly) low = refl
lock_carries offset function bytes (Some (ReadSwap word)) low = go (quadlet_swap function bytes) low
  where
    go : (s : Option Swap) → (swap_reply word s).value < 2 ^ 32 → old_value (swap_reply word s).rcode (old_bytes (swap_reply word s)) ≡ Some (swap_reply word s)
    go None low = refl
    go (Some s) low = ap (λ v. Some (record { rcode = 0; value = v })) (from_be_bytes-to_be_bytes_4 word low)

-- ---- the response

abbrev Carries : ℕ → Packet → Packet → Option RegisterAccess → Request → Type 0
Carries n p q o r = (reply o r).value < 2 ^ 32 → response_to n p (reply o r) ≡ Some q → reply_in q ≡ Some (reply o r)

found : (p q : Packet) (a : Reply) → Some p ≡ Some q → reply_in p ≡ Some a → reply_in q ≡ Some a
found p q a is h = subst (λ z. reply_in z ≡ Some a) (same_Some p q is) h

carries : (n : ℕ) (p q : Packet) (o : Option RegisterAccess) (r : Request) → request_in p ≡ Some r → Carries n p q o r
carries n (ReadQuadlet h offset) q o r asks = subst (Carries n (ReadQuadlet h offset) q o) (same_Some _ r asks) (λ low is. found _ q _ is refl)
carries n (WriteQuadlet h offset value) q o r asks = subst (Carries n (WriteQuadlet h offset value) q o) (same_Some _ r asks) (λ low is. found _ q _ is (write_carries offset value o))
carries n (WriteBlock h offset bytes) q o r asks = subst (Carries n (WriteBlock h offset bytes) q o) (same_Some _ r asks) (λ low is. found _ q _ is (block_carries offset bytes o))
carries n (ReadBlock h offset len) q o r asks = subst (Carries n (ReadBlock h offset len) q o) (same_Some _ r asks) (λ low is. found _ q _ is (none_carries offset len o))
carries n (Lock h offset function bytes) q o r asks = subst (Carries n (Lock h offset function bytes) q o) (same_Some _ r asks) (λ low is. found _ q _ is (lock_carries offset function bytes o low))
carries n (WriteReply h rcode) q o r asks = absurd (none-some r asks)
carries n (ReadQuadletReply h rcode value) q o r asks = absurd (none-some r asks)
carries n (ReadBlockReply h rcode bytes) q o r asks = absurd (none-some r asks)
carries n (CycleStart h offset time) q o r asks = absurd (none-some r asks)
carries n (LockReply h rcode function bytes) q o r asks = absurd (none-some r asks)

-- so it is what the node of a space answers, and carries the reply
pub served : (s : Space) (p q : Packet) (r : Request) (a : Reply) (out : List ℕ) → request_in p ≡ Some r → a ≡ reply (register_at s (offset_of r)) r → a.value < 2 ^ 32
    → response_to s.number p a ≡ Some q → Spells q out → IsServed s p out a
served s p q r a out asks is low answers spells =
    let same : response_to s.number p (reply (register_at s (offset_of r)) r) ≡ Some q = ap (response_to s.number p) (sym is) ∙ answers in
    let few : (reply (register_at s (offset_of r)) r).value < 2 ^ 32 = subst (λ (b : Reply). b.value < 2 ^ 32) is low in
    record {
      packet = q;
      answers = ap (response_with s p) asks ∙ same;
      spells = spells;
      carries = carries s.number p q (register_at s (offset_of r)) r asks few same ∙ ap (λ b. Some b) (sym is);
    }

-- a packet that asks something has a response
pub answered : (n : ℕ) (p : Packet) (r : Request) (a : Reply) → request_in p ≡ Some r → (q : Packet) × (response_to n p a ≡ Some q)
answered n (ReadQuadlet h offset) r a asks = (_, refl)
answered n (WriteQuadlet h offset value) r a asks = (_, refl)
answered n (WriteBlock h offset bytes) r a asks = (_, refl)
answered n (ReadBlock h offset len) r a asks = (_, refl)
answered n (Lock h offset function bytes) r a asks = (_, refl)
answered n (WriteReply h rcode) r a asks = absurd (none-some r asks)
answered n (ReadQuadletReply h rcode value) r a asks = absurd (none-some r asks)
answered n (ReadBlockReply h rcode bytes) r a asks = absurd (none-some r asks)
answered n (CycleStart h offset time) r a asks = absurd (none-some r asks)
answered n (LockReply h rcode function bytes) r a asks = absurd (none-some r asks)
