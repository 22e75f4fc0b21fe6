-- The packets by which frames are written, and those that answer them: the account does not see them, and they may be written.
use Rattle.fw_model_run.proofs.Common.{◌≡◌, ℕ, zero, suc, ◌<◌, ◌^◌, ◌==◌, cond, List, ◌∷◌, length, Bool, true, false, Option, Some, None, refl, sym, subst, ◌∙◌, arith, w32, same_Some, Head, Packet}
use Rattle.fw_model_run.proofs.Common.{ReadSwap, Reply, Request, Account, node_of, packet_of, response_head, Space, answer_of, Frame, spelling, Obeyed, FrameWrite, request_of, frame_packet}
use Rattle.fw_model_run.proofs.Common.{response_write, IsGood, answer_packet, reply_from, space_of_node, State}
use Rattle.std.proofs.Common.{slice_index}
use Rattle.std.specs.Int.{from_be_bytes}
use Rattle.fw_async.specs.Async as Async
use Rattle.fw_async_fields.specs.Data.{AreBytes}
use Rattle.fw_async.specs.declared.packet.Packet.TheVariants.{WriteReply}
use Rattle.fw_csr.specs.declared.register.RegisterAccess.{RegisterAccess}
use Rattle.fw_csr.specs.declared.register.RegisterAccess.TheVariants.{ReadOnly, WriteOnly}
use Rattle.fw_csr.specs.declared.request.Request.TheVariants as Asks
use Rattle.fw_csr.specs.Replies.{reply}
use Rattle.fw_log_entry.specs.declared.entry.Entry.TheVariants.{Async as AsyncEntry}
use Rattle.fw_log_entry.specs.Log.{Fits}
use Rattle.fw_node.specs.Packets.{response_to, RequestFits}
use Rattle.fw_node.specs.Space.{register_at}
use Rattle.fw_node.specs.Fcp.{IsSendable}
use Rattle.fw_model_run.specs.Frames.{frame_head}
use Rattle.fw_model_run.specs.Found.{FoundWrite}
use Rattle.fw_model_run.specs.TransactionDeeds.{MayReceive}
use Rattle.fw_model_run.proofs.Bounds.{node_few}
use Rattle.fw_model_run.proofs.Led.{LeavesAccount, unread}

-- a quadlet write, or a block write
abbrev pub write_by : Bool → ℕ → List ℕ → Request
write_by b offset bytes = cond b (Asks.Write offset (from_be_bytes w32 bytes)) (Asks.WriteBlock offset bytes)

-- ---- the write

by_leaves : (l : Account) (h : Head) (b : Bool) (offset : ℕ) (bytes : List ℕ) → LeavesAccount l (Some (AsyncEntry (packet_of h (write_by b offset bytes))))
by_leaves l h true offset bytes = (refl, ((tt, tt), unread l (packet_of h (write_by true offset bytes)) (λ q. tt)))
by_leaves l h false offset bytes = (refl, ((tt, tt), unread l (packet_of h (write_by false offset bytes)) (λ q. tt)))

pub write_leaves : (s : State) (w : FrameWrite) → LeavesAccount s.account (Some (AsyncEntry (frame_packet s w)))
write_leaves s w = by_leaves s.account (frame_head s w) (length w.bytes == 4) w.offset w.bytes

by_fits : (h : Head) (b : Bool) (offset : ℕ) (bytes : List ℕ) → Async.HeadFits h → RequestFits (write_by b offset bytes) → Async.Fits (packet_of h (write_by b offset bytes))
by_fits h true offset bytes head f = (head, f.0, f.1)
by_fits h false offset bytes head f = (head, f.0, f.1, f.2)

heads_fit : (s : State) (w : FrameWrite) → IsGood s → Async.HeadFits (frame_head s w)
heads_fit s w g = let to = node_few s w.to g in let from = node_few s w.from g in (omega (arith, to), omega arith, omega arith, omega arith, omega (arith, from))

pub write_fits : (s : State) (w : FrameWrite) → IsGood s → RequestFits (request_of w) → Fits (AsyncEntry (frame_packet s w))
write_fits s w g f = by_fits (frame_head s w) (length w.bytes == 4) w.offset w.bytes (heads_fit s w g) f

fits_by : (h : Head) (b : Bool) (offset : ℕ) (bytes : List ℕ) → Async.Fits (packet_of h (write_by b offset bytes)) → RequestFits (write_by b offset bytes)
fits_by h true offset bytes f = (f.1, f.2)
fits_by h false offset bytes f = (f.1, f.2, f.3)

pub fits_write : (s : State) (w : FrameWrite) → Async.Fits (frame_packet s w) → RequestFits (request_of w)
fits_write s w f = fits_by (frame_head s w) (length w.bytes == 4) w.offset w.bytes f

bytes_low : (a b c : ℕ) (rest : List ℕ) → a < 256 → b < 256 → c < 256 → slice_index rest 0 < 256 → from_be_bytes w32 (a ∷ b ∷ c ∷ rest) < 2 ^ 32
bytes_low a b c rest f g h k = omega (arith, f, g, h, k)

spelling_bytes : (f : Frame) → IsSendable f → AreBytes (spelling f)
spelling_bytes f h zero = let x = h.fits.code in omega (arith, x)
spelling_bytes f h (suc zero) = let x = h.fits.kind in let y = h.fits.id in omega (arith, x, y)
spelling_bytes f h (suc (suc zero)) = h.opcode
spelling_bytes f h (suc (suc (suc i))) = h.bytes i

-- a frame that can be sent makes a request that may be written
pub sendable_fits : (d to : ℕ) (f : Frame) → IsSendable f → RequestFits (request_of (response_write d to f))
sendable_fits d to f h = go (length (spelling f) == 4)
  where
    all : AreBytes (spelling f)
    all = spelling_bytes f h

    go : (b : Bool) → RequestFits (write_by b 0xFFFF_F000_0D00 (spelling f))
    go true = (omega arith, bytes_low _ _ _ f.operands (all 0) (all 1) (all 2) (all 3))
    go false = (omega arith, let size = h.size in omega (arith, size), all)

-- ---- the answer

by_answered : (n : ℕ) (h : Head) (b : Bool) (offset : ℕ) (bytes : List ℕ) (r : Reply) → response_to n (packet_of h (write_by b offset bytes)) r ≡ Some (WriteReply (response_head n h) r.rcode)
by_answered n h true offset bytes r = refl
by_answered n h false offset bytes r = refl

-- what node n answers to a frame that is written to it
abbrev pub answer_to : State → FrameWrite → Packet
answer_to s w = WriteReply (response_head (node_of s.account.latest w.to) (frame_head s w)) (reply_from s (node_of s.account.latest w.to) (request_of w)).rcode

pub write_answered : (s : State) (w : FrameWrite) → answer_packet s (node_of s.account.latest w.to) (frame_head s w) (request_of w) ≡ Some (answer_to s w)
write_answered s w = by_answered (node_of s.account.latest w.to) (frame_head s w) (length w.bytes == 4) w.offset w.bytes (reply_from s (node_of s.account.latest w.to) (request_of w))

-- p answers the write w
abbrev pub IsAnswerTo : State → FrameWrite → Packet → Type 0
IsAnswerTo s w p = answer_packet s (node_of s.account.latest w.to) (frame_head s w) (request_of w) ≡ Some p

answer_is : (s : State) (w : FrameWrite) (p : Packet) → IsAnswerTo s w p → answer_to s w ≡ p
answer_is s w p is = same_Some (answer_to s w) p (sym (write_answered s w) ∙ is)

pub received_leaves : (s : State) (w : FrameWrite) (p : Packet) → IsAnswerTo s w p → LeavesAccount s.account (Some (AsyncEntry p))
received_leaves s w p is = subst (λ z. LeavesAccount s.account (Some (AsyncEntry z))) (answer_is s w p is) (refl, ((tt, tt), unread s.account (answer_to s w) (λ q. tt)))

register_low : (o : Option RegisterAccess) (b : Bool) (offset : ℕ) (bytes : List ℕ) → (reply o (write_by b offset bytes)).rcode < 2 ^ 4
register_low None true offset bytes = omega arith
register_low None false offset bytes = omega arith
register_low (Some (ReadOnly word)) true offset bytes = omega arith
register_low (Some (ReadOnly word)) false offset bytes = omega arith
register_low (Some (ReadSwap word)) true offset bytes = omega arith
register_low (Some (ReadSwap word)) false offset bytes = omega arith
register_low (Some WriteOnly) true offset bytes = omega arith
register_low (Some WriteOnly) false offset bytes = omega arith

reply_low : (p : Space) (b : Bool) (offset : ℕ) (bytes : List ℕ) → (answer_of p (write_by b offset bytes)).reply.rcode < 2 ^ 4
reply_low p true offset bytes = register_low (register_at p offset) true offset bytes
reply_low p false offset bytes = register_low (register_at p offset) false offset bytes

pub received_fits : (s : State) (o : Option Obeyed) (found : FoundWrite) → IsGood s → MayReceive s o found → Async.Fits found.response
received_fits s o found g may =
    let w = found.write in
    let n = node_of s.account.latest w.to in
    let few = node_few s w.to g in
    let head = heads_fit s w g in
    subst Async.Fits (answer_is s w found.response may.answered)
    ((head.4, head.1, omega arith, omega arith, omega (arith, few)), reply_low (space_of_node s n) (length w.bytes == 4) w.offset w.bytes)
