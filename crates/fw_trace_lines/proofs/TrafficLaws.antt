-- What packets of usual kinds are to a trace.
use Rattle.std.proofs.Common.{◌≡◌, refl, sym, subst, ℕ, ◌++◌, Some, None}
use Rattle.std.specs.Int.{to_be_bytes, w32}
use Rattle.fw_words.specs.Swaps.{quadlet_swap, swap_bytes}
use Rattle.fw_words.specs.declared.swap.Swap.{Swap}
use Rattle.fw_async.specs.declared.packet.Head.{Head}
use Rattle.fw_async.specs.declared.packet.Packet.{Packet}
use Rattle.fw_async.specs.declared.packet.Packet.TheVariants as Packets
use Rattle.fw_log_requests.specs.Requests.{asked, asked_by}
use Rattle.fw_log_requests.specs.declared.asked.Answer.TheVariants.{Write as WriteResponse, ReadQuadlet as ReadQuadletResponse, Lock as LockResponse}
use Rattle.fw_trace_requests.specs.Answers.{carried_text}
use Rattle.fw_trace_requests.specs.Carried.{frame_told}
use Rattle.fw_trace_requests.specs.declared.carried.Carried.TheVariants.{Nothing, Quadlet, Pair}
use Rattle.fw_trace_requests.specs.Replies.{quadlet_of, reply_of}
use Rattle.fw_trace_lines.specs.declared.traffic.Traffic.{Traffic}
use Rattle.fw_trace_lines.specs.declared.traffic.Traffic.TheVariants.{Request, Response, Silent}
use Rattle.fw_trace_lines.specs.Replies.{IsTraffic}

pub told_so : (t t' : Traffic) (p p' : Packet) → t ≡ t' → p ≡ p' → IsTraffic t' p' → IsTraffic t p
told_so t t' p p' e f x = subst (λ (y : Packet). IsTraffic t y) (sym f) (subst (λ (y : Traffic). IsTraffic y p') (sym e) x)

pub read_is : (h : Head) (offset : ℕ) → IsTraffic (Request (asked h ReadQuadletResponse offset None) Nothing) (Packets.ReadQuadlet h offset)
unfolding asked_by carried_text frame_told
read_is h offset = (refl, refl, refl)

pub swap_is : (h : Head) (offset : ℕ) (s : Swap) → IsTraffic (Request (asked h LockResponse offset (quadlet_swap 2 (swap_bytes s))) Nothing) (Packets.Lock h offset 2 (swap_bytes s))
unfolding asked_by carried_text frame_told
swap_is h offset s = (refl, refl, refl)

pub write_is : (h : Head) (offset value : ℕ) → IsTraffic (Request (asked h WriteResponse offset None) (Quadlet value)) (Packets.WriteQuadlet h offset value)
unfolding asked_by carried_text frame_told
write_is h offset value = (refl, refl, refl)

pub pair_is : (h : Head) (offset first second : ℕ)
    → IsTraffic (Request (asked h WriteResponse offset None) (Pair first second)) (Packets.WriteBlock h offset (to_be_bytes w32 first ++ to_be_bytes w32 second))
unfolding asked_by carried_text frame_told
pair_is h offset first second = (refl, refl, refl)

pub read_reply_is : (h : Head) (rcode value : ℕ)
    → IsTraffic (Response (record { head = h; kind = ReadQuadletResponse; rcode = rcode; word = Some value })) (Packets.ReadQuadletReply h rcode value)
unfolding asked_by reply_of
read_reply_is h rcode value = (refl, refl)

pub swap_reply_is : (h : Head) (rcode old : ℕ)
    → IsTraffic (Response (record { head = h; kind = LockResponse; rcode = rcode; word = quadlet_of (to_be_bytes w32 old) })) (Packets.LockReply h rcode 2 (to_be_bytes w32 old))
unfolding asked_by reply_of
swap_reply_is h rcode old = (refl, refl)

pub write_reply_is : (h : Head) (rcode : ℕ) → IsTraffic (Response (record { head = h; kind = WriteResponse; rcode = rcode; word = None })) (Packets.WriteReply h rcode)
unfolding asked_by reply_of
write_reply_is h rcode = (refl, refl)

pub cycle_start_is : (h : Head) (offset time : ℕ) → IsTraffic Silent (Packets.CycleStart h offset time)
unfolding asked_by
cycle_start_is h offset time = (refl, refl)
