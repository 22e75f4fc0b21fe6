use Rattle.std.proofs.Common.{◌∙◌, ap, subst, refl}
use Rattle.fw_async_glance.specs.Glances.{IsGlance}
use Rattle.fw_async_glance.specs.declared.glance.Glance.{Glance}
use Rattle.fw_log_requests.specs.declared.asked.Answer.TheVariants.{Lock as LockResponse}
use Rattle.fw_trace_requests.specs.declared.carried.Carried.TheVariants.{Nothing, Quadlet, Pair}
use Rattle.fw_trace_lines.specs.declared.traffic.Traffic.TheVariants.{Request, Response, Silent}
use Rattle.fw_trace_lines.proofs.TrafficLaws.{told_so, read_is, swap_is, write_is, pair_is, read_reply_is, swap_reply_is, write_reply_is, cycle_start_is}
use Rattle.fw_trace_lines.proofs.traffic.Traffic.of.Goals as goal

pub returns-in-Read : goal.returns-in-Read
returns-in-Read c = λ p s.
    let x = c.in-Read in
    let is = subst (λ (g : Glance). IsGlance g p) x.is s in
    told_so _ _ p _ (ap (λ q. Request q Nothing) c.asked.ensures) is (read_is x.head x.offset)

pub returns-in-Swap : goal.returns-in-Swap
returns-in-Swap c = λ p s.
    let x = c.in-Swap in
    let is = subst (λ (g : Glance). IsGlance g p) x.is s in
    told_so _ _ p _ (ap (λ q. Request q Nothing) c.asked_swap.ensures) is (swap_is x.head x.offset x.swap)

pub returns-in-Write : goal.returns-in-Write
returns-in-Write c = λ p s.
    let x = c.in-Write in
    let is = subst (λ (g : Glance). IsGlance g p) x.is s in
    told_so _ _ p _ (ap (λ q. Request q (Quadlet x.value)) c.asked-in-Write.ensures) is (write_is x.head x.offset x.value)

pub returns-in-WritePair : goal.returns-in-WritePair
returns-in-WritePair c = λ p s.
    let x = c.in-WritePair in
    let is = subst (λ (g : Glance). IsGlance g p) x.is s in
    told_so _ _ p _ (ap (λ q. Request q (Pair x.first x.second)) c.asked-in-WritePair.ensures) is (pair_is x.head x.offset x.first x.second)

pub returns-in-ReadReply : goal.returns-in-ReadReply
returns-in-ReadReply c = λ p s.
    let x = c.in-ReadReply in
    let is = subst (λ (g : Glance). IsGlance g p) x.is s in
    told_so _ _ p _ (c.response.ensures) is (read_reply_is x.head x.rcode x.value)

pub returns-in-SwapReply : goal.returns-in-SwapReply
returns-in-SwapReply c = λ p s.
    let x = c.in-SwapReply in
    let is = subst (λ (g : Glance). IsGlance g p) x.is s in
    told_so _ _ p _
    (c.response-in-SwapReply.ensures ∙ ap (λ o. Response (record { head = x.head; kind = LockResponse; rcode = x.rcode; word = o })) c.old_word.ensures)
    is (swap_reply_is x.head x.rcode x.old)

pub returns-in-WriteReply : goal.returns-in-WriteReply
returns-in-WriteReply c = λ p s.
    let x = c.in-WriteReply in
    let is = subst (λ (g : Glance). IsGlance g p) x.is s in
    told_so _ _ p _ (c.response-in-WriteReply.ensures) is (write_reply_is x.head x.rcode)

pub returns-in-CycleStart : goal.returns-in-CycleStart
returns-in-CycleStart c = λ p s.
    let is = subst (λ (g : Glance). IsGlance g p) c.in-CycleStart.is s in
    told_so Silent Silent p _ refl is (cycle_start_is c.in-CycleStart.head c.in-CycleStart.offset c.in-CycleStart.time)
