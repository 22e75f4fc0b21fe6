use Rattle.std.proofs.Common.{◌≡◌, ◌++◌, Some, None, sym, subst}
use Rattle.std.proofs.lemmas.Result.{IfOk-weaker}
use Rattle.std.specs.Int.{to_be_bytes, w32}
use Rattle.fw_words.specs.declared.swap.TheConstants.{COMPARE_SWAP}
use Rattle.fw_async.specs.declared.packet.Packet.{Packet}
use Rattle.fw_async.specs.declared.packet.Packet.TheVariants.{WriteQuadlet, WriteBlock, WriteReply, ReadQuadlet, ReadQuadletReply, Lock, LockReply}
use Rattle.fw_async_glance.specs.Glances.{IsGlance}
use Rattle.fw_async_glance.specs.declared.glance.Glance.{Glance}
use Rattle.fw_log_requests.specs.Requests.{asked}
use Rattle.fw_log_requests.specs.declared.asked.Answer.TheVariants.{Write as WriteResponse, ReadQuadlet as ReadQuadletResponse, Lock as LockResponse}
use Rattle.fw_log_explain.specs.declared.tail.TailWords.TheVariants as Words
use Rattle.fw_log_explainer.specs.Lines.{IsTold}
use Rattle.fw_log_explainer.proofs.TailLaws.{request_told, read_tail, read_stands, write_tail, write_stands, pair_tail, pair_stands, start_told}
use Rattle.fw_log_explainer.proofs.usual.put_usual.Goals as goal

pub returns-in-Read-clause-told : goal.returns-in-Read-clause-told
returns-in-Read-clause-told c p is =
    let G : Glance → Type 0 = λ g. IsGlance g p in
    let list = c.args.requests.now in
    let h = c.in-Read.head in
    let o = c.in-Read.offset in
    IfOk-weaker c.put_request.result _ _
    (λ put told t. request_told c.args.lines.now _ list _ c.args.cycle p (ReadQuadlet h o) Words.Read c.new-asked.result (asked h ReadQuadletResponse o None)
    (subst G c.in-Read.is is) c.new-asked.ensures (read_tail list h o) (read_stands list h o) told)
    c.put_request.ensures.told

pub returns-in-Swap-clause-told : goal.returns-in-Swap-clause-told
returns-in-Swap-clause-told c p is =
    let G : Glance → Type 0 = λ g. IsGlance g p in
    let P : Packet → Type 0 = IsTold c.args.lines.now c.put_swap.new.lines c.args.requests.now c.put_swap.new.requests c.args.cycle in
    IfOk-weaker c.put_swap.result _ _ (λ put told t. subst P (sym (subst G c.in-Swap.is is)) told) c.put_swap.ensures.told

pub returns-in-Write-clause-told : goal.returns-in-Write-clause-told
returns-in-Write-clause-told c p is =
    let G : Glance → Type 0 = λ g. IsGlance g p in
    let list = c.args.requests.now in
    let h = c.in-Write.head in
    let o = c.in-Write.offset in
    let v = c.in-Write.value in
    IfOk-weaker c.put_request-in-Write.result _ _
    (λ put told t. request_told c.args.lines.now _ list _ c.args.cycle p (WriteQuadlet h o v) (Words.Write v) c.new-asked-in-Write.result (asked h WriteResponse o None)
    (subst G c.in-Write.is is) c.new-asked-in-Write.ensures (write_tail list h o v) (write_stands list h o v) told)
    c.put_request-in-Write.ensures.told

pub returns-in-WritePair-clause-told : goal.returns-in-WritePair-clause-told
returns-in-WritePair-clause-told c p is =
    let G : Glance → Type 0 = λ g. IsGlance g p in
    let list = c.args.requests.now in
    let h = c.in-WritePair.head in
    let o = c.in-WritePair.offset in
    let f = c.in-WritePair.first in
    let g = c.in-WritePair.second in
    IfOk-weaker c.put_request-in-WritePair.result _ _
    (λ put told t. request_told c.args.lines.now _ list _ c.args.cycle p (WriteBlock h o (to_be_bytes w32 f ++ to_be_bytes w32 g)) (Words.WritePair f g) c.new-asked-in-WritePair.result
    (asked h WriteResponse o None) (subst G c.in-WritePair.is is) c.new-asked-in-WritePair.ensures (pair_tail list h o f g) (pair_stands list h o (to_be_bytes w32 f ++ to_be_bytes w32 g)) told)
    c.put_request-in-WritePair.ensures.told

pub returns-in-ReadReply-clause-told : goal.returns-in-ReadReply-clause-told
returns-in-ReadReply-clause-told c p is =
    let G : Glance → Type 0 = λ g. IsGlance g p in
    let P : Packet → Type 0 = IsTold c.args.lines.now c.put_read_reply.new.lines c.args.requests.now c.put_read_reply.new.requests c.args.cycle in
    IfOk-weaker c.put_read_reply.result _ _ (λ put told t. subst P (sym (subst G c.in-ReadReply.is is)) (told t)) c.put_read_reply.ensures.told

pub returns-in-SwapReply-clause-told : goal.returns-in-SwapReply-clause-told
returns-in-SwapReply-clause-told c p is =
    let G : Glance → Type 0 = λ g. IsGlance g p in
    let P : Packet → Type 0 = IsTold c.args.lines.now c.put_swap_reply.new.lines c.args.requests.now c.put_swap_reply.new.requests c.args.cycle in
    IfOk-weaker c.put_swap_reply.result _ _ (λ put told t. subst P (sym (subst G c.in-SwapReply.is is)) (told t)) c.put_swap_reply.ensures.told

pub returns-in-WriteReply-clause-told : goal.returns-in-WriteReply-clause-told
returns-in-WriteReply-clause-told c p is =
    let G : Glance → Type 0 = λ g. IsGlance g p in
    let P : Packet → Type 0 = IsTold c.args.lines.now c.put_write_reply.new.lines c.args.requests.now c.put_write_reply.new.requests c.args.cycle in
    IfOk-weaker c.put_write_reply.result _ _ (λ put told t. subst P (sym (subst G c.in-WriteReply.is is)) (told t)) c.put_write_reply.ensures.told

pub returns-in-CycleStart-clause-told : goal.returns-in-CycleStart-clause-told
returns-in-CycleStart-clause-told c p is =
    let G : Glance → Type 0 = λ g. IsGlance g p in
    let r = c.in-CycleStart in
    IfOk-weaker c.put_start.result _ _
    (λ put told t. start_told c.args.lines.now _ c.args.requests.now c.args.cycle p r.head r.offset r.time (subst G r.is is) c.if-offset-eq-CYCLE_TIME.true (told t))
    c.put_start.ensures.put
