use Rattle.std.proofs.Common.{◌≡◌, ◌∙◌, ◌==◌, ℕ, List, false, None, if◌then◌else◌, ap, sym, subst}
use Rattle.fw_words.specs.declared.swap.TheConstants.{COMPARE_SWAP}
use Rattle.fw_async.specs.declared.packet.Packet.{Packet}
use Rattle.fw_async_glance.specs.Glances.{IsGlance}
use Rattle.fw_async_glance.specs.declared.glance.Glance.{Glance}
use Rattle.fw_watch_requests.specs.Standing.{answer_of, answered, lock_answer, standing_following}
use Rattle.fw_watch_requests.proofs.standing.OutstandingRequests.take_bytes.Goals as goal

-- what is seen is so of the packet
is_so : (seen known : Glance) (p : Packet) → seen ≡ known → IsGlance seen p → IsGlance known p
is_so seen known p e s = subst (λ (g : Glance). IsGlance g p) e s

pub returns-in-Write-clause-value : goal.returns-in-Write-clause-value
unfolding answer_of
returns-in-Write-clause-value c = λ p s. sym (ap (answer_of c.args.self.now) (is_so _ _ p c.in-Write.is (c.glance_at.ensures p s)))

pub returns-in-Write-clause-known : goal.returns-in-Write-clause-known
unfolding standing_following
returns-in-Write-clause-known c = λ p s.
    c.end_same.ensures ∙ sym (ap (λ (q : Packet). standing_following q c.args.self.now) (is_so _ _ p c.in-Write.is (c.glance_at.ensures p s)))

pub returns-in-WritePair-clause-value : goal.returns-in-WritePair-clause-value
unfolding answer_of
returns-in-WritePair-clause-value c = λ p s. sym (ap (answer_of c.args.self.now) (is_so _ _ p c.in-WritePair.is (c.glance_at.ensures p s)))

pub returns-in-WritePair-clause-known : goal.returns-in-WritePair-clause-known
unfolding standing_following
returns-in-WritePair-clause-known c = λ p s.
    c.end_same-in-WritePair.ensures ∙ sym (ap (λ (q : Packet). standing_following q c.args.self.now) (is_so _ _ p c.in-WritePair.is (c.glance_at.ensures p s)))

pub returns-in-Read-clause-value : goal.returns-in-Read-clause-value
unfolding answer_of
returns-in-Read-clause-value c = λ p s. sym (ap (answer_of c.args.self.now) (is_so _ _ p c.in-Read.is (c.glance_at.ensures p s)))

pub returns-in-Read-clause-known : goal.returns-in-Read-clause-known
unfolding standing_following
returns-in-Read-clause-known c = λ p s.
    c.ask.ensures ∙ sym (ap (λ (q : Packet). standing_following q c.args.self.now) (is_so _ _ p c.in-Read.is (c.glance_at.ensures p s)))

pub returns-in-Swap-clause-value : goal.returns-in-Swap-clause-value
unfolding answer_of
returns-in-Swap-clause-value c = λ p s. sym (ap (answer_of c.args.self.now) (is_so _ _ p c.in-Swap.is (c.glance_at.ensures p s)))

pub returns-in-Swap-clause-known : goal.returns-in-Swap-clause-known
unfolding standing_following
returns-in-Swap-clause-known c = λ p s.
    c.ask_swap.ensures ∙ sym (ap (λ (q : Packet). standing_following q c.args.self.now) (is_so _ _ p c.in-Swap.is (c.glance_at.ensures p s)))

pub returns-in-ReadReply-clause-value : goal.returns-in-ReadReply-clause-value
unfolding answer_of
returns-in-ReadReply-clause-value c = λ p s. c.take_read.ensures.value ∙ sym (ap (answer_of c.args.self.now) (is_so _ _ p c.in-ReadReply.is (c.glance_at.ensures p s)))

pub returns-in-ReadReply-clause-known : goal.returns-in-ReadReply-clause-known
unfolding standing_following
returns-in-ReadReply-clause-known c = λ p s.
    c.take_read.ensures.known ∙ sym (ap (λ (q : Packet). standing_following q c.args.self.now) (is_so _ _ p c.in-ReadReply.is (c.glance_at.ensures p s)))

pub returns-in-SwapReply-clause-value : goal.returns-in-SwapReply-clause-value
unfolding answer_of
returns-in-SwapReply-clause-value c = λ p s.
    let x = c.in-SwapReply in
    c.take_lock.ensures.value
    ∙ ap (λ (b : List ℕ). if x.rcode == 0 then lock_answer (answered false x.head c.args.self.now) COMPARE_SWAP b else None) c.put_quadlet.ensures.bytes
    ∙ sym (ap (answer_of c.args.self.now) (is_so _ _ p c.in-SwapReply.is (c.glance_at.ensures p s)))

pub returns-in-SwapReply-clause-known : goal.returns-in-SwapReply-clause-known
unfolding standing_following
returns-in-SwapReply-clause-known c = λ p s.
    c.take_lock.ensures.known ∙ sym (ap (λ (q : Packet). standing_following q c.args.self.now) (is_so _ _ p c.in-SwapReply.is (c.glance_at.ensures p s)))

pub returns-in-WriteReply-clause-value : goal.returns-in-WriteReply-clause-value
unfolding answer_of
returns-in-WriteReply-clause-value c = λ p s. sym (ap (answer_of c.args.self.now) (is_so _ _ p c.in-WriteReply.is (c.glance_at.ensures p s)))

pub returns-in-WriteReply-clause-known : goal.returns-in-WriteReply-clause-known
unfolding standing_following
returns-in-WriteReply-clause-known c = λ p s.
    sym (ap (λ (q : Packet). standing_following q c.args.self.now) (is_so _ _ p c.in-WriteReply.is (c.glance_at.ensures p s)))

pub returns-in-CycleStart-clause-value : goal.returns-in-CycleStart-clause-value
unfolding answer_of
returns-in-CycleStart-clause-value c = λ p s. sym (ap (answer_of c.args.self.now) (is_so _ _ p c.in-CycleStart.is (c.glance_at.ensures p s)))

pub returns-in-CycleStart-clause-known : goal.returns-in-CycleStart-clause-known
unfolding standing_following
returns-in-CycleStart-clause-known c = λ p s.
    sym (ap (λ (q : Packet). standing_following q c.args.self.now) (is_so _ _ p c.in-CycleStart.is (c.glance_at.ensures p s)))
