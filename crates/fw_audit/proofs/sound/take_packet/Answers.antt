use Rattle.std.proofs.Common.{None, Some, Ok, refl, sym, subst}
use Rattle.fw_async.specs.declared.packet.Packet.{Packet}
use Rattle.fw_log_entry.specs.declared.entry.Entry.TheVariants.{Async}
use Rattle.fw_async_glance.specs.Glances.{IsGlance}
use Rattle.fw_async_glance.specs.declared.glance.Glance.{Glance}
use Rattle.fw_audit.specs.Found.{Judges}
use Rattle.fw_audit.proofs.Audits.{other_clear}
use Rattle.fw_audit.proofs.sound.take_packet.Goals as goal

pub returns-else-not-take_read-clause-taken : goal.returns-else-not-take_read-clause-taken
returns-else-not-take_read-clause-taken c = λ l p h spells.
    let P : Packet → Type 0 = λ q. Judges c.take_read.new.ledger l (Async q) (Ok None) in
    let G : Glance → Type 0 = λ g. IsGlance g p in
    subst P (sym (subst G c.in-Read.is (c.glance_at.ensures p spells))) (c.take_read.ensures.taken c.if-not-take_read.false l h)

pub returns-else-not-take_swap-clause-taken : goal.returns-else-not-take_swap-clause-taken
returns-else-not-take_swap-clause-taken c = λ l p h spells.
    let P : Packet → Type 0 = λ q. Judges c.take_swap.new.ledger l (Async q) (Ok None) in
    let G : Glance → Type 0 = λ g. IsGlance g p in
    subst P (sym (subst G c.in-Swap.is (c.glance_at.ensures p spells))) (c.take_swap.ensures.taken c.if-not-take_swap.false l h)

pub returns-in_ok-take_read_reply-in-ReadReply-clause-taken : goal.returns-in_ok-take_read_reply-in-ReadReply-clause-taken
returns-in_ok-take_read_reply-in-ReadReply-clause-taken c = λ l p h spells.
    let P : Packet → Type 0 = λ q. Judges c.take_read_reply.new.ledger l (Async q) (Ok (Some c.in_ok-take_read_reply-in-ReadReply.field-0)) in
    let G : Glance → Type 0 = λ g. IsGlance g p in
    subst P (sym (subst G c.in-ReadReply.is (c.glance_at.ensures p spells))) (c.in_ok-take_read_reply-in-ReadReply.ensures.taken l h)

pub returns-in_ok-take_swap_reply-in-SwapReply-clause-taken : goal.returns-in_ok-take_swap_reply-in-SwapReply-clause-taken
returns-in_ok-take_swap_reply-in-SwapReply-clause-taken c = λ l p h spells.
    let P : Packet → Type 0 = λ q. Judges c.take_swap_reply.new.ledger l (Async q) (Ok (Some c.in_ok-take_swap_reply-in-SwapReply.field-0)) in
    let G : Glance → Type 0 = λ g. IsGlance g p in
    subst P (sym (subst G c.in-SwapReply.is (c.glance_at.ensures p spells))) (c.in_ok-take_swap_reply-in-SwapReply.ensures.taken l h)

pub returns-in-CycleStart-clause-taken : goal.returns-in-CycleStart-clause-taken
returns-in-CycleStart-clause-taken c = λ l p h spells.
    let P : Packet → Type 0 = λ q. Judges c.args.ledger.now l (Async q) (Ok None) in
    let G : Glance → Type 0 = λ g. IsGlance g p in
    subst P (sym (subst G c.in-CycleStart.is (c.glance_at.ensures p spells))) (other_clear l, (l, refl, h), refl)
