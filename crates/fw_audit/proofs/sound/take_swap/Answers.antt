use Rattle.std.proofs.Common.{sym, subst, ◌∙◌, arith}
use Rattle.fw_model_account.specs.Account.{Locks}
use Rattle.fw_words.specs.Swaps.{swap_bytes}
use Rattle.fw_account_tables.specs.Stands.{StandsFor}
use Rattle.fw_account_tables.specs.declared.tables.Tables.{Tables}
use Rattle.fw_audit.proofs.SoundLaws.{lock_clear, swap_asked}
use Rattle.fw_audit.proofs.sound.take_swap.Goals as goal

pub take_request-requires : goal.take_request-requires
take_request-requires c =
    record { asked = (Locks 2 (swap_bytes c.args.swap), swap_asked c.args.head.now.destination c.args.offset c.args.swap (omega arith) (omega arith)) }

pub returns-in-Ok-clause-taken : goal.returns-in-Ok-clause-taken
returns-in-Ok-clause-taken c = λ yes l stands.
    lock_clear l c.args.head.now c.args.offset 2 (swap_bytes c.args.swap) _ stands.sound (sym c.marks.ensures ∙ c.if-not-marks.false)
    (c.in-Ok.ensures l (Locks 2 (swap_bytes c.args.swap)) stands (swap_asked c.args.head.now.destination c.args.offset c.args.swap (omega arith) (omega arith))).1

pub returns-in-Err-clause-kept : goal.returns-in-Err-clause-kept
returns-in-Err-clause-kept c = λ no.
    let s = c.tables.ensures.stands in
    (c.in-Err.ensures s.0 (Locks 2 (swap_bytes c.args.swap)) (subst (λ (t : Tables). StandsFor t s.0) c.tables.ensures.same s.1)
    (swap_asked c.args.head.now.destination c.args.offset c.args.swap (omega arith) (omega arith))).1
