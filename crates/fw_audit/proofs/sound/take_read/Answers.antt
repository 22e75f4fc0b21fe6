use Rattle.std.proofs.Common.{refl, sym, subst, ◌∙◌}
use Rattle.fw_model_account.specs.Account.{Reads}
use Rattle.fw_account_tables.specs.Stands.{StandsFor}
use Rattle.fw_account_tables.specs.declared.tables.Tables.{Tables}
use Rattle.fw_audit.proofs.SoundLaws.{read_clear}
use Rattle.fw_audit.proofs.sound.take_read.Goals as goal

pub take_request-requires : goal.take_request-requires
take_request-requires c = record { asked = (Reads, refl) }

pub returns-in-Ok-clause-taken : goal.returns-in-Ok-clause-taken
returns-in-Ok-clause-taken c = λ yes l h. read_clear l c.args.head.now c.args.offset _ h.sound (sym c.marks.ensures ∙ c.if-not-marks.false) (c.in-Ok.ensures l Reads h refl).1

pub returns-in-Err-clause-kept : goal.returns-in-Err-clause-kept
returns-in-Err-clause-kept c = λ no.
    let s = c.tables.ensures.stands in
    (c.in-Err.ensures s.0 Reads (subst (λ (t : Tables). StandsFor t s.0) c.tables.ensures.same s.1) refl).1
