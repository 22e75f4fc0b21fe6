use Rattle.std.proofs.Common.{◌∙◌, ap, sym, subst}
use Rattle.std.specs.Option.{option_map}
use Rattle.fw_model_account.specs.Words.{word_of}
use Rattle.fw_account_tables.specs.Stands.{StandsFor, AskedFor}
use Rattle.fw_account_tables.specs.declared.tables.Asked.{Asked}
use Rattle.fw_account_tables.specs.declared.tables.Tables.{Tables}
use Rattle.fw_audit.proofs.SoundLaws.{reply_clear}
use Rattle.fw_audit.proofs.sound.take_read_reply.Goals as goal

pub returns-clause-taken : goal.returns-clause-taken
returns-clause-taken c = λ l h.
    let shown = subst (λ (t : Tables). StandsFor t l) (sym c.tables-tables.ensures.same) h in
    let dev = sym (c.device.ensures.device l shown) ∙ c.in-Some.is in
    let out = subst (λ (x : Asked). AskedFor x (l.outstanding c.in-Some.device)) c.in-Read.is (c.outstanding.ensures l shown) in
    let due = c.word_in-due.ensures l shown ∙ ap (option_map (word_of l)) (c.register_at.ensures.register l shown) in
    reply_clear l c.args.head.now c.args.rcode c.args.value c.in-Some.device c.in-Read.target c.in-Read.address c.word_in-due.result _ h.sound (sym c.marks.ensures ∙ c.if-not-marks.false) dev out
    c.if-target-head.false due (c.reads_due.ensures c.if-not-reads_due.false c.args.head.now.destination) (c.end.ensures l h)
