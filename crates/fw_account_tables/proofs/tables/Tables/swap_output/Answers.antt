use Rattle.fw_account_tables.proofs.Common.{◌≡◌, true, false, refl, sym, ◌∙◌, ap, rules, out_fields, word_at}
use Rattle.fw_model_account.specs.Moves.{ConnectFirst, ConnectOverlaid, DisconnectOutput}
use Rattle.fw_model_account.specs.Words.{OutputPlug}
use Rattle.fw_account_tables.proofs.Swapping.{swap_other}
use Rattle.fw_account_tables.proofs.OutputSwaps.{is_there_output, output_follows}
use Rattle.fw_account_tables.proofs.tables.Tables.swap_output.Goals as goal

pub returns-then-argument-word_at : goal.returns-then-argument-word_at
returns-then-argument-word_at c = λ l h.
    let t = c.args.self.now in
    let p = c.args.p in
    let word = c.word_at.ensures ∙ ap (λ ws. word_at ws p) c.deref.ensures.value ∙ h.outputs.words p (is_there_output t l p h c.requires.there) in
    swap_other t l c.args.c (OutputPlug p) c.args.argument c.args.new h.sound (λ e. c.if-argument-word_at.true (sym e ∙ sym word))

pub returns-then-not-is_more : goal.returns-then-not-is_more
returns-then-not-is_more c = λ l h.
    let t = c.args.self.now in
    let p = c.args.p in
    let found : c.args.argument ≡ c.word_at.result = search rules in
    let same = found ∙ c.word_at.ensures ∙ ap (λ ws. word_at ws p) c.deref.ensures.value in
    output_follows t l c.args.c p c.args.argument c.args.new c.kind_of-kind.result false _ (DisconnectOutput c.kind_of-kind.result) _ _ h
    (is_there_output t l p h c.requires.there) same c.kind_of-kind.ensures
    (sym c.is_more.ensures ∙ c.if-not-is_more.true) refl refl (c.disconnect_output.ensures l h)

pub returns-then-is_connected : goal.returns-then-is_connected
returns-then-is_connected c = λ l h.
    let t = c.args.self.now in
    let p = c.args.p in
    let found : c.args.argument ≡ c.word_at.result = search rules in
    let same = found ∙ c.word_at.ensures ∙ ap (λ ws. word_at ws p) c.deref.ensures.value in
    output_follows t l c.args.c p c.args.argument c.args.new c.kind_of-kind.result true true (ConnectOverlaid c.kind_of-kind.result) _ _ h
    (is_there_output t l p h c.requires.there) same c.kind_of-kind.ensures
    (sym c.is_more.ensures ∙ c.if-not-is_more.false) (sym c.is_connected.ensures ∙ c.if-is_connected.true) refl (c.connect_overlaid.ensures l h)

pub returns-else-is_connected : goal.returns-else-is_connected
returns-else-is_connected c = λ l h.
    let t = c.args.self.now in
    let p = c.args.p in
    let found : c.args.argument ≡ c.word_at.result = search rules in
    let same = found ∙ c.word_at.ensures ∙ ap (λ ws. word_at ws p) c.deref.ensures.value in
    output_follows t l c.args.c p c.args.argument c.args.new c.kind_of-kind.result true false
    (ConnectFirst c.kind_of-kind.result (out_fields c.args.new).settings.channel (out_fields c.args.new).settings.overhead) _ _ h
    (is_there_output t l p h c.requires.there) same
    c.kind_of-kind.ensures (sym c.is_more.ensures ∙ c.if-not-is_more.false) (sym c.is_connected.ensures ∙ c.if-is_connected.false) refl
    (c.connect_first.ensures l h)
