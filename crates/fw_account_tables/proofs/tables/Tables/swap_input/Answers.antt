use Rattle.fw_account_tables.proofs.Common.{◌≡◌, sym, ◌∙◌, ap, rules, word_at}
use Rattle.fw_model_account.specs.Words.{InputPlug}
use Rattle.fw_account_tables.proofs.InputSwaps.{is_there_input, input_made, input_left}
use Rattle.fw_account_tables.proofs.Swapping.{swap_other}
use Rattle.fw_account_tables.proofs.tables.Tables.swap_input.Goals as goal

pub returns-then-argument-word_at : goal.returns-then-argument-word_at
returns-then-argument-word_at c = λ l h.
    let t = c.args.self.now in
    let p = c.args.p in
    let word = c.word_at.ensures ∙ ap (λ ws. word_at ws p) c.deref.ensures.value ∙ h.inputs.words p (is_there_input t l p h c.requires.there) in
    swap_other t l c.args.c (InputPlug p) c.args.argument c.args.new h.sound (λ e. c.if-argument-word_at.true (sym e ∙ sym word))

pub returns-then-is_more : goal.returns-then-is_more
returns-then-is_more c = λ l h.
    let p = c.args.p in
    let found : c.args.argument ≡ c.word_at.result = search rules in
    let same = found ∙ c.word_at.ensures ∙ ap (λ ws. word_at ws p) c.deref.ensures.value in
    input_made c.args.self.now l c.args.c p c.args.argument c.args.new c.kind_of-kind.result _ _ same c.kind_of-kind.ensures
    (sym c.is_more.ensures ∙ c.if-is_more.true) (c.connect_input.ensures l h)

pub returns-else-is_more : goal.returns-else-is_more
returns-else-is_more c = λ l h.
    let p = c.args.p in
    let found : c.args.argument ≡ c.word_at.result = search rules in
    let same = found ∙ c.word_at.ensures ∙ ap (λ ws. word_at ws p) c.deref.ensures.value in
    input_left c.args.self.now l c.args.c p c.args.argument c.args.new c.kind_of-kind.result _ _ same c.kind_of-kind.ensures
    (sym c.is_more.ensures ∙ c.if-is_more.false) (c.disconnect_input.ensures l h)
