use Rattle.fw_account_tables.proofs.Common.{◌≡◌, ◌∙◌, ap, true, false, nat_lt, slice_index, rules, word_at}
use Rattle.fw_account_tables.proofs.Plugs.{output_told, output_missing, output_place}
use Rattle.fw_account_tables.proofs.tables.Tables.out_word.Goals as goal

pub word_at-requires : goal.word_at-requires
word_at-requires c =
    let there : nat_lt c.args.p.plug (slice_index c.args.self.now.outs c.args.p.device) ≡ true = search rules in
    let h = c.requires.stands.1 in
    rw (c.deref.ensures.value, h.sizes.outputs) (output_place c.args.self.now c.requires.stands.0 c.args.p h there)

pub returns : goal.returns
returns c = λ l h.
    let there : nat_lt c.args.p.plug (slice_index c.args.self.now.outs c.args.p.device) ≡ true = search rules in
    output_told c.args.self.now l c.args.p _ h there (c.word_at.ensures ∙ ap (λ ws. word_at ws c.args.p) c.deref.ensures.value)

pub returns-then-not-has_plug : goal.returns-then-not-has_plug
returns-then-not-has_plug c = λ l h.
    let missing : nat_lt c.args.p.plug (slice_index c.args.self.now.outs c.args.p.device) ≡ false = search rules in
    output_missing c.args.self.now l c.args.p h missing
