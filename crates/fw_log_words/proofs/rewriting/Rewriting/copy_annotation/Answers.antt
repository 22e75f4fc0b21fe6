use Rattle.std.proofs.Common.{ℕ, ◌/◌, List, ◌++◌, length, arith, ap, ◌∙◌}
use Rattle.fw_log_entry.specs.Log.{entry_head}
use Rattle.fw_log_words.specs.Texts.{Rewritten}
use Rattle.fw_log_words.proofs.Rewritings.{few_annotation, annotation_passes}
use Rattle.fw_log_words.proofs.rewriting.Rewriting.copy_annotation.Goals as goal

pub copy-requires : goal.copy-requires
copy-requires c =
    let plain = c.in-Some.ensures.body in
    omega (arith, few_annotation plain.entry plain.annotation, ap length plain.is.same, ap length c.as_slice.ensures)

pub returns-clause-history : goal.returns-clause-history
returns-clause-history c entries bytes h t =
    let x = c.in-Some.ensures.history entries bytes h in
    let old : Rewritten = c.args.self.now in
    let Copied : List ℕ → List ℕ = λ b. old.bytes ++ (entry_head old.version old.epoch c.args.kind (length b / 4) c.in-Some.annotation.cycle ++ b) in
    annotation_passes old c.copy.new.self entries _ c.pass_annotation.new.self c.args.kind c.in-Some.annotation x t c.in_ok-copy.ensures.epoch
    (c.in_ok-copy.ensures.bytes ∙ ap Copied c.as_slice.ensures)
