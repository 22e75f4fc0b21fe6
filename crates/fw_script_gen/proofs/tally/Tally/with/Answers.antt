use Rattle.std.proofs.Common.{refl, sym, ◌∙◌}
use Rattle.fw_script_gen.proofs.TallyLaws.{counts_shown}
use Rattle.fw_script_gen.proofs.tally.Tally.with.Goals as goal

pub returns-in-Shown : goal.returns-in-Shown
returns-in-Shown c log t e h = counts_shown log t c.in-Shown.word c.args.self _ (sym c.in-Shown.is ∙ e) h refl
