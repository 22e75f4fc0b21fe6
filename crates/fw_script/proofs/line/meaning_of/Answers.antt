use Rattle.std.proofs.Common.{◌≡◌, false, inr, sym, ◌∙◌}
use Rattle.fw_script.specs.Line.{is_skipped}
use Rattle.fw_script.proofs.line.meaning_of.Goals as goal

pub returns-in-None : goal.returns-in-None
returns-in-None c =
    let told : is_skipped c.args.text.now ≡ false = sym c.is_skipped.ensures ∙ c.if-is_skipped.false in
    (told, inr c.in-None.ensures.none)
