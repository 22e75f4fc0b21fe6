use Rattle.std.proofs.Common.{length, arith, ap, subst}
use Rattle.fw_log.specs.Passing.{HasBody}
use Rattle.fw_log.specs.declared.plain.PlainBody.{PlainBody}
use Rattle.fw_log_words.proofs.Rewritings.{few_iso, few_reset}
use Rattle.fw_log_words.proofs.rewriting.Rewriting.put_body.Goals as goal

pub copy-requires-in-Iso : goal.copy-requires-in-Iso
copy-requires-in-Iso c =
    let P : PlainBody → Type 0 = λ b. HasBody b c.requires.0 in
    omega (arith, few_iso _ c.requires.0 (subst P c.in-Iso.is c.requires.1), ap length c.as_slice-in-Iso.ensures)

pub copy-requires-in-Reset : goal.copy-requires-in-Reset
copy-requires-in-Reset c =
    let P : PlainBody → Type 0 = λ b. HasBody b c.requires.0 in
    omega (arith, few_reset _ c.requires.0 (subst P c.in-Reset.is c.requires.1), ap length c.as_slice-in-Reset-2.ensures)
