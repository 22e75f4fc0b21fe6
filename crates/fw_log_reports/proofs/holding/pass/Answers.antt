use Rattle.std.proofs.Common.{◌∙◌, sym, subst}
use Rattle.fw_log.specs.Passing.{HasBody}
use Rattle.fw_log.specs.declared.plain.PlainBody.{PlainBody}
use Rattle.fw_log_reports.proofs.PassedHoldings.{passed_over}
use Rattle.fw_log_reports.proofs.holding.pass.Goals as goal

pub is_passed_body-requires : goal.is_passed_body-requires
is_passed_body-requires c = c.requires

pub pass_packet-requires : goal.pass_packet-requires
pass_packet-requires c =
    let P : PlainBody → Type 0 = λ b. HasBody b c.requires.0 in
    let made = subst P c.in-Packet.is c.requires.1 in
    record { packet = record { packet = made.0; spells = record { fits = made.2.fits; same = made.2.same ∙ sym c.as_slice.ensures } } }

pub pass_reset-requires : goal.pass_reset-requires
pass_reset-requires c =
    let P : PlainBody → Type 0 = λ b. HasBody b c.requires.0 in
    let made = subst P c.in-Reset.is c.requires.1 in
    record { reset = made.0; fits = made.2; same = made.3 ∙ sym c.as_slice-in-Reset.ensures }

pub returns-then-is_passed_body-clause-passed : goal.returns-then-is_passed_body-clause-passed
returns-then-is_passed_body-clause-passed c = λ entries t at h few k yes.
    passed_over c.args.holders.now entries t c.args.body.now few k h (c.is_passed_body.ensures c.if-is_passed_body.true t.what h)

pub returns-in-Packet-clause-passed : goal.returns-in-Packet-clause-passed
returns-in-Packet-clause-passed c = λ entries t at h few k.
    let P : PlainBody → Type 0 = λ b. HasBody b t.what in
    let made = subst P c.in-Packet.is h in
    c.pass_packet.ensures.passed entries t made.0 at made.1 (record { fits = made.2.fits; same = made.2.same ∙ sym c.as_slice.ensures }) few k

pub returns-in-Reset-clause-passed : goal.returns-in-Reset-clause-passed
returns-in-Reset-clause-passed c = λ entries t at h few k.
    let P : PlainBody → Type 0 = λ b. HasBody b t.what in
    let made = subst P c.in-Reset.is h in
    c.pass_reset.ensures.passed entries t made.0 at made.1 made.2 (made.3 ∙ sym c.as_slice-in-Reset.ensures) few k
