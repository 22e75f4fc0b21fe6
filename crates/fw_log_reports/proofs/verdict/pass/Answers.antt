use Rattle.std.proofs.Common.{◌∙◌, ◌++◌, ◌∷◌, [], None, sym, subst}
use Rattle.fw_audit.specs.Found.{Found}
use Rattle.fw_audit.proofs.Audits.{passed_found}
use Rattle.fw_log.specs.Passing.{HasBody}
use Rattle.fw_log.specs.declared.plain.PlainBody.{PlainBody}
use Rattle.fw_log_entry.specs.declared.entry.Entry.{Entry}
use Rattle.fw_log_reports.proofs.verdict.pass.Goals as goal

pub is_passed_body-requires : goal.is_passed_body-requires
is_passed_body-requires c = c.requires

pub pass_packet-requires : goal.pass_packet-requires
pass_packet-requires c =
    let P : PlainBody → Type 0 = λ b. HasBody b c.requires.0 in
    let made = subst P c.in-Packet.is c.requires.1 in
    record { packet = record { packet = made.0; spells = record { fits = made.2.fits; same = made.2.same ∙ sym c.as_slice.ensures } } }

pub pass_reset-requires : goal.pass_reset-requires
pass_reset-requires c =
    let P : PlainBody → Type 0 = λ b. HasBody b c.requires.0 in
    let made = subst P c.in-Reset.is c.requires.1 in
    record { reset = made.0; fits = made.2; same = made.3 ∙ sym c.as_slice-in-Reset.ensures }

pub returns-then-is_passed_body-clause-found : goal.returns-then-is_passed_body-clause-found
returns-then-is_passed_body-clause-found c = λ yes entries e h found. passed_found entries e c.args.audit.now (c.is_passed_body.ensures c.if-is_passed_body.true e h) found

pub returns-in-Packet-clause-found : goal.returns-in-Packet-clause-found
returns-in-Packet-clause-found c = λ yes entries e h found.
    let P : PlainBody → Type 0 = λ b. HasBody b e in
    let made = subst P c.in-Packet.is h in
    let Q : Entry → Type 0 = λ x. Found (entries ++ x ∷ []) c.pass_packet.new.self None in
    subst Q (sym made.1) (c.pass_packet.ensures.found yes entries made.0 (record { fits = made.2.fits; same = made.2.same ∙ sym c.as_slice.ensures }) found)

pub returns-in-Reset-clause-found : goal.returns-in-Reset-clause-found
returns-in-Reset-clause-found c = λ yes entries e h found.
    let P : PlainBody → Type 0 = λ b. HasBody b e in
    let made = subst P c.in-Reset.is h in
    let Q : Entry → Type 0 = λ x. Found (entries ++ x ∷ []) c.pass_reset.new.audit None in
    subst Q (sym made.1) (c.pass_reset.ensures.found yes entries made.0 made.2 (made.3 ∙ sym c.as_slice-in-Reset.ensures) found)
