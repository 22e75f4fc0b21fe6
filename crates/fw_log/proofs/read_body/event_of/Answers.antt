use Rattle.fw_log.proofs.Common.{◌≡◌, ◌∷◌, [], length, arith, sym, ap, ◌∙◌, packed, quads}
use Rattle.fw_log_entry.specs.Rows.{event_form, has_tape, may_have}
use Rattle.fw_log.proofs.FieldLaws.{two_quads, event_shape, event_quad}
use Rattle.fw_log.proofs.read_body.event_of.Goals as goal

pub returns-clause-found : goal.returns-clause-found
returns-clause-found c =
    let size : length c.args.body.now ≡ 8 = omega arith in (
      record {
        device = omega arith;
        tape = omega arith;
        shape = event_shape (may_have (event_form c.field-code.result) c.field-device.result)
            (has_tape (event_form c.field-code.result)) c.field-2.result c.field-system.result (sym c.may_have.ensures ∙ c.if-not-may_have.false) (sym c.has_tape.ensures ∙ c.if-not-has_tape.false)
            (sym c.is_system.ensures ∙ c.if-not-is_system.false);
      },
      ap (λ more. quads (packed ((8, c.field-code.result) ∷ (8, c.field-device.result) ∷ (16, 0) ∷ []) 0 ∷ more))
          (event_quad (has_tape (event_form c.field-code.result)) (packed ((16, c.field-2.result) ∷ (16, c.field-system.result) ∷ []) 0 ∷ []) (sym c.has_tape.ensures ∙ c.if-not-has_tape.false))
          ∙ two_quads c.args.body.now (packed ((8, c.field-code.result) ∷ (8, c.field-device.result) ∷ (16, 0) ∷ []) 0)
          (packed ((16, c.field-2.result) ∷ (16, c.field-system.result)
          ∷ []) 0) c.quadlet_at-first.result.0 c.quadlet_at-second.result.0 size c.quadlet_at-first.ensures.back c.quadlet_at-second.ensures.back (omega arith) (omega arith),
    )
