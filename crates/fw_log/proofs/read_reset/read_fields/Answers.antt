use Rattle.fw_log.proofs.Common.{◌+◌, ◌*◌, length, take, drop, arith, sym, ap, ◌∙◌, take_rest, field}
use Rattle.fw_log_entry.specs.Log.{manager_byte}
use Rattle.fw_log.proofs.ResetLaws.{second_back, body_back}
use Rattle.fw_log.proofs.read_reset.read_fields.Goals as goal

pub returns-clause-same : goal.returns-clause-same
returns-clause-same c =
    body_back (record {
      epoch = c.quadlet_at.result.0;
      root = c.field.result;
      manager = c.manager_of-reset.result;
      initiator = c.field-3.result;
      nodes = c.nodes_of-reset.result;
      ids = c.args.reset.now.ids;
    }) c.args.body.now c.quadlet_at-second.result.0 c.count_of.result c.quadlet_at.ensures.back c.quadlet_at-second.ensures.back
    (second_back c.quadlet_at-second.result.0 c.field.result (manager_byte c.manager_of-reset.result) c.field-3.result (length c.nodes_of-reset.result) (omega arith) c.field.ensures
    (c.manager_of-reset.ensures.same ∙ c.field-2.ensures) c.field-3.ensures
    (c.nodes_of-reset.ensures.count ∙ c.count_of.ensures.value ∙ ap (λ q. field q 24 31) (sym c.quadlet_at-second.ensures.value)))
    (c.nodes_of-reset.ensures.same ∙ ap (take (4 * c.count_of.result)) (take_rest c.args.body.now 8))
    (c.requires.ids.same ∙ ap (λ n. drop (8 + 4 * n) c.args.body.now) (sym c.count_of.ensures.value))
