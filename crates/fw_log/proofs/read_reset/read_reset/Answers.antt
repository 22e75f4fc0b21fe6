use Rattle.fw_log.proofs.Common.{◌+◌, ◌-◌, ◌*◌, length, take, drop, sym, ◌∙◌}
use Rattle.std.proofs.lemmas.Bool.{false≢true}
use Rattle.fw_log.proofs.ResetLaws.{no_nodes, ids_err, not_reset, rest_is}
use Rattle.fw_log.proofs.read_reset.read_reset.Goals as goal

pub returns-then-not-has_nodes-clause-fault : goal.returns-then-not-has_nodes-clause-fault
returns-then-not-has_nodes-clause-fault c = no_nodes c.args.body.now (sym c.has_nodes.ensures ∙ c.if-not-has_nodes.true)

pub returns-in-Err-clause-fault : goal.returns-in-Err-clause-fault
returns-in-Err-clause-fault c =
    ids_err c.args.body.now (take (length c.args.body.now - (8 + 4 * c.count_of.result)) (drop (8 + 4 * c.count_of.result) c.args.body.now)) c.in-Err.fault
    (sym c.has_nodes.ensures ∙ c.if-not-has_nodes.false) (rest_is c.args.body.now c.count_of.result c.count_of.ensures.value) c.in-Err.ensures.fault

pub returns-then-reset_fits-clause-reset : goal.returns-then-reset_fits-clause-reset
returns-then-reset_fits-clause-reset c = (c.reset_fits.ensures.0 c.if-reset_fits.true, c.read_fields.ensures.same)

pub returns-else-reset_fits-clause-fault : goal.returns-else-reset_fits-clause-fault
returns-else-reset_fits-clause-fault c =
    not_reset c.read_fields.new.reset c.args.body.now c.read_fields.ensures.shape c.read_fields.ensures.same (λ h. false≢true (sym c.if-reset_fits.false ∙ c.reset_fits.ensures.1 h))
