use Rattle.fw_log.proofs.Common.{sym, ◌∙◌}
use Rattle.fw_log.proofs.PlainHeadLaws.{annotation_event, annotation_outcome, annotation_shown}
use Rattle.fw_log.proofs.plain.is_annotation_body.Goals as goal

pub returns-in-4 : goal.returns-in-4
returns-in-4 c plain = annotation_event c.args.kind c.args.body.now c.event_of.result c.in-4.is c.event_of.ensures.found (sym c.is_some.ensures ∙ plain)

pub returns-in-5 : goal.returns-in-5
returns-in-5 c plain = annotation_outcome c.args.kind c.args.body.now c.outcome_of.result c.in-5.is c.outcome_of.ensures.found (sym c.is_some-in-5.ensures ∙ plain)

pub returns-in-6 : goal.returns-in-6
returns-in-6 c plain = annotation_shown c.args.kind c.args.body.now c.shown_of.result c.in-6.is c.shown_of.ensures.found (sym c.is_some-in-6.ensures ∙ plain)
