use Rattle.fw_log.proofs.Common.{◌∙◌, ap, length, position}
use Rattle.fw_log.proofs.PassLaws.{annotation_first}
use Rattle.fw_log.proofs.first_look.plain_annotation.Goals as goal

pub is_annotation_body-requires-clause-kind : goal.is_annotation_body-requires-clause-kind
is_annotation_body-requires-clause-kind c = c.in_ok-head.ensures.kind

pub is_annotation_body-requires-clause-size : goal.is_annotation_body-requires-clause-size
is_annotation_body-requires-clause-size c =
    let size = c.in_ok-head.ensures.size in
    (size.0, ap length c.as_slice.ensures ∙ size.1, size.2)

pub returns : goal.returns
returns c =
    annotation_first (position c.args.stand) c.args.bytes.now c.as_slice.result.now c.args.kind c.in_ok-head.head c.in_ok-head.ensures c.as_slice.ensures
    c.if-head-kind.false (c.is_annotation_body.ensures c.if-not-is_annotation_body.false)
