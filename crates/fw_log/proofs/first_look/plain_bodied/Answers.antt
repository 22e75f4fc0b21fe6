use Rattle.fw_log.proofs.Common.{◌∙◌, ap, length, position}
use Rattle.fw_log.proofs.PassLaws.{body_first}
use Rattle.fw_log.proofs.first_look.plain_bodied.Goals as goal

pub plain_body-requires-clause-kind : goal.plain_body-requires-clause-kind
plain_body-requires-clause-kind c = c.in_ok-head.ensures.kind

pub plain_body-requires-clause-size : goal.plain_body-requires-clause-size
plain_body-requires-clause-size c =
    let size = c.in_ok-head.ensures.size in
    (size.0, ap length c.as_slice.ensures ∙ size.1, size.2)

pub returns : goal.returns
returns c = body_first (position c.args.stand) c.args.bytes.now c.as_slice.result.now c.in_ok-head.head c.in_ok-body.body c.in_ok-head.ensures c.as_slice.ensures c.in_ok-body.ensures
