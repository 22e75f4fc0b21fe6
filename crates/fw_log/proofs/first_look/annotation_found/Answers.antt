use Rattle.fw_log.proofs.Common.{◌∙◌, ap, length, position}
use Rattle.fw_log.proofs.FoundLaws.{found_annotation}
use Rattle.fw_log.proofs.first_look.annotation_found.Goals as goal

pub annotation_of-requires-clause-kind : goal.annotation_of-requires-clause-kind
annotation_of-requires-clause-kind c = c.in_ok-passed.ensures.kind

pub annotation_of-requires-clause-size : goal.annotation_of-requires-clause-size
annotation_of-requires-clause-size c =
    let size = c.in_ok-passed.ensures.size in
    (size.0, ap length c.as_slice.ensures ∙ size.1, size.2)

pub returns : goal.returns
returns c =
    found_annotation (position c.args.stand) c.args.bytes.now c.as_slice.result.now c.in_ok-passed.field-0 c.in_ok-what.what c.in_ok-passed.ensures c.as_slice.ensures
    c.in_ok-what.ensures.0 c.in_ok-what.ensures.1
