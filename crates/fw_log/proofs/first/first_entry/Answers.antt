use Rattle.fw_log.proofs.Common.{ℕ, List, take, arith, ◌∙◌, Position, position}
use Rattle.fw_log.proofs.FindLaws.{first_complete, first_wrong, ends_at, body_after}
use Rattle.fw_log.proofs.ShownLaws.{head_shown_first}
use Rattle.fw_log.proofs.first.first_entry.Goals as goal

pub complete_entry-requires-clause-head : goal.complete_entry-requires-clause-head
complete_entry-requires-clause-head c =
    first_complete c.version_at-version.result (position c.args.stand) c.args.bytes.now c.in-Ok-Some.end (λ i. omega (arith, c.type_inv.bytes i)) c.version_at-version.ensures
    (ends_at (position c.args.stand) c.args.bytes.now c.in-Ok-Some.field-0 c.in-Ok-Some.end c.in-Ok-Some.field-0-is c.in-Ok-Some.ensures)

pub returns-in-Err : goal.returns-in-Err
returns-in-Err c = head_shown_first (position c.args.stand) c.args.bytes.now c.in-Err.fault c.in-Err.ensures

pub returns-in-Err-complete_entry : goal.returns-in-Err-complete_entry
returns-in-Err-complete_entry c = first_wrong (position c.args.stand) c.args.bytes.now c.in-Ok-Some.end c.in-Err-complete_entry.fault
    (ends_at (position c.args.stand) c.args.bytes.now c.in-Ok-Some.field-0 c.in-Ok-Some.end c.in-Ok-Some.field-0-is c.in-Ok-Some.ensures) c.in-Err-complete_entry.ensures

pub returns-in-Ok : goal.returns-in-Ok
returns-in-Ok c =
    let s : Position = position c.args.stand in
    let whole : List ℕ = take c.in-Ok-Some.end c.args.bytes.now in
    let ends = ends_at s c.args.bytes.now c.in-Ok-Some.field-0 c.in-Ok-Some.end c.in-Ok-Some.field-0-is c.in-Ok-Some.ensures in (
      ends.2,
      c.in-Ok.ensures,
      c.new.ensures
          ∙ body_after c.version_at-version.result s whole c.rest.result.now c.in-Ok.entry c.skip.result c.head_size.result c.version_at-version.ensures c.skip.ensures c.head_size.ensures
          c.rest.ensures c.in-Ok.ensures,
      c.version_at-version.ensures,
    )
