use Rattle.std.proofs.Common.{◌≡◌, Option, Some, IfSome, length, refl, subst}
use Rattle.std.proofs.lemmas.Option.{slice_get_read}
use Rattle.fw_holders_text.specs.declared.kept_done.Done.{Done}
use Rattle.fw_holders_text.specs.Kept.{column_text}
use Rattle.fw_holders_text.proofs.kept_done.done_row.Goals as goal

pub returns-then-is_done : goal.returns-then-is_done
returns-then-is_done c = λ nodes are.
    let kept = c.in_ok-kept.kept.now in
    let done : kept.done ≡ Some c.args.done = c.is_done.ensures c.if-is_done.true in
    subst (λ (o : Option Done). IfSome o (λ (d : Done). kept.text ≡ column_text nodes d)) done
    (are c.row_of.result kept (slice_get_read c.args.rows.now (length c.args.rows.now) c.row_of.result kept refl c.in_ok-kept.ensures.lookup.3.0 c.in_ok-kept.ensures.lookup.1))
