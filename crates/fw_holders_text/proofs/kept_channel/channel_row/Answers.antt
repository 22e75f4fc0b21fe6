use Rattle.std.proofs.Common.{◌≡◌, Option, Some, IfSome, length, refl, subst}
use Rattle.std.proofs.lemmas.Option.{slice_get_read}
use Rattle.fw_holders_text.specs.declared.kept_channel.HeldChannel.{HeldChannel}
use Rattle.fw_holders_text.specs.Kept.{channel_text}
use Rattle.fw_holders_text.proofs.kept_channel.channel_row.Goals as goal

pub returns-then-is_told : goal.returns-then-is_told
returns-then-is_told c = λ nodes are.
    let kept = c.in_ok-kept.kept.now in
    let told : kept.told ≡ Some c.args.c = c.is_told.ensures c.if-is_told.true in
    subst (λ (o : Option HeldChannel). IfSome o (λ (t : HeldChannel). kept.text ≡ channel_text nodes t)) told
    (are c.row_of.result kept (slice_get_read c.args.rows.now (length c.args.rows.now) c.row_of.result kept refl c.in_ok-kept.ensures.lookup.3.0 c.in_ok-kept.ensures.lookup.1))
