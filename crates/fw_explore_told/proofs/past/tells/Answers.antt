use Rattle.std.proofs.Common.{◌≡◌, [], Option, Some, None, is_some, false, sym, refl, ◌∙◌}
use Rattle.fw_explore_told.specs.declared.past.ToldEntry.{ToldEntry}
use Rattle.fw_explore_told.specs.Histories.{with_one}
use Rattle.fw_explore_told.proofs.TellLaws.{walked_none, walked_more, walked_all}
use Rattle.fw_explore_told.proofs.past.tells.Goals as goal

-- nothing is added if nothing is told
none_added : (told : Option ToldEntry) → is_some told ≡ false → [] ≡ with_one [] told
none_added None e = refl
none_added (Some t) e = absurd (cc e)

pub loop-size-init : goal.loop-size-init
loop-size-init c epoch more fit e = walked_none [] more epoch c.args.bytes.now fit e

pub loop-size-preserved : goal.loop-size-preserved
loop-size-preserved c epoch more fit e =
    walked_more c.entry_size.result c.in-Some.size _ _ c.told_in.result _ (c.loop-size.invariant epoch more fit e) c.in-Some.is c.entry_size.ensures.first c.entry_size.ensures.none
    c.split_at.ensures.front c.split_at.ensures.back c.told_in.ensures (none_added c.told_in.result (sym c.is_some.ensures ∙ c.if-is_some.false))

pub returns : goal.returns
returns c epoch more fit e none = sym (walked_all c.entry_size.result (c.loop-size.invariant epoch more fit e) c.in_default.is c.entry_size.ensures.first)
