use Rattle.fw_explore_told.proofs.TellLaws.{walked_none, walked_more, walked_all}
use Rattle.fw_explore_told.proofs.past.tell_in.Goals as goal

pub loop-size-init : goal.loop-size-init
loop-size-init c epoch more fit e = walked_none c.args.said.now.items more epoch c.args.bytes.now fit e

pub loop-size-preserved : goal.loop-size-preserved
loop-size-preserved c epoch more fit e =
    walked_more c.entry_size.result c.in-Some.size _ _ c.told_in.result _ (c.loop-size.invariant epoch more fit e) c.in-Some.is c.entry_size.ensures.first c.entry_size.ensures.none
    c.split_at.ensures.front c.split_at.ensures.back c.told_in.ensures c.in_ok-add.ensures

pub returns : goal.returns
returns c epoch more fit e = walked_all c.entry_size.result (c.loop-size.invariant epoch more fit e) c.in_default.is c.entry_size.ensures.first
