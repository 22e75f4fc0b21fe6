use Rattle.std.proofs.Common.{◌≡◌, [], replicate, sym, ap, subst, rules}
use Rattle.fw_explore_levels.specs.Spots.{AreLinked, spotted}
use Rattle.fw_explore_levels.proofs.LinkLaws.{links_none}
use Rattle.fw_explore_levels.proofs.level.Level.new.Goals as goal

pub invariant_of-result : goal.invariant_of-result
invariant_of-result c =
    let heads : c.in_ok-heads.heads.items ≡ replicate c.args.buckets 0 = c.in_ok-heads.ensures.items_if_clones_equal (search rules) in
    subst (λ b. AreLinked b c.new-spots.result.items c.in_ok-heads.heads.items) (sym c.new-bytes.ensures.items)
    (subst (λ s. AreLinked [] s c.in_ok-heads.heads.items) (sym c.new-spots.ensures.items)
    (subst (AreLinked [] []) (sym heads) (links_none c.args.buckets c.requires)))

pub returns : goal.returns
returns c = ap (spotted c.new-bytes.result.items) c.new-spots.ensures.items
