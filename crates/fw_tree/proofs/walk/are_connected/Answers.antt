use Rattle.fw_tree.proofs.SeenLaws.{walked}
use Rattle.fw_tree.proofs.ReachLaws.{apart_of}
use Rattle.fw_tree.proofs.PlacedLaws.{walk_back}
use Rattle.fw_tree.proofs.walk.are_connected.Goals as goal

pub returns-clause-walk : goal.returns-clause-walk
returns-clause-walk c =
    let e = c.reach.ensures in
    let g = c.args.g.now in (
      λ s. walk_back g c.args.b c.args.a c.requires.cables (e.reached c.args.a s),
      λ w. walked g c.reach.result c.args.b c.args.a e.closed e.first (walk_back g c.args.a c.args.b c.requires.cables w),
    )

pub returns-clause-apart : goal.returns-clause-apart
returns-clause-apart c = λ none.
    let e = c.reach.ensures in
    let g = c.args.g.now in
    apart_of g c.args.a c.args.b c.requires.range c.requires.a (λ w. let seen = walked g c.reach.result c.args.b c.args.a e.closed e.first (walk_back g c.args.a c.args.b c.requires.cables w) in cc)
