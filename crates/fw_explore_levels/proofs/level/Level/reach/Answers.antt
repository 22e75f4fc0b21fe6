use Rattle.std.proofs.Common.{◌≡◌, ◌<◌, ◌+◌, min, length, get_or, set, ap, ◌∙◌, arith}
use Rattle.std.proofs.lemmas.List.{length-map}
use Rattle.fw_explore_levels.specs.Counting.{most_told}
use Rattle.fw_explore_levels.specs.Spots.{spotted_in}
use Rattle.fw_explore_levels.proofs.LinkLaws.{links_count, spotted_count, spotted_at}
use Rattle.fw_explore_levels.proofs.level.Level.reach.Goals as goal

pub index_mut-spot-requires : goal.index_mut-spot-requires
index_mut-spot-requires c = omega (arith, c.requires, c.self.inside.spots.ok.0, length-map c.self.inside.spots.items (spotted_in c.self.inside.bytes.items), ap length c.self.view_is)

pub invariant_of-self : goal.invariant_of-self
invariant_of-self c =
    let inside : c.args.place < length c.self.inside.spots.items = omega (
      arith,
      c.requires,
      length-map c.self.inside.spots.items
          (spotted_in c.self.inside.bytes.items),
      ap length c.self.view_is,
    ) in
    links_count c.self.inside.bytes.items c.self.inside.spots.items c.self.inside.heads.items c.self.invariant c.args.place c.saturating_add-spot.result c.index_mut-spot.result.now inside
    c.index_mut-spot.ensures.value

pub returns : goal.returns
returns c = λ d.
    let bytes = c.self.inside.bytes.items in
    let spots = c.self.inside.spots.items in
    let s = c.index_mut-spot.result.now in
    let same = spotted_at bytes spots c.args.place s c.args.self.now d c.requires c.index_mut-spot.ensures.value c.self.view_is in
    let ways : c.saturating_add-spot.result ≡ min most_told ((get_or c.args.self.now c.args.place d).ways + c.args.ways) = omega (arith, c.saturating_add-spot.ensures, ap (λ x. x.ways) same) in
    spotted_count bytes spots c.args.place c.saturating_add-spot.result s c.args.self.now d c.requires c.index_mut-spot.ensures.value c.self.view_is
    ∙ ap (λ w. set c.args.self.now c.args.place (record (get_or c.args.self.now c.args.place d) { ways = w })) ways
