use Rattle.std.proofs.Common.{◌<◌, length, ap, ◌∙◌, arith}
use Rattle.std.proofs.lemmas.List.{length-map}
use Rattle.fw_explore_levels.specs.Spots.{spotted_in, key_in}
use Rattle.fw_explore_levels.proofs.LinkLaws.{spotted_at, spot_at}
use Rattle.fw_explore_levels.proofs.level.Level.key.Goals as goal

pub index-spot-requires : goal.index-spot-requires
index-spot-requires c = omega (arith, c.requires, c.self.inside.spots.ok.0, length-map c.self.inside.spots.items (spotted_in c.self.inside.bytes.items), ap length c.self.view_is)

pub key_at-requires : goal.key_at-requires
key_at-requires c =
    let inside : c.args.place < length c.self.inside.spots.items = omega (
      arith,
      c.requires,
      length-map c.self.inside.spots.items
          (spotted_in c.self.inside.bytes.items),
      ap length c.self.view_is,
    ) in
    omega (
      arith,
      ap length c.as_slice.ensures.value,
      (spot_at c.self.inside.bytes.items c.self.inside.spots.items c.self.inside.heads.items c.args.place c.index-spot.result.now c.self.invariant inside c.index-spot.ensures).within,
    )

pub returns : goal.returns
returns c = λ d.
    c.key_at.ensures ∙ ap (λ b. key_in b c.index-spot.result.now) c.as_slice.ensures.value
    ∙ ap (λ x. x.key) (spotted_at c.self.inside.bytes.items c.self.inside.spots.items c.args.place c.index-spot.result.now c.args.self.now d c.requires c.index-spot.ensures c.self.view_is)
