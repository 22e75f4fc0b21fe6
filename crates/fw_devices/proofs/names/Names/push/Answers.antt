use Rattle.fw_devices.proofs.Common.{◌≡◌, ◌<◌, ◌≤◌, ◌++◌, ◌∷◌, ◌∙◌, [], List, ℕ, length, None, arith, sym, ap, subst, vec_capacity, same_bytes}
use Rattle.std.proofs.Common.{set, position}
use Rattle.std.proofs.lemmas.Grind.{common_steps}
use Rattle.fw_devices.specs.Names.{HasPlaces}
use Rattle.fw_devices.proofs.NameLaws.{one_more, one_kept}
use Rattle.fw_devices.proofs.names.Names.push.Goals.{then-is_none, else-is_none}
use Rattle.fw_devices.proofs.names.Names.push.Goals as goal

pub invariant_of-self : goal.invariant_of-self
invariant_of-self c =
    let names = c.self.inside.list.items in
    let few : length names < 63 = grind (arith, common_steps) in
    let list : c.if-is_none.self-inside.list ≡ c.self.inside.list =
    elim c.if-is_none.branch [ then-is_none w ↦ ap (λ i. i.list) w.self-inside-is | else-is_none w ↦ ap (λ i. i.list) w.self-inside-is ] in
    let same : vec_capacity c.if-is_none.self-inside.list ≡ vec_capacity c.self.inside.list = ap vec_capacity list in
    let room : 63 ≤ vec_capacity c.push.new.self = omega (arith, c.push.ensures.capacity, c.self.invariant.room) in
    let items : c.push.new.self.items ≡ names ++ c.args.name.now ∷ [] = grind (arith, common_steps) in
    let P : List ℕ → Type 0 = λ places. HasPlaces (names ++ c.args.name.now ∷ []) places (vec_capacity c.push.new.self) in
    rw items (elim c.if-is_none.branch [
      | then-is_none w ↦
          let none : position (same_bytes c.args.name.now) names ≡ None = grind (arith, common_steps) in
          let size : w.len.result ≡ length names = omega arith in
          let places : set c.self.inside.places w.key_of.result (length names) ≡ c.if-is_none.self-inside.places =
          sym (ap (λ i. i.places) w.self-inside-is ∙ w.keep.ensures ∙ ap (set c.self.inside.places w.key_of.result) size) in
          subst P places (one_kept names c.self.inside.places (vec_capacity c.self.inside.list) (vec_capacity c.push.new.self) c.args.name.now w.key_of.result c.self.invariant few room none)
      | else-is_none w ↦
          subst P (sym (ap (λ i. i.places) w.self-inside-is)) (one_more names c.self.inside.places (vec_capacity c.self.inside.list)
          (vec_capacity c.push.new.self) c.args.name.now c.self.invariant few room)
    ])
