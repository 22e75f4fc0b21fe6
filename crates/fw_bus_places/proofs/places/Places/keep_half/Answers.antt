use Rattle.std.proofs.Common.{◌≡◌, ◌∙◌, List, ℕ, ◌∷◌, [], ◌++◌, ap, sym, subst, arith}
use Rattle.fw_kept_parts.specs.Tables.{KeepsAll}
use Rattle.fw_bus_places.proofs.HalfLaws.{reel_kept, bids_kept, others_kept, few_kept}
use Rattle.fw_bus_places.proofs.KeepingLaws.{IsItself, kept_place}
use Rattle.fw_bus_places.proofs.places.Places.keep_half.Goals as goal
use Rattle.fw_bus_places.proofs.places.Places.keep_half.Goals.{After-keep_nodes}

pub keep_controllers-requires-clause-others : goal.keep_controllers-requires-clause-others
keep_controllers-requires-clause-others c = λ d other.
    others_kept c.args.self.now c.args.now.now c.requires.now.0 c.args.m.now c.requires.now.1 c.args.device c.args.asks c.requires.now.2
    c.told_apart-from.result.controllers.now c.told_apart-from.ensures.controllers d other

-- the numbers that stand before those of the nodes
abbrev prefix : After-keep_nodes → List ℕ
prefix c = c.in_ok-rest.rest ∷ c.told_apart-from.result.reel ∷ c.in_ok-wire.wire ∷ c.told_apart-from.result.bids ∷ c.args.m.now.half_steps ∷ c.from-count.result ∷ []

nodes_kept : (c : After-keep_nodes) → KeepsAll IsItself c.args.self.now.nodes c.keep_nodes.new.nodes c.args.m.now.devices.nodes c.extend_from_slice.new.self.items c.keep_nodes.new.out.items
    → KeepsAll IsItself c.args.self.now.nodes c.keep_nodes.new.nodes c.args.m.now.devices.nodes (prefix c) c.keep_nodes.new.out.items
nodes_kept c kept =
    let Q : List ℕ → Type 0 = λ l. KeepsAll IsItself c.args.self.now.nodes c.keep_nodes.new.nodes c.args.m.now.devices.nodes l c.keep_nodes.new.out.items in
    subst Q (c.in_ok-extend_from_slice.ensures.items ∙ ap (λ (l : List ℕ). l ++ prefix c) c.clear.ensures.items) kept

pub returns-clause-place : goal.returns-clause-place
returns-clause-place c =
    let p = c.args.self.now in
    let now = c.args.now.now in
    let n = c.requires.now.0 in
    let m = c.args.m.now in
    let place = c.requires.now.1 in
    let half = c.requires.now.2 in
    let from = c.told_apart-from in
    kept_place p m c.keep_rest.new.rests p.reels c.keep_guessed.new.kept c.keep_guessed.new.kept c.keep_nodes.new.nodes c.keep_controllers.new.kept
    c.in_ok-rest.rest from.result.reel c.in_ok-wire.wire from.result.bids c.from-count.result c.keep_nodes.new.out.items c.keep_controllers.new.out.items
    c.in_ok-rest.ensures (reel_kept p now n m place c.args.device c.args.asks half from.result.reel from.ensures.reel) c.in_ok-wire.ensures
    (bids_kept p now n m place c.args.device c.args.asks half c.keep_guessed.new.kept from.result.bids c.in_ok-wire.wire from.ensures.bids c.in_ok-wire.ensures)
    (nodes_kept (goal.at.returns-clause-place c).After-keep_nodes c.in_ok-keep_nodes.ensures) c.in_ok-keep_controllers.ensures
    c.count.ensures.network (omega (arith, c.count.ensures.value, c.count.ensures.most)) (sym c.count.ensures.nodes ∙ c.count.ensures.value)
    (c.from-count.ensures ∙ c.count.ensures.nodes) (few_kept p now n m place c.args.device c.args.asks half)
