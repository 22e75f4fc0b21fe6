use Rattle.std.proofs.Common.{◌≡◌, ◌∙◌, List, ℕ, ◌∷◌, [], ◌++◌, ap, sym, subst, arith}
use Rattle.fw_kept_parts.specs.Tables.{KeepsAll}
use Rattle.fw_node.specs.State.{NodeState}
use Rattle.fw_bus_places.proofs.KeepingLaws.{IsItself, kept_wider, kept_place}
use Rattle.fw_bus_places.proofs.places.Places.keep.Goals as goal
use Rattle.fw_bus_places.proofs.places.Places.keep.Goals.{After-keep_all_guessed}

-- the numbers that stand before those of the nodes
abbrev prefix : After-keep_all_guessed → List ℕ
prefix c = c.in_ok-rest.rest ∷ c.in_ok-reel.reel ∷ c.in_ok-wire.wire ∷ c.in_ok-bids.bids ∷ c.args.m.now.half_steps ∷ c.from.result ∷ []

fronted : (c : After-keep_all_guessed) → c.extend_from_slice.new.self.items ≡ prefix c
fronted c = c.in_ok-extend_from_slice.ensures.items ∙ ap (λ l. l ++ prefix c) c.clear.ensures.items

nodes_kept : (c : After-keep_all_guessed) → KeepsAll IsItself c.args.self.now.nodes c.keep_all_guessed.new.kept c.nodes.result.now c.extend_from_slice.new.self.items c.keep_all_guessed.new.out.items
    → KeepsAll IsItself c.args.self.now.nodes c.keep_all_guessed.new.kept c.args.m.now.devices.nodes (prefix c) c.keep_all_guessed.new.out.items
nodes_kept c kept =
    let P : List NodeState → Type 0 = λ l. KeepsAll IsItself c.args.self.now.nodes c.keep_all_guessed.new.kept l (prefix c) c.keep_all_guessed.new.out.items in
    let Q : List ℕ → Type 0 = λ l. KeepsAll IsItself c.args.self.now.nodes c.keep_all_guessed.new.kept c.nodes.result.now l c.keep_all_guessed.new.out.items in
    subst P c.nodes.ensures (subst Q (fronted c) kept)

pub returns-clause-wider : goal.returns-clause-wider
returns-clause-wider c = kept_wider c.args.self.now c.args.m.now c.keep.new.self c.keep-2.new.self c.keep-3.new.self c.keep-4.new.self c.keep_all_guessed.new.kept c.keep_all_guessed-2.new.kept
    c.in_ok-rest.rest c.in_ok-reel.reel c.in_ok-wire.wire c.in_ok-bids.bids c.from.result c.keep_all_guessed.new.out.items c.keep_all_guessed-2.new.out.items
    c.in_ok-rest.ensures.ok c.in_ok-reel.ensures.ok c.in_ok-wire.ensures.ok c.in_ok-bids.ensures.ok
    (nodes_kept (goal.at.returns-clause-wider c).After-keep_all_guessed c.in_ok-keep_all_guessed.ensures) (rw c.list.ensures.list at c.in_ok-keep_all_guessed-2.ensures)

pub returns-clause-place : goal.returns-clause-place
returns-clause-place c = kept_place c.args.self.now c.args.m.now c.keep.new.self c.keep-2.new.self c.keep-3.new.self c.keep-4.new.self c.keep_all_guessed.new.kept c.keep_all_guessed-2.new.kept
    c.in_ok-rest.rest c.in_ok-reel.reel c.in_ok-wire.wire c.in_ok-bids.bids c.from.result c.keep_all_guessed.new.out.items c.keep_all_guessed-2.new.out.items
    c.in_ok-rest.ensures.ok c.in_ok-reel.ensures.ok c.in_ok-wire.ensures.ok c.in_ok-bids.ensures.ok
    (nodes_kept (goal.at.returns-clause-place c).After-keep_all_guessed c.in_ok-keep_all_guessed.ensures) (rw c.list.ensures.list at c.in_ok-keep_all_guessed-2.ensures)
    c.count-count.ensures.network (omega (arith, c.count-count.ensures.value, c.count-count.ensures.most)) (sym c.count-count.ensures.nodes ∙ c.count-count.ensures.value)
    (c.from.ensures ∙ c.count-count.ensures.nodes) c.list.ensures.few
