use Rattle.fw_tree.proofs.Common.{◌≡◌, ◌∙◌, ℕ, ap, refl, sym, subst, take, Topology}
use Rattle.fw_tree.specs.Topology.{IsKept}
use Rattle.fw_tree.proofs.PlacedLaws.{placed_of}
use Rattle.fw_tree.proofs.CopyLaws.{same_cables}
use Rattle.fw_tree.proofs.cabling.Cabling.is_same.Goals as goal

pub same_cables-requires-clause-placed : goal.same_cables-requires-clause-placed
same_cables-requires-clause-placed c = placed_of c.self.inside.facts c.self.inside.count c.self.inside.cables c.self.invariant

pub same_cables-requires-clause-others_placed : goal.same_cables-requires-clause-others_placed
same_cables-requires-clause-others_placed c = placed_of c.other.inside.facts c.other.inside.count c.other.inside.cables c.other.invariant

pub returns : goal.returns
returns c = λ same.
    let count : c.self.inside.count ≡ c.other.inside.count = c.if-self-other.false in
    let first = c.from-count.ensures in
    let facts : take c.self.inside.count c.self.inside.facts ≡ take c.other.inside.count c.other.inside.facts =
    ap (λ n. take n c.self.inside.facts) (sym first) ∙ (c.if-not-same_facts.ensures refl ∙ ap (λ n. take n c.other.inside.facts) (first ∙ count)) in
    let P : ℕ → Type 0 = λ n. IsKept c.other.inside.facts n c.other.inside.cables in
    let cables : c.self.inside.cables ≡ c.other.inside.cables = same_cables c.self.inside.facts c.other.inside.facts c.self.inside.count c.self.inside.cables c.other.inside.cables
    c.self.invariant (subst P (sym count) c.other.invariant) (c.same_cables.ensures same) in
    let both : ◌≡◌ {A = Topology} (record { devices = take c.self.inside.count c.self.inside.facts; cables = c.self.inside.cables })
    (record { devices = take c.other.inside.count c.other.inside.facts; cables = c.other.inside.cables }) =
    (λ i. record { devices = facts i; cables = cables i }) in
    sym c.self.view_is ∙ both ∙ c.other.view_is
