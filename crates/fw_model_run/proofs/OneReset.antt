-- A bus reset has one entry.
use Rattle.fw_model_run.proofs.Common.{◌≡◌, ℕ, zero, suc, ◌<◌, ◌==◌, List, [], ◌++◌, length, Option, Some, None, refl, ap, sym, subst, ◌∙◌, arith, same_Some, DeviceKind, ResetEntry, NodeRow, PhyFacts}
use Rattle.fw_model_run.proofs.Common.{number_at, facts_at, Topology, kind_at, IsResetEntry, row_of}
use Rattle.std.proofs.Common.{get_or, slice_index_or}
use Rattle.std.proofs.lemmas.List.{same_lists}
use Rattle.std.proofs.lemmas.Option.{get_or_from_slice_get}
use Rattle.fw_phy.specs.declared.packet.PhyPacket.{PhyPacket}
use Rattle.fw_tree.specs.Cables.{Peers}
use Rattle.fw_tree.specs.Numbering.{IsManager, Contends, IsSame}
use Rattle.fw_tree.specs.SelfIds.{ArePackets, no_node, node, node_packets}
use Rattle.fw_tree.specs.Topology.{IsSound}
use Rattle.fw_tree.proofs.OneNumberingLaws.{one_numbering}
use Rattle.fw_devices.specs.Entries.{number_of}

-- ---- the resource manager

contends_too : (devices : List PhyFacts) (a b : List (Option ℕ)) (d n : ℕ) → ((d : ℕ) → number_at a d ≡ number_at b d) → Contends devices b d n
    → Contends devices a d n
contends_too devices a b d n same c = record { numbered = same d ∙ c.numbered; link = c.link; contender = c.contender }

one_manager : (devices : List PhyFacts) (a b : List (Option ℕ)) (o u : Option ℕ) → ((d : ℕ) → number_at a d ≡ number_at b d) → IsManager devices a o
    → IsManager devices b u → number_of a o ≡ number_of b u
one_manager devices a b None None same f g = refl
one_manager devices a b None (Some e) same f g = absurd (f e g.0 (contends_too devices a b e g.0 same g.1))
one_manager devices a b (Some d) None same f g = absurd (g d f.0 (contends_too devices b a d f.0 (λ d. sym (same d)) f.1))
one_manager devices a b (Some d) (Some e) same f g =
    let below = f.2 e g.0 (contends_too devices a b e g.0 same g.1) in
    let above = g.2 d f.0 (contends_too devices b a d f.0 (λ d. sym (same d)) f.1) in
    let one : f.0 ≡ g.0 = omega (arith, below, above) in
    f.1.numbered ∙ (ap (λ n. Some n) one ∙ sym g.1.numbered)

-- ---- self-ID packets

abbrev Subsequent : List PhyFacts → Peers → List (Option ℕ) → List (Option ℕ) → ℕ → ℕ → List PhyPacket → Type 0
Subsequent devices g number parents initiator zero qs = qs ≡ []
Subsequent devices g number parents initiator (suc n) qs =
    (ps : List PhyPacket) × ArePackets devices g number parents initiator n ps
    × ((d : ℕ) × (number_at number d ≡ Some n) × (qs ≡ ps ++ node_packets (facts_at devices d) (slice_index_or g d []) (number_at parents d) n (d == initiator)))

following : (devices : List PhyFacts) (g : Peers) (number parents : List (Option ℕ)) (initiator n : ℕ) (qs : List PhyPacket)
    → ArePackets devices g number parents initiator n qs → Subsequent devices g number parents initiator n qs
following devices g number parents initiator n qs no_node = refl
following devices g number parents initiator n qs (node {n = m} {ps = ps} p d at is) = (ps, p, (d, at, is))

one_packets : (devices : List PhyFacts) (g : Peers) (a b x y : List (Option ℕ)) (initiator n : ℕ) (ps qs : List PhyPacket)
    → ((d : ℕ) → number_at a d ≡ number_at b d) → ((d : ℕ) → number_at x d ≡ number_at y d)
    → ((d e n : ℕ) → number_at b d ≡ Some n → number_at b e ≡ Some n → d ≡ e) → ArePackets devices g a x initiator n ps → ArePackets devices g b y initiator n qs → ps ≡ qs
one_packets devices g a b x y initiator zero ps qs numbers parents one f h = following devices g a x initiator 0 ps f ∙ sym (following devices g b y initiator 0 qs h)
one_packets devices g a b x y initiator (suc n) ps qs numbers parents one f h =
    let u = following devices g a x initiator (suc n) ps f in
    let v = following devices g b y initiator (suc n) qs h in
    let early = one_packets devices g a b x y initiator n u.0 v.0 numbers parents one u.1 v.1 in
    let d : u.2.0 ≡ v.2.0 = one u.2.0 v.2.0 n (sym (numbers u.2.0) ∙ u.2.1) v.2.1 in
    u.2.2
    ∙ (ap (λ z. z ++ node_packets (facts_at devices u.2.0) (slice_index_or g u.2.0 []) (number_at x u.2.0) n (u.2.0 == initiator)) early
    ∙ (ap (λ o. v.0 ++ node_packets (facts_at devices u.2.0) (slice_index_or g u.2.0 []) o n (u.2.0 == initiator)) (parents u.2.0)
    ∙ (ap (λ d. v.0 ++ node_packets (facts_at devices d) (slice_index_or g d []) (number_at y d) n (d == initiator)) d ∙ sym v.2.2)))

-- ---- the entry

same_number : (a b : Option ℕ) (k l : ℕ) → a ≡ Some k → b ≡ Some l → a ≡ b → k ≡ l
same_number a b k l f g same = same_Some k l (sym f ∙ (same ∙ g))

pub one_entry : (t : Topology) (kinds : List DeviceKind) (epoch initiator : ℕ) (e u : ResetEntry) → IsSound t → IsResetEntry t kinds epoch initiator e
    → IsResetEntry t kinds epoch initiator u → e ≡ u
one_entry t kinds epoch initiator e u s f g = λ i. record { epoch = epochs i; root = roots i; manager = managers i; initiator = initiators i; nodes = nodes i; ids = ids i }
  where
    same : IsSame f.numbering g.numbering
    same = one_numbering t f.numbering g.numbering s f.numbered g.numbered

    epochs : e.epoch ≡ u.epoch
    epochs = f.epoch_is ∙ sym g.epoch_is

    roots : e.root ≡ u.root
    roots = same_number _ _ e.root u.root f.root g.root (ap (number_at f.numbering.number) same.root ∙ same.number g.numbering.root)

    managers : e.manager ≡ u.manager
    managers = f.manager_is ∙ (one_manager t.devices f.numbering.number g.numbering.number f.manager g.manager same.number f.manages g.manages ∙ sym g.manager_is)

    initiators : e.initiator ≡ u.initiator
    initiators = same_number _ _ e.initiator u.initiator f.began g.began (same.number initiator)

    row : (k : ℕ) (z : NodeRow) → k < length e.nodes → get_or e.nodes k z ≡ get_or u.nodes k z
    row k z low =
        let size = f.size in
        let w = f.numbered.nodes.taken k (omega (arith, low, size)) in
        get_or_from_slice_get e.nodes k (row_of w.0 (kind_at kinds w.0)) z (f.rows w.0 k w.1)
        ∙ sym (get_or_from_slice_get u.nodes k (row_of w.0 (kind_at kinds w.0)) z (g.rows w.0 k (sym (same.number w.0) ∙ w.1)))

    nodes : e.nodes ≡ u.nodes
    nodes = same_lists e.nodes u.nodes (f.size ∙ (same.count ∙ sym g.size)) row

    ids : e.ids ≡ u.ids
    ids = one_packets t.devices t.cables f.numbering.number g.numbering.number f.numbering.parent_port g.numbering.parent_port initiator f.numbering.count e.ids u.ids same.number same.parent_port
        g.numbered.nodes.one f.ids
        (subst (λ n. ArePackets t.devices t.cables g.numbering.number g.numbering.parent_port initiator n u.ids) (sym same.count) g.ids)
