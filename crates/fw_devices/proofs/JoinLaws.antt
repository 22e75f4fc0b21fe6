-- A cable takes no device off the bus, and its second end is on it if the first was.
use Rattle.fw_devices.proofs.Common.{inl, inr, ℕ, Option, refl, sym, subst, IsOnBus, Topology, Made, sound_made}
use Rattle.fw_tree.specs.declared.facts.End.{End}
use Rattle.fw_tree.specs.Cables.{Peers, peer, LeadsTo, Walk, here, along}
use Rattle.fw_tree.specs.Forest.{IsAdded}
use Rattle.fw_tree.specs.Topology.{IsJoined}
use Rattle.fw_tree.proofs.ForestLaws.{is_at}
use Rattle.fw_tree.proofs.TopologyLaws.{is_added, ends_within}

-- a cable stays where it is
leads_on : (g h : Peers) (a b : End) → IsAdded g h a b → (x p d : ℕ) → LeadsTo (peer g x p) d → LeadsTo (peer h x p) d
leads_on g h a b added x p d leads =
    let P : Option End → Type 0 = λ o. LeadsTo o d in
    elim (is_at x p a.device a.port) [
      | inl at_a ↦ absurd (subst P added.free_first (let Q : ℕ → Type 0 = λ n. P (peer g n a.port) in subst Q at_a.0 (let R : ℕ → Type 0 = λ n. P (peer g x n) in subst R at_a.1 leads)))
      | inr off_a ↦ elim (is_at x p b.device b.port) [
        | inl at_b ↦ absurd (subst P added.free_second (let Q : ℕ → Type 0 = λ n. P (peer g n b.port) in subst Q at_b.0 (let R : ℕ → Type 0 = λ n. P (peer g x n) in subst R at_b.1 leads)))
        | inr off_b ↦ subst P (sym (added.others x p off_a off_b)) leads
      ]
    ]

walk_on : (g h : Peers) (a b : End) → IsAdded g h a b → (d : ℕ) → Walk g 0 d → Walk h 0 d
walk_on g h a b added d here = here
walk_on g h a b added d (along {b = x} w j) = along (walk_on g h a b added x w) (record { port = j.port; leads = leads_on g h a b added x j.port d j.leads })

added_of : (p q : Topology) (a b : End) → IsJoined p q a b → Made p → IsAdded p.cables q.cables a b
added_of p q a b joined made =
    let s = sound_made p made in
    let P : Peers → Type 0 = λ h. IsAdded p.cables h a b in
    let Q : ℕ → Type 0 = Walk p.cables a.device in
    subst P (sym joined.added) (is_added p.cables a b s.range (ends_within p.devices a b s.devices s.few joined.ports) joined.free (λ e. joined.apart (subst Q e here)))

-- A device of the bus stays on it.
pub bus_grows : (p q : Topology) (a b : End) → IsJoined p q a b → Made p → (d : ℕ) → IsOnBus p.cables d → IsOnBus q.cables d
bus_grows p q a b joined made d on = walk_on p.cables q.cables a b (added_of p q a b joined made) d on

-- What is joined to a device of the bus is on it.
pub bus_reaches : (p q : Topology) (a b : End) → IsJoined p q a b → Made p → IsOnBus p.cables a.device → IsOnBus q.cables b.device
bus_reaches p q a b joined made on =
    let P : Option End → Type 0 = λ o. LeadsTo o b.device in
    along (bus_grows p q a b joined made a.device on) (record { port = a.port; leads = subst P (sym (added_of p q a b joined made).first) refl })
