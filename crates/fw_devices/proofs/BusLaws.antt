-- Which devices are on the bus: only declared ones, and the same if a cable is added that does not touch it.
use Rattle.fw_devices.proofs.Common.{◌≡◌, ℕ, ◌<◌, length, Option, Some, None, refl, sym, subst, IsOnBus, Topology, Made, sound_made}
use Rattle.std.proofs.Common.{◌↔◌}
use Rattle.fw_tree.specs.declared.facts.End.{End}
use Rattle.fw_tree.specs.Cables.{Peers, peer, LeadsTo, Walk, here, along}
use Rattle.fw_tree.specs.Forest.{IsAdded}
use Rattle.fw_tree.specs.Topology.{IsJoined}
use Rattle.fw_tree.proofs.TopologyLaws.{is_added, ends_within, ports_within}

-- the end to which a cable leads
record Far (o : Option End) (d : ℕ) : Type 0 where
  end : End
  is : o ≡ Some end
  device : end.device ≡ d

far_end : (o : Option End) (d : ℕ) → LeadsTo o d → Far o d
far_end None d h = absurd h
far_end (Some e) d h = record { end = e; is = refl; device = h }

-- A device of the bus is declared.
pub on_bus_declared : (t : Topology) → Made t → 0 < length t.devices → (d : ℕ) → IsOnBus t.cables d → d < length t.devices
on_bus_declared t made some d here = some
on_bus_declared t made some d (along {b = b} w j) =
    let s = sound_made t made in
    let far = far_end (peer t.cables b j.port) d j.leads in
    let back = s.cables.back b j.port far.end far.is in
    let within = ports_within t.devices far.end.device far.end.port s.devices (s.placed far.end.device far.end.port (record { device = b; port = j.port }) back) in
    let P : ℕ → Type 0 = λ n. n < length t.devices in
    subst P far.device within.0

-- a walk keeps to its cables if a new one touches none of its devices
keeps : (g h : Peers) (a b : End) → IsAdded g h a b → (Walk g 0 a.device → ⊥) → (Walk g 0 b.device → ⊥) → (x p : ℕ) → Walk g 0 x → peer h x p ≡ peer g x p
keeps g h a b added off_a off_b x p w =
    let P : ℕ → Type 0 = Walk g 0 in
    added.others x p (λ q. off_a (subst P q.0 w)) (λ q. off_b (subst P q.0 w))

walk_back : (g h : Peers) (a b : End) → IsAdded g h a b → (Walk g 0 a.device → ⊥) → (Walk g 0 b.device → ⊥) → (d : ℕ) → Walk h 0 d → Walk g 0 d
walk_back g h a b added off_a off_b d here = here
walk_back g h a b added off_a off_b d (along {b = x} w j) =
    let before = walk_back g h a b added off_a off_b x w in
    let P : Option End → Type 0 = λ o. LeadsTo o d in
    along before (record { port = j.port; leads = subst P (keeps g h a b added off_a off_b x j.port before) j.leads })

walk_on : (g h : Peers) (a b : End) → IsAdded g h a b → (Walk g 0 a.device → ⊥) → (Walk g 0 b.device → ⊥) → (d : ℕ) → Walk g 0 d → Walk h 0 d
walk_on g h a b added off_a off_b d here = here
walk_on g h a b added off_a off_b d (along {b = x} w j) =
    let P : Option End → Type 0 = λ o. LeadsTo o d in
    along (walk_on g h a b added off_a off_b x w) (record { port = j.port; leads = subst P (sym (keeps g h a b added off_a off_b x j.port w)) j.leads })

-- A cable between two devices off the bus leaves the bus as it was.
pub bus_stays : (p q : Topology) (a b : End) → IsJoined p q a b → Made p → (IsOnBus p.cables a.device → ⊥) → (IsOnBus p.cables b.device → ⊥) → (d : ℕ) → IsOnBus q.cables d ↔ IsOnBus p.cables d
bus_stays p q a b joined made off_a off_b d =
    let s = sound_made p made in
    let P : Peers → Type 0 = λ h. IsAdded p.cables h a b in
    let Q : ℕ → Type 0 = Walk p.cables a.device in
    let added = subst P (sym joined.added) (is_added p.cables a b s.range (ends_within p.devices a b s.devices s.few joined.ports) joined.free (λ e. joined.apart (subst Q e here))) in
    (walk_back p.cables q.cables a b added off_a off_b d, walk_on p.cables q.cables a b added off_a off_b d)
