-- A bus reset can come again: the next entry, of the same cabling, which another device began; and devices that are off change no entry.
use Rattle.fw_model_run.proofs.Common.{◌≡◌, ℕ, ◌+◌, ◌<◌, ◌==◌, List, [], ◌∷◌, ◌++◌, length, Option, Some}
use Rattle.fw_model_run.proofs.Common.{None, refl, ap, sym, ◌∙◌, arith, DeviceKind, ResetEntry, PhyFacts, IsOnBus, number_at, facts_at}
use Rattle.fw_model_run.proofs.Common.{Topology, Made, kind_at, IsResetEntry, row_of, on_bus_declared}
use Rattle.std.proofs.Common.{map, slice_index_or}
use Rattle.std.proofs.lemmas.List.{get_or_append_left, length-append}
use Rattle.fw_terms.specs.declared.device.DeviceKind.TheVariants.{Relay}
use Rattle.fw_phy.specs.declared.packet.PhyPacket.{PhyPacket}
use Rattle.fw_phy.specs.Phy.{begun_by}
use Rattle.fw_tree.specs.Cables.{Peers}
use Rattle.fw_tree.specs.Numbering.{IsManager, Contends}
use Rattle.fw_tree.specs.SelfIds.{ArePackets, no_node, node, node_packets}
use Rattle.fw_tree.proofs.SelfIdLaws.{begun}

-- ---- the next one

pub record Another (p : Topology) (kinds : List DeviceKind) (epoch d : ℕ) : Type 0 where
  pub entry : ResetEntry
  pub is : IsResetEntry p kinds (epoch + 1) d entry

another_at : (p : Topology) (kinds : List DeviceKind) (epoch i d n : ℕ) (e : ResetEntry) → (is : IsResetEntry p kinds epoch i e)
    → number_at is.numbering.number d ≡ Some n → Another p kinds epoch d
another_at p kinds epoch i d n e is at = record {
  entry = record e { epoch = epoch + 1; initiator = n; ids = map (begun_by n) e.ids };
  is = record {
    numbering = is.numbering;
    numbered = is.numbered;
    manager = is.manager;
    manages = is.manages;
    epoch_is = refl;
    root = is.root;
    manager_is = is.manager_is;
    began = at;
    size = is.size;
    rows = is.rows;
    ids = begun p.devices p.cables is.numbering.number is.numbering.parent_port i d n is.numbering.count e.ids is.numbered.nodes.one at is.ids;
  };
}

-- a device of the bus may begin it
pub another_entry : (p : Topology) (kinds : List DeviceKind) (epoch i d : ℕ) (e : ResetEntry) → IsResetEntry p kinds epoch i e → IsOnBus p.cables d → Another p kinds epoch d
another_entry p kinds epoch i d e is on = another_at p kinds epoch i d _ e is (is.numbered.numbers.places d on)

-- ---- a device more, which is off

packets_more : (fs gs : List PhyFacts) (g : Peers) (number parents : List (Option ℕ)) (i n : ℕ) (qs : List PhyPacket)
    → ((d k : ℕ) → number_at number d ≡ Some k → facts_at gs d ≡ facts_at fs d) → ArePackets fs g number parents i n qs → ArePackets gs g number parents i n qs
packets_more fs gs g number parents i none qs same no_node = no_node
packets_more fs gs g number parents i above qs same (node {n} {ps} before d at is) =
    node (packets_more fs gs g number parents i n ps same before) d at
    (is ∙ ap (λ f. ps ++ node_packets f (slice_index_or g d []) (number_at parents d) n (d == i)) (sym (same d n at)))

pub entry_more : (p : Topology) (kinds : List DeviceKind) (kind : DeviceKind) (facts : PhyFacts) (epoch i : ℕ) (e : ResetEntry) → Made p → length kinds ≡ length p.devices
    → IsResetEntry p kinds epoch i e → IsResetEntry (record { devices = p.devices ++ facts ∷ []; cables = p.cables }) (kinds ++ kind ∷ []) epoch i e
entry_more p kinds kind facts epoch i e made size is = record {
  numbering = is.numbering;
  numbered = record {
    some = let n = length-append p.devices (facts ∷ []) in omega (arith, n);
    root = is.numbered.root;
    numbers = is.numbered.numbers;
    parents = is.numbered.parents;
    count = is.numbered.count;
    nodes = is.numbered.nodes;
  };
  manager = is.manager;
  manages = manages is.manager is.manages;
  epoch_is = is.epoch_is;
  root = is.root;
  manager_is = is.manager_is;
  began = is.began;
  size = is.size;
  rows = λ d n at. is.rows d n at ∙ ap (λ k. Some (row_of d k)) (sym (same_kind d n at));
  ids = packets_more p.devices (p.devices ++ facts ∷ []) p.cables number is.numbering.parent_port i is.numbering.count e.ids same_facts is.ids;
}
  where
    number : List (Option ℕ)
    number = is.numbering.number

    declared : (d n : ℕ) → number_at number d ≡ Some n → d < length p.devices
    declared d n at = on_bus_declared p made is.numbered.some d (is.numbered.numbers.only d (let there = at in grind (arith, there)))

    same_facts : (d n : ℕ) → number_at number d ≡ Some n → facts_at (p.devices ++ facts ∷ []) d ≡ facts_at p.devices d
    same_facts d n at = get_or_append_left p.devices (facts ∷ []) _ d (declared d n at)

    same_kind : (d n : ℕ) → number_at number d ≡ Some n → kind_at (kinds ++ kind ∷ []) d ≡ kind_at kinds d
    same_kind d n at = let low = declared d n at in get_or_append_left kinds (kind ∷ []) Relay d (omega (arith, low, size))

    back : (d n : ℕ) → Contends (p.devices ++ facts ∷ []) number d n → Contends p.devices number d n
    back d n c = let same = same_facts d n c.numbered in record {
      numbered = c.numbered;
      link = ap (λ (f : PhyFacts). f.link) (sym same) ∙ c.link;
      contender = ap (λ (f : PhyFacts). f.contender) (sym same) ∙ c.contender;
    }

    there : (d n : ℕ) → Contends p.devices number d n → Contends (p.devices ++ facts ∷ []) number d n
    there d n c = let same = same_facts d n c.numbered in record {
      numbered = c.numbered;
      link = ap (λ (f : PhyFacts). f.link) same ∙ c.link;
      contender = ap (λ (f : PhyFacts). f.contender) same ∙ c.contender;
    }

    manages : (o : Option ℕ) → IsManager p.devices number o → IsManager (p.devices ++ facts ∷ []) number o
    manages None h = λ d n c. h d n (back d n c)
    manages (Some d) h = (h.0, there d h.0 h.1, λ e m c. h.2 e m (back e m c))
