-- What the steps of a bus reset make of a network.
use Rattle.fw_devices.proofs.Common.{◌≡◌, ℕ, ◌+◌, ◌<◌, ◌≤◌, List, length, map, slice_get, Option, Some, None, arith, refl, sym, ap, subst, ◌∙◌, length-map, DeviceKind, Relay, NodeRow, IsOnBus}
use Rattle.fw_devices.proofs.Common.{number_at, Topology, Made, sound_made, NodeState, Network, kinds_of, kind_at, node_at, row_of, IsFound}
use Rattle.std.proofs.Common.{◌&&◌}
use Rattle.std.specs.Option.{option_map}
use Rattle.std.proofs.lemmas.List.{get_or_default, same_lists}
use Rattle.fw_phy.specs.Phy.{begun_by}
use Rattle.fw_phy.specs.declared.packet.PhyPacket.{PhyPacket}
use Rattle.fw_log_entry.specs.declared.entry.ResetEntry.{ResetEntry}
use Rattle.fw_tree.specs.declared.numbering.Numbering.{Numbering}
use Rattle.fw_tree.specs.Numbering.{IsNumbering, IsManager}
use Rattle.fw_tree.specs.Numbers.{counted, has_number}
use Rattle.fw_tree.specs.Paths.{comes_before}
use Rattle.fw_tree.specs.SelfIds.{ArePackets}
use Rattle.fw_tree.proofs.CountLaws.{there}
use Rattle.fw_tree.proofs.NumberingLaws.{count_most, placed}
use Rattle.fw_tree.proofs.SelfIdLaws.{begun as packets_begun}
use Rattle.fw_devices.specs.declared.bus.Bus.{Bus}
use Rattle.fw_devices.specs.Network.{IsNetwork}
use Rattle.fw_devices.specs.Entries.{IsResetEntry, begun, number_of, device_of}
use Rattle.fw_devices.specs.Resets.{IsReset, numbered}
use Rattle.fw_devices.proofs.RowLaws.{AreRows, number_in}
use Rattle.fw_devices.proofs.NetworkLaws.{IsSameDevice, AreSameDevices, kind_of_node}

pub declared : (t : Topology) (n : Numbering) → Made t → IsNumbering t n → (d k : ℕ) → number_at n.number d ≡ Some k → d < length t.devices
declared t n made h d k at = placed t n (sound_made t made) h d (there (number_at n.number d) k at)

-- what the steps of a bus reset give
pub record Steps (old : Network) (initiator : ℕ) (n : Numbering) (manager : Option ℕ) (nodes : List NodeState) (e : ResetEntry) : Type 0 where
  pub numbering : IsNumbering old.topology n
  pub manages : IsManager old.topology.devices n.number manager
  pub epoch : e.epoch ≡ old.epoch + 1
  pub root : number_at n.number n.root ≡ Some e.root
  pub manager_is : e.manager ≡ number_of n.number manager
  pub began : number_at n.number initiator ≡ Some e.initiator
  pub size : length e.nodes ≡ n.count
  pub rows : (d k : ℕ) → number_at n.number d ≡ Some k → slice_get e.nodes k ≡ Some (row_of d (kind_at (kinds_of old.nodes) d))
  pub ids : ArePackets old.topology.devices old.topology.cables n.number n.parent_port initiator n.count e.ids
  pub same : length nodes ≡ length old.nodes
  pub nodes_are : (d : ℕ) → d < length old.nodes → node_at nodes d ≡ numbered (number_at n.number d) e.manager (node_at old.nodes d)

pub entry_of : (old : Network) (initiator : ℕ) (n : Numbering) (manager : Option ℕ) (nodes : List NodeState) (e : ResetEntry) → Steps old initiator n manager nodes e
    → IsResetEntry old.topology (kinds_of old.nodes) (old.epoch + 1) initiator e
entry_of old initiator n manager nodes e s = record {
  numbering = n;
  numbered = s.numbering;
  manager = manager;
  manages = s.manages;
  epoch_is = s.epoch;
  root = s.root;
  manager_is = s.manager_is;
  began = s.began;
  size = s.size;
  rows = s.rows;
  ids = s.ids;
}

-- the manager is the device of its row
manager_of : (t : Topology) (n : Numbering) (manager : Option ℕ) (kinds : List DeviceKind) (rows : List NodeRow) → IsManager t.devices n.number manager
    → ((d k : ℕ) → number_at n.number d ≡ Some k → slice_get rows k ≡ Some (row_of d (kind_at kinds d))) → manager ≡ device_of rows (number_of n.number manager)
manager_of t n None kinds rows m each = refl
manager_of t n (Some d) kinds rows m each = sym (ap (device_of rows) m.1.numbered ∙ ap (option_map (λ (r : NodeRow). r.device)) (each d m.0 m.1.numbered))

rows_of : (old : Network) (initiator : ℕ) (n : Numbering) (manager : Option ℕ) (nodes : List NodeState) (e : ResetEntry) → Steps old initiator n manager nodes e
    → AreRows n.number (kinds_of old.nodes) e.nodes
rows_of old initiator n manager nodes e s = record { nodes = rw s.size s.numbering.nodes; each = s.rows }

pub is_reset : (old : Network) (initiator : ℕ) (n : Numbering) (manager : Option ℕ) (nodes : List NodeState) (e : ResetEntry) → IsNetwork old → Steps old initiator n manager nodes e
    → IsReset old (record { topology = old.topology; names = old.names; nodes = nodes; epoch = e.epoch; manager = manager; latest = e; withheld = old.withheld }) initiator e
is_reset old initiator n manager nodes e kept s =
    let rows = rows_of old initiator n manager nodes e s in
    record {
      entry = entry_of old initiator n manager nodes e s;
      topology = refl;
      names = refl;
      withheld = refl;
      withhold = kept.withhold;
      epoch = s.epoch;
      manager = manager_of old.topology n manager (kinds_of old.nodes) e.nodes s.manages s.rows ∙ ap (device_of e.nodes) (sym s.manager_is);
      size = s.same;
      nodes = λ d low. s.nodes_are d low ∙ ap (λ o. numbered o e.manager (node_at old.nodes d)) (sym (number_in n.number (kinds_of old.nodes) e.nodes rows d));
    }

-- each node is of the device that it was of
same_numbered : (o manager : Option ℕ) (n : NodeState) → IsSameDevice n (numbered o manager n)
same_numbered None manager n = record { kind = refl; device = refl; rate = refl; withheld = refl }
same_numbered (Some k) manager n = record { kind = refl; device = refl; rate = refl; withheld = refl }

pub same_devices : (old : Network) (initiator : ℕ) (n : Numbering) (manager : Option ℕ) (nodes : List NodeState) (e : ResetEntry) → Steps old initiator n manager nodes e
    → AreSameDevices old.nodes nodes
same_devices old initiator n manager nodes e s = record {
  size = s.same;
  each = λ d low. let P : NodeState → Type 0 = IsSameDevice (node_at old.nodes d) in subst P (sym (s.nodes_are d low)) (same_numbered (number_at n.number d) e.manager (node_at old.nodes d));
}

-- ---- what was found of the bus, and the bus reset that begins

-- the kinds stay if each node is of the device that it was of
pub kinds_same : (old new : List NodeState) → AreSameDevices old new → kinds_of new ≡ kinds_of old
kinds_same old new s = same_lists (kinds_of new) (kinds_of old) (length-map new kind_of ∙ s.size ∙ sym (length-map old kind_of)) (λ k d low.
    let at = length-map new kind_of in
    let less : k < length old = let size = s.size in omega arith in
    let one = s.each k less in
    get_or_default (kinds_of new) k d Relay (omega arith) ∙ kind_of_node new k ∙ one.kind ∙ sym (kind_of_node old k)
    ∙ get_or_default (kinds_of old) k Relay d (let size = length-map old kind_of in omega arith))
  where
    kind_of : NodeState → DeviceKind
    kind_of n = n.kind

pub found_same : (t : Topology) (n : Numbering) (manager : Option ℕ) (e : ResetEntry) (old new : List NodeState) → AreSameDevices old new → IsFound t (kinds_of old) n manager e
    → IsFound t (kinds_of new) n manager e
found_same t n manager e old new s h = let P : List DeviceKind → Type 0 = λ kinds. IsFound t kinds n manager e in subst P (sym (kinds_same old new s)) h

pub found_taken : (t : Topology) (kinds : List DeviceKind) (n : Numbering) (manager : Option ℕ) (e : ResetEntry) (initiator node epoch : ℕ) (ids : List PhyPacket)
    → number_at n.number initiator ≡ Some node
    → ids ≡ map (begun_by node) e.ids → IsFound t kinds n manager e → IsFound t kinds n manager (record e { epoch = epoch; initiator = node; ids = ids })
found_taken t kinds n manager e initiator node epoch ids at are h = record {
  numbered = h.numbered;
  manages = h.manages;
  root = h.root;
  manager_is = h.manager_is;
  size = h.size;
  rows = h.rows;
  initiator = initiator;
  ids = rw are (packets_begun t.devices t.cables n.number n.parent_port h.initiator initiator node n.count e.ids h.numbered.nodes.one at h.ids);
}

pub found_begun : (t : Topology) (kinds : List DeviceKind) (n : Numbering) (manager : Option ℕ) (e : ResetEntry) (initiator node : ℕ) → number_at n.number initiator ≡ Some node
    → IsFound t kinds n manager e → IsFound t kinds n manager (begun node e)
found_begun t kinds n manager e initiator node at h = record {
  numbered = h.numbered;
  manages = h.manages;
  root = h.root;
  manager_is = h.manager_is;
  size = h.size;
  rows = h.rows;
  initiator = initiator;
  ids = packets_begun t.devices t.cables n.number n.parent_port h.initiator initiator node n.count e.ids h.numbered.nodes.one at h.ids;
}

pub steps_of : (old : Network) (initiator node : ℕ) (n : Numbering) (manager : Option ℕ) (nodes : List NodeState) (e : ResetEntry) → IsFound old.topology (kinds_of old.nodes) n manager e
    → number_at n.number initiator ≡ Some node → e.epoch ≡ old.epoch → length nodes ≡ length old.nodes
    → ((d : ℕ) → d < length old.nodes → node_at nodes d ≡ numbered (number_at n.number d) e.manager (node_at old.nodes d))
    → Steps old initiator n manager nodes (begun node e)
steps_of old initiator node n manager nodes e h at epoch same nodes_are = record {
  numbering = h.numbered;
  manages = h.manages;
  epoch = ap (λ k. k + 1) epoch;
  root = h.root;
  manager_is = h.manager_is;
  began = at;
  size = h.size;
  rows = h.rows;
  ids = packets_begun old.topology.devices old.topology.cables n.number n.parent_port h.initiator initiator node n.count e.ids h.numbered.nodes.one at h.ids;
  same = same;
  nodes_are = nodes_are;
}

-- what a bus reset leaves of what was found, which began with b, and of the nodes
pub record Left (old : Network) (initiator : ℕ) (b : Bus) (nodes : List NodeState) : Type 0 where
  pub steps : Steps old initiator b.numbering b.manager nodes b.entry
  pub found : IsFound old.topology (kinds_of nodes) b.numbering b.manager b.entry

-- seen and kept are the nodes as the two steps read them
pub left_of : (old : Network) (initiator : ℕ) (b c : Bus) (seen kept nodes : List NodeState) → IsOnBus old.topology.cables initiator → seen ≡ old.nodes → kept ≡ old.nodes
    → IsFound old.topology (kinds_of seen) b.numbering b.manager b.entry → b.entry.epoch ≡ old.epoch
    → ((node : ℕ) → number_at b.numbering.number initiator ≡ Some node → c ≡ record b { entry = begun node b.entry }) → length nodes ≡ length kept
    → ((d : ℕ) → d < length kept → node_at nodes d ≡ numbered (number_at c.numbering.number d) c.entry.manager (node_at kept d)) → Left old initiator c nodes
left_of old initiator b c seen kept nodes on are_seen are_kept found epoch begins size nodes_are =
    let F : List NodeState → Type 0 = λ ns. IsFound old.topology (kinds_of ns) b.numbering b.manager b.entry in
    let h = subst F are_seen found in
    let at = h.numbered.numbers.places initiator on in
    let node = counted (λ e. has_number b.numbering.number e && comes_before (h.numbered.numbers.paths e) (h.numbered.numbers.paths initiator)) 63 in
    let is = begins node at in
    let S : List NodeState → Type 0 = λ ns. length nodes ≡ length ns in
    let M : List NodeState → Type 0 = λ ns. (d : ℕ) → d < length ns → node_at nodes d ≡ numbered (number_at c.numbering.number d) c.entry.manager (node_at ns d) in
    let P : Bus → Type 0 = λ x. ((d : ℕ) → d < length old.nodes → node_at nodes d ≡ numbered (number_at x.numbering.number d) x.entry.manager (node_at old.nodes d)) → Left old initiator x nodes in
    subst P (sym is) (λ each.
    let steps = steps_of old initiator node b.numbering b.manager nodes b.entry h at epoch (subst S are_kept size) each in
    let devices = same_devices old initiator b.numbering b.manager nodes (begun node b.entry) steps in
    record {
      steps = steps;
      found = found_same old.topology b.numbering b.manager (begun node b.entry) old.nodes nodes devices
          (found_begun old.topology (kinds_of old.nodes) b.numbering b.manager b.entry initiator node at h);
    }) (subst M are_kept nodes_are)

-- the numbers of the nodes are below 63
pub number_low : (t : Topology) (node : ℕ) (b c : Bus) → IsNumbering t b.numbering → c ≡ record b { entry = begun node b.entry } → (d n : ℕ) → number_at c.numbering.number d ≡ Some n → n ≤ 62
number_low t node b c h is =
    let P : Bus → Type 0 = λ x. (d n : ℕ) → number_at x.numbering.number d ≡ Some n → n ≤ 62 in
    subst P (sym is) (λ d n at. let low = h.nodes.below d n at in let most = count_most t b.numbering h in omega arith)
