-- The tree that identifying a cabling finds.
use Rattle.fw_map.proofs.Common.{◌≡◌, inl, inr, ℕ, ◌<◌, ◌≤◌, nat_lt, List, [], Option, Some, None, true, if◌then◌else◌, arith, refl, sym, ap, subst, ◌∙◌, cases_lt, number_at, is_there, at_root}
use Rattle.fw_map.proofs.Common.{down_to, Tree, Hangs, speed_at}
use Rattle.std.specs.Option.{option_and_then, option_map}
use Rattle.fw_tree.specs.declared.facts.End.{End}
use Rattle.fw_tree.specs.declared.facts.PhyFacts.{PhyFacts}
use Rattle.fw_tree.specs.declared.numbering.Numbering.{Numbering}
use Rattle.fw_tree.specs.Cables.{peer, IsOnBus}
use Rattle.fw_tree.specs.Numbers.{IsParentPort, at_root as bus_root, down_to as bus_down, LeadsDown as BusLeads}
use Rattle.fw_tree.specs.Numbering.{IsNumbering}
use Rattle.fw_tree.specs.Topology.{Topology, IsSound}
use Rattle.fw_tree.proofs.RootLaws.{root_no_parent}
use Rattle.fw_tree.proofs.PathLaws.{one_parent}
use Rattle.fw_tree.proofs.NumberingLaws.{count_most}
use Rattle.fw_tree.specs.SelfIds.{facts_at}
use Rattle.fw_map.specs.Trees.{LeadsDown}
use Rattle.fw_map.specs.Identified.{up_end, IsTreeOf}
use Rattle.fw_map.proofs.ShapeLaws.{same_some, there}
use Rattle.fw_map.proofs.CableLaws.{on_bus, numbered, way_up, parent_end, end_on}
use Rattle.fw_map.proofs.ListLaws.{table, table_all, and_then_some, map_some, ports_are, low_if, high_if}

module _ (p : Topology) (n : Numbering) (s : IsSound p) (h : IsNumbering p n) where
  pub device : (v : ℕ) → (d : ℕ) × (v < n.count → number_at n.number d ≡ Some v)
  device v = elim (cases_lt v n.count) [
    | inl l ↦ let w = h.nodes.taken v l in (w.0, λ k. w.1)
    | inr m ↦ (0, λ k. absurd (omega arith))
  ]

  up_of : ℕ → Option End
  up_of v = if nat_lt v n.count then up_end p n (device v).0 else None

  pub own_of : ℕ → Option ℕ
  own_of v = if nat_lt v n.count then number_at n.parent_port (device v).0 else None

  pub sp_of : ℕ → ℕ
  sp_of v = if nat_lt v n.count then (facts_at p.devices (device v).0).speed else 0

  pub parent_of : ℕ → Option ℕ
  parent_of v = option_and_then (λ (e : End). number_at n.number e.device) (up_of v)

  pub port_of : ℕ → Option ℕ
  port_of v = option_map (λ (e : End). e.port) (up_of v)

  unfoldable pub found : Tree
  found = record { count = n.count; parent = table parent_of 63; parent_port = table port_of 63; own_port = table own_of 63; sp = table sp_of 63 }

  pub below_count : (d v : ℕ) → number_at n.number d ≡ Some v → v < n.count
  below_count d v e = h.nodes.below d v e

  device_is : (d v : ℕ) → number_at n.number d ≡ Some v → (device v).0 ≡ d
  device_is d v e = h.nodes.one (device v).0 d v ((device v).1 (below_count d v e)) e

  none_up : (v : ℕ) → n.count ≤ v → up_of v ≡ None
  unfolding up_of
  none_up v l = high_if v n.count (up_end p n (device v).0) None l

  up_at : (d v : ℕ) → number_at n.number d ≡ Some v → up_of v ≡ up_end p n d
  unfolding up_of
  up_at d v e = low_if v n.count (up_end p n (device v).0) None (below_count d v e) ∙ ap (up_end p n) (device_is d v e)

  parent_at : (v : ℕ) → number_at found.parent v ≡ parent_of v
  unfolding found parent_of
  parent_at v = table_all parent_of None n.count (count_most p n h) (λ i l. ap (option_and_then (λ (e : End). number_at n.number e.device)) (none_up i l)) v

  port_at : (v : ℕ) → number_at found.parent_port v ≡ port_of v
  unfolding found port_of
  port_at v = table_all port_of None n.count (count_most p n h) (λ i l. ap (option_map (λ (e : End). e.port)) (none_up i l)) v

  own_at : (v : ℕ) → number_at found.own_port v ≡ own_of v
  unfolding found own_of
  own_at v = table_all own_of None n.count (count_most p n h) (λ i l. high_if i n.count (number_at n.parent_port (device i).0) None l) v

  sp_at : (v : ℕ) → speed_at found.sp v ≡ sp_of v
  unfolding found sp_of
  sp_at v = table_all sp_of 0 n.count (count_most p n h) (λ i l. high_if i n.count (facts_at p.devices (device i).0).speed 0 l) v

  pub tree_is : IsTreeOf p n found
  unfolding found parent_of port_of own_of sp_of
  tree_is = record {
    count = refl;
    parent = λ d v e. parent_at v ∙ ap (option_and_then (λ (e : End). number_at n.number e.device)) (up_at d v e);
    parent_port = λ d v e. port_at v ∙ ap (option_map (λ (e : End). e.port)) (up_at d v e);
    own_port = λ d v e. own_at v ∙ (low_if v n.count (number_at n.parent_port (device v).0) None (below_count d v e) ∙ ap (number_at n.parent_port) (device_is d v e));
    speed = λ d v e. sp_at v ∙ (low_if v n.count (facts_at p.devices (device v).0).speed 0 (below_count d v e) ∙ ap (λ x. speed_in (facts_at p.devices x)) (device_is d v e));
  }
    where
      speed_in : PhyFacts → ℕ
      speed_in f = f.speed

  -- what hangs at a port of a node is the device at the other end of the cable there
  pub hangs_to : (b v u m : ℕ) → number_at n.number b ≡ Some v → Hangs found v u m → (d q : ℕ) × (number_at n.number d ≡ Some u) × (number_at n.parent_port b ≡ Some q)
      × (peer p.cables b q ≡ Some (record { device = d; port = m }))
  hangs_to b v u m e k =
      let up = sym (tree_is.parent b v e) ∙ k.parent in
      let at = sym (tree_is.parent_port b v e) ∙ k.port in
      let w = and_then_some (λ (x : End). number_at n.number x.device) (up_end p n b) u up in
      let y = and_then_some (peer p.cables b) (number_at n.parent_port b) w.0 w.1 in
      let same : w.0.port ≡ m = same_some (option_map (λ (x : End). x.port) (up_end p n b)) w.0.port m (map_some (λ (x : End). x.port) (up_end p n b) w.0 w.1) at in
      (w.0.device, y.0, w.2, y.1, y.2 ∙ ap (λ z. Some (record { device = w.0.device; port = z })) same)

  pub hangs_from : (b v d u q m : ℕ) → number_at n.number b ≡ Some v → number_at n.number d ≡ Some u → number_at n.parent_port b ≡ Some q → peer p.cables b q ≡ Some (record { device = d; port = m })
      → Hangs found v u m
  hangs_from b v d u q m e f a c =
      let up : up_end p n b ≡ Some (record { device = d; port = m }) = ap (option_and_then (peer p.cables b)) a ∙ c in
      record {
        parent = tree_is.parent b v e ∙ (ap (option_and_then (λ (x : End). number_at n.number x.device)) up ∙ f);
        port = tree_is.parent_port b v e ∙ ap (option_map (λ (x : End). x.port)) up;
      }

  -- the far end of the cable at a parent port has a number
  up_there : (b v q : ℕ) → number_at n.number b ≡ Some v → number_at n.parent_port b ≡ Some q → (x : End) × (up_end p n b ≡ Some x) × (is_there (number_at n.number x.device) ≡ true)
  up_there b v q e a =
      let on = on_bus p n s h b v e in
      let k = way_up p n s h b q on a in
      let w = parent_end p n s h b q k.0 k.1 in
      let c = numbered p n s h w.0.device (end_on p n s h b q w.0 on w.1) in
      (w.0, ap (option_and_then (peer p.cables b)) a ∙ w.1, there (number_at n.number w.0.device) c.0 c.1)

  -- a node from the count on has nothing
  pub past : (v : ℕ) → n.count ≤ v → number_at found.parent v ≡ None
  unfolding parent_of
  past v l = parent_at v ∙ ap (option_and_then (λ (x : End). number_at n.number x.device)) (none_up v l)

  past_port : (v : ℕ) → n.count ≤ v → number_at found.parent_port v ≡ None
  unfolding port_of
  past_port v l = port_at v ∙ ap (option_map (λ (x : End). x.port)) (none_up v l)

  past_own : (v : ℕ) → n.count ≤ v → number_at found.own_port v ≡ None
  unfolding own_of
  past_own v l = own_at v ∙ high_if v n.count (number_at n.parent_port (device v).0) None l

  pub past_sp : (v : ℕ) → n.count ≤ v → speed_at found.sp v ≡ 0
  unfolding sp_of
  past_sp v l = sp_at v ∙ high_if v n.count (facts_at p.devices (device v).0).speed 0 l

  -- each node has a parent's port if it has a parent, and an own port too
  pub both_ports : (v : ℕ) → (is_there (number_at found.parent_port v) ≡ is_there (number_at found.parent v)) × (is_there (number_at found.own_port v) ≡ is_there (number_at found.parent v))
  both_ports v = elim (cases_lt v n.count) [
    | inr m ↦ (ap is_there (past_port v m) ∙ sym (ap is_there (past v m)), ap is_there (past_own v m) ∙ sym (ap is_there (past v m)))
    | inl l ↦ go (device v).0 ((device v).1 l) (number_at n.parent_port (device v).0) refl
  ]
    where
      go : (b : ℕ) → number_at n.number b ≡ Some v → (o : Option ℕ) → number_at n.parent_port b ≡ o → (is_there (number_at found.parent_port v) ≡ is_there (number_at found.parent v))
          × (is_there (number_at found.own_port v) ≡ is_there (number_at found.parent v))
      go b e None a =
          let up : up_end p n b ≡ None = ap (option_and_then (peer p.cables b)) a in
          let x : number_at found.parent v ≡ None = tree_is.parent b v e ∙ ap (option_and_then (λ (x : End). number_at n.number x.device)) up in
          let y : number_at found.parent_port v ≡ None = tree_is.parent_port b v e ∙ ap (option_map (λ (x : End). x.port)) up in
          let z : number_at found.own_port v ≡ None = tree_is.own_port b v e ∙ a in
          (ap is_there y ∙ sym (ap is_there x), ap is_there z ∙ sym (ap is_there x))
      go b e (Some q) a =
          let w = up_there b v q e a in
          let x : is_there (number_at found.parent v) ≡ true = ap is_there (tree_is.parent b v e ∙ ap (option_and_then (λ (x : End). number_at n.number x.device)) w.1) ∙ w.2 in
          let y : is_there (number_at found.parent_port v) ≡ true = ap is_there (tree_is.parent_port b v e ∙ ap (option_map (λ (x : End). x.port)) w.1) in
          let z : is_there (number_at found.own_port v) ≡ true = ap is_there (tree_is.own_port b v e ∙ a) in
          (y ∙ sym x, z ∙ sym x)

  -- all devices to which paths lead are on the bus
  led_on : (k : List ℕ) (d : ℕ) → BusLeads p.cables n.root k d → IsOnBus p.cables d
  led_on k d bus_root = h.root.is_on
  led_on k d (bus_down {k = j} {d = a} u m q r at up split) = end_on p n s h a m (record { device = d; port = q }) (led_on j a u) at

  pub leads : (root : ℕ) → number_at n.number n.root ≡ Some root → (k : List ℕ) (d v : ℕ) → BusLeads p.cables n.root k d → number_at n.number d ≡ Some v → LeadsDown found root k v
  leads root top k d v bus_root e = let same : root ≡ v = same_some (number_at n.number n.root) root v top e in subst (λ (x : ℕ). LeadsDown found root [] x) same at_root
  leads root top k d v (bus_down {k = j} {d = a} u m q r at up split) e =
      let c = numbered p n s h a (led_on j a u) in
      let back = s.cables.back a m (record { device = d; port = q }) at in
      down_to (leads root top j a c.0 u c.1) m (hangs_from d v a c.0 q m e c.1 (port_is (number_at n.parent_port d) refl) back) split
    where
      port_is : (o : Option ℕ) → number_at n.parent_port d ≡ o → number_at n.parent_port d ≡ Some q
      port_is None a =
          let P : Option ℕ → Type 0 = IsParentPort p.cables d in
          absurd (root_no_parent p.cables d q r (subst P a (h.parents.on d (on_bus p n s h d v e))) up)
      port_is (Some x) a = let w = way_up p n s h d x (on_bus p n s h d v e) a in a ∙ ap (λ z. Some z) (one_parent p.cables d x q w.0 r w.1 up)

  pub port_there : (a m : ℕ) (x : End) → peer p.cables a m ≡ Some x → m < (facts_at p.devices a).ports
  port_there a m x at = let l = s.placed a m x at in let e = ports_are p.devices a in omega arith
