-- The tree that identifying a cabling finds has the packets of the cabling.
use Rattle.fw_map.proofs.Common.{◌≡◌, inl, inr, ℕ, ◌<◌, [], length, Some, None, slice_index_or, arith, sym, ap, ◌∙◌, cases_lt, number_at, ResetEntry, field_of, HasSizes, HasPackets, Hangs}
use Rattle.std.specs.Option.{option_and_then}
use Rattle.fw_tree.specs.declared.facts.End.{End}
use Rattle.fw_tree.specs.declared.numbering.Numbering.{Numbering}
use Rattle.fw_tree.specs.Cables.{peer}
use Rattle.fw_tree.specs.Numbering.{IsNumbering}
use Rattle.fw_tree.specs.Topology.{Topology, IsSound}
use Rattle.fw_tree.proofs.NumberingLaws.{count_most}
use Rattle.fw_tree.specs.SelfIds.{facts_at, port_code, ArePackets}
use Rattle.fw_map.proofs.BuiltLaws.{places_of}
use Rattle.fw_map.proofs.PacketLaws.{fields_are}
use Rattle.fw_map.proofs.SpeedLaws.{speeds_are}
use Rattle.fw_map.proofs.CodeLaws.{child_code, code_child, parent_code, code_parent}
use Rattle.fw_map.specs.Identified.{up_end}
use Rattle.fw_map.proofs.CableLaws.{on_bus, numbered, way_up, root_none, parent_end, end_on, one_up, not_both, lower_first}
use Rattle.fw_map.proofs.ListLaws.{table_length, and_then_some, ports_low}
use Rattle.fw_map.proofs.FoundTreeLaws.{device, leads, own_of, sp_of, parent_of, port_of, found, below_count, tree_is, hangs_to, hangs_from, past, past_sp, both_ports, port_there}

module _ (p : Topology) (n : Numbering) (s : IsSound p) (h : IsNumbering p n) (i : ℕ) (e : ResetEntry) (packets : ArePackets p.devices p.cables n.number n.parent_port i n.count e.ids)
    (size : length e.nodes ≡ n.count) (top : number_at n.number n.root ≡ Some e.root) where
  field_at : (a u m : ℕ) → number_at n.number a ≡ Some u → field_of e.ids u m ≡ port_code (facts_at p.devices a).ports (slice_index_or p.cables a []) (number_at n.parent_port a) m
  field_at a u m f = fields_are p.devices p.cables n.number n.parent_port i n.count u a m e.ids h.nodes.one (ports_low p.devices a s.devices) (below_count p n s h a u f) f packets

  child_to : (u m : ℕ) → u < n.count → field_of e.ids u m ≡ 3 → (v : ℕ) × Hangs (found p n s h) v u m
  child_to u m l f =
      let a = (device p n s h u).0 in
      let at = (device p n s h u).1 l in
      let w = child_code (facts_at p.devices a).ports (slice_index_or p.cables a []) (number_at n.parent_port a) m (sym (field_at a u m at) ∙ f) in
      let on = on_bus p n s h a u at in
      let b = w.0.device in
      let q = w.0.port in
      let c = numbered p n s h b (end_on p n s h a m w.0 on w.1) in
      elim (one_up p n s h a m b q on w.1) [
        | inl x ↦ absurd (w.2 x)
        | inr x ↦ (c.0, hangs_from p n s h b c.0 a u q m c.1 at x (s.cables.back a m w.0 w.1))
      ]

  child_from : (u m v : ℕ) → u < n.count → Hangs (found p n s h) v u m → field_of e.ids u m ≡ 3
  child_from u m v l k = elim (cases_lt v n.count) [
    | inr far ↦ absurd (let x = k.parent in let y = past p n s h v far in let z : ⊥ = cc in z)
    | inl near ↦
        let b = (device p n s h v).0 in
        let at = (device p n s h v).1 near in
        let w = hangs_to p n s h b v u m at k in
        let d = w.0 in
        let q = w.1 in
        let on = on_bus p n s h d u w.2 in
        let forth = s.cables.back b q (record { device = d; port = m }) w.4 in
        field_at d u m w.2 ∙ code_child (facts_at p.devices d).ports (slice_index_or p.cables d []) (number_at n.parent_port d) m (record { device = b; port = q })
        (port_there p n s h d m (record { device = b; port = q }) forth) forth (λ x. not_both p n s h d m b q on forth x w.3)
  ]

  own_to : (u m : ℕ) → u < n.count → field_of e.ids u m ≡ 2 → number_at (found p n s h).own_port u ≡ Some m
  own_to u m l f =
      let a = (device p n s h u).0 in
      let at = (device p n s h u).1 l in
      (tree_is p n s h).own_port a u at ∙ parent_code (facts_at p.devices a).ports (slice_index_or p.cables a []) (number_at n.parent_port a) m (sym (field_at a u m at) ∙ f)

  own_from : (u m : ℕ) → u < n.count → number_at (found p n s h).own_port u ≡ Some m → field_of e.ids u m ≡ 2
  own_from u m l f =
      let a = (device p n s h u).0 in
      let at = (device p n s h u).1 l in
      let up = sym ((tree_is p n s h).own_port a u at) ∙ f in
      let k = way_up p n s h a m (on_bus p n s h a u at) up in
      let w = parent_end p n s h a m k.0 k.1 in
      field_at a u m at ∙ code_parent (facts_at p.devices a).ports (slice_index_or p.cables a []) (number_at n.parent_port a) m w.0 (port_there p n s h a m w.0 w.1) w.1 up

  pub has_packets : HasPackets e (found p n s h)
  unfolding found
  has_packets = record {
    sizes = sizes;
    count = sym size;
    nodes = nodes;
    ports = λ v. (both_ports p n s h v).0;
    root = below_count p n s h n.root e.root top;
    top = root_up;
    numbers = record {
      paths = λ v. h.numbers.paths (device p n s h v).0;
      lead = λ v l. let at = (device p n s h v).1 l in
          leads p n s h e.root top (h.numbers.paths (device p n s h v).0) (device p n s h v).0 v (h.numbers.lead (device p n s h v).0 (on_bus p n s h (device p n s h v).0 v at)) at;
      places = λ v l. places_of n.count (λ x. h.numbers.paths (device p n s h x).0) (count_most p n h)
          (λ x y k m. lower_first p n s h (device p n s h x).0 (device p n s h y).0 x y ((device p n s h x).1 (omega arith)) ((device p n s h y).1 m) k) v l;
    };
    children = λ u m l. (child_to u m l, λ w. child_from u m w.0 l w.1);
    own = λ u m l. (own_to u m l, own_from u m l);
    own_ports = λ v. (both_ports p n s h v).1;
    speeds = record {
      of = λ v l. let at = (device p n s h v).1 l in (tree_is p n s h).speed (device p n s h v).0 v at
          ∙ sym (speeds_are p.devices p.cables n.number n.parent_port i n.count v (device p n s h v).0 e.ids h.nodes.one l at packets);
      following = λ v l. past_sp p n s h v l;
    };
  }
    where
      sizes : HasSizes (found p n s h)
      sizes = record {
        parent = table_length (parent_of p n s h) 63;
        parent_port = table_length (port_of p n s h) 63;
        own_port = table_length (own_of p n s h) 63;
        sp = table_length (sp_of p n s h) 63;
      }

      nodes : (v u : ℕ) → number_at (found p n s h).parent v ≡ Some u → (v < n.count) × (u < n.count)
      nodes v u k = elim (cases_lt v n.count) [
        | inr far ↦ absurd (let y = past p n s h v far in let z : ⊥ = cc in z)
        | inl near ↦
            let b = (device p n s h v).0 in
            let w = and_then_some (λ (x : End). number_at n.number x.device) (up_end p n b) u (sym ((tree_is p n s h).parent b v ((device p n s h v).1 near)) ∙ k) in
            (near, below_count p n s h w.0.device u w.2)
      ]

      root_up : number_at (found p n s h).parent e.root ≡ None
      root_up = (tree_is p n s h).parent n.root e.root top ∙ ap (λ o. option_and_then (λ (x : End). number_at n.number x.device) (option_and_then (peer p.cables n.root) o)) (root_none p n s h)
