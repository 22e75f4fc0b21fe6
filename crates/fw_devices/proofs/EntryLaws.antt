-- What the entry of a bus reset shows, and that it is in the grammar of the log.
use Rattle.fw_devices.proofs.Common.{◌≡◌, inl, inr, ℕ, ◌<◌, ◌≤◌, List, [], ◌∷◌, length, slice_get, Option, Some, None, true, arith, refl, sym, ap, subst, ◌∙◌, cases_lt, DeviceKind, NodeRow, number_at}
use Rattle.fw_devices.proofs.Common.{Topology, Made, sound_made, kind_at, row_of}
use Rattle.std.proofs.Common.{◌^◌, is_some, IfSome}
use Rattle.std.proofs.lemmas.Option.{same_Some}
use Rattle.fw_terms.specs.declared.device.DeviceKind.TheVariants.{Deck}
use Rattle.fw_terms.specs.Devices.{has_link, is_contender}
use Rattle.fw_log_entry.specs.declared.entry.ResetEntry.{ResetEntry}
use Rattle.fw_log_entry.specs.Log.{ResetFits}
use Rattle.fw_phy.specs.declared.packet.PhyPacket.{PhyPacket}
use Rattle.fw_tree.specs.Numbering.{Contends, IsManager}
use Rattle.fw_tree.specs.Numbers.{has_number, is_there, AreNodes}
use Rattle.fw_tree.specs.SelfIds.{facts_at, ArePackets}
use Rattle.fw_tree.specs.Topology.{IsSound}
use Rattle.fw_tree.proofs.CountLaws.{there}
use Rattle.fw_tree.proofs.FitLaws.{packets_fit}
use Rattle.fw_tree.proofs.NumberingLaws.{count_most, placed, has_on_bus}
use Rattle.fw_devices.specs.Network.{AreKinds}
use Rattle.fw_devices.specs.Entries.{IsResetEntry, number_of, node_number, lone_deck}
use Rattle.fw_devices.specs.Resets.{Shows}
use Rattle.fw_devices.proofs.IdLaws.{packets_in_order, packets_few, speed_of_node, speeds_fit}
use Rattle.fw_devices.proofs.RowLaws.{AreRows, HasRow, row_is, number_in, row_fits, rows_fit, rows_apart}

-- the entry's rows, and its packets, are those of its own count
pub rows_of : (t : Topology) (kinds : List DeviceKind) (epoch initiator : ℕ) (e : ResetEntry) (h : IsResetEntry t kinds epoch initiator e) → AreRows h.numbering.number kinds e.nodes
rows_of t kinds epoch initiator e h = record { nodes = let P : ℕ → Type 0 = AreNodes h.numbering.number in subst P (sym h.size) h.numbered.nodes; each = h.rows }

packets_of : (t : Topology) (kinds : List DeviceKind) (epoch initiator : ℕ) (e : ResetEntry) (h : IsResetEntry t kinds epoch initiator e)
    → ArePackets t.devices t.cables h.numbering.number h.numbering.parent_port initiator (length e.nodes) e.ids
packets_of t kinds epoch initiator e h = let P : ℕ → Type 0 = λ n. ArePackets t.devices t.cables h.numbering.number h.numbering.parent_port initiator n e.ids in subst P (sym h.size) h.ids

-- a numbered device is declared
declared_of : (t : Topology) (kinds : List DeviceKind) (epoch initiator : ℕ) (e : ResetEntry) → IsSound t → (h : IsResetEntry t kinds epoch initiator e) → (d n : ℕ)
    → number_at h.numbering.number d ≡ Some n → d < length t.devices
declared_of t kinds epoch initiator e s h d n at = placed t h.numbering s h.numbered d (there (number_at h.numbering.number d) n at)

-- the manager's number is that of a device that contends
manager_of : (t : Topology) (kinds : List DeviceKind) (epoch initiator : ℕ) (e : ResetEntry) (h : IsResetEntry t kinds epoch initiator e) → (n : ℕ) → e.manager ≡ Some n → (d : ℕ)
    × Contends t.devices h.numbering.number d n
manager_of t kinds epoch initiator e h n is = by h.manager h.manages (sym h.manager_is ∙ is)
  where
    by : (o : Option ℕ) → IsManager t.devices h.numbering.number o → number_of h.numbering.number o ≡ Some n → (d : ℕ) × Contends t.devices h.numbering.number d n
    by None m at = absurd (let z : ⊥ = cc in z)
    by (Some d) m at = let P : ℕ → Type 0 = Contends t.devices h.numbering.number d in (d, subst P (same_Some m.0 n (sym m.1.numbered ∙ at)) m.1)

for_some : (o : Option ℕ) (bound : ℕ) → ((n : ℕ) → o ≡ Some n → n < bound) → IfSome o (λ n. n < bound)
for_some None bound f = tt
for_some (Some n) bound f = f n refl

-- The entry is in the grammar of the log.
pub entry_fits : (t : Topology) (kinds : List DeviceKind) (epoch initiator : ℕ) (e : ResetEntry) → Made t → AreKinds t.devices kinds → epoch < 2 ^ 32 → IsResetEntry t kinds epoch initiator e
    → ResetFits e
entry_fits t kinds epoch initiator e made are low h =
    let s = sound_made t made in
    let number = h.numbering.number in
    let rows = rows_of t kinds epoch initiator e h in
    let packets = packets_of t kinds epoch initiator e h in
    let root : e.root < length e.nodes = rows.nodes.below h.numbering.root e.root h.root in
    let few : length e.nodes ≤ 63 = omega (arith, h.size, count_most t h.numbering h.numbered) in
    record {
      epoch = omega (arith, h.epoch_is);
      some = omega arith;
      few = few;
      root = root;
      manager = for_some e.manager (length e.nodes) (λ n is. let w = manager_of t kinds epoch initiator e h n is in rows.nodes.below w.0 n w.1.numbered);
      initiator = rows.nodes.below initiator e.initiator h.began;
      rows = rows_fit number kinds e.nodes rows (λ d n at. let k = declared_of t kinds epoch initiator e s h d n at in let m = s.few in omega arith);
      apart = rows_apart number kinds e.nodes rows;
      packets = packets_fit t.devices t.cables number h.numbering.parent_port initiator (length e.nodes) e.ids s.devices few packets;
      few_packets = omega (arith, packets_few t.devices t.cables number h.numbering.parent_port initiator (length e.nodes) e.ids packets);
      ids = packets_in_order t.devices t.cables number h.numbering.parent_port initiator (length e.nodes) e.ids s.devices packets;
    }

-- a kind's link, as the manager's PHY shows it
link_of : (t : Topology) (kinds : List DeviceKind) (d : ℕ) → AreKinds t.devices kinds → d < length t.devices → (facts_at t.devices d).link ≡ true → has_link (kind_at kinds d) ≡ true
link_of t kinds d are low h = sym (are.link d low) ∙ h

is_one : (o : Option ℕ) → is_there o ≡ is_some o
is_one None = refl
is_one (Some n) = refl

-- a row is in the range of the account
range_of : (t : Topology) (kinds : List DeviceKind) (number : List (Option ℕ)) (n : ℕ) (row : NodeRow) → HasRow number kinds n row → ((d m : ℕ) → number_at number d ≡ Some m → d < 63)
    → (row.device < 63) × (row.outs ≤ 31) × (row.ins ≤ 31)
range_of t kinds number n row w few =
    let fits = row_fits w.device (kind_at kinds w.device) (few w.device n w.numbered) in
    let P : NodeRow → Type 0 = λ r. (r.device < 63) × (r.outs ≤ 31) × (r.ins ≤ 31) in
    subst P (sym w.is) (fits.device, fits.outs, fits.ins)

-- The entry shows exactly the devices of the bus, each under one number.
pub entry_shows : (t : Topology) (kinds : List DeviceKind) (epoch initiator : ℕ) (e : ResetEntry) → Made t → AreKinds t.devices kinds → IsResetEntry t kinds epoch initiator e → Shows t kinds e
entry_shows t kinds epoch initiator e made are h =
    let s = sound_made t made in
    let number = h.numbering.number in
    let rows = rows_of t kinds epoch initiator e h in
    let packets = packets_of t kinds epoch initiator e h in
    let place : (d : ℕ) → node_number e.nodes d ≡ number_at number d = number_in number kinds e.nodes rows in
    let numbered : (d n : ℕ) → node_number e.nodes d ≡ Some n → number_at number d ≡ Some n = λ d n at. sym (place d) ∙ at in
    let on : (d : ℕ) → is_some (node_number e.nodes d) ≡ has_number number d = λ d. ap is_some (place d) ∙ sym (is_one (number_at number d)) in
    record {
      network = record {
        range = λ n row at. range_of t kinds number n row (row_is number kinds e.nodes rows n row at)
            (λ d m is. let k = declared_of t kinds epoch initiator e s h d m is in let few = s.few in omega arith);
        speeds = speeds_fit t.devices t.cables number h.numbering.parent_port initiator (length e.nodes) e.ids s.devices rows.nodes packets;
      };
      declared = λ n row at. let w = row_is number kinds e.nodes rows n row at in let P : NodeRow → Type 0 = λ r. r.device < length t.devices in
          subst P (sym w.is) (declared_of t kinds epoch initiator e s h w.device n w.numbered);
      rows = λ n row at. let w = row_is number kinds e.nodes rows n row at in let P : NodeRow → Type 0 = λ r. (r ≡ row_of r.device (kind_at kinds r.device))
          × (node_number e.nodes r.device ≡ Some n) in
          subst P (sym w.is) (refl, place w.device ∙ w.numbered);
      numbers = λ d n at. rows.each d n (numbered d n at);
      nodes = λ d low. let w = has_on_bus t h.numbering h.numbered d in (λ is. w.0 (sym (on d) ∙ is), λ walk. on d ∙ w.1 walk);
      speeds = λ d n at. speed_of_node t.devices t.cables number h.numbering.parent_port initiator (length e.nodes) e.ids rows.nodes packets d n (numbered d n at);
      manager = λ n is. let w = manager_of t kinds epoch initiator e h n is in
          (w.0, place w.0 ∙ w.1.numbered, link_of t kinds w.0 are (declared_of t kinds epoch initiator e s h w.0 n w.1.numbered) w.1.link);
    }

-- of one device no other has a number, nor another number
record IsLone (number : List (Option ℕ)) (count : ℕ) : Type 0 where
  first : number_at number 0 ≡ Some 0
  only : (d n : ℕ) → number_at number d ≡ Some n → n ≡ 0
  size : count ≡ 1

lone_of : (number : List (Option ℕ)) (count : ℕ) → AreNodes number count → 0 < count → ((d n : ℕ) → number_at number d ≡ Some n → d ≡ 0) → IsLone number count
lone_of number count nodes some zero =
    let w = nodes.taken 0 some in
    let first : number_at number 0 ≡ Some 0 = ap (number_at number) (sym (zero w.0 0 w.1)) ∙ w.1 in
    let only : (d n : ℕ) → number_at number d ≡ Some n → n ≡ 0 = λ d n at. same_Some n 0 (sym at ∙ ap (number_at number) (zero d n at) ∙ first) in
    record {
      first = first;
      only = only;
      size = elim (cases_lt 1 count) [
        | inl more ↦ let v = nodes.taken 1 more in absurd (let e = only v.0 1 v.1 in omega arith)
        | inr most ↦ omega arith
      ];
    }

one_row : (rows : List NodeRow) (row : NodeRow) → length rows ≡ 1 → slice_get rows 0 ≡ Some row → rows ≡ row ∷ []
one_row [] row size at = absurd (omega arith)
one_row (r ∷ []) row size at = ap (λ x. x ∷ []) (same_Some r row at)
one_row (r ∷ x ∷ xs) row size at = absurd (omega arith)

-- a deck with the one number is the manager
manager_is : (t : Topology) (kinds : List DeviceKind) (number : List (Option ℕ)) (count : ℕ) (o : Option ℕ) → IsLone number count → AreKinds t.devices kinds → 0 < length t.devices
    → kind_at kinds 0 ≡ Deck → IsManager t.devices number o → number_of number o ≡ Some 0
manager_is t kinds number count None lone are low deck m =
    absurd (m 0 0 (record { numbered = lone.first; link = are.link 0 low ∙ ap has_link deck; contender = are.contender 0 low ∙ ap is_contender deck }))
manager_is t kinds number count (Some d) lone are low deck m = m.1.numbered ∙ ap Some (lone.only d m.0 m.1.numbered)

entry_with : List PhyPacket → ℕ → ℕ → Option ℕ → ℕ → List NodeRow → ResetEntry
entry_with ids epoch root manager initiator nodes = record { epoch = epoch; root = root; manager = manager; initiator = initiator; nodes = nodes; ids = ids }

same_entry : (e : ResetEntry) (epoch root initiator : ℕ) (manager : Option ℕ) (nodes : List NodeRow) → e.epoch ≡ epoch → e.root ≡ root → e.manager ≡ manager → e.initiator ≡ initiator → e.nodes ≡ nodes
    → e ≡ record { epoch = epoch; root = root; manager = manager; initiator = initiator; nodes = nodes; ids = e.ids }
unfolding entry_with
same_entry e epoch root initiator manager nodes a b c d f =
    ap (λ x. entry_with e.ids x e.root e.manager e.initiator e.nodes) a ∙ ap (λ x. entry_with e.ids epoch x e.manager e.initiator e.nodes) b
    ∙ ap (λ x. entry_with e.ids epoch root x e.initiator e.nodes) c
    ∙ ap (λ x. entry_with e.ids epoch root manager x e.nodes) d ∙ ap (entry_with e.ids epoch root manager initiator) f

-- The entry of a bus of one deck has that deck as its one node, root, resource manager and initiator.
pub entry_of_lone_deck : (t : Topology) (kinds : List DeviceKind) (epoch initiator : ℕ) (e : ResetEntry) → Made t → AreKinds t.devices kinds → length t.devices ≡ 1 → kind_at kinds 0 ≡ Deck
    → IsResetEntry t kinds epoch initiator e → e ≡ lone_deck epoch e.ids
entry_of_lone_deck t kinds epoch initiator e made are one deck h =
    let s = sound_made t made in
    let number = h.numbering.number in
    let rows = rows_of t kinds epoch initiator e h in
    let below : e.root < length e.nodes = rows.nodes.below h.numbering.root e.root h.root in
    let lone = lone_of number (length e.nodes) rows.nodes (omega arith) (λ d n at. let k = declared_of t kinds epoch initiator e s h d n at in omega arith) in
    same_entry e epoch 0 0 (Some 0) (row_of 0 Deck ∷ []) h.epoch_is (lone.only h.numbering.root e.root h.root)
    (h.manager_is ∙ manager_is t kinds number (length e.nodes) h.manager lone are (omega arith) deck h.manages)
    (lone.only initiator e.initiator h.began) (one_row e.nodes (row_of 0 Deck) lone.size (rows.each 0 0 lone.first ∙ ap (λ kind. Some (row_of 0 kind)) deck))
