-- What a bus reset's body says of the bus.
use Rattle.std.proofs.Common.{◌≡◌, refl, ap, sym, ◌∙◌, ℕ, ◌+◌, ◌*◌, ◌^◌, ◌<◌, ◌≤◌, List, Option, IfSome, length, map, flat_map, take, drop, arith, nat_le, ◌&&◌, true}
use Rattle.std.proofs.lemmas.Bool.Decides.{nat_tests}
use Rattle.std.specs.List.{All}
use Rattle.std.specs.Int.{to_be_bytes, w32}
use Rattle.fw_words.specs.Quadlet.{field, quadlet_at}
use Rattle.fw_phy.specs.Phy.{spelling}
use Rattle.fw_log_entry.specs.Log.{ResetFits, body, manager_byte, node_quad, quads}
use Rattle.fw_log_entry.specs.declared.nodes.NodeRow.{NodeRow}
use Rattle.fw_log_entry.specs.declared.entry.Entry.TheVariants.{Reset}
use Rattle.fw_log_entry.specs.declared.entry.ResetEntry.{ResetEntry}
use Rattle.fw_log.specs.Bodies.{count_of}
use Rattle.fw_log.specs.Resets.{RowShape, ResetShape}
use Rattle.fw_log.proofs.ResetLaws.{BodyHas, body_back, body_has, same_reset, second_back, shape_of}
use Rattle.fw_log_latest.specs.Latest.{IsBusOf}

-- what the body of a bus reset has
pub has : (r : ResetEntry) (bytes : List ℕ) → ResetFits r → body (Reset r) ≡ bytes → BodyHas r bytes
has r bytes f s = body_has r bytes (shape_of r f) s

-- the nodes lie within the body
nodes_within : (n k : ℕ) → (nat_le 1 n && nat_le n 63 && nat_le (8 + 4 * n) k) ≡ true → 8 + 4 * n ≤ k
nodes_within n k e = grind (arith, nat_tests)

pub within : (r : ResetEntry) (bytes : List ℕ) → ResetFits r → body (Reset r) ≡ bytes → 8 + 4 * count_of bytes ≤ length bytes
within r bytes f s = nodes_within (count_of bytes) (length bytes) (has r bytes f s).nodes

-- what was read of a body
pub record HasBus (bytes : List ℕ) (epoch q n : ℕ) (manager : Option ℕ) (nodes : List NodeRow) : Type 0 where
  pub epoch_fits : epoch < 2 ^ 32
  pub first : to_be_bytes w32 epoch ≡ take 4 bytes
  pub second_fits : q < 2 ^ 32
  pub second_is : q ≡ quadlet_at bytes 4
  pub second : to_be_bytes w32 q ≡ take 4 (drop 4 bytes)
  pub manager_is : manager_byte manager ≡ field q 8 15
  pub manager_fits : IfSome manager (λ m. m < 255)
  pub count_is : n ≡ count_of bytes
  pub count : length nodes ≡ n
  pub rows : All RowShape nodes
  pub same : quads (map node_quad nodes) ≡ take (4 * n) (drop 8 bytes)

-- all but the self-ID packets stands in what was read
pub whole_is : (bytes : List ℕ) (epoch q n : ℕ) (manager : Option ℕ) (nodes : List NodeRow) (r : ResetEntry) → HasBus bytes epoch q n manager nodes → ResetFits r → body (Reset r) ≡ bytes
    → r ≡ record { epoch = epoch; root = field q 0 7; manager = manager; initiator = field q 16 23; nodes = nodes; ids = r.ids }
whole_is bytes epoch q n manager nodes r x f s =
    let shape = shape_of r f in
    let has = body_has r bytes shape s in
    let read : ResetEntry = record { epoch = epoch; root = field q 0 7; manager = manager; initiator = field q 16 23; nodes = nodes; ids = r.ids } in
    let many : length nodes ≡ length r.nodes = x.count ∙ x.count_is ∙ has.count in
    let second = second_back q (field q 0 7) (manager_byte manager) (field q 16 23) (length nodes) x.second_fits refl x.manager_is refl
    (x.count ∙ x.count_is ∙ ap (λ (k : ℕ). field k 24 31) (sym x.second_is)) in
    let ids : flat_map spelling r.ids ≡ drop (8 + 4 * n) bytes = sym has.ids ∙ ap (λ (k : ℕ). drop (8 + 4 * k) bytes) (sym x.count_is) in
    let whole : body (Reset read) ≡ bytes = body_back read bytes q n x.first x.second second x.same ids in
    let fits : ResetShape read = record {
      epoch = x.epoch_fits;
      root = omega arith;
      manager = x.manager_fits;
      initiator = omega arith;
      some = omega (arith, many, shape.some);
      few = omega (arith, many, shape.few);
      rows = x.rows;
      packets = shape.packets;
      few_packets = shape.few_packets;
    }
    in
    same_reset r read shape fits (s ∙ sym whole)

-- an entry that has this of the bus, whatever else
pub bus_of : (bytes : List ℕ) (epoch q n : ℕ) (manager : Option ℕ) (nodes : List NodeRow) (bus r : ResetEntry) → HasBus bytes epoch q n manager nodes → ResetFits r → body (Reset r) ≡ bytes
    → bus.epoch ≡ epoch → bus.nodes ≡ nodes → bus.manager ≡ manager → bus.initiator ≡ field q 16 23 → IsBusOf r bus
bus_of bytes epoch q n manager nodes bus r x f s same_epoch same_nodes same_manager same_initiator =
    let is = whole_is bytes epoch q n manager nodes r x f s in record {
      epoch = ap (λ (e : ResetEntry). e.epoch) is ∙ sym same_epoch;
      nodes = ap (λ (e : ResetEntry). e.nodes) is ∙ sym same_nodes;
      manager = ap (λ (e : ResetEntry). e.manager) is ∙ sym same_manager;
      initiator = ap (λ (e : ResetEntry). e.initiator) is ∙ sym same_initiator;
    }
