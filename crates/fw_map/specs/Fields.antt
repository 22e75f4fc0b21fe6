-- The port fields of the nodes, in their self-ID packets (IEEE 1394-1995, self-ID packets).
use Rattle.std.specs.Prelude.{◌≡◌, ℕ, ◌-◌, ◌<◌, ◌==◌, ◌&&◌, nat_le, List, [], ◌∷◌, Option, Some, None, length, slice_get, slice_index, slice_index_or, unwrap_or, Bool, true, false, if◌then◌else◌}
use Rattle.fw_phy.specs.declared.packet.PhyPacket.{PhyPacket}
use Rattle.fw_phy.specs.declared.packet.PhyPacket.TheVariants.{SelfId, SelfIdMore, Config, LinkOn}
use Rattle.fw_tree.specs.Numbers.{counted}
use Rattle.fw_tree.specs.SelfIds.{first_port}

-- the field of the node's port in a packet, if the packet is the node's and has that port
abbrev pub field_in : PhyPacket → ℕ → ℕ → Option ℕ
field_in (SelfId s) d p = if s.phy == d then slice_get s.ports p else None
field_in (SelfIdMore s) d p = if (s.phy == d) && nat_le (first_port s.number) p then slice_get s.ports (p - first_port s.number) else None
field_in (Config root force_root set_gap gap) d p = None
field_in (LinkOn phy) d p = None

-- the field of the node's port: 3 child, 2 parent, 1 not connected, 0 not present
abbrev pub field_of : List PhyPacket → ℕ → ℕ → ℕ
field_of [] d p = 0
field_of (q ∷ qs) d p = unwrap_or (field_in q d p) (field_of qs d p)

-- a row of 27 for each of 63 nodes
pub record AreRows (rows : List (List ℕ)) : Type 0 where
  pub nodes : length rows ≡ 63
  pub ports : (n : ℕ) → n < 63 → length (slice_index_or rows n []) ≡ 27

-- such rows have the fields of all ports
pub record HasFields (ids : List PhyPacket) (rows : List (List ℕ)) : Type 0 where
  pub whole : AreRows rows
  pub fields : (n p : ℕ) → n < 63 → p < 27 → slice_index (slice_index_or rows n []) p ≡ field_of ids n p

-- at how many of its ports a node has this field: a node's packets have at most 27 ports
abbrev pub fields : List PhyPacket → ℕ → ℕ → ℕ
fields ids d code = counted (λ p. field_of ids d p == code) 27

-- the last number below n that passes, or that none passes
abbrev pub IsLast : (ℕ → Bool) → ℕ → Option ℕ → Type 0
IsLast f n None = (k : ℕ) → k < n → f k ≡ false
IsLast f n (Some q) = (q < n) × (f q ≡ true) × ((k : ℕ) → q < k → k < n → f k ≡ false)
