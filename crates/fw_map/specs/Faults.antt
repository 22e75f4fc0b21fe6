-- Why no tree has the packets of a reset entry.
use Rattle.std.specs.Prelude.{◌≡◌, ℕ, zero, suc, ◌+◌, ◌-◌, ◌<◌, ◌==◌, not, nat_lt, Bool, List, length, Option, Some, None, if◌then◌else◌}
use Rattle.fw_phy.specs.declared.packet.PhyPacket.{PhyPacket}
use Rattle.fw_log_entry.specs.declared.entry.ResetEntry.{ResetEntry}
use Rattle.fw_map.specs.declared.MapFault.{MapFault}
use Rattle.fw_map.specs.declared.MapWhy.{MapWhy}
use Rattle.fw_map.specs.declared.MapWhy.TheVariants.{Parents, Missing, Left, Root}
use Rattle.fw_map.specs.Fields.{fields}

-- how many branches of the nodes below the number are without a parent
unfoldable pub branches : List PhyPacket → ℕ → ℕ
branches ids zero = 0
branches ids (suc d) = (branches ids d - fields ids d 3) + 1

-- the node is the last
abbrev pub is_last : ResetEntry → ℕ → Bool
is_last e d = d + 1 == length e.nodes

-- how many parent ports the node is to have
abbrev pub due : ResetEntry → ℕ → ℕ
due e d = if is_last e d then 0 else 1

-- what is wrong of a node when it takes its children
abbrev pub joining_fault : ResetEntry → ℕ → Option MapWhy
joining_fault e d =
    if not (fields e.ids d 2 == due e d) then Some Parents
    else if nat_lt (branches e.ids d) (fields e.ids d 3) then Some Missing
    else None

-- what is wrong of the last node after that
abbrev pub last_fault : ResetEntry → ℕ → Option MapWhy
last_fault e d =
    if nat_lt 1 (branches e.ids (d + 1)) then Some Left
    else if not (e.root == d) then Some Root
    else None

-- the first of two
abbrev pub or_else : Option MapWhy → Option MapWhy → Option MapWhy
or_else None y = y
or_else (Some x) y = Some x

-- what is wrong of a node, in the order of the tests
abbrev pub node_fault : ResetEntry → ℕ → Option MapWhy
node_fault e d = or_else (joining_fault e d) (if is_last e d then last_fault e d else None)

-- the fault is the first, nodes taken upwards
pub record IsFault (e : ResetEntry) (f : MapFault) : Type 0 where
  pub node : f.node < length e.nodes
  pub is : node_fault e f.node ≡ Some f.why
  pub first : (d : ℕ) → d < f.node → node_fault e d ≡ None
