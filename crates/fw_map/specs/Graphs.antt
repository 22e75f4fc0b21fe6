-- A tree as a graph, in Graphviz's language (own).
use Rattle.std.specs.Prelude.{ℕ, zero, suc, min, ◌==◌, if◌then◌else◌, List, [], ◌∷◌, ◌++◌, Option, Some, None, slice_get, codes, decimal}
use Rattle.fw_terms.specs.Devices.{kind_with, name_of}
use Rattle.fw_log_entry.specs.declared.nodes.NodeRow.{NodeRow}
use Rattle.fw_tree.specs.Numbers.{number_at}
use Rattle.fw_map.specs.declared.tree.Tree.{Tree}
use Rattle.fw_map.specs.Trees.{speed_at}

-- a quotation mark
abbrev pub quote : List ℕ
quote = 34 ∷ []

-- the escape of a line feed in a label
abbrev pub new_line : List ℕ
new_line = 92 ∷ 110 ∷ []

-- the kind of a device, by its code
abbrev pub kind_word : ℕ → List ℕ
kind_word code = name_of (kind_with code)

-- a speed, by sp
abbrev pub speed_word : ℕ → List ℕ
speed_word speed = if speed == 0 then codes "S100" else if speed == 1 then codes "S200" else codes "S400"

-- the kind and the number of a device, and the end of its node's box
abbrev pub device_text : List ℕ → ℕ → List ℕ
device_text kind device = new_line ++ kind ++ codes " " ++ decimal device ++ (quote ++ codes "];" ++ 10 ∷ [])

-- the beginning of a node's box, with its number
abbrev pub number_text : ℕ → List ℕ
number_text n = codes "  n" ++ decimal n ++ (codes " [label=" ++ quote ++ codes "node ") ++ decimal n

-- the box of a node: its number, and its device's kind and number
abbrev pub box_line : ℕ → Option NodeRow → List ℕ
box_line n None = []
box_line n (Some r) = number_text n ++ device_text (kind_word r.kind) r.device

-- the cable between a node and its parent: the parent's port, the own port, and the speed
abbrev pub cable_line : ℕ → ℕ → ℕ → ℕ → ℕ → List ℕ
cable_line n parent port own speed =
    codes "  n" ++ decimal parent
    ++ codes " -- n" ++ decimal n ++ (codes " [taillabel=" ++ quote) ++ decimal port ++ (quote ++ codes ", headlabel=" ++ quote) ++ decimal own ++ (quote ++ codes ", label=" ++ quote)
    ++ speed_word speed ++ (quote ++ codes "];" ++ 10 ∷ [])

-- the cable of a node to its parent, with the lesser sp of the two, if it has one
abbrev pub edge_by : Tree → ℕ → Option ℕ → Option ℕ → Option ℕ → List ℕ
edge_by t n (Some parent) (Some port) (Some own) = cable_line n parent port own (min (speed_at t.sp n) (speed_at t.sp parent))
edge_by t n _ _ _ = []

-- the line of a node's cable to its parent
abbrev pub edge_line : Tree → ℕ → List ℕ
edge_line t n = edge_by t n (number_at t.parent n) (number_at t.parent_port n) (number_at t.own_port n)

-- the lines of the boxes of the nodes below this one
unfoldable pub box_lines : List NodeRow → ℕ → List ℕ
box_lines rows zero = []
box_lines rows (suc n) = box_lines rows n ++ box_line n (slice_get rows n)

-- the lines of the cables of the nodes below this one
unfoldable pub edge_lines : Tree → ℕ → List ℕ
edge_lines t zero = []
edge_lines t (suc n) = edge_lines t n ++ edge_line t n

-- the graph of a tree
abbrev pub graph_text : Tree → List NodeRow → List ℕ
graph_text t rows = codes "graph bus {" ++ 10 ∷ [] ++ codes "  node [shape=box];" ++ 10 ∷ [] ++ box_lines rows t.count ++ edge_lines t t.count ++ codes "}" ++ 10 ∷ []
