-- Small texts: devices, plugs and counts (own).
use Rattle.std.specs.Prelude.{ℕ, ◌-◌, ◌==◌, List, [], ◌++◌, length, replicate, codes, decimal, Option, Some, None, slice_get, if◌then◌else◌}
use Rattle.std.specs.Option.{option_map}
use Rattle.fw_terms.specs.declared.plug.PlugAt.{PlugAt}
use Rattle.fw_log_entry.specs.declared.entry.ResetEntry.{ResetEntry}
use Rattle.fw_log_entry.specs.declared.nodes.NodeRow.{NodeRow}
use Rattle.fw_log_entry.specs.Network.{node_of_device}
use Rattle.fw_log_names.specs.Names.{device_name}
use Rattle.fw_text.specs.Texts.{named}
use Rattle.fw_holders_text.specs.declared.names.Side.{Side}
use Rattle.fw_holders_text.specs.declared.names.Side.TheVariants.{Output, Input}

-- ---- columns

-- so many spaces that a text with them has a number of characters, or none if it has more
abbrev pub blanks : ℕ → List ℕ → List ℕ
blanks width text = replicate (width - length text) 32

-- a text at the right end of a column
unfoldable pub right : ℕ → List ℕ → List ℕ
right width text = blanks width text ++ text

-- a text at the left end of a column
unfoldable pub left : ℕ → List ℕ → List ℕ
left width text = text ++ blanks width text

-- ---- counts

-- how many there are of something
unfoldable pub count_text : ℕ → List ℕ → List ℕ
count_text n noun = decimal n ++ codes " " ++ noun ++ (if n == 1 then [] else codes "s")

-- ---- devices and plugs

-- the nodes of the latest bus reset
abbrev pub nodes_of : Option ResetEntry → List NodeRow
nodes_of None = []
nodes_of (Some r) = r.nodes

-- the row of a device, if it is a node
abbrev pub row_of_device : List NodeRow → ℕ → Option NodeRow
row_of_device nodes d = slice_get nodes (node_of_device nodes d)

-- its kind
abbrev pub kind_of_device : List NodeRow → ℕ → Option ℕ
kind_of_device nodes d = option_map (λ (row : NodeRow). row.kind) (row_of_device nodes d)

-- what a device is, by its kind
unfoldable pub kind_text : Option ℕ → List ℕ
kind_text None = codes "device"
kind_text (Some kind) = named (device_name kind) (codes "kind") kind

-- a device: what it is, and its number
unfoldable pub who : List NodeRow → ℕ → List ℕ
who nodes d = kind_text (kind_of_device nodes d) ++ codes " " ++ decimal d

-- the name of a plug's register
unfoldable pub side_text : Side → List ℕ
side_text Output = codes " oPCR["
side_text Input = codes " iPCR["

-- a plug: its device, and its register
unfoldable pub plug_text : List NodeRow → Side → PlugAt → List ℕ
plug_text nodes side p = who nodes p.device ++ side_text side ++ decimal p.plug ++ codes "]"
