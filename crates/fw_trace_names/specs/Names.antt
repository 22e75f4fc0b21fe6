-- Names in place of numbers: those that a script gives its devices.
use Rattle.std.specs.Prelude.{ℕ, ◌==◌, List, [], ◌∷◌, ◌++◌, codes, decimal, slice_get, map, Option, Some, None, if◌then◌else◌}
use Rattle.fw_async_fields.specs.NodeIds.{number_of}
use Rattle.fw_script_command.specs.declared.command.Command.{Command}
use Rattle.fw_script_command.specs.declared.command.Command.TheVariants.{Device}
use Rattle.fw_log_entry.specs.declared.nodes.NodeRow.{NodeRow}
use Rattle.fw_text.specs.Texts.{named}

-- the names of the devices in order of declaration, and the device that each node is since the latest bus reset
pub record Naming : Type 0 where
  pub names : List (List ℕ)
  pub nodes : List ℕ

-- before the first line
abbrev pub nameless : Naming
nameless = record { names = []; nodes = [] }

-- a device more is declared
abbrev pub with_declared : Command → List (List ℕ) → List (List ℕ)
with_declared (Device name kind ports speed) names = names ++ name ∷ []
with_declared c names = names

-- the devices of the nodes
abbrev pub devices_of : List NodeRow → List ℕ
devices_of rows = map (λ r. r.device) rows

-- the name of a device
unfoldable pub device_text : Naming → ℕ → List ℕ
device_text n device = named (slice_get n.names device) (codes "device") device

-- the name of the device that a node is, or the node's number
unfoldable pub node_or : Naming → ℕ → Option ℕ → List ℕ
node_or n number None = codes "node " ++ decimal number
node_or n number (Some device) = device_text n device

-- a node by its number
unfoldable pub node_text : Naming → ℕ → List ℕ
node_text n number = node_or n number (slice_get n.nodes number)

-- a node by its ID
abbrev pub id_text : Naming → ℕ → List ℕ
id_text n id = node_text n (number_of id)

-- the node in BUS_MANAGER_ID: 63 is none (IEEE 1394-1995, 8.3.2.3.6)
unfoldable pub holder_text : Naming → ℕ → List ℕ
holder_text n number = if number == 63 then codes "none" else node_text n number

-- a device after a space
abbrev pub blank_device : Naming → ℕ → List ℕ
blank_device n device = codes " " ++ device_text n device
