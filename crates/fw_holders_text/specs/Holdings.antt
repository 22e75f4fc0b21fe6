-- What is held with a channel, as text.
use Rattle.std.specs.Prelude.{ℕ, ◌==◌, List, [], ◌++◌, codes, decimal, if◌then◌else◌}
use Rattle.fw_log_entry.specs.declared.nodes.NodeRow.{NodeRow}
use Rattle.fw_holders_text.specs.declared.holding.How.{How}
use Rattle.fw_holders_text.specs.declared.holding.How.TheVariants.{Pending as IsPending, Connected as IsConnected, Orphaned as IsOrphaned, Continues, Reclaimable}
use Rattle.fw_holders_text.specs.declared.holding.Holding.{Holding}
use Rattle.fw_holders_text.specs.Names.{who}

-- how it is held, if it is not connected
unfoldable pub how_text : How → List ℕ
how_text (IsPending c) = codes " pending"
how_text IsConnected = []
how_text IsOrphaned = codes " orphaned"
how_text Continues = codes " continues"
how_text Reclaimable = codes " reclaimable"

-- the device that has it: its controller, or else that of its plug
abbrev pub device_of : Holding → ℕ
device_of h = elim h.how [ IsPending c ↦ c | IsConnected ↦ h.plug.device | IsOrphaned ↦ h.plug.device | Continues ↦ h.plug.device | Reclaimable ↦ h.plug.device ]

-- units that are held with a channel
unfoldable pub units_text : ℕ → List ℕ
units_text units = if units == 0 then [] else codes " " ++ decimal units

-- a channel that is held
unfoldable pub holding_text : List NodeRow → ℕ → Holding → List ℕ
holding_text nodes ch h = decimal ch ++ codes ":" ++ who nodes (device_of h) ++ units_text h.units ++ how_text h.how
