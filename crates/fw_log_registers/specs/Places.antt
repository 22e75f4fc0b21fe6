-- Which register stands at an offset (IEEE 1212; IEEE 1394-1995, 8.3.2; IEC 61883-1, 7 and 9).
use Rattle.std.specs.Prelude.{ℕ, ◌+◌, ◌-◌, ◌*◌, ◌/◌, ◌%◌, ◌==◌, ◌&&◌, nat_le, nat_lt, List, [], ◌∷◌, Option, Some, None, if◌then◌else◌}
use Rattle.fw_csr.specs.declared.offset.TheConstants.{REGISTER_SPACE}
use Rattle.fw_log_registers.specs.declared.register.NamedRegister.{NamedRegister}
use Rattle.fw_log_registers.specs.declared.register.NamedRegister.TheVariants.{StateClear, StateSet, NodeIds, ResetStart, SplitTimeoutHi, SplitTimeoutLo, CycleTime, BusTime, BusyTimeout, PriorityBudget}
use Rattle.fw_log_registers.specs.declared.register.NamedRegister.TheVariants.{BusManagerId, BandwidthAvailable, ChannelsAvailableHi, ChannelsAvailableLo}
use Rattle.fw_log_registers.specs.declared.register.NamedRegister.TheVariants.{MaintUtility, BroadcastChannel, BusName, BusOptions}
use Rattle.fw_log_registers.specs.declared.register.NamedRegister.TheVariants.{Eui64Hi, Eui64Lo, ConfigRom, OutputMasterPlug, OutputPlug, InputMasterPlug, InputPlug, FcpCommand, FcpResponse, TopologyMap}
use Rattle.fw_log_registers.specs.declared.place.RegisterPlace.{RegisterPlace}
use Rattle.fw_log_registers.specs.declared.place.RegisterPlace.TheVariants.{Named, Unnamed}

-- a row of the table: where it begins in the register space, how many quadlets it has, and what they are
pub record Row : Type 0 where
  pub first : ℕ
  pub quadlets : ℕ
  pub register : NamedRegister

-- a row: a register from its first offset on
abbrev pub row : ℕ → ℕ → NamedRegister → Row
row first quadlets register = record { first = first; quadlets = quadlets; register = register }

-- the registers of one quadlet that each node may have
abbrev pub core_rows : List Row
core_rows = row 0x000 1 StateClear ∷ row 0x004 1 StateSet ∷ row 0x008 1 NodeIds ∷ row 0x00C 1 ResetStart
    ∷ row 0x018 1 SplitTimeoutHi ∷ row 0x01C 1 SplitTimeoutLo ∷ []

-- those of the serial bus
abbrev pub bus_rows : List Row
bus_rows = row 0x200 1 CycleTime ∷ row 0x204 1 BusTime ∷ row 0x210 1 BusyTimeout ∷ row 0x218 1 PriorityBudget
    ∷ row 0x21C 1 BusManagerId ∷ row 0x220 1 BandwidthAvailable ∷ row 0x224 1 ChannelsAvailableHi ∷ row 0x228 1 ChannelsAvailableLo
    ∷ row 0x230 1 MaintUtility ∷ row 0x234 1 BroadcastChannel ∷ []

-- those of the bus information block, of plugs and of frames
abbrev pub unit_rows : List Row
unit_rows = row 0x404 1 BusName ∷ row 0x408 1 BusOptions ∷ row 0x40C 1 Eui64Hi ∷ row 0x410 1 Eui64Lo
    ∷ row 0x900 1 OutputMasterPlug ∷ row 0x980 1 InputMasterPlug ∷ row 0xB00 1 FcpCommand ∷ row 0xD00 1 FcpResponse ∷ []

-- the rows of more than one quadlet; those of the configuration ROM that have a row of their own come before
abbrev pub long_rows : List Row
long_rows = row 0x400 256 ConfigRom ∷ row 0x904 31 OutputPlug ∷ row 0x984 31 InputPlug ∷ row 0x1000 256 TopologyMap ∷ []

-- which of so many quadlets from a start on begins at an offset
abbrev pub index_in : ℕ → ℕ → ℕ → Option ℕ
index_in start quadlets offset =
    if nat_le start offset && nat_lt offset (start + 4 * quadlets) && ((offset - start) % 4 == 0) then Some ((offset - start) / 4) else None

-- which quadlet of a row, whose place is counted from FFFF F000 0000 on, begins at an offset
abbrev pub index_of : Row → ℕ → Option ℕ
index_of r offset = index_in (REGISTER_SPACE + r.first) r.quadlets offset

-- the register with that index, or else another place
abbrev pub named_or : NamedRegister → Option ℕ → RegisterPlace → RegisterPlace
named_or register None rest = rest
named_or register (Some index) rest = Named register index

-- the first row that has the offset, or else another place
abbrev pub place_among : List Row → ℕ → RegisterPlace → RegisterPlace
place_among [] offset rest = rest
place_among (r ∷ rs) offset rest = named_or r.register (index_of r offset) (place_among rs offset rest)

-- a register of one quadlet, or else another place
abbrev pub single_or : Option NamedRegister → RegisterPlace → RegisterPlace
single_or None rest = rest
single_or (Some register) rest = Named register 0

-- what stands at an offset
unfoldable pub place_of : ℕ → RegisterPlace
place_of offset = place_among core_rows offset (place_among bus_rows offset (place_among unit_rows offset (place_among long_rows offset (Unnamed offset))))
