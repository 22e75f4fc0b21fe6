-- The registers that are watched: where they stand, and how they are told.
use Rattle.std.specs.Prelude.{ℕ, ◌+◌, ◌-◌, ◌*◌, ◌/◌, ◌%◌, ◌==◌, ◌&&◌, nat_le, nat_lt, Bool, true, false, List, ◌++◌, codes, decimal, Option, Some, None, if◌then◌else◌}
use Rattle.fw_csr.specs.declared.offset.TheConstants.{BANDWIDTH_AVAILABLE, CHANNELS_AVAILABLE_HI, CHANNELS_AVAILABLE_LO, OPCR, IPCR}
use Rattle.fw_log_registers.specs.declared.register.NamedRegister.TheVariants.{BandwidthAvailable, ChannelsAvailableHi, ChannelsAvailableLo, OutputPlug, InputPlug}
use Rattle.fw_log_registers.specs.declared.place.RegisterPlace.{RegisterPlace}
use Rattle.fw_log_registers.specs.declared.place.RegisterPlace.TheVariants.{Named}
use Rattle.fw_log_registers.specs.Words.{place_text}
use Rattle.fw_watch_remarks.specs.declared.register.WatchedRegister.{WatchedRegister}
use Rattle.fw_watch_remarks.specs.declared.register.WatchedRegister.TheVariants.{Bandwidth, ChannelsHigh, ChannelsLow, Output, Input}
use Rattle.fw_watch_remarks.specs.declared.register.At.{At}

-- the number of the plug whose register stands at an offset, if the first of the 31 stands at another
unfoldable pub plug_number : ℕ → ℕ → Option ℕ
plug_number first offset =
    if nat_le first offset && nat_lt offset (first + 124) && ((offset - first) % 4 == 0) then Some ((offset - first) / 4) else None

-- an oPCR of this number, or else another register
abbrev pub output_or : Option ℕ → Option WatchedRegister → Option WatchedRegister
output_or None rest = rest
output_or (Some number) rest = Some (Output number)

-- an iPCR of this number
abbrev pub input_of : Option ℕ → Option WatchedRegister
input_of None = None
input_of (Some number) = Some (Input number)

-- the plug whose register stands at an offset (IEC 61883-1, plug control registers)
abbrev pub plug_at : ℕ → Option WatchedRegister
plug_at offset = output_or (plug_number OPCR offset) (input_of (plug_number IPCR offset))

-- the watched register that stands at an offset (IEEE 1394-1995, 8.3.2.3; IEC 61883-1, 7)
unfoldable pub register_at : ℕ → Option WatchedRegister
register_at offset =
    if offset == BANDWIDTH_AVAILABLE then Some Bandwidth
    else if offset == CHANNELS_AVAILABLE_HI then Some ChannelsHigh
    else if offset == CHANNELS_AVAILABLE_LO then Some ChannelsLow
    else plug_at offset

-- it is one of the resource manager's three
abbrev pub is_managed : WatchedRegister → Bool
is_managed Bandwidth = true
is_managed ChannelsHigh = true
is_managed ChannelsLow = true
is_managed (Output number) = false
is_managed (Input number) = false

-- it is an oPCR
abbrev pub is_output : WatchedRegister → Bool
is_output (Output number) = true
is_output _ = false

-- the plugs of a node, its 31 outputs first: if this one is among them
abbrev pub plug_index : ℕ → WatchedRegister → ℕ
plug_index node (Output number) = node * 62 + number
plug_index node (Input number) = node * 62 + (31 + number)
plug_index node _ = 0

-- its name
abbrev pub place_of : WatchedRegister → RegisterPlace
place_of Bandwidth = Named BandwidthAvailable 0
place_of ChannelsHigh = Named ChannelsAvailableHi 0
place_of ChannelsLow = Named ChannelsAvailableLo 0
place_of (Output number) = Named OutputPlug number
place_of (Input number) = Named InputPlug number

-- a register by its name and its node
unfoldable pub at_text : At → List ℕ
at_text at = place_text (place_of at.register) ++ codes " of node " ++ decimal at.node
