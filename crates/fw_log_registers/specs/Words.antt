-- What the word of a register says, and what a swap of one word for another changes (own words over the fields of the standards).
use Rattle.std.specs.Prelude.{ℕ, zero, suc, ◌+◌, ◌-◌, ◌^◌, ◌==◌, nat_le, nat_lt, ◌&&◌, bit_and, List, [], ◌++◌, Bool, true, false, flat_map, map, codes, decimal, if◌then◌else◌}
use Rattle.fw_words.specs.Quadlet.{field}
use Rattle.fw_text.specs.Texts.{hex, named, quadlet_text}
use Rattle.fw_text.specs.Names.{name_in, rows}
use Rattle.fw_log_registers.specs.declared.fields.TheConstants.{BANDWIDTH, BUS_MANAGER, OUTPUT_PLUG, INPUT_PLUG, OUTPUT_MASTER, INPUT_MASTER, NODE_IDS, TIMEOUT_HI, TIMEOUT_LO, CYCLE_TIME, BUS_OPTIONS, EUI64_HI}
use Rattle.fw_log_registers.specs.declared.shown.TheConstants.{RATES}
use Rattle.fw_log_registers.specs.declared.register.NamedRegister.{NamedRegister}
use Rattle.fw_log_registers.specs.declared.register.NamedRegister.TheVariants.{StateClear, StateSet, NodeIds, ResetStart, SplitTimeoutHi, SplitTimeoutLo, CycleTime, BusTime, BusyTimeout, PriorityBudget}
use Rattle.fw_log_registers.specs.declared.register.NamedRegister.TheVariants.{BusManagerId, BandwidthAvailable, ChannelsAvailableHi, ChannelsAvailableLo}
use Rattle.fw_log_registers.specs.declared.register.NamedRegister.TheVariants.{MaintUtility, BroadcastChannel, BusName, BusOptions}
use Rattle.fw_log_registers.specs.declared.register.NamedRegister.TheVariants.{Eui64Hi, Eui64Lo, ConfigRom, OutputMasterPlug, OutputPlug, InputMasterPlug, InputPlug, FcpCommand, FcpResponse, TopologyMap}
use Rattle.fw_log_registers.specs.declared.place.RegisterPlace.{RegisterPlace}
use Rattle.fw_log_registers.specs.declared.place.RegisterPlace.TheVariants.{Named, Unnamed}
use Rattle.fw_log_registers.specs.declared.shown.Amount.{Amount}
use Rattle.fw_log_registers.specs.declared.shown.Amount.TheVariants.{Units, BroadcastConnections, PointToPointConnections}
use Rattle.fw_log_registers.specs.declared.shown.Shown.{Shown}
use Rattle.fw_log_registers.specs.declared.shown.Shown.TheVariants.{Decimal, Company, Rate, Node, Counted}
use Rattle.fw_log_registers.specs.declared.told.RegisterValue.{RegisterValue}
use Rattle.fw_log_registers.specs.declared.told.RegisterValue.TheVariants.{Word, Swap}

-- the name of a register
abbrev pub register_name : NamedRegister → List ℕ
register_name StateClear = codes "STATE_CLEAR"
register_name StateSet = codes "STATE_SET"
register_name NodeIds = codes "NODE_IDS"
register_name ResetStart = codes "RESET_START"
register_name SplitTimeoutHi = codes "SPLIT_TIMEOUT_HI"
register_name SplitTimeoutLo = codes "SPLIT_TIMEOUT_LO"
register_name CycleTime = codes "CYCLE_TIME"
register_name BusTime = codes "BUS_TIME"
register_name BusyTimeout = codes "BUSY_TIMEOUT"
register_name PriorityBudget = codes "PRIORITY_BUDGET"
register_name BusManagerId = codes "BUS_MANAGER_ID"
register_name BandwidthAvailable = codes "BANDWIDTH_AVAILABLE"
register_name ChannelsAvailableHi = codes "CHANNELS_AVAILABLE_HI"
register_name ChannelsAvailableLo = codes "CHANNELS_AVAILABLE_LO"
register_name MaintUtility = codes "MAINT_UTILITY"
register_name BroadcastChannel = codes "BROADCAST_CHANNEL"
register_name BusName = codes "bus_name"
register_name BusOptions = codes "bus_options"
register_name Eui64Hi = codes "EUI_64_HI"
register_name Eui64Lo = codes "EUI_64_LO"
register_name ConfigRom = codes "CONFIG_ROM"
register_name OutputMasterPlug = codes "oMPR"
register_name OutputPlug = codes "oPCR"
register_name InputMasterPlug = codes "iMPR"
register_name InputPlug = codes "iPCR"
register_name FcpCommand = codes "FCP_COMMAND"
register_name FcpResponse = codes "FCP_RESPONSE"
register_name TopologyMap = codes "TOPOLOGY_MAP"

-- there is more than one of it
abbrev pub is_row : NamedRegister → Bool
is_row ConfigRom = true
is_row OutputPlug = true
is_row InputPlug = true
is_row TopologyMap = true
is_row _ = false

-- what stands at an offset: a register's name, with its index if there is more than one of it, or the offset's twelve digits
unfoldable pub place_text : RegisterPlace → List ℕ
place_text (Named register index) = register_name register ++ (if is_row register then codes "[" ++ decimal index ++ codes "]" else [])
place_text (Unnamed offset) = codes "offset " ++ hex 12 offset

-- the word for an amount that falls in a register
abbrev pub less : Amount → List ℕ
less Units = codes "takes"
less BroadcastConnections = codes "removes"
less PointToPointConnections = codes "removes"

-- the word for an amount that rises in a register
abbrev pub more : Amount → List ℕ
more Units = codes "gives back"
more BroadcastConnections = codes "adds"
more PointToPointConnections = codes "adds"

-- what an amount counts
abbrev pub noun : Amount → List ℕ
noun Units = codes "unit"
noun BroadcastConnections = codes "broadcast connection"
noun PointToPointConnections = codes "point-to-point connection"

-- a field of a word: its label, its first and last bit, and how its value is shown
pub record Field : Type 0 where
  pub label : List ℕ
  pub first : ℕ
  pub last : ℕ
  pub shown : Shown

-- a field of a register, from its first bit to its last
abbrev pub field_at : List ℕ → ℕ → ℕ → Shown → Field
field_at label first last shown = record { label = label; first = first; last = last; shown = shown }

-- its bits stand in order, within a quadlet
abbrev pub is_field : Field → Bool
is_field f = nat_le f.first f.last && nat_le f.last 31

-- the fields of a register, in the order in which they are told
abbrev pub fields_of : NamedRegister → List Field
fields_of BandwidthAvailable = map (λ f. field_at f.0.now f.1 f.2 f.3) BANDWIDTH
fields_of BusManagerId = map (λ f. field_at f.0.now f.1 f.2 f.3) BUS_MANAGER
fields_of OutputPlug = map (λ f. field_at f.0.now f.1 f.2 f.3) OUTPUT_PLUG
fields_of InputPlug = map (λ f. field_at f.0.now f.1 f.2 f.3) INPUT_PLUG
fields_of OutputMasterPlug = map (λ f. field_at f.0.now f.1 f.2 f.3) OUTPUT_MASTER
fields_of InputMasterPlug = map (λ f. field_at f.0.now f.1 f.2 f.3) INPUT_MASTER
fields_of NodeIds = map (λ f. field_at f.0.now f.1 f.2 f.3) NODE_IDS
fields_of SplitTimeoutHi = map (λ f. field_at f.0.now f.1 f.2 f.3) TIMEOUT_HI
fields_of SplitTimeoutLo = map (λ f. field_at f.0.now f.1 f.2 f.3) TIMEOUT_LO
fields_of CycleTime = map (λ f. field_at f.0.now f.1 f.2 f.3) CYCLE_TIME
fields_of BusOptions = map (λ f. field_at f.0.now f.1 f.2 f.3) BUS_OPTIONS
fields_of Eui64Hi = map (λ f. field_at f.0.now f.1 f.2 f.3) EUI64_HI
fields_of _ = []

-- the value of a field as it is shown
abbrev pub value_text : Shown → ℕ → List ℕ
value_text Decimal value = decimal value
value_text Company value = hex 6 value
value_text Rate value = named (name_in (rows RATES) value) (codes "rate") value
value_text Node value = if value == 63 then codes "none" else codes "node " ++ decimal value
value_text (Counted amount) value = decimal value

-- a field of a word: its label, and its value
abbrev pub field_text : List ℕ → Shown → ℕ → List ℕ
field_text label shown value = codes ", " ++ label ++ codes " " ++ value_text shown value

-- so much less or more of an amount
abbrev pub amount_text : List ℕ → List ℕ → ℕ → List ℕ
amount_text lead noun count = codes ", " ++ lead ++ codes " " ++ decimal count ++ codes " " ++ noun ++ (if count == 1 then [] else codes "s")

-- by how much a swap changes an amount
abbrev pub difference_text : Amount → ℕ → ℕ → List ℕ
difference_text amount old new =
    if nat_lt new old then amount_text (less amount) (noun amount) (old - new) else amount_text (more amount) (noun amount) (new - old)

-- a field whose value was changed: of an amount by how much, of another from what to what
abbrev pub change_text : List ℕ → Shown → ℕ → ℕ → List ℕ
change_text label (Counted amount) old new = difference_text amount old new
change_text label shown old new = codes ", " ++ label ++ codes " " ++ value_text shown old ++ codes " to " ++ value_text shown new

-- what is told of a field; a swap tells it only if its value differs
unfoldable pub told_field : RegisterValue → Field → List ℕ
told_field (Word word) f = field_text f.label f.shown (field word f.first f.last)
told_field (Swap old new) f =
    if field old f.first f.last == field new f.first f.last then []
    else change_text f.label f.shown (field old f.first f.last) (field new f.first f.last)

-- the channel at a bit of a set that begins with this channel, if the bit is 1
abbrev pub channel_text : ℕ → ℕ → ℕ → List ℕ
channel_text first word bit = if field word bit bit == 1 then codes " " ++ decimal (first + bit) else []

-- those at the first n bits
unfoldable pub first_channels : ℕ → ℕ → ℕ → List ℕ
first_channels first word zero = []
first_channels first word (suc n) = first_channels first word n ++ channel_text first word n

-- the channels of a set
abbrev pub channels_text : ℕ → ℕ → List ℕ
channels_text first word = first_channels first word 32

-- the bits that are 0
abbrev pub inverted : ℕ → ℕ
inverted word = 2 ^ 32 - 1 - word

-- the channels that a swap takes or gives back, if there are any
abbrev pub moved_text : List ℕ → ℕ → ℕ → List ℕ
moved_text lead first word = if word == 0 then [] else lead ++ channels_text first word

-- the channels that are taken, or that none is
abbrev pub taken_text : ℕ → ℕ → List ℕ
taken_text first word = if word == 0 then codes " none" else channels_text first word

-- what is told of a set of channels whose bits are 1 if they are free
abbrev pub told_channels : RegisterValue → ℕ → List ℕ
told_channels (Word word) first = codes ", channels taken" ++ taken_text first (inverted word)
told_channels (Swap old new) first =
    moved_text (codes ", takes channel") first (bit_and old (inverted new)) ++ moved_text (codes ", gives back channel") first (bit_and new (inverted old))

-- what is told of a register
abbrev pub told_register : RegisterValue → NamedRegister → List ℕ
told_register told ChannelsAvailableHi = told_channels told 0
told_register told ChannelsAvailableLo = told_channels told 32
told_register told register = flat_map (told_field told) (fields_of register)

-- what is told of what stands at an offset; each part begins with a comma and a space
unfoldable pub told_text : RegisterValue → RegisterPlace → List ℕ
told_text told (Named register index) = told_register told register
told_text told (Unnamed offset) = []

-- a word there: a space, its eight digits, and what it says
unfoldable pub word_text : RegisterPlace → ℕ → List ℕ
word_text place word = quadlet_text word ++ told_text (Word word) place
