-- What is told of a word that a register shows is one line.
use Rattle.fw_explore_laws.proofs.Common.{ℕ, zero, suc, ◌≡◌, ◌+◌, ◌==◌, List, [], ◌∷◌, true, codes, refl, list_all, and_parts}
use Rattle.std.proofs.Common.{flat_map}
use Rattle.fw_log_entry.specs.declared.entry.ShownEntry.{ShownEntry}
use Rattle.fw_log_explain.specs.Lines.{at_text, shown_device, shown_place, shown_text}
use Rattle.fw_log_registers.specs.Words.{Field, channel_text, fields_of, first_channels, inverted, is_row, place_text, register_name}
use Rattle.fw_log_registers.specs.Words.{taken_text, told_field, told_register, told_text, value_text, word_text}
use Rattle.fw_log_registers.specs.declared.place.RegisterPlace.{RegisterPlace}
use Rattle.fw_log_registers.specs.declared.place.RegisterPlace.TheVariants.{Named, Unnamed}
use Rattle.fw_log_registers.specs.declared.register.NamedRegister.{NamedRegister}
use Rattle.fw_log_registers.specs.declared.register.NamedRegister.TheVariants.{
  StateClear,
  StateSet,
  NodeIds,
  ResetStart,
  SplitTimeoutHi,
  SplitTimeoutLo,
  CycleTime,
  BusTime,
  BusyTimeout,
  PriorityBudget,
}
use Rattle.fw_log_registers.specs.declared.register.NamedRegister.TheVariants.{BusManagerId, BandwidthAvailable, ChannelsAvailableHi, ChannelsAvailableLo}
use Rattle.fw_log_registers.specs.declared.register.NamedRegister.TheVariants.{MaintUtility, BroadcastChannel, BusName, BusOptions}
use Rattle.fw_log_registers.specs.declared.register.NamedRegister.TheVariants.{
  Eui64Hi,
  Eui64Lo,
  ConfigRom,
  OutputMasterPlug,
  OutputPlug,
  InputMasterPlug,
  InputPlug,
  FcpCommand,
  FcpResponse,
  TopologyMap,
}
use Rattle.fw_log_registers.specs.declared.shown.Shown.{Shown}
use Rattle.fw_log_registers.specs.declared.shown.Shown.TheVariants.{Decimal, Company, Rate, Node, Counted}
use Rattle.fw_log_registers.specs.declared.told.RegisterValue.TheVariants.{Word}
use Rattle.fw_log_registers.specs.declared.shown.TheConstants.{RATES}
use Rattle.fw_text.specs.Names.{name_in, rows}
use Rattle.fw_words.specs.Quadlet.{field}
use Rattle.fw_explore_laws.proofs.Lines.{is_one_line}
use Rattle.fw_explore_laws.proofs.Texts.{AreOneLine, IsOneLine, hex_one, if_one, lit, more, named_one, names_one, none, number, quadlet_one}

register_one : (r : NamedRegister) → IsOneLine (register_name r)
register_one StateClear = lit (codes "STATE_CLEAR") refl
register_one StateSet = lit (codes "STATE_SET") refl
register_one NodeIds = lit (codes "NODE_IDS") refl
register_one ResetStart = lit (codes "RESET_START") refl
register_one SplitTimeoutHi = lit (codes "SPLIT_TIMEOUT_HI") refl
register_one SplitTimeoutLo = lit (codes "SPLIT_TIMEOUT_LO") refl
register_one CycleTime = lit (codes "CYCLE_TIME") refl
register_one BusTime = lit (codes "BUS_TIME") refl
register_one BusyTimeout = lit (codes "BUSY_TIMEOUT") refl
register_one PriorityBudget = lit (codes "PRIORITY_BUDGET") refl
register_one BusManagerId = lit (codes "BUS_MANAGER_ID") refl
register_one BandwidthAvailable = lit (codes "BANDWIDTH_AVAILABLE") refl
register_one ChannelsAvailableHi = lit (codes "CHANNELS_AVAILABLE_HI") refl
register_one ChannelsAvailableLo = lit (codes "CHANNELS_AVAILABLE_LO") refl
register_one MaintUtility = lit (codes "MAINT_UTILITY") refl
register_one BroadcastChannel = lit (codes "BROADCAST_CHANNEL") refl
register_one BusName = lit (codes "bus_name") refl
register_one BusOptions = lit (codes "bus_options") refl
register_one Eui64Hi = lit (codes "EUI_64_HI") refl
register_one Eui64Lo = lit (codes "EUI_64_LO") refl
register_one ConfigRom = lit (codes "CONFIG_ROM") refl
register_one OutputMasterPlug = lit (codes "oMPR") refl
register_one OutputPlug = lit (codes "oPCR") refl
register_one InputMasterPlug = lit (codes "iMPR") refl
register_one InputPlug = lit (codes "iPCR") refl
register_one FcpCommand = lit (codes "FCP_COMMAND") refl
register_one FcpResponse = lit (codes "FCP_RESPONSE") refl
register_one TopologyMap = lit (codes "TOPOLOGY_MAP") refl

place_one : (p : RegisterPlace) → IsOneLine (place_text p)
unfolding place_text
place_one (Named register index) = more (register_one register) (if_one (is_row register) (more (more (lit (codes "[") refl) (number index)) (lit (codes "]") refl)) none)
place_one (Unnamed offset) = more (lit (codes "offset ") refl) (hex_one 12 offset)

rate_one : (rate : ℕ) → AreOneLine (name_in (rows RATES) rate)
rate_one rate = names_one (rows RATES) rate refl

value_one : (shown : Shown) (value : ℕ) → IsOneLine (value_text shown value)
value_one Decimal value = number value
value_one Company value = hex_one 6 value
value_one Rate value = named_one value (rate_one value) (lit (codes "rate") refl)
value_one Node value = if_one (value == 63) (lit (codes "none") refl) (more (lit (codes "node ") refl) (number value))
value_one (Counted amount) value = number value

-- ---- fields

field_one : (word : ℕ) (f : Field) → is_one_line f.label ≡ true → IsOneLine (told_field (Word word) f)
unfolding told_field
field_one word f label = more (more (more (lit (codes ", ") refl) (lit f.label label)) (lit (codes " ") refl)) (value_one f.shown (field word f.first f.last))

fields_one : (word : ℕ) (fields : List Field) → list_all (λ (f : Field). is_one_line f.label) fields ≡ true → IsOneLine (flat_map (told_field (Word word)) fields)
fields_one word [] all = none
fields_one word (f ∷ fields) all =
    let parts = and_parts (is_one_line f.label) (list_all (λ (g : Field). is_one_line g.label) fields) all in
    more (field_one word f parts.0) (fields_one word fields parts.1)

-- ---- channels

channel_one : (first word bit : ℕ) → IsOneLine (channel_text first word bit)
channel_one first word bit = if_one (field word bit bit == 1) (more (lit (codes " ") refl) (number (first + bit))) none

channels_one : (first word n : ℕ) → IsOneLine (first_channels first word n)
unfolding first_channels
channels_one first word zero = none
channels_one first word (suc n) = more (channels_one first word n) (channel_one first word n)

taken_one : (first word : ℕ) → IsOneLine (taken_text first word)
taken_one first word = if_one (word == 0) (lit (codes " none") refl) (channels_one first word 32)

-- ---- words

told_one : (word : ℕ) (r : NamedRegister) → IsOneLine (told_register (Word word) r)
told_one word StateClear = fields_one word (fields_of StateClear) refl
told_one word StateSet = fields_one word (fields_of StateSet) refl
told_one word NodeIds = fields_one word (fields_of NodeIds) refl
told_one word ResetStart = fields_one word (fields_of ResetStart) refl
told_one word SplitTimeoutHi = fields_one word (fields_of SplitTimeoutHi) refl
told_one word SplitTimeoutLo = fields_one word (fields_of SplitTimeoutLo) refl
told_one word CycleTime = fields_one word (fields_of CycleTime) refl
told_one word BusTime = fields_one word (fields_of BusTime) refl
told_one word BusyTimeout = fields_one word (fields_of BusyTimeout) refl
told_one word PriorityBudget = fields_one word (fields_of PriorityBudget) refl
told_one word BusManagerId = fields_one word (fields_of BusManagerId) refl
told_one word BandwidthAvailable = fields_one word (fields_of BandwidthAvailable) refl
told_one word ChannelsAvailableHi = more (lit (codes ", channels taken") refl) (taken_one 0 (inverted word))
told_one word ChannelsAvailableLo = more (lit (codes ", channels taken") refl) (taken_one 32 (inverted word))
told_one word MaintUtility = fields_one word (fields_of MaintUtility) refl
told_one word BroadcastChannel = fields_one word (fields_of BroadcastChannel) refl
told_one word BusName = fields_one word (fields_of BusName) refl
told_one word BusOptions = fields_one word (fields_of BusOptions) refl
told_one word Eui64Hi = fields_one word (fields_of Eui64Hi) refl
told_one word Eui64Lo = fields_one word (fields_of Eui64Lo) refl
told_one word ConfigRom = fields_one word (fields_of ConfigRom) refl
told_one word OutputMasterPlug = fields_one word (fields_of OutputMasterPlug) refl
told_one word OutputPlug = fields_one word (fields_of OutputPlug) refl
told_one word InputMasterPlug = fields_one word (fields_of InputMasterPlug) refl
told_one word InputPlug = fields_one word (fields_of InputPlug) refl
told_one word FcpCommand = fields_one word (fields_of FcpCommand) refl
told_one word FcpResponse = fields_one word (fields_of FcpResponse) refl
told_one word TopologyMap = fields_one word (fields_of TopologyMap) refl

word_one : (p : RegisterPlace) (word : ℕ) → IsOneLine (word_text p word)
unfolding word_text told_text
word_one (Named register index) word = more (quadlet_one word) (told_one word register)
word_one (Unnamed offset) word = more (quadlet_one word) none

pub shown_one : (s : ShownEntry) → IsOneLine (shown_text s)
unfolding shown_text shown_device at_text
shown_one s =
    more (more (more (lit (codes "shown device ") refl) (number s.device)) (more (lit (codes " ") refl) (place_one (shown_place s)))) (word_one (shown_place s) s.word)
