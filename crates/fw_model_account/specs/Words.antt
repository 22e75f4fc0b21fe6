-- The registers of an account, and where they stand.
use Rattle.fw_csr.specs.declared.offset.TheConstants.{REGISTER_SPACE}
use Rattle.fw_csr.specs.declared.low_offset.TheConstants.{BANDWIDTH_AVAILABLE, CHANNELS_AVAILABLE_HI, CHANNELS_AVAILABLE_LO, OPCR, IPCR}
use Rattle.fw_terms.specs.declared.plug.PlugAt.{PlugAt}
use Rattle.fw_log_entry.specs.declared.entry.ResetEntry.{ResetEntry}
use Rattle.fw_log_entry.specs.declared.nodes.NodeRow.{NodeRow}
use Rattle.std.specs.Prelude.{ℕ, ◌+◌, ◌-◌, ◌*◌, ◌/◌, ◌%◌, ◌^◌, ◌==◌, nat_le, nat_lt, Bool, false, ◌&&◌, if◌then◌else◌, Option, Some, None, length, slice_get, option_map}
use Rattle.std.specs.Option.{option_or}
use Rattle.fw_terms.specs.Tables.{sum_to, at_plug}
use Rattle.fw_model_account.specs.Account.{Account, is_open, is_there, counter, remainder}
use Rattle.fw_log_entry.specs.Network.{first_id, row_of_id, node_of_device}
use Rattle.fw_plug.specs.Words.{OutFields, out_word, InFields, in_word, flag}

-- the resource manager's registers, if base is the first channel of CHANNELS_AVAILABLE_HI, 0, or LO, 32; and the
-- plug control registers
pub data Register : Type 0 where
  BandwidthAvailable : Register
  ChannelsAvailable : (base : ℕ) → Register
  OutputPlug : (plug : PlugAt) → Register
  InputPlug : (plug : PlugAt) → Register

-- ---- what a register holds

-- the fields of an output plug's register (IEC 61883-1, oPCR)
abbrev pub fields_at : Account → PlugAt → OutFields
fields_at l p = record { broadcast = is_there (l.outputs p).broadcast; counter = counter (l.outputs p); settings = l.settings p }

-- the fields of an input plug's register (IEC 61883-1, iPCR)
abbrev pub input_fields_at : Account → PlugAt → InFields
input_fields_at l p = record { broadcast = is_there (l.inputs p).broadcast; counter = counter (l.inputs p); channel = l.input_channel p }

-- the word whose bit i is 1 exactly if open_at i (summed from the lowest bit on)
abbrev pub bits_word : (ℕ → Bool) → ℕ
bits_word open_at = sum_to 32 (λ i. flag (open_at (31 - i)) * 2 ^ i)

-- CHANNELS_AVAILABLE: bit i, of the half that begins with this channel, is 1 exactly if channel base + i is open
-- (IEEE 1394-1995, CHANNELS_AVAILABLE)
abbrev pub channel_word : Account → ℕ → ℕ
channel_word l base = bits_word (λ i. is_open l.withheld l.allocations (base + i))

-- the word of a register
abbrev pub word_of : Account → Register → ℕ
word_of l BandwidthAvailable = remainder l
word_of l (ChannelsAvailable base) = channel_word l base
word_of l (OutputPlug p) = out_word (fields_at l p)
word_of l (InputPlug p) = in_word (input_fields_at l p)

-- ---- where it stands

-- the number of the plug whose register stands at an offset, if the first of the 31 stands at another
abbrev pub plug_number : ℕ → ℕ → Option ℕ
plug_number first offset = if nat_le first offset && nat_lt offset (first + 124) && ((offset - first) % 4 == 0) then Some ((offset - first) / 4) else None

-- the offset of oPCR[0]
abbrev pub first_output : ℕ
first_output = OPCR

-- the offset of iPCR[0]
abbrev pub first_input : ℕ
first_input = IPCR

-- the resource manager's register at an offset
abbrev pub manager_register : ℕ → Option Register
manager_register offset =
    if offset == BANDWIDTH_AVAILABLE then Some BandwidthAvailable
    else if offset == CHANNELS_AVAILABLE_HI then Some (ChannelsAvailable 0)
    else if offset == CHANNELS_AVAILABLE_LO then Some (ChannelsAvailable 32)
    else None

-- the register of output plug k, if the node has it
abbrev pub output_register : NodeRow → Option ℕ → Option Register
output_register row None = None
output_register row (Some k) = if nat_lt k row.outs then Some (OutputPlug (at_plug row.device k)) else None

-- the register of input plug k, if the node has it
abbrev pub input_register : NodeRow → Option ℕ → Option Register
input_register row None = None
input_register row (Some k) = if nat_lt k row.ins then Some (InputPlug (at_plug row.device k)) else None

-- the plug register that stands at an offset of a node
abbrev pub plug_register : Option NodeRow → ℕ → Option Register
plug_register None offset = None
plug_register (Some row) offset = option_or (output_register row (plug_number first_output offset)) (input_register row (plug_number first_input offset))

-- node n is the one
abbrev pub is_node : ℕ → Option ℕ → Bool
is_node n None = false
is_node n (Some m) = m == n

-- the node that a device is
abbrev pub node_of : Option ResetEntry → ℕ → ℕ
node_of None d = 0
node_of (Some r) d = node_of_device r.nodes d

-- the node ID of the node with this number, if there are so many nodes
abbrev pub id_below : ℕ → ℕ → Option ℕ
id_below count n = if nat_lt n count then Some (first_id + n) else None

-- the node ID of a device, if it is a node
abbrev pub id_in : Option ResetEntry → ℕ → Option ℕ
id_in None d = None
id_in (Some r) d = id_below (length r.nodes) (node_of_device r.nodes d)

-- the register of the account that stands at an offset of node n
abbrev pub register_at : Option ResetEntry → ℕ → ℕ → Option Register
register_at None n offset = None
register_at (Some r) n offset = option_or (if is_node n r.manager then manager_register offset else None) (plug_register (slice_get r.nodes n) offset)

-- its word
abbrev pub word_at : Account → ℕ → ℕ → Option ℕ
word_at l n offset = option_map (word_of l) (register_at l.latest n offset)

-- the word that stands at an offset of a device
abbrev pub word_of_device : Account → ℕ → ℕ → Option ℕ
word_of_device l d offset = word_at l (node_of l.latest d) offset

-- ---- by node ID and address

-- offsets count from FFFF F000 0000 (IEEE 1394-1995, initial register space)
abbrev pub first_address : ℕ
first_address = REGISTER_SPACE

-- the register that a node ID and an address name
abbrev pub register_of : Option ResetEntry → ℕ → ℕ → Option Register
register_of latest id address =
    if nat_le first_id id && nat_le first_address address then register_at latest (id - first_id) (address - first_address) else None

-- the output plug whose offset this is, at a node
abbrev pub output_of : Option NodeRow → ℕ → Option PlugAt
output_of None offset = None
output_of (Some row) offset = option_map (at_plug row.device) (plug_number first_output offset)

-- the output plug whose offset is addressed, at a node of the reset entry, also if the node has no such plug
abbrev pub output_addressed : Option ResetEntry → ℕ → ℕ → Option PlugAt
output_addressed latest id address = if nat_le first_address address then output_of (row_of_id latest id) (address - first_address) else None
