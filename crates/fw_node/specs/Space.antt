-- The registers of a node by offset, and what a request at one of them is answered (IEEE 1394-1995, 8; IEC 61883-1, 7).
use Rattle.std.specs.Prelude.{ℕ, ◌+◌, ◌*◌, ◌==◌, ◌&&◌, nat_le, Bool, Option, Some, None, if◌then◌else◌}
use Rattle.std.specs.Option.{option_map}
use Rattle.fw_terms.specs.declared.device.DeviceKind.{DeviceKind}
use Rattle.fw_terms.specs.Devices.{has_unit, output_plugs_of, input_plugs_of}
use Rattle.fw_csr.specs.declared.offset.TheConstants.{NODE_IDS, SPLIT_TIMEOUT_HI, SPLIT_TIMEOUT_LO, CYCLE_TIME, BUS_MANAGER_ID, CHANNELS_AVAILABLE_LO, BUS_NAME, BUS_OPTIONS}
use Rattle.fw_csr.specs.declared.offset.TheConstants.{EUI_64_HI, EUI_64_LO, OMPR, OPCR, IPCR, LAST_PLUG_REGISTER, FCP_COMMAND, FCP_RESPONSE}
use Rattle.fw_csr.specs.declared.request.Request.{Request}
use Rattle.fw_csr.specs.declared.reply.Reply.{Reply}
use Rattle.fw_csr.specs.declared.register.RegisterAccess.{RegisterAccess}
use Rattle.fw_csr.specs.declared.register.RegisterAccess.TheVariants.{ReadOnly, WriteOnly}
use Rattle.fw_csr.specs.Requests.{offset_of}
use Rattle.fw_csr.specs.Replies.{reply}
use Rattle.fw_csr.specs.Manager.{ManagerWords, after_at}
use Rattle.fw_csr.specs.Manager
use Rattle.fw_plug.specs.Plugs
use Rattle.fw_plug.specs.Plugs.{PlugTable}
use Rattle.fw_node.specs.Contents.{node_ids, cycle_time, capabilities}

-- a node with a link, as requests see it
pub record Space : Type 0 where
  pub number : ℕ
  pub kind : DeviceKind
  pub device : ℕ
  pub rate : ℕ
  pub cycle : ℕ
  -- the words of its output and its input plugs, as many as its kind has
  pub output_word : ℕ → ℕ
  pub input_word : ℕ → ℕ
  -- if it is the isochronous resource manager, the words of the manager's registers
  pub manager : Option ManagerWords

-- the plug control registers of a node, as requests see them
abbrev pub plug_table : Space → PlugTable
plug_table s = record { rate = s.rate; outputs = output_plugs_of s.kind; inputs = input_plugs_of s.kind; output_word = s.output_word; input_word = s.input_word }

-- the registers of every node
abbrev pub core_register_at : Space → ℕ → Option RegisterAccess
core_register_at s offset =
    if offset == NODE_IDS then Some (ReadOnly (node_ids s.number))
    else if offset == SPLIT_TIMEOUT_HI then Some (ReadOnly 0)
    else if offset == SPLIT_TIMEOUT_LO then Some (ReadOnly 0x1900_0000)
    else if offset == CYCLE_TIME then Some (ReadOnly (cycle_time s.cycle))
    else if offset == BUS_NAME then Some (ReadOnly 0x3133_3934)
    else if offset == BUS_OPTIONS then Some (ReadOnly (capabilities s.kind))
    else if offset == EUI_64_HI then Some (ReadOnly 0xA0B0_C000)
    else if offset == EUI_64_LO then Some (ReadOnly s.device)
    else if offset == FCP_COMMAND then (if has_unit s.kind then Some WriteOnly else None)
    else if offset == FCP_RESPONSE then Some WriteOnly
    else None

-- those of the manager stand there alone
abbrev pub manager_register_at : Option ManagerWords → ℕ → Option RegisterAccess
manager_register_at None offset = None
manager_register_at (Some m) offset = Manager.register_at m offset

-- an offset is one of these
abbrev pub lies_within : ℕ → ℕ → ℕ → Bool
lies_within first last offset = nat_le first offset && nat_le offset last

-- the register of a node at an offset: the manager's, a plug control register or one of the core
abbrev pub register_at : Space → ℕ → Option RegisterAccess
register_at s offset =
    if lies_within BUS_MANAGER_ID CHANNELS_AVAILABLE_LO offset then manager_register_at s.manager offset
    else if lies_within OMPR LAST_PLUG_REGISTER offset then Plugs.register_at (plug_table s) offset
    else core_register_at s offset

-- each word after a request: a quadlet compare_swap at its register stores if the word equals its argument
abbrev pub space_after : Space → Request → Space
space_after s r = record s {
  output_word = λ n. after_at (OPCR + 4 * n) r (s.output_word n);
  input_word = λ n. after_at (IPCR + 4 * n) r (s.input_word n);
  manager = option_map (λ m. Manager.words_after m r) s.manager;
}

-- what a request is answered, and what the node's registers are then
pub record Answer : Type 0 where
  pub reply : Reply
  pub after : Space

-- what a node answers to a request, and its registers then
abbrev pub answer_of : Space → Request → Answer
answer_of s r = record { reply = reply (register_at s (offset_of r)) r; after = space_after s r }
