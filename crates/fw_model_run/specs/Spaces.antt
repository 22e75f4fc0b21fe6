-- The registers of the nodes, what a request is answered, and the transactions of the script.
use Rattle.std.specs.Prelude.{ℕ, ◌+◌, Bool, Option, Some, None, if◌then◌else◌, unwrap_or}
use Rattle.fw_words.specs.declared.swap.TheConstants.{COMPARE_SWAP}
use Rattle.fw_words.specs.Swaps.{swap_bytes}
use Rattle.fw_terms.specs.declared.label.Label.TheVariants.{Script}
use Rattle.fw_terms.specs.Labels.{label_code}
use Rattle.fw_terms.specs.Tables.{at_plug}
use Rattle.fw_async.specs.declared.packet.Head.{Head}
use Rattle.fw_async.specs.declared.packet.Packet.{Packet}
use Rattle.fw_log_entry.specs.declared.entry.ResetEntry.{ResetEntry}
use Rattle.fw_csr.specs.declared.offset.TheConstants.{BUS_MANAGER_ID}
use Rattle.fw_csr.specs.declared.request.Request.{Request}
use Rattle.fw_csr.specs.declared.request.Request.TheVariants as Asks
use Rattle.fw_csr.specs.declared.reply.Reply.{Reply}
use Rattle.fw_csr.specs.Manager.{ManagerWords, after_at}
use Rattle.fw_tree.specs.SelfIds.{facts_at}
use Rattle.fw_model_account.specs.Words.{BandwidthAvailable, ChannelsAvailable, OutputPlug, InputPlug, word_of, node_of, first_address}
use Rattle.fw_node.specs.Contents.{node_id}
use Rattle.fw_node.specs.Space.{Space, answer_of}
use Rattle.fw_node.specs.Packets.{packet_of, response_to}
use Rattle.fw_devices.specs.Network.{kind_at}
use Rattle.fw_devices.specs.Entries.{is_number}
use Rattle.fw_order.specs.declared.order.Access.{Access}
use Rattle.fw_order.specs.declared.order.Access.TheVariants.{Read, Swap}
use Rattle.fw_order.specs.declared.order.Transaction.{Transaction}
use Rattle.fw_model_run.specs.State.{State, device_in, manager_in}

-- ---- registers

-- the words of the manager's registers
abbrev pub manager_words : State → ManagerWords
manager_words s = record {
  bus_manager_id = s.bus_manager_id;
  bandwidth_available = word_of s.account BandwidthAvailable;
  channels_available_hi = word_of s.account (ChannelsAvailable 0);
  channels_available_lo = word_of s.account (ChannelsAvailable 32);
  withheld = s.account.withheld;
}

-- node n is the isochronous resource manager
abbrev pub is_manager : Option ResetEntry → ℕ → Bool
is_manager latest n = is_number (manager_in latest) n

-- The registers of a device that is node n: the plug words and the manager's words are those of the account, and
-- BUS_MANAGER_ID is what raw swaps have stored since the bus reset.
abbrev pub space_at : State → ℕ → ℕ → Space
space_at s d n = record {
  number = n;
  kind = kind_at s.declared.kinds d;
  device = d;
  rate = (facts_at s.declared.topology.devices d).speed;
  cycle = s.clock.cycle;
  output_word = λ k. word_of s.account (OutputPlug (at_plug d k));
  input_word = λ k. word_of s.account (InputPlug (at_plug d k));
  manager = if is_manager s.account.latest n then Some (manager_words s) else None;
}

-- the registers of a node
abbrev pub space_of_node : State → ℕ → Space
space_of_node s n = space_at s (unwrap_or (device_in s.account.latest n) 0) n

-- the registers of a device on the bus
abbrev pub space_of_device : State → ℕ → Space
space_of_device s d = space_at s d (node_of s.account.latest d)

-- what node n answers to a request
abbrev pub reply_from : State → ℕ → Request → Reply
reply_from s n q = (answer_of (space_of_node s n) q).reply

-- what a quadlet read of a register of a device is answered
abbrev pub read_at : State → ℕ → ℕ → Reply
read_at s d offset = (answer_of (space_of_device s d) (Asks.Read (first_address + offset))).reply

-- ---- packets

-- the packet by which node n answers this
abbrev pub answer_packet : State → ℕ → Head → Request → Option Packet
answer_packet s n h q = response_to n (packet_of h q) (reply_from s n q)

-- ---- transactions of the script

-- a packet of the script from one node to another: retry code 01, priority 0 (own)
abbrev pub script_head : ℕ → ℕ → Head
script_head destination source = record { destination = node_id destination; tl = label_code Script; rt = 1; pri = 0; source = node_id source }

-- a quadlet read, or a quadlet compare_swap, at an offset from FFFF F000 0000
abbrev pub access_request : Access → Request
access_request (Read offset) = Asks.Read (first_address + offset)
access_request (Swap offset swap) = Asks.Lock (first_address + offset) COMPARE_SWAP (swap_bytes swap)

-- the node that a transaction goes to
abbrev pub target_node : State → Transaction → ℕ
target_node s x = node_of s.account.latest x.to

-- the head of a transaction's packets
abbrev pub transaction_head : State → Transaction → Head
transaction_head s x = script_head (target_node s x) (node_of s.account.latest x.from)

-- BUS_MANAGER_ID after a transaction
abbrev pub bus_manager_id_after : State → Transaction → ℕ
bus_manager_id_after s x =
    if is_manager s.account.latest (target_node s x) then after_at BUS_MANAGER_ID (access_request x.access) s.bus_manager_id else s.bus_manager_id
