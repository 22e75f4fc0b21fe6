-- The entries of a log: one deck, which is its own resource manager, makes a broadcast connection, and makes it again after a
-- bus reset.
use Rattle.fw_csr.specs.declared.offset.TheConstants.{BANDWIDTH_AVAILABLE, CHANNELS_AVAILABLE_LO, OPCR, IPCR}
use Rattle.fw_log_entry.specs.declared.codes.event.TheConstants.{SECOND_OVER, DIED}
use Rattle.fw_log_entry.specs.declared.codes.TheConstants.{NO_DEVICE}
use Rattle.fw_terms.specs.declared.label.Label.TheVariants.{Procedure}
use Rattle.fw_terms.specs.Labels.{label_code}
use Rattle.fw_async.specs.declared.packet.Head.{Head}
use Rattle.fw_async.specs.declared.packet.Packet.TheVariants.{ReadQuadlet, ReadQuadletReply, Lock, LockReply}
use Rattle.fw_phy.specs.declared.packet.PhyPacket.TheVariants.{SelfId}
use Rattle.fw_log_entry.specs.declared.entry.Entry.{Entry}
use Rattle.fw_log_entry.specs.declared.entry.Entry.TheVariants.{Reset, Async, Event, Outcome}
use Rattle.std.specs.Prelude.{ℕ, true, false, Option, Some, option_map, List, [], ◌∷◌, ◌++◌}
use Rattle.std.specs.Int.{to_be_bytes, w32}
use Rattle.fw_words.specs.declared.swap.TheConstants.{COMPARE_SWAP}
use Rattle.fw_model_account.specs.Account.{Account}
use Rattle.fw_model_account.specs.Words.{BandwidthAvailable, ChannelsAvailable, OutputPlug, InputPlug, word_of}
use Rattle.fw_model_account.specs.Fold.{account_of}

-- from node 0 to itself, in a procedure
abbrev pub head : Head
head = record { destination = 0xffc0; tl = label_code Procedure; rt = 1; pri = 0; source = 0xffc0 }

-- a compare_swap that succeeds, and a read
abbrev pub swap : ℕ → ℕ → ℕ → List Entry
swap address arg new = Async (Lock head address COMPARE_SWAP (to_be_bytes w32 arg ++ to_be_bytes w32 new)) ∷ Async (LockReply head 0 COMPARE_SWAP (to_be_bytes w32 arg)) ∷ []

-- a quadlet read of an address that shows this word
abbrev pub read : ℕ → ℕ → List Entry
read address word = Async (ReadQuadlet head address) ∷ Async (ReadQuadletReply head 0 word) ∷ []

-- a bus of one deck at 100 Mbit/s, which is node 0
abbrev pub reset : ℕ → Entry
reset epoch = Reset (record {
  epoch = epoch;
  root = 0;
  manager = Some 0;
  initiator = 0;
  nodes = record { device = 0; outs = 1; ins = 1; kind = 1 } ∷ [];
  ids = SelfId (record { phy = 0; link = true; gap = 63; speed = 0; delay = 0; contender = true; power = 0; ports = 1 ∷ 0 ∷ 0 ∷ []; initiator = true; more = false }) ∷ [];
})

-- channel, units and output plug
abbrev pub connected : List Entry
connected =
    read OPCR 0x803f007a
    ++ (read CHANNELS_AVAILABLE_LO 0xffffffff ++ (swap CHANNELS_AVAILABLE_LO 0xffffffff 0xfffffffe
    ++ (read BANDWIDTH_AVAILABLE 0x1333 ++ (swap BANDWIDTH_AVAILABLE 0x1333 0x963
    ++ swap OPCR 0x803f007a 0xc03f007a))))

-- how the procedure ended: 1 connected, 3 restored
abbrev pub outcome : ℕ → Entry
outcome code = Outcome (record { code = code; device = 0; slot = 0; value = 63 })

-- the reclaim second is over
abbrev pub second_over : Entry
second_over = Event (record { code = SECOND_OVER; device = NO_DEVICE; tape = 0; system = 0 })

-- the first connection
abbrev pub first_path : List Entry
first_path = reset 1 ∷ (connected ++ outcome 1 ∷ [])

-- and the connection again after a reset
abbrev pub restored : List Entry
restored = first_path ++ reset 2 ∷ (connected ++ outcome 3 ∷ second_over ∷ [])

-- BANDWIDTH_AVAILABLE, CHANNELS_AVAILABLE_LO and the deck's oPCR
abbrev pub registers_of : Account → List ℕ
registers_of l = word_of l BandwidthAvailable ∷ word_of l (ChannelsAvailable 32) ∷ word_of l (OutputPlug (record { device = 0; plug = 0 })) ∷ []

-- those registers after the entries
abbrev pub registers_after : List Entry → Option (List ℕ)
registers_after es = option_map registers_of (account_of es)

-- in the reclaim second of the second reset, a channel that no flow had
abbrev pub other_channel : List Entry
other_channel = first_path ++ reset 2 ∷ (read OPCR 0x803f007a ++ swap CHANNELS_AVAILABLE_LO 0xffffffff 0xfffffffd)

-- a connection of the output plug with no channel and units for it
abbrev pub not_allocated : List Entry
not_allocated = reset 1 ∷ swap OPCR 0x803f007a 0xc03f007a

-- the deck also listens, on channel 63
abbrev pub listening : List Entry
listening = first_path ++ read IPCR 0x803f0000 ++ swap IPCR 0x803f0000 0xc03f0000

-- the deck's iPCR after the entries
abbrev pub input_after : List Entry → Option ℕ
input_after es = option_map (λ l. word_of l (InputPlug (record { device = 0; plug = 0 }))) (account_of es)

-- what the deck's controller took stays when it dies, up to the next reset
abbrev pub died : List Entry
died = first_path ++ Event (record { code = DIED; device = 0; tape = 0; system = 0 }) ∷ []
