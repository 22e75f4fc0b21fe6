-- What a reader of packets keeps, and what it makes of the bytes that come.
use Rattle.std.specs.Prelude.{◌≡◌, ◌≢◌, ℕ, ◌+◌, ◌≤◌, ◌<◌, List, [], ◌++◌, length, take, Option, Some, None, Result, Ok, Err}
use Rattle.fw_async.specs.Async.{spelling, Fits}
use Rattle.fw_async_fields.specs.Reading.{fault_of, IsPending}
use Rattle.fw_async_fields.specs.declared.PacketFault.{PacketFault}
use Rattle.fw_async.specs.declared.packet.Packet.{Packet}
use Rattle.fw_async.specs.declared.reader.Fed.{Fed}

-- the bytes since the last packet, and the fault that was answered
pub record State : Type 0 where
  pub taken : List ℕ
  pub fault : Option PacketFault

-- without a fault the bytes are less than a packet, else they show the fault
abbrev pub HoldsPending : List ℕ → Option PacketFault → Type 0
HoldsPending taken None = IsPending taken
HoldsPending taken (Some f) = fault_of taken ≡ Some f

-- the bytes are the packet
pub record Spells (p : Packet) (bytes : List ℕ) : Type 0 where
  pub fits : Fits p
  pub same : spelling p ≡ bytes

-- the bytes are some packet
pub record IsPacket (bytes : List ℕ) : Type 0 where
  pub packet : Packet
  pub spells : Spells packet bytes

-- the first k bytes of a piece end a packet
pub record EndsPacket (old piece : List ℕ) (k : ℕ) (p : Packet) : Type 0 where
  pub within : k ≤ length piece
  pub spells : Spells p (old ++ take k piece)

-- a byte of a piece, that at index k, shows a fault of a packet that has not ended before
pub record ShowsFault (old piece : List ℕ) (k : ℕ) (f : PacketFault) : Type 0 where
  pub within : k < length piece
  pub before : IsPending (old ++ take k piece)
  pub shown : fault_of (old ++ take (k + 1) piece) ≡ Some f

-- no byte of a piece ends a packet or shows a fault
pub record EndsNothing (old piece : List ℕ) : Type 0 where
  pub no_fault : (k : ℕ) → k ≤ length piece → fault_of (old ++ take k piece) ≡ None
  pub no_packet : (k : ℕ) (p : Packet) → k ≤ length piece → Spells p (old ++ take k piece) → ⊥

-- no packet begins with these bytes
pub record BeginsNoPacket (bytes : List ℕ) : Type 0 where
  pub none : (p : Packet) (more : List ℕ) → Spells p (bytes ++ more) → ⊥

-- A byte of a piece shows this fault, and no packet begins with the bytes up to there.
pub record IsRefused (old piece : List ℕ) (f : PacketFault) : Type 0 where
  pub at : ℕ
  pub shows : ShowsFault old piece at f
  pub no_packet_begins : BeginsNoPacket (old ++ take (at + 1) piece)

-- all bytes of a piece without a packet's end, or those up to it
abbrev pub FeedsTo : List ℕ → List ℕ → ℕ → Option Packet → State → Type 0
FeedsTo old piece used None new = (used ≡ length piece) × (new ≡ record { taken = old ++ piece; fault = None }) × IsPending (old ++ piece)
FeedsTo old piece used (Some p) new = EndsPacket old piece used p × (new ≡ record { taken = []; fault = None })

-- A piece: the bytes up to a packet's end, all of them, or up to one that shows a fault.
abbrev pub Feeds : List ℕ → List ℕ → Result Fed PacketFault → State → Type 0
Feeds old piece (Ok fed) new = FeedsTo old piece fed.used fed.packet new
Feeds old piece (Err f) new = ((k : ℕ) × ShowsFault old piece k f) × (new.fault ≡ Some f) × (new.taken ≢ [])

-- What bytes at hand are: a packet and what follows it, a part of one, or no packet's.
abbrev pub ReadsTo : List ℕ → ℕ → Option Packet → Type 0
ReadsTo bytes used None = (used ≡ length bytes) × IsPending bytes
ReadsTo bytes used (Some p) = EndsPacket [] bytes used p

-- what a reader makes of bytes: a packet, a part of one, or a fault
abbrev pub Reads : List ℕ → Result Fed PacketFault → Type 0
Reads bytes (Ok fed) = ReadsTo bytes fed.used fed.packet
Reads bytes (Err f) = (k : ℕ) × ShowsFault [] bytes k f
