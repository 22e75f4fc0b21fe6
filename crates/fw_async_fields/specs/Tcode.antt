-- Transaction codes: bits 24 to 27 of quadlet 0 (IEEE 1394-1995, primary packets).
use Rattle.std.specs.Prelude.{ℕ, ◌==◌, ◌||◌, ◌&&◌, not, nat_le, Bool}
use Rattle.fw_async_fields.specs.declared.tcode.Tcode.{Tcode}
use Rattle.fw_async_fields.specs.declared.tcode.Tcode.TheVariants.{WriteQuadlet, WriteBlock, WriteReply, ReadQuadlet, ReadBlock, ReadQuadletReply, ReadBlockReply, CycleStart, Lock, LockReply}

-- the number of a transaction code
abbrev pub code_of : Tcode → ℕ
code_of WriteQuadlet = 0
code_of WriteBlock = 1
code_of WriteReply = 2
code_of ReadQuadlet = 4
code_of ReadBlock = 5
code_of ReadQuadletReply = 6
code_of ReadBlockReply = 7
code_of CycleStart = 8
code_of Lock = 9
code_of LockReply = 11

-- a packet has this code: 0 to 2, 4 to 9 and 11 (10 is isochronous, the others are reserved)
abbrev pub is_known : ℕ → Bool
is_known t = nat_le t 2 || (nat_le 4 t && nat_le t 9) || (t == 11)

-- write response, read quadlet response, read block response, lock response
abbrev pub is_response : ℕ → Bool
is_response t = (t == 2) || (t == 6) || (t == 7) || (t == 11)

-- quadlet 3 is the data_length of a block
abbrev pub is_block : ℕ → Bool
is_block t = (t == 1) || (t == 5) || (t == 7)

-- quadlet 3 is the data_length and the extended_tcode of a lock
abbrev pub is_lock : ℕ → Bool
is_lock t = (t == 9) || (t == 11)

-- quadlet 3 is there: all but a write response and a read quadlet request
abbrev pub has_quadlet_3 : ℕ → Bool
has_quadlet_3 t = not ((t == 2) || (t == 4))

-- data and its padding stand after quadlet 3
abbrev pub has_data : ℕ → Bool
has_data t = (t == 1) || (t == 7) || is_lock t
