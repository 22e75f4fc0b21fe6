-- What bytes show before they are a whole packet: a fault, or how many bytes the packet takes (own, from the layouts).
use Rattle.std.specs.Prelude.{◌≡◌, ℕ, zero, suc, ◌+◌, ◌-◌, ◌%◌, ◌≤◌, ◌<◌, ◌==◌, ◌||◌, nat_lt, List, Bool, Option, Some, None, length, slice_index, if◌then◌else◌, IsTrue}
use Rattle.std.specs.Option.{option_map}
use Rattle.fw_words.specs.Quadlet.{field, first_set, quadlet_at}
use Rattle.fw_async_fields.specs.Tcode.{is_known, is_response, is_block, is_lock, has_quadlet_3, has_data}
use Rattle.fw_async_fields.specs.Data.{is_lock_size, is_reply_size, padding}
use Rattle.fw_async_fields.specs.declared.PacketFault.{PacketFault}
use Rattle.fw_async_fields.specs.declared.PacketFault.TheVariants.{UnknownTcode, Reserved, TooLong, BadPadding, BadLength}

-- the transaction code in quadlet 0
abbrev pub tcode_of : List ℕ → ℕ
tcode_of bytes = field (quadlet_at bytes 0) 24 27

-- the first of n bits from at on that is 1, counted from the packet's first bit
abbrev pub reserved : ℕ → ℕ → ℕ → ℕ → Option PacketFault
reserved before q at n = option_map (λ bit. Reserved (before + bit)) (first_set q at n)

-- quadlet 0 has a transaction code of the table
unfoldable pub fault_in_quadlet_0 : ℕ → Option PacketFault
fault_in_quadlet_0 t = if is_known t then None else Some UnknownTcode

-- quadlet 1 of a response has 12 zeros after its rcode: bits 52 to 63 of the packet
unfoldable pub fault_in_quadlet_1 : ℕ → ℕ → Option PacketFault
fault_in_quadlet_1 t q = if is_response t then reserved 32 q 20 12 else None

-- quadlet 2 of a response is zeros: bits 64 to 95
unfoldable pub fault_in_quadlet_2 : ℕ → ℕ → Option PacketFault
fault_in_quadlet_2 t q = if is_response t then reserved 64 q 0 32 else None

-- quadlet 3 of a block: first its zeros, bits 112 to 127, then its data_length
abbrev pub fault_in_block_size : ℕ → Option PacketFault
fault_in_block_size q =
    if field q 16 31 == 0 then (if nat_lt 512 (field q 0 15) then Some (TooLong (field q 0 15)) else None) else reserved 96 q 16 16

-- quadlet 3 of a lock: first its extended_tcode, then whether the data_length is one of it
abbrev pub fault_in_lock_size : ℕ → Bool → Option PacketFault
fault_in_lock_size q fits =
    if (field q 16 31 == 0) || nat_lt 7 (field q 16 31) then Some (Reserved 112)
    else if fits then None
    else Some (BadLength (field q 0 15))

-- quadlet 3 by transaction code
unfoldable pub fault_in_quadlet_3 : ℕ → ℕ → Option PacketFault
fault_in_quadlet_3 t q =
    if is_block t then fault_in_block_size q
    else if is_lock t then fault_in_lock_size q (if t == 9 then is_lock_size (field q 16 31) (field q 0 15) else is_reply_size (field q 0 15))
    else None

-- the first byte that is not 0 among the n from at on
unfoldable pub fault_in_padding : List ℕ → ℕ → ℕ → Option PacketFault
fault_in_padding bytes at zero = None
fault_in_padding bytes at (suc n) = if slice_index bytes at == 0 then fault_in_padding bytes (at + 1) n else Some (BadPadding at)

-- the first of two
abbrev pub or_else : Option PacketFault → Option PacketFault → Option PacketFault
or_else None y = y
or_else (Some x) y = Some x

-- where the bytes of a packet end, before padding
abbrev pub end_of_data : List ℕ → ℕ
end_of_data bytes = 16 + field (quadlet_at bytes 12) 0 15

-- the first fault after quadlet 2, and after quadlet 0
abbrev pub fault_after_quadlet_2 : ℕ → List ℕ → Option PacketFault
fault_after_quadlet_2 t bytes =
    if nat_lt (length bytes) 16 then None
    else or_else (fault_in_quadlet_3 t (quadlet_at bytes 12))
    (if has_data t then fault_in_padding bytes (end_of_data bytes) (length bytes - end_of_data bytes) else None)

-- the fault that the quadlets after the first show, in their order
abbrev pub fault_after_quadlet_0 : ℕ → List ℕ → Option PacketFault
fault_after_quadlet_0 t bytes =
    if nat_lt (length bytes) 8 then None
    else or_else (fault_in_quadlet_1 t (quadlet_at bytes 4))
    (if nat_lt (length bytes) 12 then None
    else or_else (fault_in_quadlet_2 t (quadlet_at bytes 8)) (fault_after_quadlet_2 t bytes))

-- the first fault that the bytes show: each quadlet shows its own as soon as it is there, and each padding byte
abbrev pub fault_of : List ℕ → Option PacketFault
fault_of bytes =
    if nat_lt (length bytes) 4 then None
    else or_else (fault_in_quadlet_0 (tcode_of bytes)) (fault_after_quadlet_0 (tcode_of bytes) bytes)

-- how many bytes a packet takes at least, by how many are there, its tcode and its data_length
abbrev pub need_by : ℕ → ℕ → ℕ → ℕ
need_by n t len =
    if nat_lt n 4 then 12
    else if has_quadlet_3 t then
    (if nat_lt n 16 then 16
    else if has_data t then 16 + len + padding len
    else 16)
    else 12

-- how many bytes the packet that begins so takes at least
abbrev pub need : List ℕ → ℕ
need bytes = need_by (length bytes) (tcode_of bytes) (field (quadlet_at bytes 12) 0 15)

-- a packet that has begun, and neither is whole nor shows a fault
pub record IsPending (bytes : List ℕ) : Type 0 where
  pub no_fault : fault_of bytes ≡ None
  pub not_whole : length bytes < need bytes

-- what the quadlets of a packet with no fault have
pub record IsSound (t second third fourth : ℕ) : Type 0 where
  pub known : IsTrue (is_known t)
  pub response : IsTrue (is_response t) → (second % 4096 ≡ 0) × (third ≡ 0)
  pub block : IsTrue (is_block t) → (field fourth 16 31 ≡ 0) × (field fourth 0 15 ≤ 512)
  pub lock : IsTrue (is_lock t) → (0 < field fourth 16 31) × (field fourth 16 31 < 8)
  pub lock_request : t ≡ 9 → IsTrue (is_lock_size (field fourth 16 31) (field fourth 0 15))
  pub lock_response : t ≡ 11 → IsTrue (is_reply_size (field fourth 0 15))
