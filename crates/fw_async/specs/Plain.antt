-- Packets that are right at the first look.
use Rattle.std.specs.Prelude.{ℕ, ◌-◌, ◌*◌, ◌==◌, ◌||◌, ◌&&◌, nat_le, List, Bool, false, length, if◌then◌else◌}
use Rattle.fw_words.specs.Quadlet.{field, quadlet_at}
use Rattle.fw_async_fields.specs.Reading.{tcode_of}

-- the zeros after the response code
abbrev pub has_zeros : List ℕ → Bool
has_zeros bytes = (field (quadlet_at bytes 4) 20 31 == 0) && (quadlet_at bytes 8 == 0)

-- data_length is that of all bytes after quadlet 3, in a block without padding
abbrev pub is_whole_block : List ℕ → Bool
is_whole_block bytes = nat_le 16 (length bytes) && nat_le (length bytes) 528 && (quadlet_at bytes 12 == 65536 * (length bytes - 16))

-- the bytes have a form that most packets of this transaction code have
abbrev pub is_plain_form : ℕ → List ℕ → Bool
is_plain_form t bytes =
    if t == 4 then length bytes == 12
    else if t == 6 then (length bytes == 16) && has_zeros bytes
    else if t == 9 then (length bytes == 24) && (quadlet_at bytes 12 == 524290)
    else if t == 11 then (length bytes == 20) && (quadlet_at bytes 12 == 262146) && has_zeros bytes
    else if (t == 0) || (t == 8) then length bytes == 16
    else if t == 1 then is_whole_block bytes
    else if t == 2 then (length bytes == 12) && has_zeros bytes
    else false

-- an asynchronous packet of a form that most have
abbrev pub is_plain_packet : List ℕ → Bool
is_plain_packet bytes = is_plain_form (tcode_of bytes) bytes
