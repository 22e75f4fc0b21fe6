-- The data of packets: bytes, how many a lock has, and how they are filled up.
use Rattle.std.specs.Prelude.{ℕ, ◌*◌, ◌%◌, ◌<◌, ◌==◌, ◌||◌, List, Bool, slice_index, if◌then◌else◌}

-- how many zero bytes fill the last quadlet of data
abbrev pub padding : ℕ → ℕ
padding len = 3 * len % 4

-- How many bytes of data a lock request of this extended_tcode has: argument and data value of 4 or 8 bytes each;
-- fetch_add (3) and little_add (4) have no argument; the sizes of a vendor-dependent lock (7) are own.
abbrev pub is_lock_size : ℕ → ℕ → Bool
is_lock_size function len =
    if (function == 3) || (function == 4) then (len == 4) || (len == 8)
    else if function == 7 then (len == 4) || (len == 8) || (len == 16)
    else (len == 8) || (len == 16)

-- how many bytes of old value a lock response has
abbrev pub is_reply_size : ℕ → Bool
is_reply_size len = (len == 0) || (len == 4) || (len == 8)

-- each element is a byte
abbrev pub AreBytes : List ℕ → Type 0
AreBytes bytes = (i : ℕ) → slice_index bytes i < 256
