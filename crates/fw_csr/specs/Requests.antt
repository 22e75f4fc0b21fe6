-- What a request is at, and the quadlet compare_swap that it is (IEEE 1394-1995, lock functions).
use Rattle.std.specs.Prelude.{ℕ, Option, Some, None}
use Rattle.fw_csr.specs.declared.request.Request.{Request}
use Rattle.fw_csr.specs.declared.request.Request.TheVariants.{Read, ReadBlock, Write, WriteBlock, Lock}
use Rattle.fw_words.specs.declared.swap.Swap.{Swap}
use Rattle.fw_words.specs.Swaps.{quadlet_swap, swap_bytes}
use Rattle.fw_words.specs.declared.swap.TheConstants.{COMPARE_SWAP}

-- the offset that a request is at
abbrev pub offset_of : Request → ℕ
offset_of (Read offset) = offset
offset_of (ReadBlock offset len) = offset
offset_of (Write offset value) = offset
offset_of (WriteBlock offset bytes) = offset
offset_of (Lock offset function bytes) = offset

-- the quadlet compare_swap that a request is, if it is one
abbrev pub swap_in : Request → Option Swap
swap_in (Lock offset function bytes) = quadlet_swap function bytes
swap_in _ = None

-- the read of the quadlet at an offset, or its compare_swap
abbrev pub request_at : ℕ → Option Swap → Request
request_at offset None = Read offset
request_at offset (Some s) = Lock offset COMPARE_SWAP (swap_bytes s)
