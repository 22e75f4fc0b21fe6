-- The data of a lock request that is a quadlet compare_swap (IEEE 1394-1995, lock functions).
use Rattle.std.specs.Prelude.{ℕ, List, ◌==◌, ◌&&◌, ◌++◌, length, Option, Some, None, if◌then◌else◌}
use Rattle.std.specs.Int.{to_be_bytes, w32}
use Rattle.fw_words.specs.Quadlet.{quadlet_at}
use Rattle.fw_words.specs.declared.swap.Swap.{Swap}

-- a lock request's data is a quadlet compare_swap's: function 2, and the argument and the new value of four bytes each
abbrev pub quadlet_swap : ℕ → List ℕ → Option Swap
quadlet_swap function bytes =
    if (function == 2) && (length bytes == 8) then Some (record { argument = quadlet_at bytes 0; new = quadlet_at bytes 4 }) else None

-- the eight bytes of a quadlet compare_swap: its argument, and the new value after it
abbrev pub swap_bytes : Swap → List ℕ
swap_bytes s = to_be_bytes w32 s.argument ++ to_be_bytes w32 s.new
