-- The numbers of the two television systems (IEC 61883-2, 525-60 and 625-50).
use Rattle.std.specs.Prelude.{ℕ, ◌*◌, ◌/◌}
use Rattle.fw_tape.specs.declared.system.TapeSystem.{TapeSystem}
use Rattle.fw_tape.specs.declared.system.TapeSystem.TheVariants.{Lines525, Lines625}

-- so many blocks are due in `share_cycles` cycles of a play: 1875 in 2002, or 15 in 16 (own)
abbrev pub share_blocks : TapeSystem → ℕ
share_blocks Lines525 = 1875
share_blocks Lines625 = 15

-- the cycles in which that many blocks are due
abbrev pub share_cycles : TapeSystem → ℕ
share_cycles Lines525 = 2002
share_cycles Lines625 = 16

-- the blocks that are due in the first cycles of a play: the share of them, rounded down
abbrev pub blocks_due : TapeSystem → ℕ → ℕ
blocks_due system cycles = cycles * share_blocks system / share_cycles system

-- how many blocks a frame has
abbrev pub blocks_per_frame : TapeSystem → ℕ
blocks_per_frame Lines525 = 250
blocks_per_frame Lines625 = 300

-- how many frames a tape has in a second of its time code
abbrev pub frames_per_second : TapeSystem → ℕ
frames_per_second Lines525 = 30
frames_per_second Lines625 = 25

-- a tape is a day long (own)
abbrev pub frames_per_day : TapeSystem → ℕ
frames_per_day Lines525 = 2592000
frames_per_day Lines625 = 2160000
