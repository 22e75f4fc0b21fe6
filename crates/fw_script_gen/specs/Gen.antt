-- The script that a seed makes (own): a tree of sixty devices, thirty connections, and a bus reset.
use Rattle.std.specs.Prelude.{ℕ, zero, suc, ◌+◌, ◌-◌, ◌*◌, ◌/◌, ◌%◌, ◌^◌, ◌==◌, List, [], ◌∷◌, ◌++◌, codes, decimal, if◌then◌else◌}

-- a line: a text and a line feed
abbrev pub line : List ℕ → List ℕ
line text = text ++ 10 ∷ []

-- ---- draws

-- the generator's number after so many draws, the seed before the first
unfoldable pub state_of : ℕ → ℕ → ℕ
state_of seed zero = seed
state_of seed (suc n) = (state_of seed n * 1664525 + 1013904223) % 2 ^ 32

-- a number below m, of the high bits of the generator's
abbrev pub number_of : ℕ → ℕ → ℕ
number_of state m = (state / 65536) % m

-- the n-th number that is drawn, counted from 0, below m
abbrev pub drawn : ℕ → ℕ → ℕ → ℕ
drawn seed n m = number_of (state_of seed (n + 1)) m

-- ---- devices

-- the kinds of devices that are drawn
abbrev pub kind_text : ℕ → List ℕ
kind_text k = if k == 0 then codes "deck" else if k == 1 then codes "camcorder" else codes "computer"

-- a device of three ports at 400 Mbit/s
abbrev pub device_line : ℕ → List ℕ → List ℕ
device_line i kind = codes "device d" ++ decimal i ++ codes " " ++ kind ++ codes " 3 400" ++ 10 ∷ []

-- the cable from a device to the one above it: devices 2 k + 1 and 2 k + 2 hang at ports 1 and 2 of device k
abbrev pub cable_line : ℕ → List ℕ
cable_line i = codes "cable d" ++ decimal ((i - 1) / 2) ++ codes "." ++ decimal (2 - i % 2) ++ codes " d" ++ decimal i ++ codes ".0" ++ 10 ∷ []

-- the devices up to this one, and their cables: device 0 is a deck, and the kind of each further one is the next number drawn
unfoldable pub devices_text : ℕ → ℕ → List ℕ
devices_text seed zero = device_line 0 (codes "deck")
devices_text seed (suc i) = devices_text seed i ++ device_line (i + 1) (kind_text (drawn seed i 3)) ++ cable_line (i + 1)

-- ---- connections

-- a device connects the first output plug of a second to the first input plug of a third
abbrev pub connect_lines : ℕ → ℕ → ℕ → List ℕ
connect_lines x y z =
    codes "connect d" ++ decimal x ++ codes " d" ++ decimal y ++ codes ".0 d" ++ decimal z ++ codes ".0 any 8" ++ 10 ∷ []
    ++ line (codes "settle 40")

-- the first connections: three numbers are drawn for each, after those of the 59 devices
unfoldable pub connections_text : ℕ → ℕ → List ℕ
connections_text seed zero = []
connections_text seed (suc j) = connections_text seed j ++ connect_lines (drawn seed (59 + 3 * j) 60) (drawn seed (60 + 3 * j) 60) (drawn seed (61 + 3 * j) 60)

-- ---- the script

-- the reset, after it all that is restored, and what is left of the bandwidth
abbrev pub last_lines : List ℕ
last_lines = line (codes "reset d0") ++ line (codes "settle 4000") ++ line (codes "wait 8000") ++ line (codes "show manager 220") ++ line (codes "end")

-- the script of a seed
abbrev pub script_of : ℕ → List ℕ
script_of seed = devices_text seed 59 ++ line (codes "wait 8000") ++ connections_text seed 30 ++ last_lines
