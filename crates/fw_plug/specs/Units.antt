-- The units of a flow, from the word of its output plug's register (IEC 61883-1, bandwidth).
use Rattle.std.specs.Prelude.{ℕ, ◌+◌, ◌-◌, ◌*◌, ◌^◌, ◌==◌, if◌then◌else◌}
use Rattle.fw_words.specs.Quadlet.{field}

-- the overhead that an overhead_ID stands for
abbrev pub overhead_units : ℕ → ℕ
overhead_units id = if id == 0 then 512 else 32 * id

-- how many quadlets a payload field stands for
abbrev pub payload_quadlets : ℕ → ℕ
payload_quadlets payload = if payload == 0 then 1024 else payload

-- the bandwidth units of an output plug's flow with an overhead_ID, by the word of its oPCR
abbrev pub units_with : ℕ → ℕ → ℕ
units_with overhead w = overhead_units overhead + (payload_quadlets (field w 22 31) + 3) * 2 ^ (4 - field w 16 17)

-- the bandwidth units of an output plug's flow, by the word of its oPCR
abbrev pub units : ℕ → ℕ
units w = units_with (field w 18 21) w
