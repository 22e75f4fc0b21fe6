-- Plug control registers: their fields, and the units that a flow takes.
use Rattle.std.specs.Prelude.{ℕ, ◌+◌, ◌-◌, ◌*◌, ◌^◌, ◌==◌, ◌||◌, not, ◌<◌, Bool, if◌then◌else◌}
use Rattle.fw_words.specs.Quadlet.{field}

-- what an output plug keeps
pub record Settings : Type 0 where
  pub channel : ℕ
  pub rate : ℕ
  pub overhead : ℕ

-- the settings values have room in the register
pub record FitsRegister (k : Settings) : Type 0 where
  pub channel : k.channel < 64
  pub rate : k.rate < 4
  pub overhead : k.overhead < 16

-- the units of a flow of 122 quadlets a packet: the overhead, and the payload at the data rate
abbrev pub units_of : Settings → ℕ
units_of k = (if k.overhead == 0 then 512 else 32 * k.overhead) + 125 * 2 ^ (4 - k.rate)

-- the fields of an output plug's register that are not fixed
pub record OutFields : Type 0 where
  pub broadcast : Bool
  pub counter : ℕ
  pub settings : Settings

-- a bit, by a fact
abbrev pub flag : Bool → ℕ
flag b = if b then 1 else 0

-- the word of an oPCR with these fields
abbrev pub out_word : OutFields → ℕ
out_word f = 2 ^ 31 + flag f.broadcast * 2 ^ 30 + f.counter * 2 ^ 24 + f.settings.channel * 2 ^ 16 + f.settings.rate * 2 ^ 14 + f.settings.overhead * 2 ^ 10 + 122

-- the fields of the word of an oPCR
abbrev pub out_fields : ℕ → OutFields
out_fields w = record {
  broadcast = field w 1 1 == 1;
  counter = field w 2 7;
  settings = record { channel = field w 10 15; rate = field w 16 17; overhead = field w 18 21 };
}

-- the fields of an input plug's register that are not fixed
pub record InFields : Type 0 where
  pub broadcast : Bool
  pub counter : ℕ
  pub channel : ℕ

-- the word of an iPCR with these fields
abbrev pub in_word : InFields → ℕ
in_word f = 2 ^ 31 + flag f.broadcast * 2 ^ 30 + f.counter * 2 ^ 24 + f.channel * 2 ^ 16

-- the fields of the word of an iPCR
abbrev pub in_fields : ℕ → InFields
in_fields w = record { broadcast = field w 1 1 == 1; counter = field w 2 7; channel = field w 10 15 }

-- a connection stands at the plug of this register: its broadcast connection bit or its point-to-point connection counter is not 0
abbrev pub is_connected : ℕ → Bool
is_connected w = (field w 1 1 == 1) || not (field w 2 7 == 0)
