-- The transaction labels by which packets say what they are part of (own).
use Rattle.std.specs.Prelude.{ℕ}
use Rattle.fw_terms.specs.declared.label.Label.{Label}
use Rattle.fw_terms.specs.declared.label.Label.TheVariants.{Procedure, Script, BusManager}

-- the transaction label, six bits, of the packets that are part of it
abbrev pub label_code : Label → ℕ
label_code Procedure = 0
label_code Script = 1
label_code BusManager = 2
