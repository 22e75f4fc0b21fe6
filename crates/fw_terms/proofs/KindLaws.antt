-- What is true of each kind of device: one place in which proofs go by cases over kinds.
use Rattle.std.proofs.Common.{◌≡◌, ℕ, ◌<◌, ◌≤◌, ◌==◌, cond, not, Bool, true, false, Some, None, refl, ap, ◌∙◌, arith, IsTrue}
use Rattle.std.specs.List.{list_all}
use Rattle.std.specs.Char.{is_ascii_lowercase}
use Rattle.fw_terms.specs.declared.device.DeviceKind.{DeviceKind}
use Rattle.fw_terms.specs.declared.device.DeviceKind.TheVariants.{Relay, Deck, Camcorder, Computer}
use Rattle.fw_terms.specs.Devices.{code_of, name_of, has_link, is_contender, is_capable, has_unit, output_plugs_of, input_plugs_of}

-- ---- codes

pub code_low : (kind : DeviceKind) → code_of kind ≤ 3
code_low Relay = omega arith
code_low Deck = omega arith
code_low Camcorder = omega arith
code_low Computer = omega arith

-- ---- names

pub name_letters : (kind : DeviceKind) → IsTrue (list_all is_ascii_lowercase (name_of kind))
name_letters Relay = refl
name_letters Deck = refl
name_letters Camcorder = refl
name_letters Computer = refl

-- ---- links

-- a relay alone has no link
pub relay_unlinked : (kind : DeviceKind) → (code_of kind == code_of Relay) ≡ not (has_link kind)
relay_unlinked Relay = refl
relay_unlinked Deck = refl
relay_unlinked Camcorder = refl
relay_unlinked Computer = refl

-- so a device has a number with its link exactly if its row is no relay's
pub linked_number : (kind : DeviceKind) (n : ℕ) → cond (code_of kind == code_of Relay) None (Some n) ≡ cond (has_link kind) (Some n) None
linked_number kind n = ap (λ b. cond b None (Some n)) (relay_unlinked kind) ∙ turned (has_link kind)
  where
    turned : (b : Bool) → cond (not b) None (Some n) ≡ cond b (Some n) None
    turned true = refl
    turned false = refl

pub contender_linked : (kind : DeviceKind) → IsTrue (is_contender kind) → IsTrue (has_link kind)
contender_linked Relay e = absurd (grind arith)
contender_linked Deck e = refl
contender_linked Camcorder e = refl
contender_linked Computer e = refl

pub capable_contends : (kind : DeviceKind) → IsTrue (is_capable kind) → IsTrue (is_contender kind)
capable_contends Relay e = absurd (grind arith)
capable_contends Deck e = absurd (grind arith)
capable_contends Camcorder e = absurd (grind arith)
capable_contends Computer e = refl

-- ---- plugs

pub plugs_few : (kind : DeviceKind) → (output_plugs_of kind ≤ 1) × (input_plugs_of kind ≤ 4)
plugs_few Relay = (omega arith, omega arith)
plugs_few Deck = (omega arith, omega arith)
plugs_few Camcorder = (omega arith, omega arith)
plugs_few Computer = (omega arith, omega arith)

pub output_linked : (kind : DeviceKind) → 0 < output_plugs_of kind → IsTrue (has_link kind)
output_linked Relay some = absurd (omega (arith, some))
output_linked Deck some = refl
output_linked Camcorder some = refl
output_linked Computer some = refl

pub input_linked : (kind : DeviceKind) → 0 < input_plugs_of kind → IsTrue (has_link kind)
input_linked Relay some = absurd (omega (arith, some))
input_linked Deck some = refl
input_linked Camcorder some = refl
input_linked Computer some = refl

-- a unit records from the one input plug, and plays to the one output plug
pub unit_plugs : (kind : DeviceKind) → IsTrue (has_unit kind) → (output_plugs_of kind ≡ 1) × (input_plugs_of kind ≡ 1)
unit_plugs Relay e = absurd (grind arith)
unit_plugs Deck e = (refl, refl)
unit_plugs Camcorder e = (refl, refl)
unit_plugs Computer e = absurd (grind arith)

-- a device without a unit has no output plug
pub unitless_silent : (kind : DeviceKind) → has_unit kind ≡ false → output_plugs_of kind ≡ 0
unitless_silent Relay e = refl
unitless_silent Deck e = absurd (grind arith)
unitless_silent Camcorder e = absurd (grind arith)
unitless_silent Computer e = refl
