-- What each kind of device has (own).
use Rattle.std.specs.Prelude.{ℕ, ◌==◌, nat_le, Bool, true, false, List, [], ◌∷◌, codes, Option, Some, None, if◌then◌else◌}
use Rattle.std.specs.List.{find}
use Rattle.std.specs.Str.{bytes_eq}
use Rattle.fw_terms.specs.declared.device.DeviceKind.{DeviceKind}
use Rattle.fw_terms.specs.declared.device.DeviceKind.TheVariants.{Relay, Deck, Camcorder, Computer}

-- the number of a kind of device in the log
abbrev pub code_of : DeviceKind → ℕ
code_of Relay = 0
code_of Deck = 1
code_of Camcorder = 2
code_of Computer = 3

-- the kind with a code, 0 to 3
abbrev pub kind_with : ℕ → DeviceKind
kind_with code = if code == 0 then Relay else if code == 1 then Deck else if code == 2 then Camcorder else Computer

-- the kind with a code, if there is one
abbrev pub kind_coded : ℕ → Option DeviceKind
kind_coded code = if nat_le code 3 then Some (kind_with code) else None

-- the name of a kind of device, in scripts and in texts
abbrev pub name_of : DeviceKind → List ℕ
name_of Relay = codes "relay"
name_of Deck = codes "deck"
name_of Camcorder = codes "camcorder"
name_of Computer = codes "computer"

-- the kind with a name
abbrev pub kind_named : List ℕ → Option DeviceKind
kind_named w = find (λ kind. bytes_eq w (name_of kind)) (Relay ∷ Deck ∷ Camcorder ∷ Computer ∷ [])

-- a link, L of the self-ID packet
abbrev pub has_link : DeviceKind → Bool
has_link Relay = false
has_link Deck = true
has_link Camcorder = true
has_link Computer = true

-- may become the isochronous resource manager, c of the self-ID packet
abbrev pub is_contender : DeviceKind → Bool
is_contender Relay = false
is_contender Deck = true
is_contender Camcorder = false
is_contender Computer = true

-- has the capabilities of a bus manager
abbrev pub is_capable : DeviceKind → Bool
is_capable Relay = false
is_capable Deck = false
is_capable Camcorder = false
is_capable Computer = true

-- an AV/C unit with a tape subunit
abbrev pub has_unit : DeviceKind → Bool
has_unit Relay = false
has_unit Deck = true
has_unit Camcorder = true
has_unit Computer = false

-- how many output plugs a kind of device has
abbrev pub output_plugs_of : DeviceKind → ℕ
output_plugs_of Relay = 0
output_plugs_of Deck = 1
output_plugs_of Camcorder = 1
output_plugs_of Computer = 0

-- how many input plugs a kind of device has
abbrev pub input_plugs_of : DeviceKind → ℕ
input_plugs_of Relay = 0
input_plugs_of Deck = 1
input_plugs_of Camcorder = 1
input_plugs_of Computer = 4
