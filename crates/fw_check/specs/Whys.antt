-- What is told of a command that breaks a rule of the bus.
use Rattle.std.specs.Prelude.{ℕ, ◌+◌, ◌-◌, ◌==◌, ◌<◌, IfSome, ◌||◌, nat_lt, List, [], ◌∷◌, ◌++◌, codes, decimal, Bool, true, false, Option, Some, None, if◌then◌else◌}
use Rattle.fw_terms.specs.Devices.{name_of}
use Rattle.fw_csr.specs.declared.low_offset.TheConstants.{BUS_MANAGER_ID, BANDWIDTH_AVAILABLE, CHANNELS_AVAILABLE_HI, CHANNELS_AVAILABLE_LO, IPCR}
use Rattle.fw_csr.specs.declared.offset.TheConstants.{REGISTER_SPACE}
use Rattle.fw_log_registers.specs.Places.{place_of}
use Rattle.fw_log_registers.specs.Words.{place_text}
use Rattle.fw_log_registers.specs.declared.place.RegisterPlace.{RegisterPlace}
use Rattle.fw_log_registers.specs.declared.place.RegisterPlace.TheVariants.{Named, Unnamed}
use Rattle.fw_check.specs.Shown.{named_word, word_at}
use Rattle.fw_check.specs.declared.why.Why.{Why}
use Rattle.fw_check.specs.declared.why.Why.TheVariants as Whys
use Rattle.fw_check.specs.declared.why.NoController.{NoController}
use Rattle.fw_check.specs.declared.why.NoController.TheVariants as NoControllers
use Rattle.fw_check.specs.declared.why.NoNode.{NoNode}
use Rattle.fw_check.specs.declared.why.NoNode.TheVariants as NoNodes
use Rattle.fw_check.specs.declared.why.SlotState.{SlotState}
use Rattle.fw_check.specs.declared.why.SlotState.TheVariants.{Free, Making, BreakWaits, Breaking}
use Rattle.fw_check.specs.declared.why.LimitOf.{LimitOf}
use Rattle.fw_check.specs.declared.why.LimitOf.TheVariants.{WrittenCycles, BusResets, HalfSteps, Cycles}

-- the rule's name
abbrev pub rule_name : Why → List ℕ
rule_name (Whys.UnknownName number name) = codes "UnknownName"
rule_name (Whys.NameTaken kind) = codes "NameTaken"
rule_name Whys.TooMany = codes "TooMany"
rule_name (Whys.NoDeck name kind) = codes "NoDeck"
rule_name (Whys.NoPort number name ports) = codes "NoPort"
rule_name Whys.OnePort = codes "PortUsed"
rule_name (Whys.PortUsed number name port) = codes "PortUsed"
rule_name (Whys.OneDevice name) = codes "Loop"
rule_name (Whys.Loop name other) = codes "Loop"
rule_name (Whys.NotController why) = codes "NotController"
rule_name (Whys.NothingStands name lost) = codes "NothingStands"
rule_name (Whys.OffBus number why) = codes "OffBus"
rule_name (Whys.NotOwnPlug name) = codes "NotOwnPlug"
rule_name (Whys.NoSuchConnection slot state) = codes "NoSuchConnection"
rule_name (Whys.TableFull name) = codes "TableFull"
rule_name (Whys.Busy name) = codes "Busy"
rule_name (Whys.NotCapable name kind) = codes "NotCapable"
rule_name (Whys.NotCandidate name capable) = codes "NotCandidate"
rule_name (Whys.Guarded offset) = codes "Guarded"
rule_name Whys.NoManager = codes "NoRegister"
rule_name (Whys.NoRegister name offset written) = codes "NoRegister"
rule_name (Whys.Limit limit before here) = codes "Limit"
rule_name (Whys.TooLate name) = codes "TooLate"

-- the ports of a device that has so many
abbrev pub ports_text : List ℕ → ℕ → List ℕ
ports_text name ports = if ports == 1 then name ++ codes " has port 0 alone" else name ++ codes " has ports 0 to " ++ decimal (ports - 1)

-- a device that is off
abbrev pub off_text : List ℕ → List ℕ → List ℕ
off_text name bus = name ++ codes " is off: no cable joins it to the bus of " ++ bus

abbrev pub no_controller_text : NoController → List ℕ
no_controller_text (NoControllers.Relay name) = name ++ codes " is a relay, without a controller"
no_controller_text (NoControllers.Off name bus) = off_text name bus
no_controller_text (NoControllers.Died name) = codes "the controller of " ++ name ++ codes " died, and was not started since"

abbrev pub no_node_text : NoNode → List ℕ
no_node_text (NoNodes.Off name bus) = off_text name bus
no_node_text (NoNodes.Relay name) = name ++ codes " is a relay, which has no registers"

-- a request of the device's controller that does not stand, or whose response was lost
abbrev pub nothing_text : List ℕ → Bool → List ℕ
nothing_text name true = codes "the response to the request of " ++ name ++ codes " was lost already"
nothing_text name false = codes "no request of " ++ name ++ codes " stands"

abbrev pub slot_text : ℕ → SlotState → List ℕ
slot_text slot Free = codes "slot " ++ decimal slot ++ codes " is free"
slot_text slot Making = codes "the connection of slot " ++ decimal slot ++ codes " is being made"
slot_text slot BreakWaits = codes "a break of slot " ++ decimal slot ++ codes " waits"
slot_text slot Breaking = codes "the connection of slot " ++ decimal slot ++ codes " is being broken"

abbrev pub candidate_text : List ℕ → Bool → List ℕ
candidate_text name true = name ++ codes " is no candidate; `candidate " ++ name ++ codes "` makes it one"
candidate_text name false = name ++ codes " is no candidate"

-- what stands at an offset from FFFF F000 0000
abbrev pub register_text : RegisterPlace → List ℕ
register_text (Named register index) = place_text (Named register index)
register_text (Unnamed offset) = codes "register at this offset"

abbrev pub register_at : ℕ → List ℕ
register_at offset = register_text (place_of (REGISTER_SPACE + offset))

-- a register that nobody but procedures, or candidates, swaps
abbrev pub guarded_text : ℕ → List ℕ
guarded_text offset =
    if offset == BUS_MANAGER_ID then codes "BUS_MANAGER_ID is for candidates, and one is declared before"
    else if (offset == BANDWIDTH_AVAILABLE) || (offset == CHANNELS_AVAILABLE_HI) || (offset == CHANNELS_AVAILABLE_LO)
    then register_at offset ++ codes " is for the procedures of controllers"
    else if nat_lt offset IPCR then codes "904 to 97C, the plug registers, are for the procedures of controllers"
    else codes "984 to 9FC, the plug registers, are for the procedures of controllers"

abbrev pub no_register_text : List ℕ → ℕ → Bool → List ℕ
no_register_text name offset true = register_at offset ++ codes " of " ++ name ++ codes " is written, and not read"
no_register_text name offset false = name ++ codes " has no " ++ register_at offset

-- what a limit counts, and how many there may be
abbrev pub limit_noun : LimitOf → List ℕ
limit_noun WrittenCycles = codes "written cycles"
limit_noun BusResets = codes "bus resets"
limit_noun HalfSteps = codes "half steps"
limit_noun Cycles = codes "cycles"

abbrev pub limit_most : LimitOf → ℕ
limit_most WrittenCycles = 8000
limit_most BusResets = 10000
limit_most HalfSteps = 4000000
limit_most Cycles = 4503599627370496

abbrev pub limit_text : LimitOf → ℕ → ℕ → List ℕ
limit_text limit before here =
    decimal before ++ 32 ∷ limit_noun limit ++ codes " before and " ++ decimal here ++ codes " here are more than " ++ decimal (limit_most limit)

-- the word of the line that is told, by its number
abbrev pub told_word : Why → Option ℕ
told_word (Whys.UnknownName number name) = Some number
told_word (Whys.NameTaken kind) = Some 2
told_word Whys.TooMany = None
told_word (Whys.NoDeck name kind) = Some 2
told_word (Whys.NoPort number name ports) = Some number
told_word Whys.OnePort = None
told_word (Whys.PortUsed number name port) = Some number
told_word (Whys.OneDevice name) = None
told_word (Whys.Loop name other) = None
told_word (Whys.NotController why) = Some 2
told_word (Whys.NothingStands name lost) = Some 2
told_word (Whys.OffBus number why) = Some number
told_word (Whys.NotOwnPlug name) = Some 3
told_word (Whys.NoSuchConnection slot state) = Some 3
told_word (Whys.TableFull name) = None
told_word (Whys.Busy name) = None
told_word (Whys.NotCapable name kind) = Some 2
told_word (Whys.NotCandidate name capable) = Some 2
told_word (Whys.Guarded offset) = Some 4
told_word Whys.NoManager = Some 2
told_word (Whys.NoRegister name offset written) = Some 3
told_word (Whys.Limit limit before here) = None
told_word (Whys.TooLate name) = None

-- what stands against a command at devices and cables
abbrev pub device_says : List ℕ → Why → List ℕ
device_says line (Whys.UnknownName number name) = codes "no device " ++ name ++ codes " is declared before"
device_says line (Whys.NameTaken kind) = codes "a device has this name, a " ++ name_of kind
device_says line Whys.TooMany = codes "a bus has 63 devices, and 63 are declared before"
device_says line (Whys.NoDeck name kind) = name ++ codes " is a " ++ name_of kind ++ codes "; only decks and camcorders have a tape"
device_says line (Whys.NoPort number name ports) = ports_text name ports
device_says line Whys.OnePort = codes "both ends are " ++ word_at line 2
device_says line (Whys.PortUsed number name port) = codes "a cable joins it to " ++ name ++ codes "." ++ decimal port
device_says line (Whys.OneDevice name) = codes "both ends are at " ++ name
device_says line (Whys.Loop name other) = codes "cables lead from " ++ name ++ codes " to " ++ other ++ codes " already"
device_says line _ = []

-- at controllers and their connections
abbrev pub controller_says : Why → List ℕ
controller_says (Whys.NotController why) = no_controller_text why
controller_says (Whys.NothingStands name lost) = nothing_text name lost
controller_says (Whys.OffBus number why) = no_node_text why
controller_says (Whys.NotOwnPlug name) = name ++ codes " has broadcast connections at its own plugs alone"
controller_says (Whys.NoSuchConnection slot state) = slot_text slot state
controller_says (Whys.TableFull name) = codes "all 32 slots of " ++ name ++ codes " are in use"
controller_says (Whys.Busy name) = codes "eight jobs of " ++ name ++ codes " wait"
controller_says (Whys.NotCapable name kind) = name ++ codes " is a " ++ name_of kind ++ codes "; only computers can be candidates"
controller_says (Whys.NotCandidate name capable) = candidate_text name capable
controller_says _ = []

-- at registers, limits and the first device
abbrev pub register_says : Why → List ℕ
register_says (Whys.Guarded offset) = guarded_text offset
register_says Whys.NoManager = codes "no node is resource manager"
register_says (Whys.NoRegister name offset written) = no_register_text name offset written
register_says (Whys.Limit limit before here) = limit_text limit before here
register_says (Whys.TooLate name) = codes "a device is declared before: " ++ name
register_says _ = []

-- the word that is told, if one is
abbrev pub word_text : List ℕ → Option ℕ → List ℕ
word_text line None = []
word_text line (Some number) = named_word line number ++ codes ": "

-- what is told, with the words of the line
abbrev pub why_text : List ℕ → Why → List ℕ
why_text line why = word_text line (told_word why) ++ device_says line why ++ controller_says why ++ register_says why

-- a word that is told has a number from 1
abbrev pub HasToldWord : Why → Type 0
HasToldWord why = IfSome (told_word why) (λ number. 0 < number)
