-- What commands name: devices, ends of cables, connections and registers; and the limits that they would pass.
use Rattle.std.specs.Prelude.{ℕ, ◌≡◌, ◌+◌, ◌*◌, ◌^◌, ◌<◌, ◌≤◌, ◌⊎◌, ◌==◌, ◌&&◌, ◌||◌, not, nat_le, Bool, IsTrue, IsFalse, if◌then◌else◌}
use Rattle.std.specs.Prelude.{List, [], ◌∷◌, length, Option, Some, None, Err, is_some}
use Rattle.fw_terms.specs.Tables.{at_plug}
use Rattle.fw_terms.specs.declared.plug.PlugAt.{PlugAt}
use Rattle.fw_csr.specs.declared.low_offset.TheConstants.{BUS_MANAGER_ID, BANDWIDTH_AVAILABLE, CHANNELS_AVAILABLE_HI, CHANNELS_AVAILABLE_LO, OPCR, LAST_OPCR, IPCR, LAST_IPCR}
use Rattle.fw_tree.specs.declared.facts.End.{End}
use Rattle.fw_tree.specs.declared.TreeFault.{TreeFault}
use Rattle.fw_tree.specs.Topology.{IsFault}
use Rattle.fw_script_command.specs.declared.command.Command.{Command}
use Rattle.fw_script_command.specs.declared.command.Command.TheVariants as Commands
use Rattle.fw_devices.specs.Network.{device_named}
use Rattle.fw_order.specs.declared.limits.TheConstants.{MOST_HALF_STEPS, MOST_RESETS, MOST_WRITTEN_CYCLES}
use Rattle.fw_cmp.specs.declared.outcome.StartFault.{StartFault}
use Rattle.fw_cmp.specs.Starts.{break_fault}
use Rattle.fw_order.specs.declared.order.Wanted.{Wanted}
use Rattle.fw_order.specs.declared.order.Wanted.TheVariants.{PlugToPlug, BroadcastOut, BroadcastIn}
use Rattle.fw_model_run.specs.State.{State, device_in, manager_in, is_on, living}
use Rattle.fw_model_run.specs.Spaces.{read_at}
use Rattle.fw_model_run.specs.Afterwards.{start_of}

-- ---- names

-- the device with a name
abbrev pub IsNamed : State → List ℕ → ℕ → Type 0
IsNamed s name d = device_named s.declared.names name ≡ Some d

-- a device with this name is declared
abbrev pub is_declared : State → List ℕ → Bool
is_declared s name = is_some (device_named s.declared.names name)

-- the declared devices that a command names, from left to right
abbrev pub names_of : Command → List (List ℕ)
names_of Commands.Withhold = []
names_of (Commands.Device name kind ports speed) = []
names_of (Commands.Cable a b) = a.0 ∷ b.0 ∷ []
names_of (Commands.Reset name) = name ∷ []
names_of (Commands.Connect name out into channel overhead) = name ∷ out.0 ∷ into.0 ∷ []
names_of (Commands.Broadcast name out overhead) = name ∷ out.0 ∷ []
names_of (Commands.Listen name into) = name ∷ into.0 ∷ []
names_of (Commands.Break name slot) = name ∷ []
names_of (Commands.Step name count) = name ∷ []
names_of (Commands.Settle rounds) = []
names_of (Commands.Wait cycles) = []
names_of (Commands.Cycles count) = []
names_of (Commands.Die name late) = name ∷ []
names_of (Commands.Lose name) = name ∷ []
names_of (Commands.Start name) = name ∷ []
names_of (Commands.Command name other frame) = name ∷ other ∷ []
names_of (Commands.Read name other offset) = name ∷ other ∷ []
names_of (Commands.Swap name other offset argument new) = name ∷ other ∷ []
names_of (Commands.Insert name tape system) = name ∷ []
names_of (Commands.Eject name) = name ∷ []
names_of (Commands.Show None offset) = []
names_of (Commands.Show (Some name) offset) = name ∷ []
names_of (Commands.Candidate name) = name ∷ []
names_of (Commands.Contend name count) = name ∷ []
names_of (Commands.Dub name) = name ∷ []
names_of Commands.End = []

-- the device whose controller a command needs
abbrev pub controller_of : Command → Option (List ℕ)
controller_of (Commands.Connect name out into channel overhead) = Some name
controller_of (Commands.Broadcast name out overhead) = Some name
controller_of (Commands.Listen name into) = Some name
controller_of (Commands.Break name slot) = Some name
controller_of (Commands.Step name count) = Some name
controller_of (Commands.Die name late) = Some name
controller_of (Commands.Lose name) = Some name
controller_of (Commands.Command name other frame) = Some name
controller_of (Commands.Read name other offset) = Some name
controller_of (Commands.Swap name other offset argument new) = Some name
controller_of (Commands.Candidate name) = Some name
controller_of (Commands.Contend name count) = Some name
controller_of _ = None

-- the device whose node a command needs
abbrev pub node_of : Command → Option (List ℕ)
node_of (Commands.Command name other frame) = Some other
node_of (Commands.Read name other offset) = Some other
node_of (Commands.Swap name other offset argument new) = Some other
node_of (Commands.Show name offset) = name
node_of _ = None

-- the device that a command needs a tape subunit of
abbrev pub deck_of : Command → Option (List ℕ)
deck_of (Commands.Insert name tape system) = Some name
deck_of (Commands.Eject name) = Some name
deck_of (Commands.Dub name) = Some name
deck_of _ = None

-- the device with this name, if any, is not so
abbrev pub IsNot : State → (ℕ → Bool) → Option (List ℕ) → Type 0
IsNot s test None = ⊥
IsNot s test (Some name) = (d : ℕ) × IsNamed s name d × IsFalse (test d)

-- ---- cables

-- a port of a named device is this end of a cable
abbrev pub IsEnd : State → List ℕ × ℕ → End → Type 0
IsEnd s a e = IsNamed s a.0 e.device × (e.port ≡ a.1)

-- the ends of a cable, which have the property
abbrev pub Ends : State → Command → (End → End → Type 0) → Type 0
Ends s (Commands.Cable a b) P = (x y : End) × IsEnd s a x × IsEnd s b y × P x y
Ends s _ P = ⊥

-- a cable cannot be put in, for this reason of the cabling
abbrev pub HasTreeFault : State → TreeFault → Command → Type 0
HasTreeFault s f c = Ends s c (λ x y. IsFault s.declared.topology x y f)

-- one of the ends is on the bus, and the other is off: the cable begins a bus reset
abbrev pub is_joining : State → End → End → Bool
is_joining s a b = if is_on s a.device then not (is_on s b.device) else is_on s b.device

-- ---- connections

-- a plug of a device, by number
abbrev pub plug_of : ℕ → List ℕ × ℕ → PlugAt
plug_of e plug = at_plug e plug.1

-- the connection that a command asks a controller for
abbrev pub IsWanted : State → Command → ℕ → Wanted → Type 0
IsWanted s (Commands.Connect name out into channel overhead) d w =
    IsNamed s name d × ((e f : ℕ) × IsNamed s out.0 e × IsNamed s into.0 f × (w ≡ PlugToPlug (plug_of e out) (plug_of f into) channel overhead))
IsWanted s (Commands.Broadcast name out overhead) d w = IsNamed s name d × ((e : ℕ) × IsNamed s out.0 e × (w ≡ BroadcastOut (plug_of e out) overhead))
IsWanted s (Commands.Listen name into) d w = IsNamed s name d × ((e : ℕ) × IsNamed s into.0 e × (w ≡ BroadcastIn (plug_of e into)))
IsWanted s _ d w = ⊥

-- the controller refuses a new connection, or a break
abbrev pub IsRefused : State → Command → StartFault → Type 0
IsRefused s (Commands.Break name slot) f = (d : ℕ) × IsNamed s name d × (break_fault (s.controllers d) slot ≡ Some f)
IsRefused s c f = (d : ℕ) × (w : Wanted) × IsWanted s c d w × (start_of d w (s.controllers d) ≡ Err f)

-- ---- registers

-- the registers of the manager that hold channels and units, and the plug control registers
abbrev pub is_guarded_at : ℕ → Bool
is_guarded_at offset =
    (offset == BANDWIDTH_AVAILABLE) || (offset == CHANNELS_AVAILABLE_HI) || (offset == CHANNELS_AVAILABLE_LO)
    || (nat_le OPCR offset && nat_le offset LAST_OPCR) || (nat_le IPCR offset && nat_le offset LAST_IPCR)

-- and BUS_MANAGER_ID from the first candidate on
abbrev pub is_guarded_in : Bool → ℕ → Bool
is_guarded_in begun offset = is_guarded_at offset || (begun && (offset == BUS_MANAGER_ID))

-- the device whose register is shown
abbrev pub IsShown : State → Option (List ℕ) → ℕ → Type 0
IsShown s None d = (n : ℕ) × (manager_in s.account.latest ≡ Some n) × (device_in s.account.latest n ≡ Some d)
IsShown s (Some name) d = IsNamed s name d

-- a register of the manager is asked for, and the bus has none
abbrev pub HasNoManager : State → Option (List ℕ) → Type 0
HasNoManager s None = manager_in s.account.latest ≡ None
HasNoManager s (Some name) = ⊥

-- the register that is to be shown is none
abbrev pub HasNoRegister : State → Command → Type 0
HasNoRegister s (Commands.Show name offset) = HasNoManager s name ⊎ ((d : ℕ) × IsShown s name d × IsFalse ((read_at s d offset).rcode == 0))
HasNoRegister s _ = ⊥

-- ---- limits

-- the command would pass a limit of bus resets, half steps or cycles
abbrev pub PassesLimit : State → Command → Type 0
PassesLimit s (Commands.Cable a b) = (MOST_RESETS ≤ s.resets) × Ends s (Commands.Cable a b) (λ x y. IsTrue (is_joining s x y))
PassesLimit s (Commands.Reset name) = MOST_RESETS ≤ s.resets
PassesLimit s (Commands.Lose name) = MOST_RESETS ≤ s.resets
PassesLimit s (Commands.Step name count) = MOST_HALF_STEPS < s.half_steps + count
PassesLimit s (Commands.Contend name count) = MOST_HALF_STEPS < s.half_steps + count
PassesLimit s (Commands.Settle rounds) = MOST_HALF_STEPS < s.half_steps + rounds * length (living s)
PassesLimit s (Commands.Wait cycles) = 2 ^ 52 < s.clock.cycle + cycles
PassesLimit s (Commands.Cycles count) = (2 ^ 52 < s.clock.cycle + count) ⊎ (IsTrue (is_some s.account.latest) × (MOST_WRITTEN_CYCLES < s.written + count))
PassesLimit s _ = ⊥
