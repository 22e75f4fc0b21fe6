-- What is told of devices and limits is so.
use Rattle.std.specs.Prelude.{◌≡◌, ℕ, ◌+◌, ◌<◌, Some, IsTrue, IsFalse}
use Rattle.fw_terms.specs.Devices.{has_link}
use Rattle.fw_script_command.specs.declared.command.Command.{Command}
use Rattle.fw_devices.specs.Network.{kind_at}
use Rattle.fw_order.specs.declared.rule.RuleFault.TheVariants as Rules
use Rattle.fw_model_run.specs.Named.{IsNamed}
use Rattle.fw_model_run.specs.Rules.{Breaks}
use Rattle.fw_model_run.specs.State.{State, is_linked, is_on}
use Rattle.fw_check.specs.Whys.{limit_most}
use Rattle.fw_check.specs.declared.why.LimitOf.{LimitOf}
use Rattle.fw_check.specs.declared.why.NoController.{NoController}
use Rattle.fw_check.specs.declared.why.NoController.TheVariants as NoControllers
use Rattle.fw_check.specs.declared.why.NoNode.{NoNode}
use Rattle.fw_check.specs.declared.why.NoNode.TheVariants as NoNodes
use Rattle.fw_check.specs.declared.why.Why.TheVariants as Whys
use Rattle.fw_check_causes.specs.Causes.{cause, name_at}

-- the device is a relay; or off the bus of the first device; or its node has a link, and its controller died
abbrev pub IsWithoutController : State → NoController → Type 0
IsWithoutController s (NoControllers.Relay name) = (d : ℕ) × IsNamed s name d × IsFalse (has_link (kind_at s.declared.kinds d))
IsWithoutController s (NoControllers.Off name bus) = (d : ℕ) × IsNamed s name d × IsFalse (is_on s d) × (name_at s 0 ≡ Some bus)
IsWithoutController s (NoControllers.Died name) = (d : ℕ) × IsNamed s name d × IsTrue (is_linked s d) × IsTrue (s.dead d)

-- the device is off the bus of the first device; or on it, and a relay
abbrev pub IsWithoutNode : State → NoNode → Type 0
IsWithoutNode s (NoNodes.Off name bus) = (d : ℕ) × IsNamed s name d × IsFalse (is_on s d) × (name_at s 0 ≡ Some bus)
IsWithoutNode s (NoNodes.Relay name) = (d : ℕ) × IsNamed s name d × IsTrue (is_on s d) × IsFalse (has_link (kind_at s.declared.kinds d))

-- what is told of a command for want of a controller is so
abbrev pub ControllersAreSo : State → Command → Type 0
ControllersAreSo s c = (why : NoController) → Breaks s c Rules.NotController → cause s c Rules.NotController ≡ Some (Whys.NotController why) → IsWithoutController s why

-- and for want of a node
abbrev pub NodesAreSo : State → Command → Type 0
NodesAreSo s c = (number : ℕ) (why : NoNode) → Breaks s c Rules.OffBus → cause s c Rules.OffBus ≡ Some (Whys.OffBus number why) → IsWithoutNode s why

-- what counts before a line and what it would add pass the limit that is told
abbrev pub LimitsArePassed : State → Command → Type 0
LimitsArePassed s c = (limit : LimitOf) (before here : ℕ) → Breaks s c Rules.Limit → cause s c Rules.Limit ≡ Some (Whys.Limit limit before here) → limit_most limit < before + here
