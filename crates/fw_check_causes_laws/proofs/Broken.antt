-- A broken rule has a cause, rule by rule.
use Rattle.std.proofs.Common.{refl}
use Rattle.fw_script_command.specs.declared.command.Command.{Command}
use Rattle.fw_cmp.specs.declared.outcome.StartFault.TheVariants as Refusals
use Rattle.fw_order.specs.declared.rule.RuleFault.{RuleFault}
use Rattle.fw_order.specs.declared.rule.RuleFault.TheVariants as Rules
use Rattle.fw_model_run.specs.Good.{IsGood}
use Rattle.fw_model_run.specs.Named.{controller_of, deck_of, names_of}
use Rattle.fw_model_run.specs.Rules.{Breaks}
use Rattle.fw_model_run.specs.State.{State, has_deck}
use Rattle.fw_check.specs.declared.why.Why.TheVariants as Whys
use Rattle.fw_check_causes.specs.Causes.{cause}
use Rattle.fw_check_causes_laws.proofs.Somes.{Has, mapped}
use Rattle.fw_check_causes_laws.proofs.NameRules.{deckless, incapable, late, no_candidate, taken, unknown}
use Rattle.fw_check_causes_laws.proofs.CableRules.{looped, portless, used}
use Rattle.fw_check_causes_laws.proofs.ControllerRules.{away, idle, refuser, unbroken, uncontrolled}
use Rattle.fw_check_causes_laws.proofs.RegisterRules.{limited, protected, unshown}

pub broken : (s : State) (c : Command) (r : RuleFault) → IsGood s → Breaks s c r → Has (cause s c r)
broken s c Rules.UnknownName g h = unknown s 2 (names_of c) h
broken s c Rules.NameTaken g h = taken s c h
broken s c Rules.TooMany g h = refl
broken s c Rules.NoDeck g h = deckless s (has_deck s) (deck_of c) h
broken s c Rules.NoPort g h = portless s c h
broken s c Rules.PortUsed g h = used s c g h
broken s c Rules.Loop g h = looped s c h
broken s c Rules.NotController g h = uncontrolled s c h
broken s c Rules.NothingStands g h = idle s c h
broken s c Rules.OffBus g h = away s c h
broken s c Rules.NotOwnPlug g h = mapped (controller_of c) Whys.NotOwnPlug (refuser s c Refusals.NotOwnPlug h)
broken s c Rules.NoSuchConnection g h = unbroken s c h
broken s c Rules.TableFull g h = mapped (controller_of c) Whys.TableFull (refuser s c Refusals.TableFull h)
broken s c Rules.Busy g h = mapped (controller_of c) Whys.Busy (refuser s c Refusals.Busy h)
broken s c Rules.NotCapable g h = incapable s c h
broken s c Rules.NotCandidate g h = no_candidate s c h
broken s c Rules.Guarded g h = protected s c h
broken s c Rules.NoRegister g h = unshown s c g h
broken s c Rules.Limit g h = limited s c h
broken s c Rules.TooLate g h = late s c h
