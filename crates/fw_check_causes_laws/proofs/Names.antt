-- What is told of a rule has its name, rule by rule, and so a refused command has a cause.
use Rattle.std.proofs.Common.{◌≡◌, ◌+◌, ◌&&◌, Bool, true, false, cond, nat_lt, length, Option, Some, None, refl, subst}
use Rattle.std.specs.Prelude.{Err}
use Rattle.fw_script_command.specs.declared.command.Command.{Command}
use Rattle.fw_script_command.specs.declared.command.Command.TheVariants as Commands
use Rattle.fw_order.specs.declared.limits.TheConstants.{MOST_WRITTEN_CYCLES}
use Rattle.fw_order.specs.declared.rule.RuleFault.{RuleFault}
use Rattle.fw_order.specs.declared.rule.RuleFault.TheVariants as Rules
use Rattle.fw_model_run.specs.Good.{IsGood}
use Rattle.fw_model_run.specs.Named.{names_of, controller_of, deck_of}
use Rattle.fw_model_run.specs.Rules.{Decides}
use Rattle.fw_model_run.specs.State.{State}
use Rattle.fw_check.specs.Whys.{rule_name}
use Rattle.fw_check.specs.declared.why.Why.{Why}
use Rattle.fw_check.specs.declared.why.Why.TheVariants.{NotOwnPlug, TableFull, Busy, Limit, TooLate}
use Rattle.fw_check.specs.declared.why.LimitOf.TheVariants.{WrittenCycles, Cycles}
use Rattle.fw_check_causes.specs.Causes.{cause, loop, name_at, no_port, passed, port_used}
use Rattle.fw_check_causes_laws.specs.Told.{HasCause, rule_word}
use Rattle.fw_check_causes_laws.proofs.Broken.{broken}
use Rattle.fw_check_causes_laws.proofs.NameLaws.{IsAs, bus, candidate, capable, connection, controller, deck, ends, mapped, port, round, shown, stands, swapped, taken, unknown, used}
use Rattle.fw_check_causes_laws.proofs.Somes.{Has}

limits : (s : State) (c : Command) → IsAs Rules.Limit (passed s c)
limits s (Commands.Cable a b) = refl
limits s (Commands.Reset name) = refl
limits s (Commands.Lose name) = refl
limits s (Commands.Step name count) = refl
limits s (Commands.Contend name count) = refl
limits s (Commands.Settle rounds) = refl
limits s (Commands.Wait cycles) = refl
limits s (Commands.Cycles count) = go (nat_lt 0 (length s.declared.names) && nat_lt MOST_WRITTEN_CYCLES (s.written + count))
  where
    go : (t : Bool) → rule_name (cond t (Limit WrittenCycles s.written count) (Limit Cycles s.clock.cycle count)) ≡ rule_word Rules.Limit
    go true = refl
    go false = refl
limits s _ = tt

named_as : (s : State) (c : Command) (r : RuleFault) → IsAs r (cause s c r)
named_as s c Rules.UnknownName = unknown s 2 (names_of c)
named_as s c Rules.NameTaken = taken s c
named_as s c Rules.TooMany = refl
named_as s c Rules.NoDeck = deck s (deck_of c)
named_as s c Rules.NoPort = ends Rules.NoPort c (no_port s) (port s)
named_as s c Rules.PortUsed = ends Rules.PortUsed c (port_used s) (used s)
named_as s c Rules.Loop = ends Rules.Loop c (λ a b. loop s a.0 b.0) (round s)
named_as s c Rules.NotController = controller s c
named_as s c Rules.NothingStands = stands s c
named_as s c Rules.OffBus = bus s c
named_as s c Rules.NotOwnPlug = mapped Rules.NotOwnPlug (controller_of c) NotOwnPlug (λ name. refl)
named_as s c Rules.NoSuchConnection = connection s c
named_as s c Rules.TableFull = mapped Rules.TableFull (controller_of c) TableFull (λ name. refl)
named_as s c Rules.Busy = mapped Rules.Busy (controller_of c) Busy (λ name. refl)
named_as s c Rules.NotCapable = capable s c
named_as s c Rules.NotCandidate = candidate s c
named_as s c Rules.Guarded = swapped c
named_as s c Rules.NoRegister = shown s c
named_as s c Rules.Limit = limits s c
named_as s c Rules.TooLate = mapped Rules.TooLate (name_at s 0) TooLate (λ name. refl)

pub decided : (s : State) (c : Command) (r : RuleFault) → IsGood s → Decides s c (Err r) → HasCause s c r
decided s c r g h = by (cause s c r) refl (broken s c r g h.0)
  where
    by : (o : Option Why) → cause s c r ≡ o → Has o → HasCause s c r
    by None e t = let z : ⊥ = cc in absurd z
    by (Some why) e t = record { why = why; is = e; named = subst (IsAs r) e (named_as s c r) }
