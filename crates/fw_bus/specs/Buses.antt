-- What a bus stands for, and what a call of it did.
use Rattle.std.specs.Prelude.{ℕ, ◌≡◌, ◌+◌, ◌*◌, ◌≤◌, List, [], ◌∷◌, ◌++◌, Bool, Option, Some, None, Ok, Err, IsTrue, IsFalse, ⊤}
use Rattle.std.specs.declared.result.Result.{Result}
use Rattle.fw_outside.specs.Outside.{Grows}
use Rattle.fw_log_entry.specs.declared.entry.Timed.{Timed}
use Rattle.fw_node.specs.State.{NodeState, HasSpace}
use Rattle.fw_log_entry.specs.Log.{header_bytes, LogOpens, LogSpells}
use Rattle.fw_log_entry.specs.declared.version.Version.TheVariants.{Two}
use Rattle.fw_script_command.specs.declared.command.Command.{Command}
use Rattle.fw_script_command.specs.declared.command.Command.TheVariants.{End}
use Rattle.fw_bus_state.specs.declared.machine.Machine.{Machine}
use Rattle.fw_cmp.specs.Controllers.{slot_at}
use Rattle.fw_cmp_jobs.specs.Slots.{is_restoring}
use Rattle.fw_order.specs.declared.order.Order.{Order}
use Rattle.fw_order.specs.declared.order.Order.TheVariants.{Settle}
use Rattle.fw_bus.specs.declared.BusFault.{BusFault}
use Rattle.fw_bus.specs.declared.BusFault.TheVariants.{Refused, WriteFault}
use Rattle.fw_model_run.specs.Giving.{log_bytes}
use Rattle.fw_model_run.specs.State.{State, number_in, epoch_of}
use Rattle.fw_model_run.specs.Spaces.{space_at}
use Rattle.fw_model_run.specs.Rules.{Decides}
use Rattle.fw_model_run.specs.Actions.{Action}
use Rattle.fw_model_run.specs.Carrying.{Carries}
use Rattle.fw_model_run.specs.Desks.{DeskRelations}
use Rattle.fw_model_run.specs.Given.{AreGiven}
use Rattle.fw_model_run.specs.Runs.{Run}
use Rattle.fw_bus_state.specs.Lingering.{TalksAs}
use Rattle.fw_bus_state.specs.Reels.{PlugsHear}
-- (what a crate above a bus names of fw_bus_state, fw_bus_rules and fw_bus_engine it has from here)
pub use Rattle.fw_bus_state.specs.Stands.{StandsFor}
pub use Rattle.fw_bus_rules.specs.Decisions.{IsCommand}
pub use Rattle.fw_bus_engine.specs.Performing.{CutOff}
use Rattle.fw_model_run.specs.Headline.{IsSoundThroughout}
use Rattle.fw_model_run.specs.Elected.{ElectsOne}
use Rattle.fw_model_run.specs.Reclaiming.{ComesBack}
use Rattle.fw_model_run.specs.Recovery.{RecoversThroughout}
use Rattle.fw_model_run.specs.Withheld.{WithholdsThroughout}
use Rattle.fw_model_run.specs.Settling.{BeginsSecond, to_restore}
use Rattle.fw_model_run.specs.Logs.{HasNoEnd}

-- what a caller sees of a bus
pub record BusView : Type 0 where
  pub machine : Machine
  pub spent : Bool

-- there is a run for whose state the machine stands
pub record IsReached (m : Machine) : Type 0 where
  pub commands : List Command
  pub actions : List Action
  pub log : List Timed
  pub state : State
  pub run : Run commands actions log state
  pub stands : StandsFor m state

-- the run goes on with this command from its state, with what this desk gives, and the bus stands for the state that the command leads to
pub record ContinuesRun (D : DeskRelations) (commands : List Command) (actions : List Action) (log : List Timed) (s : State) (c : Command) (now : BusView)
    (held after : Option (List ℕ)) : Type 0 where
  pub order : Order
  pub decided : Decides s c (Ok order)
  pub more : List Action
  pub out : List Timed
  pub state : State
  pub carries : Carries s order more out state
  pub given : AreGiven D more
  pub run : Run (commands ++ c ∷ []) (actions ++ more) (log ++ out) state
  pub stands : StandsFor now.machine state
  pub grew : Grows held after (log_bytes (epoch_of s.account.latest) out)
  pub sound : IsSoundThroughout (actions ++ more) (log ++ out)
  -- what was whole before a bus reset is whole again if its second is over
  pub restored : ComesBack (actions ++ more) (log ++ out)
  -- between two bus resets one device at most is elected bus manager, and it is the winner
  pub elected : ElectsOne (actions ++ more) (log ++ out)
  -- what a swap took whose response was lost comes right, and a channel that is withheld has no use
  pub recovers : RecoversThroughout (actions ++ more)
  pub withholds : WithholdsThroughout (actions ++ more)
  -- given right after a bus reset that begins a second, enough rounds leave no connection to be restored
  pub settles : BeginsSecond s → (rounds : ℕ) → order ≡ Settle rounds → 64 * (to_restore s + 1) ≤ rounds → (d i : ℕ) → IsFalse (is_restoring (slot_at (state.controllers d) i))
  -- what was written so far is a log, which lacks its end alone until the end of the script
  pub opens : HasNoEnd commands → LogOpens (log ++ out) Two (header_bytes Two ++ log_bytes 0 (log ++ out))
  pub whole : HasNoEnd commands → c ≡ End → LogSpells (log ++ out) Two (header_bytes Two ++ log_bytes 0 (log ++ out))
  pub fresh : IsFalse now.spent

-- It was cut off by the sink: the entries given so far, and a prefix of the next. With what this desk gives the order was carried out so far.
pub record CutsRunOff (D : DeskRelations) (commands : List Command) (actions : List Action) (log : List Timed) (s : State) (c : Command) (now : BusView) (held after : Option (List ℕ)) : Type 0 where
  pub order : Order
  pub decided : Decides s c (Ok order)
  pub cut : CutOff (Carries s order) s held after
  pub given : AreGiven D cut.done
  pub sound : IsSoundThroughout (actions ++ cut.done) (log ++ (cut.given ++ cut.next ∷ []))
  pub restored : ComesBack (actions ++ cut.done) (log ++ (cut.given ++ cut.next ∷ []))
  pub elected : ElectsOne (actions ++ cut.done) (log ++ (cut.given ++ cut.next ∷ []))
  pub recovers : RecoversThroughout (actions ++ cut.done)
  pub withholds : WithholdsThroughout (actions ++ cut.done)
  pub opens : HasNoEnd commands → LogOpens (log ++ (cut.given ++ cut.next ∷ [])) Two (header_bytes Two ++ log_bytes 0 (log ++ (cut.given ++ cut.next ∷ [])))
  pub spent : IsTrue now.spent

-- what a call with a command did: it was carried out, or refused by its first broken rule, or the sink failed
abbrev pub Applies : {T : Type 0} → DeskRelations → List Command → List Action → List Timed → State → Command → BusView → Option (List ℕ) → Option (List ℕ) → Result T BusFault → Type 0
Applies D commands actions log s c now held after (Ok _) = ContinuesRun D commands actions log s c now held after
Applies D commands actions log s c now held after (Err (Refused fault)) = Decides s c (Err fault)
Applies D commands actions log s c now held after (Err WriteFault) = CutsRunOff D commands actions log s c now held after

-- the node that is lent for a device: one on the bus, with the registers of the account, that talks exactly if the account says so, and
-- hears exactly if the run does
abbrev pub LendsNodeAt : Option ℕ → State → ℕ → Option NodeState → Type 0
LendsNodeAt None s d o = o ≡ None
LendsNodeAt (Some number) s d None = ⊥
LendsNodeAt (Some number) s d (Some n) = HasSpace n (space_at s d number) × TalksAs n d s.account × PlugsHear n d s

-- the node of a device on the bus is lent as it stands in the state
abbrev pub LendsNode : State → ℕ → Option NodeState → Type 0
LendsNode s d o = LendsNodeAt (number_in s.account.latest d) s d o

-- what holds after a refusal
abbrev pub WhereRefused : BusFault → Type 0 → Type 0
WhereRefused (Refused fault) holds = holds
WhereRefused WriteFault holds = ⊤

-- what holds after a fault of the sink
abbrev pub WhereFailed : BusFault → Type 0 → Type 0
WhereFailed (Refused fault) holds = ⊤
WhereFailed WriteFault holds = holds
