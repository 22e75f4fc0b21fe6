-- What holds of every run: laws that the functions of this crate promise.
use Rattle.std.specs.Prelude.{◌≡◌, ℕ, List, [], ◌∷◌, ◌++◌, Option, Some}
use Rattle.fw_words.specs.declared.swap.Swap.{Swap}
use Rattle.fw_log_entry.specs.declared.entry.Timed.{Timed}
use Rattle.fw_log_entry.specs.declared.entry.ResetEntry.{ResetEntry}
use Rattle.fw_devices.specs.Resets.{Shows}
use Rattle.fw_model_controllers.specs.InStep.{IsRegister}
use Rattle.fw_model_controllers.specs.Registers.{register_at, IsAnswer}
use Rattle.fw_model_controllers.specs.Requests.{IsNodeOf, PlugNumberFits}
use Rattle.fw_cmp_jobs.specs.declared.request.Target.{Target}
use Rattle.fw_cmp_jobs.specs.Requests.{offset_of}
use Rattle.fw_csr.specs.Requests.{request_at}
use Rattle.fw_model_run.specs.State.{State, first_state}
use Rattle.fw_model_run.specs.Spaces.{reply_from}
use Rattle.fw_model_run.specs.Actions.{Action}
use Rattle.fw_model_run.specs.Deeds.{Transition, Transitions}
use Rattle.fw_model_run.specs.Carrying.{Carries}
use Rattle.fw_model_run.specs.Runs.{Run}
use Rattle.fw_model_run.specs.Logs.{HasNoEnd}
use Rattle.fw_model_run.specs.Reclaiming.{ComesBack}
use Rattle.fw_model_run.specs.Settling.{RoundsSuffice}
use Rattle.fw_model_run.specs.Giving.{log_bytes}
use Rattle.fw_model_run.specs.Rules.{Decides}
use Rattle.fw_log_entry.specs.Log.{header_bytes, LogOpens, LogSpells}
use Rattle.fw_log_entry.specs.declared.version.Version.TheVariants.{Two}
use Rattle.fw_script_command.specs.declared.command.Command.TheVariants.{End}
use Rattle.fw_order.specs.declared.order.Order.{Order}
use Rattle.fw_order.specs.declared.rule.RuleFault.{RuleFault}
use Rattle.std.specs.declared.result.Result.{Result}
use Rattle.fw_script_command.specs.declared.command.Command.{Command}
use Rattle.fw_model_run.specs.Good.{IsGood}
use Rattle.fw_model_run.specs.Headline.{IsSoundThroughout}
use Rattle.fw_model_account.specs.Fold.{entries_of}
use Rattle.fw_model_audit.specs.Audited.{IsAudited}

-- the node that a request goes to answers it with the account's word, or refuses if it has no such register
abbrev pub NodesAnswerByTheAccount : Type 0
NodesAnswerByTheAccount =
    (s : State) (e : ResetEntry) (t : Target) (w : Option Swap) (n : ℕ) → s.account.latest ≡ Some e
    → Shows s.declared.topology s.declared.kinds e → IsNodeOf (Some e) t n → PlugNumberFits t → IsRegister (register_at t)
    → IsAnswer s.account t (reply_from s n (request_at (offset_of t) w))

-- each action leaves a good state good
abbrev pub ActionsLeaveStatesGood : Type 0
ActionsLeaveStatesGood = (s : State) (a : Action) (out : List Timed) (t : State) → IsGood s → Transition s a out t → IsGood t

-- what actions from the first state on write is sound at every prefix
abbrev pub ActionsAreSound : Type 0
ActionsAreSound =
    (actions : List Action) (log : List Timed) (s : State) → Transitions first_state actions log s → IsSoundThroughout actions log

-- what a command does is its actions, one after another
abbrev pub CommandsAreActions : Type 0
CommandsAreActions =
    (s : State) (o : Order) (actions : List Action) (out : List Timed) (t : State) → Carries s o actions out t
    → Transitions s actions out t

-- a run is the actions of its commands, from the first state on
abbrev pub RunsAreActions : Type 0
RunsAreActions =
    (commands : List Command) (actions : List Action) (log : List Timed) (s : State) → Run commands actions log s
    → Transitions first_state actions log s

-- an audit finds no fault in what actions from the first state on write
abbrev pub RunsAreAudited : Type 0
RunsAreAudited =
    (actions : List Action) (log : List Timed) (s : State) → Transitions first_state actions log s → IsAudited (entries_of log)

-- an audit finds no fault in a log that is sound at every prefix
abbrev pub SoundLogsAreAudited : Type 0
SoundLogsAreAudited = (actions : List Action) (log : List Timed) → IsSoundThroughout actions log → IsAudited (entries_of log)

-- a run of commands without `end` writes a log of version 2 that lacks its end alone
abbrev pub RunsOpenLogs : Type 0
RunsOpenLogs =
    (commands : List Command) (actions : List Action) (log : List Timed) (s : State) → Run commands actions log s
    → HasNoEnd commands → LogOpens log Two (header_bytes Two ++ log_bytes 0 log)

-- a run whose one `end` is its last command writes a whole log of version 2
abbrev pub RunsSpellLogs : Type 0
RunsSpellLogs =
    (commands : List Command) (actions : List Action) (log : List Timed) (s : State) → Run (commands ++ End ∷ []) actions log s
    → HasNoEnd commands → LogSpells log Two (header_bytes Two ++ log_bytes 0 log)

-- what was written when a run was cut off inside its next command is a log that may lack its end
abbrev pub CutRunsOpenLogs : Type 0
CutRunsOpenLogs =
    (commands : List Command) (actions done later : List Action) (log out more : List Timed) (s t u : State) (o : Order)
    → Run commands actions log s → HasNoEnd commands → Carries s o (done ++ later) more u → Transitions s done out t
    → LogOpens (log ++ out) Two (header_bytes Two ++ log_bytes 0 (log ++ out))

-- each prefix of a log is a log that may lack its end
abbrev pub FrontsOpenLogs : Type 0
FrontsOpenLogs =
    (prefix rest : List Timed) (bytes : List ℕ) → LogOpens (prefix ++ rest) Two bytes
    → LogOpens prefix Two (header_bytes Two ++ log_bytes 0 prefix)

-- a command has one answer, its order or the first rule that it breaks
abbrev pub CommandsHaveOneAnswer : Type 0
CommandsHaveOneAnswer = (s : State) (c : Command) (r q : Result Order RuleFault) → Decides s c r → Decides s c q → r ≡ q

-- in a run connections come back after a bus reset, at the end of each reclaim second
abbrev pub ConnectionsComeBack : Type 0
ConnectionsComeBack =
    (actions : List Action) (log : List Timed) (s : State) → Transitions first_state actions log s → ComesBack actions log

-- each `settle` of a script that has its rounds leaves no connection to be restored
abbrev pub SettlesHaveEnoughRounds : Type 0
SettlesHaveEnoughRounds =
    (commands : List Command) (actions : List Action) (log : List Timed) (s : State) → Run commands actions log s
    → RoundsSuffice commands actions log
