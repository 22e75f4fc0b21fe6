-- How soon connections are restored: the laws of this crate, as its functions promise them.
use Rattle.std.specs.Prelude.{◌≡◌, ◌≢◌, ◌+◌, ◌*◌, ◌<◌, ◌≤◌, ◌⊎◌, ℕ, Bool, List, Some, slice_get, IsTrue, IsFalse}
use Rattle.fw_csr.specs.declared.reply.Reply.{Reply}
use Rattle.fw_plug.specs.Words.{flag}
use Rattle.fw_terms.specs.declared.plug.PlugAt.{PlugAt}
use Rattle.fw_log_entry.specs.declared.entry.ResetEntry.{ResetEntry}
use Rattle.fw_model_account.specs.Account.{Account}
use Rattle.fw_model_account.specs.Events.{after_reset as account_after_reset}
use Rattle.fw_model_account.specs.Moves.{Move, after}
use Rattle.fw_cmp_jobs.specs.declared.directory.Directory.{Directory}
use Rattle.fw_cmp_jobs.specs.declared.job.Job.{Job}
use Rattle.fw_cmp_jobs.specs.declared.request.Target.{Target}
use Rattle.fw_cmp_jobs.specs.declared.stage.Stage.{Stage}
use Rattle.fw_cmp.specs.Controllers.{ControllerState, slot_at, CurrentFits, IsHeard, first_state}
use Rattle.fw_cmp_jobs.specs.Slots.{is_restoring}
use Rattle.fw_cmp_jobs.specs.Stages.{hear}
use Rattle.fw_cmp.specs.Resets.{after_hear, state_reset}
use Rattle.fw_cmp.specs.Turns.{after_next}
use Rattle.fw_model_controllers.specs.Moves.{carried_out}
use Rattle.fw_model_controllers.specs.Registers.{IsAnswer}
use Rattle.fw_model_controllers.specs.Together.{AreInStep, Becomes}
use Rattle.fw_model_rounds.specs.Accounts.{Hears, IsReclaiming, OnlyLiving, situation_of, words_of}
use Rattle.fw_model_rounds.specs.Distance.{IsNear, IsRestoring, HasPlug, has_begun, is_over, is_waiting, answer_of, succeeds}
use Rattle.fw_model_rounds.specs.Table.{distance}
use Rattle.fw_model_rounds.specs.Remaining.{remaining}
use Rattle.fw_model_rounds.specs.HalfSteps.{AsksWhatStands, IsWithin, CurrentKnows, OnlyRestores, Waits, progresses, to_come, after_half_step}
use Rattle.fw_model_rounds.specs.Settling.{BeginsSecond, CanSettle, InputsThere, Settles}
use Rattle.fw_model_rounds.specs.Rounds.{AccountSays, AllReset, AllRestore, HalfStep, IsRound, NoneToRestore, Situation, TakeHalfSteps, all_to_come, connections_to_restore, rounds}

-- a restoring that does not wait for its channel has a successful lock, or its end, within three answers
abbrev pub RestoringsAreNear : Type 0
RestoringsAreNear =
    (words : Target → ℕ) (j : Job) (ch : ℕ) (s : Stage) → IsRestoring words j ch s → IsTrue (has_begun s)
    → IsFalse (is_waiting words j ch s) → IsNear 3 words j s

-- an answer leaves at most the successes that were to come, and one less if a lock succeeds
abbrev pub AnswersLeaveFewer : Type 0
AnswersLeaveFewer =
    (words : Target → ℕ) (j : Job) (s : Stage) → HasPlug words j s
    → remaining (hear j s (answer_of words j s)) + flag (succeeds words j s) ≤ remaining s

-- a restoring that does not wait is at most six half steps from its next success
abbrev pub DistancesAreFew : Type 0
DistancesAreFew =
    (words : Target → ℕ) (j : Job) (ch : ℕ) (s : Stage) → IsFalse (is_waiting words j ch s) → distance words j ch s ≤ 6

-- a lock that succeeds is two half steps away, its request and its answer
abbrev pub SuccessIsAtTwo : Type 0
SuccessIsAtTwo = (words : Target → ℕ) (j : Job) (ch : ℕ) (s : Stage) → IsTrue (succeeds words j s) → distance words j ch s ≡ 2

-- each answer without a success lowers the distance by two, the request and the answer
abbrev pub DistancesFall : Type 0
DistancesFall =
    (words : Target → ℕ) (j : Job) (ch : ℕ) (s : Stage) → IsRestoring words j ch s → IsFalse (is_over j s) → IsTrue (has_begun s)
    → IsFalse (is_waiting words j ch s) → IsFalse (succeeds words j s)
    → distance words j ch s ≡ 2 + distance words j ch (hear j s (answer_of words j s))

-- a controller with a slot to be restored makes progress within eight half steps, or waits for its channel
abbrev pub ControllersMakeProgress : Type 0
ControllersMakeProgress =
    (words : Target → ℕ) (now : ℕ) (d : Directory) (c : ControllerState) (i : ℕ) → now < d.over_at → OnlyRestores c
    → CurrentFits c c.current → CurrentKnows words c.current → i < 32 → IsTrue (is_restoring (slot_at c i))
    → IsWithin 8 words now d c ⊎ Waits words c

-- a half step never leaves more to come, and leaves less if it makes progress
abbrev pub HalfStepsLeaveNoMore : Type 0
HalfStepsLeaveNoMore =
    (words : Target → ℕ) (now : ℕ) (d : Directory) (c : ControllerState) → now < d.over_at → OnlyRestores c
    → CurrentFits c c.current → CurrentKnows words c.current
    → to_come (after_half_step words now d c) + flag (progresses words now d c) ≤ to_come c

-- a controller that only restores goes on restoring
abbrev pub ControllersGoOnRestoring : Type 0
ControllersGoOnRestoring =
    (words : Target → ℕ) (now : ℕ) (d : Directory) (c : ControllerState) → now < d.over_at → OnlyRestores c
    → OnlyRestores (after_half_step words now d c)

-- while a slot is to be restored, eight rounds make progress
abbrev pub EightRoundsMakeProgress : Type 0
EightRoundsMakeProgress =
    (now : ℕ) (d : Directory) (ks : List ℕ) (s t : Situation) → now < d.over_at → AllRestore s → AccountSays s → IsRound ks s
    → all_to_come s ≢ 0 → TakeHalfSteps now d (rounds 8 ks) s t → all_to_come t + 1 ≤ all_to_come s

-- eight rounds for each success that is to come leave no slot to be restored
abbrev pub RoundsRestoreAll : Type 0
RoundsRestoreAll =
    (n now : ℕ) (d : Directory) (ks : List ℕ) (s t : Situation) → now < d.over_at → AllRestore s → IsRound ks s
    → 8 * all_to_come s ≤ n → TakeHalfSteps now d (rounds n ks) s t → NoneToRestore t

-- after a bus reset, 64 rounds for each connection to be restored, and 64 more, leave no slot to be restored
abbrev pub RoundsRestoreAllAfterReset : Type 0
RoundsRestoreAllAfterReset =
    (n now : ℕ) (d : Directory) (ks : List ℕ) (s t : Situation) → now < d.over_at → AllReset s → IsRound ks s
    → 64 * (connections_to_restore s + 1) ≤ n → TakeHalfSteps now d (rounds n ks) s t → NoneToRestore t

-- in a reclaim second the account tells who holds the channel that a slot waits for
abbrev pub AccountTellsWhoHoldsChannels : Type 0
AccountTellsWhoHoldsChannels = (l : Account) (s : Situation) → IsReclaiming l s → AccountSays s

-- an answer over the account is a half step over its registers
abbrev pub AnswersAreHalfSteps : Type 0
AnswersAreHalfSteps =
    (now : ℕ) (d : Directory) (k : ℕ) (l m : Account) (at after : ℕ → ControllerState) (j : Job) (s : Stage) (t : Target)
    (r : Reply) → Hears l (at k) j s t → IsAnswer l t r → words_of m ≡ words_of (carried_out k j s r l)
    → Becomes at k (after_hear (at k) r) after → HalfStep now d k (situation_of l at) (situation_of m after)

-- a turn over the account, if the words of the registers stay, is a half step over them
abbrev pub TurnsAreHalfSteps : Type 0
TurnsAreHalfSteps =
    (now : ℕ) (d : Directory) (k : ℕ) (l m : Account) (at after : ℕ → ControllerState) → IsHeard (at k).current
    → words_of m ≡ words_of l → Becomes at k (after_next now d (at k)) after
    → HalfStep now d k (situation_of l at) (situation_of m after)

-- right after a bus reset only living controllers have Pending allocations
abbrev pub OnlyLivingAfterReset : Type 0
OnlyLivingAfterReset = (r : ResetEntry) (l : Account) → OnlyLiving (account_after_reset r l).allocations

-- a move of a controller leaves it so that only living controllers have Pending allocations
abbrev pub OnlyLivingAfterMove : Type 0
OnlyLivingAfterMove =
    (k : ℕ) (p : PlugAt) (m : Move) (l : Account) → k < 63 → OnlyLiving l.allocations → OnlyLiving (after k p m l).allocations

-- after a turn the outstanding request is one of its stage
abbrev pub TurnsAskWhatStands : Type 0
TurnsAskWhatStands =
    (now : ℕ) (d : Directory) (c : ControllerState) → IsHeard c.current → AsksWhatStands (after_next now d c).current

-- a bus reset leaves it so that the outstanding request is one of its stage
abbrev pub ResetsLeaveWhatStands : Type 0
ResetsLeaveWhatStands =
    (epoch : ℕ) (lost : Bool) (c : ControllerState) → AsksWhatStands c.current → AsksWhatStands (state_reset epoch lost c).current

-- a round takes in each controller that has something to restore if it takes in each that is not as it started
abbrev pub RoundsTakeInUsedControllers : Type 0
RoundsTakeInUsedControllers =
    (ks : List ℕ) (s : Situation) → ((k : ℕ) → k < 63 → (s.at k ≡ first_state) ⊎ ((i : ℕ) × (slice_get ks i ≡ Some k)))
    → IsRound ks s

-- after a bus reset that begins a reclaim second, with controllers in step, the settling can begin
abbrev pub ResetsOpenSettling : Type 0
ResetsOpenSettling =
    (dir : Directory) (r : ResetEntry) (epoch : ℕ) (l : Account) (before at : ℕ → ControllerState)
    → BeginsSecond epoch l before at → AreInStep dir (account_after_reset r l) at → InputsThere (account_after_reset r l) at
    → CanSettle dir (account_after_reset r l) at

-- a bus reset that begins a reclaim second leaves all controllers as a bus reset does
abbrev pub ResetsBeginAllAnew : Type 0
ResetsBeginAllAnew =
    (r : ResetEntry) (epoch : ℕ) (l : Account) (before at : ℕ → ControllerState) → BeginsSecond epoch l before at
    → AllReset (situation_of (account_after_reset r l) at)

-- 64 rounds for each connection to be restored, and 64 more, over the account leave no slot to be restored
abbrev pub SettlingRestoresAll : Type 0
SettlingRestoresAll =
    (n now : ℕ) (dir : Directory) (ks : List ℕ) (l m : Account) (at end : ℕ → ControllerState) → now < dir.over_at
    → CanSettle dir l at → AllReset (situation_of l at) → IsRound ks (situation_of l at)
    → 64 * (connections_to_restore (situation_of l at) + 1) ≤ n → Settles now dir (rounds n ks) l at m end
    → NoneToRestore (situation_of m end)
