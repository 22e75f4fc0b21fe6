-- That connections come back after a bus reset: the laws of this crate, as its functions promise them.
use Rattle.std.specs.Prelude.{◌≡◌, Bool, Some, true, List, ℕ, IsTrue}
use Rattle.fw_csr.specs.declared.reply.Reply.{Reply}
use Rattle.fw_log_entry.specs.declared.entry.ResetEntry.{ResetEntry}
use Rattle.fw_model_account.specs.Account.{Account}
use Rattle.fw_model_account.specs.Fold.{no_account}
use Rattle.fw_cmp_jobs.specs.declared.connection.Connection.{Connection}
use Rattle.fw_cmp_jobs.specs.declared.connection.Flow.{Flow}
use Rattle.fw_cmp_jobs.specs.declared.directory.Directory.{Directory}
use Rattle.fw_cmp_jobs.specs.declared.request.Target.{Target}
use Rattle.fw_cmp_jobs.specs.declared.stage.Stage.{Stage}
use Rattle.fw_cmp.specs.Controllers.{first_state}
use Rattle.fw_cmp_jobs.specs.Slots.{restoring_job}
use Rattle.fw_cmp_jobs.specs.Requests.{target_of}
use Rattle.fw_cmp_jobs.specs.Stages.{hear_reply}
use Rattle.fw_model_controllers.specs.Registers.{IsAnswer}
use Rattle.fw_model_controllers.specs.Together.{IsWhole as IsThere}
use Rattle.fw_model_reclaim.specs.Avoids.{AvoidsWithheld, AsksElsewhere}
use Rattle.fw_model_reclaim.specs.Restores.{IsOnCourse}
use Rattle.fw_model_reclaim.specs.Rooms.{IsRestoring}
use Rattle.fw_model_reclaim.specs.Whole.{IsWhole, IsUnbroken, Reclaims, EndsRestored}
use Rattle.fw_model_reclaim.specs.Worlds.{World, Change, Happens, TakesTurn, IsReset, Path, CanReclaim}

-- whatever a register answers to a restoring in its slot's own second, it goes on towards its connection
abbrev pub RestoringsStayOnCourse : Type 0
RestoringsStayOnCourse =
    (l : Account) (c i : ℕ) (conn : Connection) (f : Flow) (s : Stage) (r : Reply) (t : Target) → IsRestoring l c i conn f s
    → IsOnCourse f s → target_of (restoring_job i conn f) s ≡ Some t → IsAnswer l t r
    → IsOnCourse f (hear_reply (restoring_job i conn f) s r)

-- all that reclaiming rests on holds before the first device
abbrev pub ReclaimingBegins : Type 0
ReclaimingBegins = (d : Directory) → CanReclaim (record { account = no_account; controllers = λ c. first_state; directory = d })

-- each change leaves all that reclaiming rests on
abbrev pub ReclaimingGoesOn : Type 0
ReclaimingGoesOn = (w v : World) (x : Change) → CanReclaim w → Happens w x v → CanReclaim v

-- in a reclaim second a restoring of a slot whose own second runs ends with its connection alone
abbrev pub RestoringsSucceed : Type 0
RestoringsSucceed =
    (w v : World) (c now : ℕ) → CanReclaim w → w.account.reclaiming ≡ true → TakesTurn w c now v
    → EndsRestored now w.directory (w.controllers c)

-- what was whole before the bus reset that opened a reclaim second is whole at its end
abbrev pub ConnectionsComeBack : Type 0
ConnectionsComeBack =
    (w u v : World) (entry : ResetEntry) (epoch : ℕ) (lost : ℕ → Bool) (changes : List Change) → CanReclaim w
    → IsReset w entry epoch lost u → Path u changes v → Reclaims w lost changes v

-- a whole connection of which no break is current is there at each of its plugs, in the account
abbrev pub WholeConnectionsAreThere : Type 0
WholeConnectionsAreThere =
    (w : World) (c i : ℕ) (conn : Connection) (f : Flow) → CanReclaim w → IsUnbroken (w.controllers c) i → IsWhole w c i conn f
    → IsThere w.account c conn f

-- before the first device no channel that the bus withholds is used
abbrev pub WithheldIsAvoidedAtFirst : Type 0
WithheldIsAvoidedAtFirst =
    (d : Directory) → AvoidsWithheld (record { account = no_account; controllers = λ c. first_state; directory = d })

-- each change leaves withheld channels unused, if nobody asks to listen on one
abbrev pub WithheldIsAvoided : Type 0
WithheldIsAvoided =
    (w v : World) (x : Change) → CanReclaim w → AsksElsewhere w x → Happens w x v → AvoidsWithheld w → AvoidsWithheld v

-- what a bus withholds it withholds from then on
abbrev pub WithheldStaysWithheld : Type 0
WithheldStaysWithheld =
    (w v : World) (x : Change) → CanReclaim w → Happens w x v → IsTrue w.account.withheld → IsTrue v.account.withheld
