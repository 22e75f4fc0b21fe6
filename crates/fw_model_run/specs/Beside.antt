-- What every state of a run has beside what makes it good.
use Rattle.std.specs.Prelude.{ℕ, List, Bool, Option}
use Rattle.fw_terms.specs.declared.device.DeviceKind.{DeviceKind}
use Rattle.fw_terms.specs.declared.plug.PlugAt.{PlugAt}
use Rattle.fw_log_entry.specs.declared.entry.ResetEntry.{ResetEntry}
use Rattle.fw_manager.specs.Bids.{CandidateState}
use Rattle.fw_model_run.specs.Candidates.{AreCandidates}
use Rattle.fw_model_run.specs.Hearing.{AreQuiet}
use Rattle.fw_model_run.specs.State.{State}

-- what candidates and input plugs have in each state of a run
pub record AreBeside (who : ℕ → Option CandidateState) (lingers : PlugAt → Bool) (latest : Option ResetEntry) (kinds : List DeviceKind) (dead : ℕ → Bool) : Type 0 where
  pub candidates : AreCandidates who latest kinds dead
  pub hearing : AreQuiet lingers latest

-- what those of this one have
abbrev pub IsBeside : State → Type 0
IsBeside s = AreBeside s.election.candidates s.dub.lingers s.account.latest s.declared.kinds s.dead
