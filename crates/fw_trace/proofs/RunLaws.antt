-- What a sink that tells has read is the log of the run.
use Rattle.fw_trace.proofs.Common.{
  ◌≡◌,
  refl,
  sym,
  subst,
  ℕ,
  List,
  [],
  ◌++◌,
  Option,
  Some,
  None,
  Ok,
  Err,
  header_bytes,
  LogOpens,
  Two,
  Timed,
  HasRead,
  LogState,
  Command,
  Reading,
  ReaderStage,
  Commands,
}
use Rattle.fw_trace.proofs.Common.{Done, DeskRelations, log_bytes, BusView}
use Rattle.fw_log_entry.specs.declared.version.Version.{Version}
use Rattle.fw_log.specs.Reader.{finish_of}
use Rattle.fw_log.specs.declared.LogFault.{LogFault}
use Rattle.fw_log.proofs.FinishLaws.{finishes}
use Rattle.fw_script.specs.declared.stage.ReaderStage.TheVariants.{AfterEnd, Failed}
use Rattle.fw_model_run.specs.Runs.{Run}
use Rattle.fw_model_run.proofs.Logs.{run_opens, run_spells}
use Rattle.fw_script_words.specs.Going.{Going, HasReadTo}
use Rattle.fw_script_words.proofs.Calls.{given_no_end}

-- of bytes that are a log, its entries were read
pub only_read : (entries all : List Timed) (v : Version) (bytes : List ℕ) (r : LogState) → HasRead entries bytes r → LogOpens all v bytes → all ≡ entries
only_read entries all v bytes r h o = by (finish_of r) refl
  where
    by : (f : Option LogFault) → finish_of r ≡ f → all ≡ entries
    by None e = (finishes entries bytes r (Ok tt) h (sym e)).only all v o
    by (Some f) e = (finishes entries bytes r (Err f) h (sym e)).only all v o

-- the log of a run that is under way
pub going_opens : {D : DeskRelations} {left now held after : Option (List ℕ)} {reader : Reading} {bus : BusView} (g : Going D left now held after reader bus)
    → LogOpens g.log Two (header_bytes Two ++ log_bytes 0 g.log)
going_opens {left = left} {now = now} g = by g.read.known.stage g.read.read
  where
    by : (s : ReaderStage) → HasReadTo s left now g.commands g.read.known → LogOpens g.log Two (header_bytes Two ++ log_bytes 0 g.log)
    by Commands h = run_opens g.commands g.actions g.log g.state g.run (given_no_end h)
    by AfterEnd h = absurd h
    by Done h = (run_spells h.earlier g.actions g.log g.state (subst (λ (cs : List Command). Run cs g.actions g.log g.state) h.last g.run) h.no_end).opens
    by Failed h = absurd h

-- in memory it is what was given
pub going_bytes : {D : DeskRelations} {left now : Option (List ℕ)} {after : List ℕ} {reader : Reading} {bus : BusView} (g : Going D left now (Some []) (Some after) reader bus)
    → after ≡ header_bytes Two ++ log_bytes 0 g.log
going_bytes g = g.grew
