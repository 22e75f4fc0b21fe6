-- The seconds of one run: its connections come back.
use Rattle.fw_model_run.proofs.Common.{List, Timed, State, first_state, Action, Transitions}
use Rattle.fw_model_run.specs.Reclaiming.{ComesBack}
use Rattle.fw_model_run.proofs.Reclaiming.{run_reclaims, restores_in_second}
use Rattle.fw_model_run.proofs.Seconds.{second_at}

-- each end of a second that the log tells is that of a second, and what was whole before it is back
pub comes_back : (actions : List Action) (log : List Timed) (s : State) → Transitions first_state actions log s → ComesBack actions log
comes_back actions log s run = record {
  seconds = λ prefix rest t is over.
      let x = second_at actions log prefix rest s t run is over in
      let back = run_reclaims x.before x.after x.during x.second in
      (x.before, x.during, x.after, x.second, (x.done, x.run), back, x.all, x.on, (x.later, x.first));
  each = λ done later during prefix before after is steps x parts. run_reclaims before after during x;
  outcomes = λ done later prefix u is steps runs. restores_in_second done prefix u steps runs;
}
