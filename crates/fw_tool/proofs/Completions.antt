-- If nothing is refused and nothing fails, all is done.
use Rattle.std.proofs.Common.{◌≡◌, ◌≢◌, inl, inr, ℕ, List, Option, refl, sym, subst}
use Rattle.fw_outside.specs.Stops.{ReadCount as StopReadCount, WriteCount as StopWriteCount}
use Rattle.fw_outside.specs.declared.stop.Stop.TheVariants.{ReadFault, WriteFault, TooLong, NoMemory}
use Rattle.fw_log_loop.specs.Endings.{stop_of, IsNoRefusal as IsNoLogRefusal}
use Rattle.fw_log_loop.specs.declared.ending.LogEnding.{LogEnding}
use Rattle.fw_log_loop.specs.declared.ending.LogEnding.TheVariants as LogEndings
use Rattle.fw_log_reports.specs.declared.refusal.LogRefusal.{LogRefusal}
use Rattle.fw_log_reports.specs.declared.refusal.LogRefusal.TheVariants as Refusals
use Rattle.fw_model_run.specs.Desks.{DeskRelations}
use Rattle.fw_script_words.specs.Counts.{ReadCount, WriteCount}
use Rattle.fw_script_words.specs.Scripts.{IsNoRefusal}
use Rattle.fw_script_words.specs.Sums.{Sums}
use Rattle.fw_script_words.specs.declared.ending.RunEnding.{RunEnding}
use Rattle.fw_script_words.specs.declared.ending.RunEnding.TheVariants as RunEndings
use Rattle.fw_tool.specs.declared.ending.Ending.{Ending}
use Rattle.fw_tool.specs.declared.ending.Ending.TheVariants.{Stopped}
use Rattle.fw_tool.specs.Faults.{FirstFault}
use Rattle.fw_tool.specs.Logs.{by_log}
use Rattle.fw_tool.specs.Runs.{by_run}
use Rattle.fw_tool.specs.Completing.{IsDoneOrUnmet}

-- a script that is not refused, if nothing fails
pub run_completes : (e : RunEnding) → IsNoRefusal e → by_run e ≢ Stopped ReadFault → by_run e ≢ Stopped WriteFault → IsDoneOrUnmet (by_run e)
run_completes RunEndings.Done n r w = inl refl
run_completes (RunEndings.Refused f) n r w = absurd n
run_completes (RunEndings.Stopped ReadFault) n r w = absurd (r refl)
run_completes (RunEndings.Stopped WriteFault) n r w = absurd (w refl)
run_completes (RunEndings.Stopped TooLong) n r w = absurd n
run_completes (RunEndings.Stopped NoMemory) n r w = inr refl

-- the counts of a word that runs a script
pub first_of_run : (read read' written written' : ℕ) (e : RunEnding) → ReadCount read read' e → WriteCount written written' e → FirstFault read read' written written' (by_run e)
first_of_run read read' written written' RunEndings.Done r w = (r, w)
first_of_run read read' written written' (RunEndings.Refused f) r w = (r, w)
first_of_run read read' written written' (RunEndings.Stopped stop) r w = (r, w)

-- one that runs a seed's script reads nothing
pub first_of_seed : (D : DeskRelations) (seed : ℕ) (held held' : Option (List ℕ)) (read written written' : ℕ) (e : RunEnding) → Sums D seed held held' e → WriteCount written written' e
    → FirstFault read read written written' (by_run e)
first_of_seed D seed held held' read written written' RunEndings.Done d w = (refl, w)
first_of_seed D seed held held' read written written' (RunEndings.Refused f) d w = (refl, w)
first_of_seed D seed held held' read written written' (RunEndings.Stopped ReadFault) d w = absurd d
first_of_seed D seed held held' read written written' (RunEndings.Stopped WriteFault) d w = (refl, w)
first_of_seed D seed held held' read written written' (RunEndings.Stopped TooLong) d w = absurd d
first_of_seed D seed held held' read written written' (RunEndings.Stopped NoMemory) d w = (refl, w)

-- the same of a seed that is the same
pub seed_same : (D : DeskRelations) (held held' : Option (List ℕ)) (e : RunEnding) (n m : ℕ) → n ≡ m → Sums D n held held' e → Sums D m held held' e
seed_same D held held' e n m same d = subst (λ (k : ℕ). Sums D k held held' e) same d

never_read : (D : DeskRelations) (seed : ℕ) (held held' : Option (List ℕ)) (e : RunEnding) → Sums D seed held held' e → by_run e ≢ Stopped ReadFault
never_read D seed held held' RunEndings.Done d is = cc
never_read D seed held held' (RunEndings.Refused f) d is = cc
never_read D seed held held' (RunEndings.Stopped ReadFault) d is = d
never_read D seed held held' (RunEndings.Stopped WriteFault) d is = cc
never_read D seed held held' (RunEndings.Stopped TooLong) d is = cc
never_read D seed held held' (RunEndings.Stopped NoMemory) d is = cc

pub seed_completes : (D : DeskRelations) (seed : ℕ) (held held' : Option (List ℕ)) (e : RunEnding) → Sums D seed held held' e → IsNoRefusal e → by_run e ≢ Stopped WriteFault → IsDoneOrUnmet (by_run e)
seed_completes D seed held held' e d n w = run_completes e n (never_read D seed held held' e d) w

-- a log that is not refused, if nothing fails
pub log_completes : (e : LogEnding LogRefusal) → IsNoLogRefusal e → by_log e ≢ Stopped ReadFault → by_log e ≢ Stopped WriteFault → IsDoneOrUnmet (by_log e)
log_completes LogEndings.Done n r w = inl refl
log_completes (LogEndings.NoLog f) n r w = absurd n
log_completes (LogEndings.Refused (Refusals.Audit u)) n r w = absurd n
log_completes (LogEndings.Refused (Refusals.Map m)) n r w = absurd n
log_completes (LogEndings.Stopped ReadFault) n r w = absurd (r refl)
log_completes (LogEndings.Stopped WriteFault) n r w = absurd (w refl)
log_completes (LogEndings.Stopped TooLong) n r w = absurd n
log_completes (LogEndings.Stopped NoMemory) n r w = inr refl

-- the counts of a word that reads a log
pub first_of_log : (read read' written written' : ℕ) (e : LogEnding LogRefusal) → StopReadCount read read' (stop_of e) → StopWriteCount written written' (stop_of e)
    → FirstFault read read' written written' (by_log e)
first_of_log read read' written written' LogEndings.Done r w = (r, w)
first_of_log read read' written written' (LogEndings.NoLog f) r w = (r, w)
first_of_log read read' written written' (LogEndings.Refused (Refusals.Audit u)) r w = (r, w)
first_of_log read read' written written' (LogEndings.Refused (Refusals.Map m)) r w = (r, w)
first_of_log read read' written written' (LogEndings.Stopped s) r w = (r, w)

-- ---- of the ending that was answered

pub done_or_unmet : {ending came : Ending} → ending ≡ came → (came ≢ Stopped ReadFault → came ≢ Stopped WriteFault → IsDoneOrUnmet came) → ending ≢ Stopped ReadFault → ending ≢ Stopped WriteFault
    → IsDoneOrUnmet ending
done_or_unmet {ending} {came} is done = let P : Ending → Type 0 = λ e. e ≢ Stopped ReadFault → e ≢ Stopped WriteFault → IsDoneOrUnmet e in subst P (sym is) done

pub done_unwritten : {ending came : Ending} → ending ≡ came → (came ≢ Stopped WriteFault → IsDoneOrUnmet came) → ending ≢ Stopped WriteFault → IsDoneOrUnmet ending
done_unwritten {ending} {came} is done = let P : Ending → Type 0 = λ e. e ≢ Stopped WriteFault → IsDoneOrUnmet e in subst P (sym is) done
