-- What running a seed's script gives.
use Rattle.std.specs.Prelude.{◌≡◌, ℕ, List, [], Option, Some}
use Rattle.fw_outside.specs.Outside.{Grows, AppendsPrefix}
use Rattle.fw_outside.specs.declared.stop.Stop.TheVariants.{ReadFault, WriteFault, TooLong, NoMemory}
use Rattle.fw_log_entry.specs.declared.entry.Timed.{Timed}
use Rattle.fw_script_gen.specs.Gen.{script_of}
use Rattle.fw_script_gen.specs.Summary.{summary_of, Counts}
use Rattle.fw_script_gen.specs.declared.tally.Tally.{Tally}
use Rattle.fw_model_run.specs.Desks.{DeskRelations}
use Rattle.fw_script_words.specs.Ending.{Logged, Refuses}
use Rattle.fw_script_words.specs.declared.ending.Refused.{Refused as RefusedLine}
use Rattle.fw_script_words.specs.declared.ending.RunEnding.{RunEnding}
use Rattle.fw_script_words.specs.declared.ending.RunEnding.TheVariants.{Done, Refused, Stopped}

-- A script that was run to its end in memory: what `run` says of it over a source of these bytes, of
-- which none are left, and an empty sink.
pub record WasRun (D : DeskRelations) (script : List ℕ) : Type 0 where
  pub left : List ℕ
  pub written : List ℕ
  pub ran : Logged D (Some script) (Some left) (Some []) (Some written)

-- its log
abbrev pub log_of : {D : DeskRelations} {script : List ℕ} → WasRun D script → List Timed
log_of was = was.ran.logged.log

-- A line of a script that was run in memory is the first that is refused: what `run` says of it.
pub record WasRefused (D : DeskRelations) (script : List ℕ) (refused : RefusedLine) : Type 0 where
  pub left : Option (List ℕ)
  pub written : List ℕ
  pub refuses : Refuses D (Some script) left (Some []) (Some written) refused

-- ---- a script's entries, counted

-- the tally counts the log that the run of a script wrote
pub record HasCounted (D : DeskRelations) (script : List ℕ) (tally : Tally) : Type 0 where
  pub was : WasRun D script
  pub counts : Counts (log_of was) tally

-- a write to memory fails only if memory is refused
abbrev pub in_memory : RunEnding → RunEnding
in_memory Done = Done
in_memory (Refused r) = Refused r
in_memory (Stopped ReadFault) = Stopped ReadFault
in_memory (Stopped WriteFault) = Stopped NoMemory
in_memory (Stopped TooLong) = Stopped TooLong
in_memory (Stopped NoMemory) = Stopped NoMemory

-- Reads of memory and writes to it do not fail, and no script that is made passes the limit.
abbrev pub Counted : DeskRelations → List ℕ → Tally → RunEnding → Type 0
Counted D script tally Done = HasCounted D script tally
Counted D script tally (Refused r) = WasRefused D script r
Counted D script tally (Stopped ReadFault) = ⊥
Counted D script tally (Stopped WriteFault) = ⊥
Counted D script tally (Stopped TooLong) = ⊥
Counted D script tally (Stopped NoMemory) = Unit {0}

-- ---- the summary of a seed's run

-- the summary of a seed's run was written
pub record HasSummed (D : DeskRelations) (seed : ℕ) (held held' : Option (List ℕ)) : Type 0 where
  pub was : WasRun D (script_of seed)
  pub grew : Grows held held' (summary_of (log_of was))

-- a prefix of the summary of a seed's run was written
pub record PartSummed (D : DeskRelations) (seed : ℕ) (held held' : Option (List ℕ)) : Type 0 where
  pub was : WasRun D (script_of seed)
  pub grew : AppendsPrefix held held' (summary_of (log_of was))

-- By the ending: the summary of the run's log was written, or a prefix of it if the sink failed; nothing was written if a
-- line is refused, or memory ran out.
abbrev pub Sums : DeskRelations → ℕ → Option (List ℕ) → Option (List ℕ) → RunEnding → Type 0
Sums D seed held held' Done = HasSummed D seed held held'
Sums D seed held held' (Refused r) = WasRefused D (script_of seed) r × (held' ≡ held)
Sums D seed held held' (Stopped ReadFault) = ⊥
Sums D seed held held' (Stopped WriteFault) = PartSummed D seed held held'
Sums D seed held held' (Stopped TooLong) = ⊥
Sums D seed held held' (Stopped NoMemory) = held' ≡ held

-- what writing the summary of a log does
abbrev pub Summed : List Timed → Option (List ℕ) → Option (List ℕ) → RunEnding → Type 0
Summed log held held' Done = Grows held held' (summary_of log)
Summed log held held' (Refused r) = ⊥
Summed log held held' (Stopped ReadFault) = ⊥
Summed log held held' (Stopped WriteFault) = AppendsPrefix held held' (summary_of log)
Summed log held held' (Stopped TooLong) = ⊥
Summed log held held' (Stopped NoMemory) = held' ≡ held
