-- A trace that has ended as its run.
use Rattle.fw_trace.proofs.Common.{◌≡◌, ℕ, List, [], ◌∷◌, ◌++◌, Option, Some, ◌⊎◌, inl, inr, ReadFault, WriteFault, TooLong, NoMemory, header_bytes, Two, Reading, DeskRelations, log_bytes, RunEnding}
use Rattle.fw_trace.proofs.Common.{Refused, Stopped, Part, AreLines, HasLines}
use Rattle.fw_script_words.specs.Course.{course_at, refused_course}
use Rattle.fw_script_words.specs.Ending.{Runs, RefusesBy}
use Rattle.fw_script_words.specs.declared.ending.RunEnding.TheVariants.{Done}
use Rattle.fw_script_words.specs.declared.ending.Refusal.{Refusal}
use Rattle.fw_script_words.specs.declared.ending.Refusal.TheVariants.{BadLine, LineTooLong, NoEnd, Rule}
use Rattle.fw_trace.specs.Parts.{bytes_of}
use Rattle.fw_trace.specs.Tracing.{IsSplit}

-- the endings in which no write failed
abbrev pub IsWhole : RunEnding → Type 0
IsWhole Done = Unit {0}
IsWhole (Refused r) = Unit {0}
IsWhole (Stopped ReadFault) = Unit {0}
IsWhole (Stopped WriteFault) = ⊥
IsWhole (Stopped TooLong) = Unit {0}
IsWhole (Stopped NoMemory) = ⊥

refused_bytes : (D : DeskRelations) (left left' : Option (List ℕ)) (written : List ℕ) (why : Refusal) (line : ℕ) (x : RefusesBy D left left' (Some []) (Some written) why line)
    → written ≡ header_bytes Two ++ log_bytes 0 (refused_course D left left' (Some []) (Some written) why line x).log
refused_bytes D left left' written BadLine line x = x.logged.grew
refused_bytes D left left' written LineTooLong line x = x.logged.grew
refused_bytes D left left' written NoEnd line x = x.logged.grew
refused_bytes D left left' written (Rule rule) line x = x.logged.grew

-- what was written in memory is the log of what the run had come to
pub ended_bytes : (D : DeskRelations) (left left' : Option (List ℕ)) (written : List ℕ) (e : RunEnding) → IsWhole e → (x : Runs D left left' (Some []) (Some written) e)
    → written ≡ header_bytes Two ++ log_bytes 0 (course_at D left left' (Some []) (Some written) e x).log
ended_bytes D left left' written Done w x = x.logged.grew
ended_bytes D left left' written (Refused r) w x = refused_bytes D left left' written r.why r.line x
ended_bytes D left left' written (Stopped ReadFault) w x = x.logged.grew
ended_bytes D left left' written (Stopped WriteFault) w x = absurd w
ended_bytes D left left' written (Stopped TooLong) w x = x.refused.logged.grew
ended_bytes D left left' written (Stopped NoMemory) w x = absurd w

pub split_of : (taken : List ℕ) (parts : List Part) (p : Reading) → IsSplit taken parts p → (taken ≡ bytes_of parts ++ p.rest) ⊎ ((taken ++ 10 ∷ [] ≡ bytes_of parts) × (p.rest ≡ []))
split_of taken parts p (inl e) = inl e
split_of taken parts p (inr (e, none, whole)) = inr (e, none)

abbrev pub are_lines : (left left' : Option (List ℕ)) (parts : List Part) (p : Reading) → HasLines left left' parts p → AreLines left left' parts
are_lines left left' parts p x = record { taken = x.taken; takes = x.takes; rest = p.rest; split = split_of x.taken parts p x.split; free = x.free }
