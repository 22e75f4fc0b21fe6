-- What is noted of a refused line has its refusal's name, and so has what a call told.
use Rattle.std.proofs.Common.{◌≡◌, ◌⊎◌, inl, inr, ℕ, List, [], ◌∷◌, ◌++◌, Option, refl, ap, sym, subst, ◌∙◌, codes, decimal, arith}
use Rattle.std.specs.Prelude.{String}
use Rattle.std.specs.declared.alloc.Global.{Global}
use Rattle.fw_outside.specs.Outside.{Grows}
use Rattle.fw_outside.specs.declared.stop.Stop.TheVariants.{ReadFault, WriteFault, TooLong, NoMemory}
use Rattle.fw_model_run.specs.Desks.{DeskRelations}
use Rattle.fw_order.specs.declared.rule.RuleFault.TheVariants.{UnknownName}
use Rattle.fw_script_words.specs.Checks.{Checks}
use Rattle.fw_script_words.specs.declared.ending.Refused.{Refused as RefusedLine}
use Rattle.fw_script_words.specs.declared.ending.Refusal.{Refusal}
use Rattle.fw_script_words.specs.declared.ending.Refusal.TheVariants.{BadLine, LineTooLong, NoEnd, Rule}
use Rattle.fw_script_words.specs.declared.ending.RunEnding.{RunEnding}
use Rattle.fw_script_words.specs.declared.ending.RunEnding.TheVariants as RunEndings
use Rattle.fw_tool.specs.declared.scripts.ScriptWord.TheVariants.{Check}
use Rattle.fw_tool.specs.Notes.{IsTold, name_of, note_of}
use Rattle.fw_tool.specs.Runs.{by_run}
use Rattle.fw_tool.specs.Serving.{Serves}
use Rattle.fw_tool.specs.Turns.{SourceTurn, SinkTurn, NotesTurn}
use Rattle.fw_tool.specs.Words.{IsWord}
use Rattle.fw_tool.specs.declared.ending.Ending.{Ending}
use Rattle.fw_tool.specs.declared.ending.Ending.TheVariants.{Done, Usage, Refused, NoLog, Stopped, Unsound, NoMap, Unexplored}
use Rattle.fw_tool.specs.declared.words.Word.TheVariants.{Script}
use Rattle.fw_check_laws.specs.Calls.{CallsTellTheirNote, TellsItsNote}
use Rattle.fw_check_laws.specs.Named.{NotesAreNames, RefusalsAreNamed, refusal_word}
use Rattle.fw_check_laws.proofs.Lines.{onto}

-- ---- the note

after_line : (why : Refusal) → name_of why ≡ codes ": " ++ refusal_word why ++ 10 ∷ []
after_line BadLine = refl
after_line LineTooLong = refl
after_line NoEnd = refl
after_line (Rule UnknownName) = refl
after_line (Rule _) = refl

pub notes : NotesAreNames
notes r = onto (codes "line " ++ decimal r.line) (name_of r.why) (codes ": ") (refusal_word r.why) (10 ∷ []) (after_line r.why)

-- ---- the call

-- a refused line was told, with its note
record Noted {N : Type 0} (held : N → Option (List ℕ)) (old new : N) (e : Ending) : Type 0 where
  line : RefusedLine
  is : e ≡ Refused line
  grew : Grows (held old) (held new) (note_of (Refused line))

module _ {N : Type 0} (held : N → Option (List ℕ)) (faults : N → ℕ) (old new : N) where
  noted : (e : Ending) → IsTold held faults old new e 3 → Noted held old new e
  noted Done t = let z : ⊥ = omega (arith, t.0) in absurd z
  noted (Refused r) (inl a) = record { line = r; is = refl; grew = a.1 }
  noted (Refused r) (inr a) = let z : ⊥ = omega (arith, a.0) in absurd z
  noted Usage (inl a) = let z : ⊥ = omega (arith, a.0) in absurd z
  noted Usage (inr a) = let z : ⊥ = omega (arith, a.0) in absurd z
  noted (NoLog x) (inl a) = let z : ⊥ = omega (arith, a.0) in absurd z
  noted (NoLog x) (inr a) = let z : ⊥ = omega (arith, a.0) in absurd z
  noted (Unsound x) (inl a) = let z : ⊥ = omega (arith, a.0) in absurd z
  noted (Unsound x) (inr a) = let z : ⊥ = omega (arith, a.0) in absurd z
  noted (NoMap x) (inl a) = let z : ⊥ = omega (arith, a.0) in absurd z
  noted (NoMap x) (inr a) = let z : ⊥ = omega (arith, a.0) in absurd z
  noted (Unexplored x) (inl a) = let z : ⊥ = omega (arith, a.0) in absurd z
  noted (Unexplored x) (inr a) = let z : ⊥ = omega (arith, a.0) in absurd z
  noted (Stopped ReadFault) (inl a) = let z : ⊥ = omega (arith, a.0) in absurd z
  noted (Stopped ReadFault) (inr a) = let z : ⊥ = omega (arith, a.0) in absurd z
  noted (Stopped WriteFault) (inl a) = let z : ⊥ = omega (arith, a.0) in absurd z
  noted (Stopped WriteFault) (inr a) = let z : ⊥ = omega (arith, a.0) in absurd z
  noted (Stopped TooLong) (inl a) = let z : ⊥ = omega (arith, a.0) in absurd z
  noted (Stopped TooLong) (inr a) = let z : ⊥ = omega (arith, a.0) in absurd z
  noted (Stopped NoMemory) (inl a) = let z : ⊥ = omega (arith, a.0) in absurd z
  noted (Stopped NoMemory) (inr a) = let z : ⊥ = omega (arith, a.0) in absurd z

not_stopped : (r : RefusedLine) → Stopped WriteFault ≡ Refused r → ⊥
not_stopped r e = cc e

-- the flush did not fail
came_so : {A B C D : Type 0} (told came : Ending) (r : RefusedLine) → ((told ≡ came) × A × B) ⊎ ((told ≡ Stopped WriteFault) × C × D) → told ≡ Refused r → came ≡ Refused r
came_so told came r (inl x) is = sym x.0 ∙ is
came_so told came r (inr x) is = absurd (not_stopped r (sym x.0 ∙ is))

-- so the run ended with that line
run_refused : (e : RunEnding) (r : RefusedLine) → by_run e ≡ Refused r → e ≡ RunEndings.Refused r
run_refused RunEndings.Done r is = let z : ⊥ = cc in absurd z
run_refused (RunEndings.Refused q) r is = let same : q ≡ r = cc in ap (λ (x : RefusedLine). RunEndings.Refused x) same
run_refused (RunEndings.Stopped stop) r is = let z : ⊥ = cc in absurd z

pub call : {S K N : Type 0} (D : DeskRelations) (source : SourceTurn S) (sink : SinkTurn K) (noting : NotesTurn N) (words : List (String Global))
    → NotesAreNames → RefusalsAreNamed D → CallsTellTheirNote D source sink noting words
call D source sink noting words are_names are_named is served =
    let ran = served.scripts Check is in
    let n = noted noting.held noting.faults noting.old noting.new ran.1 ran.3.1 in
    let came : by_run ran.0 ≡ Refused n.line = came_so ran.1 (by_run ran.0) n.line ran.3.0.flushed n.is in
    let C : RunEnding → Type 0 = λ x. Checks D (source.left source.old) (source.left source.new) (sink.held sink.old) (sink.held sink.new) x in
    record {
      line = n.line;
      noted = subst (λ (text : List ℕ). Grows (noting.held noting.old) (noting.held noting.new) text) (are_names n.line) n.grew;
      told = are_named (source.left source.old) (source.left source.new) (sink.held sink.old) (sink.held sink.new) n.line (subst C (run_refused ran.0 n.line came) ran.2);
    }
