-- A call of `run` carries out a row's script.
use Rattle.fw_explore_laws.proofs.Common.{ℕ, ◌≡◌, ◌≢◌, List, [], ◌∷◌, ◌++◌, Option, Some, None, Ok, sym, ap, subst, ◌∙◌, append-nil, Timed, Command, End, Action, DeskRelations, State, IsScript}
use Rattle.fw_explore_laws.proofs.Common.{Explored}
use Rattle.fw_outside.specs.Outside.{IsAtEnd, Takes}
use Rattle.fw_outside.specs.declared.stop.Stop.TheVariants as Stops
use Rattle.fw_log_entry.specs.declared.entry.Entry.TheVariants.{End as EndEntry}
use Rattle.fw_order.specs.declared.order.Order.{Order}
use Rattle.fw_order.specs.declared.order.Order.TheVariants as order
use Rattle.fw_order.specs.declared.rule.RuleFault.{RuleFault}
use Rattle.fw_order.specs.declared.rule.RuleFault.TheVariants.{UnknownName, NameTaken, TooMany, NoPort, PortUsed, Loop, NotController, OffBus}
use Rattle.fw_order.specs.declared.rule.RuleFault.TheVariants.{Guarded, NoRegister, Limit, TableFull, Busy, NoSuchConnection, NotOwnPlug, NoDeck, NothingStands, TooLate, NotCapable, NotCandidate}
use Rattle.fw_model_run.specs.Actions.{Finish}
use Rattle.fw_model_run.specs.Deeds.{Transitions}
use Rattle.fw_model_run.specs.Desks.{IsFunction}
use Rattle.fw_model_run.specs.Given.{AreGiven}
use Rattle.fw_model_run.specs.Giving.{at_most}
use Rattle.fw_model_run.specs.Rules.{Breaks, Decides}
use Rattle.fw_model_run.proofs.Given.{given_append}
use Rattle.fw_model_run.proofs.OneLog.{last_of, one_run}
use Rattle.fw_model_run.proofs.Decided.{CarriedBy, carried}
use Rattle.fw_script.specs.declared.ScriptFault.{ScriptFault}
use Rattle.fw_script.proofs.ScriptLaws.{says_after, says_following, says_once}
use Rattle.fw_explore_endings.specs.declared.rows.Row.{Row}
use Rattle.fw_script_words.specs.Ending.{Logged, RefusesBy, RefusesCommand, RefusesLine, Runs}
use Rattle.fw_script_words.specs.declared.ending.Refusal.{Refusal as WhyRefused}
use Rattle.fw_script_words.specs.declared.ending.Refusal.TheVariants.{BadLine, LineTooLong, NoEnd, Rule}
use Rattle.fw_script_words.specs.declared.ending.RunEnding.{RunEnding}
use Rattle.fw_script_words.specs.declared.ending.RunEnding.TheVariants.{Done, Refused, Stopped}
use Rattle.fw_explore_laws.specs.Rest.{without_end}
use Rattle.fw_explore_laws.specs.Rests.{IsRest}
use Rattle.fw_explore_laws.specs.Runs.{IsRunSo, RestsAreRun, log_of}
use Rattle.fw_explore_laws.proofs.Carried.{run_split}

-- what was taken to the end is all that was told
all_taken : (script taken : List ℕ) (left : Option (List ℕ)) → Takes (Some script) left taken → IsAtEnd left → taken ≡ script
all_taken script taken None t e = absurd t
all_taken script taken (Some ys) t e = sym (t ∙ (ap (λ (z : List ℕ). taken ++ z) e ∙ append-nil taken))

-- `end` breaks no rule
never : (s : State) (g : RuleFault) → Breaks s End g → ⊥
never s UnknownName b = cc
never s NameTaken b = b
never s TooMany b = b
never s NoDeck b = b
never s NoPort b = b
never s PortUsed b = b
never s Loop b = b
never s NotController b = b
never s NothingStands b = b
never s NotCapable b = b
never s NotCandidate b = b
never s OffBus b = b
never s NotOwnPlug b = b.2
never s NoSuchConnection b = b.2
never s TableFull b = b.2
never s Busy b = b.2
never s Guarded b = b
never s NoRegister b = b
never s Limit b = b
never s TooLate b = b

-- what `end` writes
end_writes : (s t : State) (o : Order) (xs : List Action) (out : List Timed) → o ≡ order.End → CarriedBy s o xs out t → out ≡ at_most s.clock.cycle (Some EndEntry)
end_writes s t o xs out is f =
    let g : Transitions s (Finish ∷ []) out t = (subst (λ z. CarriedBy s z xs out t) is f).1 in
    g.4 ∙ ap (λ z. g.0 ++ z) g.5.0 ∙ append-nil g.0 ∙ g.3.out_is

-- a command before the last one
before_end : (cs ds later : List Command) (c : Command) → c ≢ End → cs ++ End ∷ [] ≡ ds ++ c ∷ later → (rest : List Command) × (cs ≡ ds ++ c ∷ rest)
before_end [] [] later c other e = absurd (other (let h : c ≡ End = cc in h))
before_end [] (d ∷ ds) later c other e = absurd (no_more ds c later (let h : [] ≡ ds ++ c ∷ later = cc in h))
  where
    no_more : (ds : List Command) (c : Command) (later : List Command) → [] ≡ ds ++ c ∷ later → ⊥
    no_more [] c later e = cc
    no_more (d ∷ ds) c later e = cc
before_end (b ∷ cs) [] later c other e = let h : b ≡ c = cc in (cs, ap (λ z. z ∷ cs) h)
before_end (b ∷ cs) (d ∷ ds) later c other e =
    let head : b ≡ d = cc in
    let tail : cs ++ End ∷ [] ≡ ds ++ c ∷ later = cc in
    let rest = before_end cs ds later c other tail in
    (rest.0, ap (λ z. z ∷ cs) head ∙ ap (λ z. d ∷ z) rest.1)

module _ (D : DeskRelations) (only : IsFunction D) (script : List ℕ) (commands : List Command) (x : Explored) (paragraph : List ℕ) (r : Row) (rest : IsRest D script commands x paragraph r)
    (left' held held' : Option (List ℕ)) where
  abbrev all : List ℕ
  all = without_end script ++ paragraph

  abbrev said : List Command
  said = commands ++ rest.rest

  done_so : (l : Logged D (Some all) left' held held') → l.logged.log ≡ log_of rest
  done_so l =
      let taken : l.script ≡ all = all_taken all l.script left' l.taken l.end in
      let same : l.commands ≡ said ++ End ∷ [] = (says_once (subst (λ (b : List ℕ). IsScript b l.commands None) taken l.says) rest.says).0 in
      let last = last_of l.commands said End l.logged.actions l.logged.log l.logged.state l.logged.run same in
      let given = (given_append D last.early last.more (subst (AreGiven D) last.actions_are l.logged.given)).0 in
      let one = one_run D only said last.early rest.runs.whole.actions last.prefix (rest.runs.earlier ++ (rest.told.ends.moved ++ rest.told.ends.written)) last.state
      rest.state last.run rest.runs.whole.run given
      rest.runs.whole.given in
      let written = end_writes last.state l.logged.state last.order last.more last.out last.decided.0 (carried last.state last.order last.more last.out l.logged.state last.carries) in
      last.log_is ∙ ap (λ z. z ++ last.out) one.0
      ∙ ap (λ z. (rest.runs.earlier ++ (rest.told.ends.moved ++ rest.told.ends.written)) ++ z) (written ∙ ap (λ (z : State). at_most z.clock.cycle (Some EndEntry)) one.1)

  no_bad_line : (fault : ScriptFault) (line : ℕ) → RefusesLine D (Some all) left' held held' fault line → ⊥
  no_bad_line fault line f =
      let same = (says_once (subst (λ (b : List ℕ). IsScript b f.commands (Some (record { fault = fault; line = line }))) (sym f.takes.told) f.says) rest.says).1 in
      cc

  no_rule : (rule : RuleFault) (line : ℕ) → RefusesCommand D (Some all) left' held held' rule line → ⊥
  no_rule rule line f =
      let says : IsScript f.script (said ++ End ∷ []) None = subst (λ (b : List ℕ). IsScript b (said ++ End ∷ []) None) f.takes.told rest.says in
      let other : f.command ≢ End = λ e. never f.logged.state rule (subst (λ z. Breaks f.logged.state z rule) e f.decided.0) in
      let following = says_following f.on_line.leads (said ++ End ∷ []) None says in
      let next = says_after f.command f.on_line.gives other following.2 in
      let here = before_end said f.commands next.0 f.command other (following.1 ∙ ap (λ z. f.commands ++ z) next.1) in
      let split = run_split (f.command ∷ here.0) f.commands said rest.runs.whole.actions (rest.runs.earlier ++ (rest.told.ends.moved ++ rest.told.ends.written)) rest.state
      rest.runs.whole.run here.1 in
      let given = (given_append D split.early split.more (subst (AreGiven D) split.actions_are rest.runs.whole.given)).0 in
      let one = one_run D only f.commands split.early f.logged.actions split.prefix f.logged.log split.middle f.logged.state split.run f.logged.run given f.logged.given in
      let ok : Decides f.logged.state f.command (Ok split.carried.0) = subst (λ z. Decides z f.command (Ok split.carried.0)) one.1 split.carried.6 in
      ok.1 rule f.decided.0

  no_refusal : (why : WhyRefused) (line : ℕ) → RefusesBy D (Some all) left' held held' why line → ⊥
  no_refusal BadLine line f = no_bad_line _ line f
  no_refusal LineTooLong line f = no_bad_line _ line f
  no_refusal NoEnd line f = no_bad_line _ line f
  no_refusal (Rule rule) line f = no_rule rule line f

  run_so : (ending : RunEnding) → Runs D (Some all) left' held held' ending → IsRunSo D (Some all) left' held held' (log_of rest) ending
  run_so Done l = (l, done_so l)
  run_so (Refused why) f = no_refusal why.why why.line f
  run_so (Stopped Stops.ReadFault) f = tt
  run_so (Stopped Stops.WriteFault) f = tt
  run_so (Stopped Stops.TooLong) f = no_bad_line _ f.line f.refused
  run_so (Stopped Stops.NoMemory) f = tt

pub rests_are_run : (D : DeskRelations) → RestsAreRun D
rests_are_run D only script commands x paragraph r rest left' held held' ending f = run_so D only script commands x paragraph r rest left' held held' ending f
