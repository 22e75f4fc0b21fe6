-- If nothing is refused and nothing fails, all is done.
use Rattle.fw_script_words.proofs.Common.{◌≡◌, ◌≢◌, ℕ, List, ◌++◌, true, Option, Some, None, Err, ap}
use Rattle.fw_script_words.proofs.Common.{sym, subst, ◌∙◌, ReadFault, WriteFault, TooLong, NoMemory, ScriptFault, Command, End, DeskRelations}
use Rattle.fw_script_words.proofs.Common.{RunEnding, Done, Refused, Stopped, Rule, IsValid, IsNoRefusal}
use Rattle.std.proofs.Common.{false}
use Rattle.fw_script.specs.Script.{IsScript}
use Rattle.fw_script.specs.declared.ScriptFault.TheVariants as Fault
use Rattle.fw_script.proofs.ScriptLaws.{says_once, says_after, says_following}
use Rattle.fw_order.specs.declared.rule.RuleFault.{RuleFault}
use Rattle.fw_order.specs.declared.rule.RuleFault.TheVariants.{UnknownName, NameTaken, TooMany, NoPort, PortUsed, Loop, NotController, Guarded, NoRegister, Limit}
use Rattle.fw_order.specs.declared.rule.RuleFault.TheVariants.{TableFull, Busy, NoSuchConnection, NotOwnPlug, OffBus, NoDeck, NothingStands, TooLate, NotCapable, NotCandidate}
use Rattle.fw_model_run.specs.State.{State}
use Rattle.fw_model_run.specs.Rules.{Decides}
use Rattle.fw_script_words.specs.declared.ending.Refusal.{Refusal}
use Rattle.fw_script_words.specs.declared.ending.Refusal.TheVariants.{BadLine, LineTooLong, NoEnd}
use Rattle.fw_script_words.specs.Ending.{Runs, RefusesLine, RefusesCommand, RefusesBy}

-- of a valid script no line is refused
no_line : {D : DeskRelations} (script : List ℕ) (left' held held' : Option (List ℕ)) (f : ScriptFault) (line : ℕ) → RefusesLine D (Some script) left' held held' f line → IsValid script → ⊥
no_line script left' held held' f line r v =
    let says = subst (λ (bytes : List ℕ). IsScript bytes r.commands (Some (record { fault = f; line = line }))) (sym r.takes.told) r.says in
    let e = says_once v.says says in
    let wrong : None ≡ Some (record { fault = f; line = line }) = e.1 in
    cc wrong

-- the end breaks no rule
end_allowed : (s : State) (f : RuleFault) → Decides s End (Err f) → ⊥
end_allowed s UnknownName d = let wrong : false ≡ true = d.0 in cc wrong
end_allowed s NameTaken d = d.0
end_allowed s TooMany d = d.0
end_allowed s NoPort d = d.0
end_allowed s PortUsed d = d.0
end_allowed s Loop d = d.0
end_allowed s NotController d = d.0
end_allowed s NothingStands d = d.0
end_allowed s OffBus d = d.0
end_allowed s NotCapable d = d.0
end_allowed s NotCandidate d = d.0
end_allowed s TooLate d = d.0
end_allowed s NoDeck d = d.0
end_allowed s NotOwnPlug d = d.0.2
end_allowed s NoSuchConnection d = d.0.2
end_allowed s TableFull d = d.0.2
end_allowed s Busy d = d.0.2
end_allowed s Guarded d = d.0
end_allowed s NoRegister d = d.0
end_allowed s Limit d = d.0

pub other_than_end : (s : State) (c : Command) (f : RuleFault) → Decides s c (Err f) → c ≢ End
other_than_end s c f d e = end_allowed s f (subst (λ (x : Command). Decides s x (Err f)) e d)

-- nor does a command break a rule
no_command : {D : DeskRelations} (script : List ℕ) (left' held held' : Option (List ℕ)) (rule : RuleFault) (line : ℕ) → RefusesCommand D (Some script) left' held held' rule line → IsValid script → ⊥
no_command script left' held held' rule line r v =
    let says = subst (λ (bytes : List ℕ). IsScript bytes v.commands None) r.takes.told v.says in
    let first = says_following r.on_line.leads v.commands None says in
    let next = says_after r.command r.on_line.gives (other_than_end r.logged.state r.command rule r.decided) first.2 in
    v.allowed r.commands next.0 r.command r.logged.actions r.logged.log r.logged.state rule (first.1 ∙ ap (λ (cs : List Command). r.commands ++ cs) next.1) r.logged.run r.decided

-- neither by its form nor by a rule
pub never_refused : (D : DeskRelations) (script : List ℕ) (left' held held' : Option (List ℕ)) (why : Refusal) (line : ℕ) → RefusesBy D (Some script) left' held held' why line → IsValid script → ⊥
never_refused D script left' held held' BadLine line r v = no_line script left' held held' Fault.BadLine line r v
never_refused D script left' held held' LineTooLong line r v = no_line script left' held held' Fault.LineTooLong line r v
never_refused D script left' held held' NoEnd line r v = no_line script left' held held' Fault.NoEnd line r v
never_refused D script left' held held' (Rule rule) line r v = no_command script left' held held' rule line r v

-- so a valid script that is run meets no refusal
pub run_completes : (D : DeskRelations) (script : List ℕ) (left left' held held' : Option (List ℕ)) (e : RunEnding) → Runs D left left' held held' e → left ≡ Some script → IsValid script
    → IsNoRefusal e
run_completes D script left left' held held' Done d told v = tt
run_completes D script left left' held held' (Refused x) d told v =
    let P : Option (List ℕ) → Type 0 = λ l. Runs D l left' held held' (Refused x) in
    never_refused D script left' held held' x.why x.line (subst P told d) v
run_completes D script left left' held held' (Stopped TooLong) d told v =
    let P : Option (List ℕ) → Type 0 = λ l. RefusesLine D l left' held held' Fault.TooLong d.line in
    no_line script left' held held' Fault.TooLong d.line (subst P told d.refused) v
run_completes D script left left' held held' (Stopped ReadFault) d told v = tt
run_completes D script left left' held held' (Stopped WriteFault) d told v = tt
run_completes D script left left' held held' (Stopped NoMemory) d told v = tt
