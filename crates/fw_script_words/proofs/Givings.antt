-- What the lines of a script give, one command after another.
use Rattle.fw_script_words.proofs.Common.{◌≡◌, ◌≢◌, inl, inr, ℕ, List, [], ◌∷◌, ◌++◌, ◌+◌, ◌≤◌, true, Option, Some, None, Ok, arith, refl, subst, Reading, Answer, GivesFirst, Command, End}
use Rattle.std.proofs.Common.{◌⊎◌, ◌<◌, is_some, codes}
use Rattle.std.proofs.lemmas.Bool.{false≢true}
use Rattle.fw_script_command.specs.Form.{HasForm}
use Rattle.fw_script.specs.Reading.{EndsLine, IsLine}
use Rattle.fw_script.specs.Reading.GivesFirst.{skipped, command, end_line, bad_line, long_line, too_long, end_of_input, no_end, read_fault}
use Rattle.fw_script_command.specs.Keyword.{keyword_in}
use Rattle.fw_script_command.specs.declared.command.Command.TheVariants as Commands
use Rattle.fw_script.specs.declared.stage.ReaderStage.TheVariants as Stages
use Rattle.fw_bus.specs.Buses.{IsCommand}
use Rattle.fw_script.specs.Leading.{Leads}
use Rattle.fw_script.specs.Leading.Leads.{nothing, and_then}
use Rattle.fw_model_run.specs.Logs.{HasNoEnd}

-- whether a command is the last one
pub is_end : (c : Command) → (c ≡ End) ⊎ (c ≢ End)
is_end (Commands.Device a b d e) = inr (λ x. cc)
is_end (Commands.Cable a b) = inr (λ x. cc)
is_end (Commands.Reset a) = inr (λ x. cc)
is_end (Commands.Connect a b d e f) = inr (λ x. cc)
is_end (Commands.Broadcast a b d) = inr (λ x. cc)
is_end (Commands.Listen a b) = inr (λ x. cc)
is_end (Commands.Break a b) = inr (λ x. cc)
is_end (Commands.Step a b) = inr (λ x. cc)
is_end Commands.Withhold = inr (λ x. cc)
is_end (Commands.Settle a) = inr (λ x. cc)
is_end (Commands.Wait a) = inr (λ x. cc)
is_end (Commands.Cycles a) = inr (λ x. cc)
is_end (Commands.Die a b) = inr (λ x. cc)
is_end (Commands.Lose a) = inr (λ x. cc)
is_end (Commands.Start a) = inr (λ x. cc)
is_end (Commands.Command a b d) = inr (λ x. cc)
is_end (Commands.Read a b d) = inr (λ x. cc)
is_end (Commands.Swap a b d e f) = inr (λ x. cc)
is_end (Commands.Insert a b d) = inr (λ x. cc)
is_end (Commands.Eject a) = inr (λ x. cc)
is_end (Commands.Show a b) = inr (λ x. cc)
is_end (Commands.Candidate a) = inr (λ x. cc)
is_end (Commands.Contend a b) = inr (λ x. cc)
is_end (Commands.Dub a) = inr (λ x. cc)
is_end End = inl refl

-- what an option holds
abbrev value_in : {A : Type 0} (o : Option A) → is_some o ≡ true → A
value_in None e = absurd (false≢true e)
value_in (Some x) e = x

-- the line of the last command
end_form : HasForm End (codes "end")
end_form = record { first = codes "end"; others = []; keyword = value_in (keyword_in (codes "end")) refl; words = refl; named = refl; arguments = (refl, refl) }

-- a command that is given is that of a line
pub given_form : {p : Reading} {r : Answer} {q : Reading} → GivesFirst p r q → (c : Command) → r ≡ Ok (Some c) → IsCommand c
given_form (skipped t n a k g) c e = given_form g c e
given_form (command d t n a k i f o) c e = let h : d ≡ c = cc in (t, subst (λ (x : Command). HasForm x t) h f)
given_form (end_line t n a k i f g) c e = given_form g c e
given_form (bad_line t n a k w) c e = absurd cc
given_form (long_line a) c e = absurd cc
given_form (too_long a) c e = absurd cc
given_form (end_of_input a i) c e = let h : End ≡ c = cc in (codes "end", subst (λ (x : Command). HasForm x (codes "end")) h end_form)
given_form (no_end a i) c e = absurd cc
given_form read_fault c e = absurd cc

-- lines give a command or a fault
pub given_some : {p : Reading} {r : Answer} {q : Reading} → GivesFirst p r q → r ≡ Ok None → ⊥
given_some (skipped t n a k g) e = given_some g e
given_some (command d t n a k i f o) e = cc
given_some (end_line t n a k i f g) e = given_some g e
given_some (bad_line t n a k w) e = cc
given_some (long_line a) e = cc
given_some (too_long a) e = cc
given_some (end_of_input a i) e = cc
given_some (no_end a i) e = cc
given_some read_fault e = cc

-- a line has a byte
pub size_some : (p : Reading) (t : List ℕ) (n : ℕ) → EndsLine p t n → 0 < n
size_some p t n (inl e) = omega (arith, e.1)
size_some p t n (inr e) = e.3

-- where a reading stands after a command's line
pub record IsFollowing (p q : Reading) : Type 0 where
  pub stage : q.stage ≡ Stages.Commands
  pub further : p.before < q.before
  pub within : q.before ≤ 1048576

further_on : (p : Reading) (t : List ℕ) (n : ℕ) (q : Reading) → IsLine p t n → p.before + n < q.before → p.before < q.before
further_on p t n q a f = omega arith

pub following_command : {p : Reading} {r : Answer} {q : Reading} → GivesFirst p r q → (c : Command) → r ≡ Ok (Some c) → c ≢ End → IsFollowing p q
following_command {p = p} {q = q} (skipped t n a k g) c e o = let h = following_command g c e o in record { stage = h.stage; further = further_on p t n q a h.further; within = h.within }
following_command {p = p} (command d t n a k i f x) c e o = let s = size_some p t n a.ends in record { stage = i; further = omega arith; within = a.within }
following_command {p = p} {q = q} (end_line t n a k i f g) c e o = let h = following_command g c e o in record { stage = h.stage; further = further_on p t n q a h.further; within = h.within }
following_command (bad_line t n a k w) c e o = absurd cc
following_command (long_line a) c e o = absurd cc
following_command (too_long a) c e o = absurd cc
following_command (end_of_input a i) c e o = absurd (o (let h : c ≡ End = cc in h))
following_command (no_end a i) c e o = absurd cc
following_command read_fault c e o = absurd cc

-- where a reading stands after the input's end
pub record IsOver (p q : Reading) : Type 0 where
  pub stage : q.stage ≡ Stages.Done
  pub further : p.before ≤ q.before
  pub whole : q.whole ≡ true

pub over_end : {p : Reading} {r : Answer} {q : Reading} → GivesFirst p r q → r ≡ Ok (Some End) → IsOver p q
over_end {p = p} {q = q} (skipped t n a k g) e = let h = over_end g e in record { stage = h.stage; further = let f : p.before + n ≤ q.before = h.further in omega arith; whole = h.whole }
over_end (command d t n a k i f o) e = absurd (o (let h : d ≡ End = cc in h))
over_end {p = p} {q = q} (end_line t n a k i f g) e = let h = over_end g e in record { stage = h.stage; further = let f : p.before + n ≤ q.before = h.further in omega arith; whole = h.whole }
over_end (bad_line t n a k w) e = absurd cc
over_end (long_line a) e = absurd cc
over_end (too_long a) e = absurd cc
over_end (end_of_input a i) e = record { stage = refl; further = omega arith; whole = a.1 }
over_end (no_end a i) e = absurd cc
over_end read_fault e = absurd cc

-- none of the commands that lines lead through is the end
has_more : (cs : List Command) (c : Command) → HasNoEnd cs → c ≢ End → HasNoEnd (cs ++ c ∷ [])
has_more [] c n o = (o, tt)
has_more (x ∷ xs) c n o = (n.0, has_more xs c n.1 o)

pub no_end_led : {p q : Reading} {cs : List Command} → Leads p cs q → HasNoEnd cs
no_end_led nothing = tt
no_end_led (and_then {commands = before} l c o next g) = has_more before c (no_end_led l) o
