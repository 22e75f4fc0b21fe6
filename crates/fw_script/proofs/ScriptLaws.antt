-- Whole scripts.
use Rattle.std.proofs.Common.{◌≡◌, ◌≢◌, ℕ, [], ◌∷◌, ◌++◌, ◌+◌, ◌<◌, ◌≤◌, List, length, Option, Some, None, Ok, Err, arith, refl, ap, sym, ◌∙◌, subst, append_assoc, zero-add}
use Rattle.fw_script.specs.Reading.{Reading, Answer, GivesFirst, following, at_stage}
use Rattle.fw_script.specs.Reading.GivesFirst.{skipped, command, end_line, bad_line, long_line, too_long, end_of_input, no_end, read_fault}
use Rattle.fw_script.specs.Script.{Refusal, Says, IsScript, FitsLimit}
use Rattle.fw_script.specs.Leading.{Leads, BeginsWith}
use Rattle.fw_script.specs.Leading.Leads.{nothing, and_then}
use Rattle.fw_script.specs.Script.Says.{ends, refuses, goes_on}
use Rattle.fw_script_command.specs.declared.command.Command.{Command}
use Rattle.fw_script_command.specs.declared.command.Command.TheVariants.{End}
use Rattle.fw_script.specs.declared.ScriptFault.{ScriptFault}
use Rattle.fw_script.specs.declared.ScriptFault.TheVariants.{NoEnd, ReadFault, TooLong}
use Rattle.fw_script.specs.declared.stage.ReaderStage.TheVariants.{AfterEnd}
use Rattle.fw_script.proofs.LineLaws.{after_total}
use Rattle.fw_script.proofs.GivesLaws.{gives_once, Same}

-- the answer is no fault of the source
abbrev IsTold : Answer → Type 0
IsTold r = r ≢ Err ReadFault

-- the answer is a command or a fault
abbrev pub IsSomething : Answer → Type 0
IsSomething r = r ≢ Ok None

pub some_something : (c : Command) → IsSomething (Ok (Some c))
some_something c e = cc

pub err_something : (f : ScriptFault) → IsSomething (Err f)
err_something f e = cc

ok_told : (o : Option Command) → IsTold (Ok o)
ok_told o e = cc

err_told : (f : ScriptFault) → f ≢ ReadFault → IsTold (Err f)
err_told f n e = n (let h : f ≡ ReadFault = cc in h)

abbrev SameScript : List Command → Option Refusal → List Command → Option Refusal → Type 0
SameScript cs r ds s = (cs ≡ ds) × (r ≡ s)

refusal_of : (f g : ScriptFault) (q z : Reading) → Same (Err f) q (Err g) z → SameScript [] (Some (record { fault = f; line = q.line })) [] (Some (record { fault = g; line = z.line }))
refusal_of f g q z h =
    let e : f ≡ g = cc in
    (refl, ap (λ (x : ScriptFault). Some (record { fault = x; line = q.line })) e ∙ ap (λ (x : Reading). Some (record { fault = g; line = x.line })) h.1)

-- a script says one thing
pub says_once : {p : Reading} {cs ds : List Command} {r s : Option Refusal} → Says p cs r → Says p ds s → SameScript cs r ds s
says_once (ends g) (ends h) = (refl, refl)
says_once (ends g) (refuses h n) = let e = gives_once g h (ok_told (Some End)) (err_told _ n) in absurd (let x = e.0 in cc)
says_once (ends g) (goes_on {c = c} h o m) = let e = gives_once g h (ok_told (Some End)) (ok_told (Some c)) in absurd (o (let x = e.0 in cc))
says_once (refuses g n) (ends h) = let e = gives_once g h (err_told _ n) (ok_told (Some End)) in absurd (let x = e.0 in cc)
says_once (refuses {q = q} {f = f} g n) (refuses {q = z} {f = k} h m) = refusal_of f k q z (gives_once g h (err_told f n) (err_told k m))
says_once (refuses g n) (goes_on {c = c} h o m) = let e = gives_once g h (err_told _ n) (ok_told (Some c)) in absurd (let x = e.0 in cc)
says_once (goes_on {c = c} g o m) (ends h) = let e = gives_once g h (ok_told (Some c)) (ok_told (Some End)) in absurd (o (let x = e.0 in cc))
says_once (goes_on {c = c} g o m) (refuses h n) = let e = gives_once g h (ok_told (Some c)) (err_told _ n) in absurd (let x = e.0 in cc)
says_once (goes_on {q = q} {c = c} {cs = cs} {r = r} g o m) (goes_on {q = z} {c = d} {cs = ds} {r = s} h k w) =
    let e = gives_once g h (ok_told (Some c)) (ok_told (Some d)) in
    let head : c ≡ d = let x = e.0 in cc in
    let rest = says_once m (subst (λ (p : Reading). Says p ds s) (sym e.1) w) in
    (ap (λ (x : Command). x ∷ cs) head ∙ ap (λ (xs : List Command). d ∷ xs) rest.0, rest.1)

-- what follows a command in a script
pub says_after : {p q : Reading} {ds : List Command} {s : Option Refusal} (c : Command) → GivesFirst p (Ok (Some c)) q → c ≢ End → Says p ds s → (cs : List Command) × (ds ≡ c ∷ cs) × Says q cs s
says_after c g o (ends h) = let e = gives_once g h (ok_told (Some c)) (ok_told (Some End)) in absurd (o (let x = e.0 in cc))
says_after c g o (refuses {f = f} h n) = let e = gives_once g h (ok_told (Some c)) (err_told f n) in absurd (let x = e.0 in cc)
says_after {q = q} {s = s} c g o (goes_on {q = z} {c = d} {cs = ds} h m w) =
    let e = gives_once g h (ok_told (Some c)) (ok_told (Some d)) in
    let head : d ≡ c = let x = e.0 in cc in
    (ds, ap (λ (x : Command). x ∷ ds) head, subst (λ (x : Reading). Says x ds s) (sym e.1) w)

-- what these commands lead to says the rest
pub says_from : {p q : Reading} {commands : List Command} → Leads p commands q → (ds : List Command) (r : Option Refusal) → Says q ds r → Says p (commands ++ ds) r
says_from nothing ds r s = s
says_from {p = p} (and_then {commands = commands} l c o next g) ds r s =
    subst (λ (cs : List Command). Says p cs r) (sym (append_assoc commands (c ∷ []) ds)) (says_from l (c ∷ ds) r (goes_on g o s))

pub says_following : {p q : Reading} {commands : List Command} → Leads p commands q → (ds : List Command) (r : Option Refusal) → Says p ds r → (cs : List Command) × (ds ≡ commands ++ cs) × Says q cs r
says_following nothing ds r s = (ds, refl, s)
says_following (and_then {commands = commands} l c o next g) ds r s =
    let b = says_following l ds r s in
    let n = says_after c g o b.2 in
    (n.0, b.1 ∙ ap (λ (l : List Command). commands ++ l) n.1 ∙ sym (append_assoc commands (c ∷ []) n.0), n.2)

pub begins_first : (script : List ℕ) (commands ds : List Command) (r : Option Refusal) → BeginsWith script commands → IsScript script ds r → (cs : List Command) × (ds ≡ commands ++ cs)
begins_first script commands ds r h s = let b = says_following h.leads ds r s in (b.0, b.1)

-- the first commands are the script's beginning
leads_before : {p q z : Reading} {commands : List Command} → (c : Command) → GivesFirst p (Ok (Some c)) q → c ≢ End → Leads q commands z → Leads p (c ∷ commands) z
leads_before {q = q} c g o nothing = and_then nothing c o q g
leads_before c g o (and_then l d m next h) = and_then (leads_before c g o l) d m next h

not_nothing : (commands ds : List Command) (c : Command) → [] ≡ commands ++ c ∷ ds → ⊥
not_nothing [] ds c e = cc
not_nothing (d ∷ commands) ds c e = cc

says_begins : {p : Reading} {cs : List Command} {r : Option Refusal} → (commands ds : List Command) (c : Command) → cs ≡ commands ++ c ∷ ds → Says p cs r → (q : Reading) × Leads p commands q
says_begins {p = p} [] ds c e s = (p, nothing)
says_begins (d ∷ commands) ds c e (ends g) = absurd (not_nothing commands ds c (let h : [] ≡ commands ++ c ∷ ds = cc in h))
says_begins (d ∷ commands) ds c e (refuses g n) = absurd cc
says_begins {p = p} (d ∷ commands) ds c e (goes_on {c = b} {cs = bs} g o m) =
    let head : b ≡ d = cc in
    let rest : bs ≡ commands ++ c ∷ ds = cc in
    let n = says_begins commands ds c rest m in
    (n.0, subst (λ (x : Command). Leads p (x ∷ commands) n.0) head (leads_before b g o n.1))

pub first_begins : (script : List ℕ) (commands ds : List Command) (c : Command) (r : Option Refusal) → IsScript script (commands ++ c ∷ ds) r → BeginsWith script commands
first_begins script commands ds c r s = let b = says_begins commands ds c refl s in record { following = b.0; leads = b.1 }

-- the script's length decides whether it is too long
abbrev Total : Reading → Answer → Reading → Type 0
Total p (Ok None) q = Unit {0}
Total p (Ok (Some c)) q = (q.before ≤ 1048576) × (q.before + length q.rest ≡ p.before + length p.rest) × (c ≡ End → p.before + length p.rest ≤ 1048576)
Total p (Err f) q = (f ≡ TooLong → 1048576 < p.before + length p.rest) × (f ≡ NoEnd → p.before + length p.rest ≤ 1048576)

total_from : (p m : Reading) (r : Answer) (q : Reading) → m.before + length m.rest ≡ p.before + length p.rest → Total m r q → Total p r q
total_from p m (Ok None) q e h = tt
total_from p m (Ok (Some c)) q e h = (h.0, h.1 ∙ e, λ o. omega (arith, h.2 o, e))
total_from p m (Err f) q e h = ((λ o. omega (arith, h.0 o, e)), (λ o. omega (arith, h.1 o, e)))

gives_total : {p : Reading} {r : Answer} {q : Reading} → p.before ≤ 1048576 → GivesFirst p r q → Total p r q
gives_total {p = p} {r = r} {q = q} low (skipped t n a k g) = total_from p (following p t n) r q (after_total p t n a) (gives_total a.within g)
gives_total {p = p} low (command c t n a k i f o) = (a.within, after_total p t n a, λ e. absurd (o e))
gives_total {p = p} {r = r} {q = q} low (end_line t n a k i f g) = total_from p (at_stage (following p t n) AfterEnd) r q (after_total p t n a) (gives_total a.within g)
gives_total low (bad_line t n a k w) = ((λ e. absurd cc), (λ e. absurd cc))
gives_total low (long_line a) = ((λ e. absurd cc), (λ e. absurd cc))
gives_total low (too_long a) = ((λ e. a.more), (λ e. absurd cc))
gives_total {p = p} low (end_of_input a i) = (low, refl, λ e. omega (arith, low, ap (λ (l : List ℕ). length l) a.0))
gives_total {p = p} low (no_end a i) = ((λ e. absurd cc), (λ e. omega (arith, low, ap (λ (l : List ℕ). length l) a.0)))
gives_total low read_fault = ((λ e. absurd cc), (λ e. absurd cc))

within_from : (n m : ℕ) (r : Option Refusal) → n ≡ m → FitsLimit n r → FitsLimit m r
within_from n m r e h = subst (λ (k : ℕ). FitsLimit k r) e h

pub says_limit : {p : Reading} {cs : List Command} {r : Option Refusal} → p.before ≤ 1048576 → Says p cs r → FitsLimit (p.before + length p.rest) r
says_limit low (ends g) = (gives_total low g).2 refl
says_limit low (refuses g n) = gives_total low g
says_limit {p = p} {r = r} low (goes_on {q = q} g o m) =
    let t = gives_total low g in
    within_from (q.before + length q.rest) (p.before + length p.rest) r t.1 (says_limit t.0 m)

pub script_limit : (bytes : List ℕ) (cs : List Command) (r : Option Refusal) → IsScript bytes cs r → FitsLimit (length bytes) r
script_limit bytes cs r s = within_from (0 + length bytes) (length bytes) r (zero-add (length bytes)) (says_limit (omega arith) s)
