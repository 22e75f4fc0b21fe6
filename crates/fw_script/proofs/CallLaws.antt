-- Calls of a reader, one after the other.
use Rattle.std.proofs.Common.{◌≡◌, ◌≢◌, ℕ, ◌+◌, ◌≤◌, [], ◌∷◌, ◌++◌, List, length, drop, length-drop, length-append, true}
use Rattle.std.proofs.Common.{false, Bool, Option, Some, None, Ok, Err, arith, refl, ap, sym, ◌∙◌, subst, append_assoc}
use Rattle.std.proofs.lemmas.List.{append-nil, drop-append-le, drop-drop}
use Rattle.fw_outside.specs.Outside.{Takes, IsAtEnd}
use Rattle.fw_outside.proofs.Parts.{Takes-Takes, Takes-nothing}
use Rattle.fw_script_command.specs.Pieces.{IsFree}
use Rattle.fw_script.specs.Reading.{Reading, Answer, GivesFirst, GivesNext, Advances, IsLine, IsHeld, following, with_taken, unread}
use Rattle.fw_script.specs.Reading.GivesFirst.{skipped, command, end_line, bad_line, long_line, too_long, end_of_input, no_end, read_fault}
use Rattle.fw_script.specs.Script.{Refusal, Says, IsScript, Tells, begun}
use Rattle.fw_script.specs.Leading.{Leads, HasRead, LinesSay, IsReadOf}
use Rattle.fw_script.specs.Leading.Leads.{nothing, and_then}
use Rattle.fw_script.specs.Script.Says.{ends, refuses}
use Rattle.fw_script_command.specs.declared.command.Command.{Command}
use Rattle.fw_script_command.specs.declared.command.Command.TheVariants.{End}
use Rattle.fw_script.specs.declared.ScriptFault.{ScriptFault}
use Rattle.fw_script.specs.declared.ScriptFault.TheVariants.{ReadFault}
use Rattle.fw_script.specs.declared.stage.ReaderStage.{ReaderStage}
use Rattle.fw_script.specs.declared.stage.ReaderStage.TheVariants.{Commands, AfterEnd, Done, Failed}
use Rattle.fw_script.proofs.LineLaws.{line_there}
use Rattle.fw_script.proofs.StepLaws.{with_with, at_end_still}
use Rattle.fw_script.proofs.GivesLaws.{gives_with, gives_whole}
use Rattle.fw_script.proofs.ScriptLaws.{some_something, err_something, says_from, says_following}

pub next_open : (s : ReaderStage) (p q : Reading) (r : Answer) → (r ≢ Ok None) → GivesNext s p r q → GivesFirst p r q
next_open Commands p q r n g = g
next_open AfterEnd p q r n g = g
next_open Done p q r n g = absurd (n g.0)
next_open Failed p q r n g = g

-- what a call gave, over all bytes that are left
module _ (old new : Reading) (mid left' : Option (List ℕ)) (r : Answer) (some : r ≢ Ok None) (a : Advances old new mid left' r) where
  gave : GivesFirst a.known r new
  gave = next_open old.stage a.known new r some a.gives

  pub known_whole : new.whole ≡ a.known.whole
  known_whole = gives_whole gave

  -- if the end was met nothing more is left
  more_none : (more : List ℕ) → (new.whole ≡ true → more ≡ []) → a.known.whole ≡ true → more ≡ []
  more_none more none w = none (known_whole ∙ w)

  pub gave_by : (more : List ℕ) (whole : Bool) → (new.whole ≡ true → (more ≡ []) × (whole ≡ true)) → GivesFirst (with_taken old (a.takes.taken ++ more) whole) r (with_taken new more whole)
  gave_by more whole none =
      subst (λ (p : Reading). GivesFirst p r (with_taken new more whole))
      (ap (λ (p : Reading). with_taken p more whole) a.takes.now ∙ with_with old a.takes.taken more a.known.whole whole)
      (gives_with more whole (λ w. none (known_whole ∙ w)) gave)

  pub gave_all : (more : List ℕ) → (new.whole ≡ true → more ≡ []) → GivesFirst (with_taken old (a.takes.taken ++ more) true) r (with_taken new more true)
  gave_all more none = gave_by more true (λ w. (none w, refl))

  -- if the end was met before, nothing more was left
  pub before_by : (more : List ℕ) (whole : Bool) → (new.whole ≡ true → (more ≡ []) × (whole ≡ true)) → old.whole ≡ true → (a.takes.taken ++ more ≡ []) × (whole ≡ true)
  before_by more whole none w =
      let k = a.takes.kept w in
      let n = none (known_whole ∙ k.1) in
      (ap (λ (l : List ℕ). l ++ more) k.0 ∙ n.0, n.1)

  -- nothing more was left before, if the end was met before
  pub before_none : (more : List ℕ) → (new.whole ≡ true → more ≡ []) → old.whole ≡ true → a.takes.taken ++ more ≡ []
  before_none more none w =
      let k = a.takes.kept w in
      ap (λ (l : List ℕ). l ++ more) k.0 ∙ none (known_whole ∙ k.1)

  pub met_end : (old.whole ≡ true → IsAtEnd mid) → new.whole ≡ true → IsAtEnd left'
  met_end before w = by_old old.whole refl
    where
      by_old : (b : Bool) → old.whole ≡ b → IsAtEnd left'
      by_old true e = at_end_still mid left' (subst (λ (l : List ℕ). Takes mid left' l) (a.takes.kept e).0 a.takes.takes) (before e)
      by_old false e = a.takes.met e (sym known_whole ∙ w)

-- how far the taken bytes are read
read_from : (taken : List ℕ) (p : Reading) (t : List ℕ) (n : ℕ) → IsLine p t n → IsReadOf taken p → IsReadOf taken (following p t n)
read_from taken p t n a h = record {
  within = omega (arith, h.within, line_there p t n a, length-drop p.before taken, ap (λ (l : List ℕ). length l) h.held);
  held = sym (drop-drop n p.before taken) ∙ ap (λ (l : List ℕ). drop n l) h.held;
}

gives_read : {p : Reading} {r : Answer} {q : Reading} → (taken : List ℕ) → IsReadOf taken p → GivesFirst p r q → IsReadOf taken q
gives_read {p = p} taken h (skipped t n a k g) = gives_read taken (read_from taken p t n a h) g
gives_read {p = p} taken h (command c t n a k i f o) = read_from taken p t n a h
gives_read {p = p} taken h (end_line t n a k i f g) = let e = read_from taken p t n a h in gives_read taken (record { within = e.within; held = e.held }) g
gives_read {p = p} taken h (bad_line t n a k w) = let e = read_from taken p t n a h in record { within = e.within; held = e.held }
gives_read taken h (long_line a) = record { within = h.within; held = h.held }
gives_read taken h (too_long a) = record { within = h.within; held = h.held }
gives_read taken h (end_of_input a i) = record { within = h.within; held = h.held }
gives_read taken h (no_end a i) = record { within = h.within; held = h.held }
gives_read taken h read_fault = record { within = h.within; held = h.held }

pub taken_more : (taken more : List ℕ) (whole : Bool) (p : Reading) → IsReadOf taken p → IsReadOf (taken ++ more) (with_taken p more whole)
taken_more taken more whole p h = record {
  within = omega (arith, h.within, length-append taken more);
  held = drop-append-le p.before taken more h.within ∙ ap (λ (l : List ℕ). l ++ more) h.held;
}

next_read : (s : ReaderStage) (p q : Reading) (r : Answer) (taken : List ℕ) → IsReadOf taken p → GivesNext s p r q → IsReadOf taken q
next_read Commands p q r taken h g = gives_read taken h g
next_read AfterEnd p q r taken h g = gives_read taken h g
next_read Done p q r taken h g = subst (λ (z : Reading). IsReadOf taken z) (sym g.1) h
next_read Failed p q r taken h g = gives_read taken h g

-- a call took more
taken_read : (left mid left' : Option (List ℕ)) (given : List Command) (old new : Reading) (r : Answer)
    → (so : HasRead left mid given old) → (a : Advances old new mid left' r) → IsReadOf (so.taken ++ a.takes.taken) new
taken_read left mid left' given old new r so a =
    next_read old.stage a.known new r (so.taken ++ a.takes.taken)
    (subst (λ (p : Reading). IsReadOf (so.taken ++ a.takes.taken) p) (sym a.takes.now) (taken_more so.taken a.takes.taken a.known.whole old so.read)) a.gives

pub taken_held : (left mid left' : Option (List ℕ)) (given : List Command) (old new : Reading) (r : Answer)
    → HasRead left mid given old → Advances old new mid left' r → (taken : List ℕ) × Takes left left' taken × IsReadOf taken new
taken_held left mid left' given old new r so a =
    (so.taken ++ a.takes.taken, Takes-Takes left mid left' so.taken a.takes.taken so.takes a.takes.takes, taken_read left mid left' given old new r so a)

-- a new reader has read nothing
pub read_nothing : (left : Option (List ℕ)) → HasRead left left [] unread
read_nothing left = record {
  taken = [];
  takes = Takes-nothing left;
  met = λ w. absurd cc;
  read = record { within = omega arith; held = refl };
  leads = λ more whole none. nothing;
}

-- a call gave one command more
pub read_command : (left mid left' : Option (List ℕ)) (given : List Command) (old new : Reading) (c : Command)
    → HasRead left mid given old → Advances old new mid left' (Ok (Some c)) → c ≢ End → HasRead left left' (given ++ c ∷ []) new
read_command left mid left' given old new c so a other = record {
  taken = so.taken ++ a.takes.taken;
  takes = Takes-Takes left mid left' so.taken a.takes.taken so.takes a.takes.takes;
  met = met_end old new mid left' (Ok (Some c)) (some_something c) a so.met;
  read = taken_read left mid left' given old new (Ok (Some c)) so a;
  leads = leads_more;
}
  where
    leads_more : (more : List ℕ) (whole : Bool) → (new.whole ≡ true → (more ≡ []) × (whole ≡ true))
        → Leads (begun ((so.taken ++ a.takes.taken) ++ more) whole) (given ++ c ∷ []) (with_taken new more whole)
    leads_more more whole none =
        let l = so.leads (a.takes.taken ++ more) whole (before_by old new mid left' (Ok (Some c)) (some_something c) a more whole none) in
        subst (λ (bytes : List ℕ). Leads (begun bytes whole) (given ++ c ∷ []) (with_taken new more whole)) (sym (append_assoc so.taken a.takes.taken more))
        (and_then l c other (with_taken new more whole) (gave_by old new mid left' (Ok (Some c)) (some_something c) a more whole none))

-- a call's source failed
pub read_failed : (left mid left' : Option (List ℕ)) (given : List Command) (old new : Reading)
    → HasRead left mid given old → Advances old new mid left' (Err ReadFault) → IsHeld (Err ReadFault) new
    → (taken : List ℕ) × Takes left left' taken × LinesSay taken given
read_failed left mid left' given old new so a held =
    let not_whole : new.whole ≡ true → ([] ≡ []) × (false ≡ true) = λ w. let n = held.2 in absurd cc in
    let g = gave_by old new mid left' (Err ReadFault) (err_something ReadFault) a [] false not_whole in
    let l = so.leads (a.takes.taken ++ []) false (before_by old new mid left' (Err ReadFault) (err_something ReadFault) a [] false not_whole) in (
      so.taken ++ a.takes.taken,
      Takes-Takes left mid left' so.taken a.takes.taken so.takes a.takes.takes,
      record {
        following = with_taken old (a.takes.taken ++ []) false;
        last = with_taken new [] false;
        leads = subst (λ (bytes : List ℕ). Leads (begun (so.taken ++ bytes) false) given (with_taken old (a.takes.taken ++ []) false)) (append-nil a.takes.taken) l;
        passed = g;
        free = subst (λ (l : List ℕ). IsFree 10 l) (sym (append-nil new.rest)) held.0;
        few = subst (λ (l : List ℕ). length l ≤ 256) (sym (append-nil new.rest)) held.1;
        within = subst (λ (l : List ℕ). new.before + length l ≤ 1048576) (sym (append-nil new.rest)) held.3;
      },
    )

-- what is read so far, over all bytes that are left
pub read_first : {left left' : Option (List ℕ)} {given : List Command} {now : Reading} → (so : HasRead left left' given now) → (more : List ℕ) (cs : List Command) (r : Option Refusal)
    → (now.whole ≡ true → more ≡ [])
    → Says (with_taken now more true) cs r → IsScript (so.taken ++ more) (given ++ cs) r
read_first so more cs r none h = says_from (so.leads more true (λ w. (none w, refl))) cs r h

pub read_rest : {left left' : Option (List ℕ)} {given : List Command} {now : Reading} → (so : HasRead left left' given now) → (more : List ℕ) (ds : List Command) (r : Option Refusal)
    → (now.whole ≡ true → more ≡ [])
    → IsScript (so.taken ++ more) ds r → (cs : List Command) × (ds ≡ given ++ cs) × Says (with_taken now more true) cs r
read_rest so more ds r none h = says_following (so.leads more true (λ w. (none w, refl))) ds r h

-- if the end was given, the input was read to its end
gives_end_whole : {p : Reading} {r : Answer} {q : Reading} → GivesFirst p r q → r ≡ Ok (Some End) → q.whole ≡ true
gives_end_whole (skipped t n a k g) e = gives_end_whole g e
gives_end_whole (command c t n a k i f o) e = absurd (o (let h : c ≡ End = cc in h))
gives_end_whole (end_line t n a k i f g) e = gives_end_whole g e
gives_end_whole (bad_line t n a k w) e = absurd cc
gives_end_whole (long_line a) e = absurd cc
gives_end_whole (too_long a) e = absurd cc
gives_end_whole (end_of_input a i) e = a.1
gives_end_whole (no_end a i) e = absurd cc
gives_end_whole read_fault e = absurd cc

-- a call gave the end
pub read_end : (left mid left' : Option (List ℕ)) (given : List Command) (old new : Reading)
    → HasRead left mid given old → Advances old new mid left' (Ok (Some End))
    → (script : List ℕ) × Takes left left' script × IsAtEnd left' × IsScript script (given ++ End ∷ []) None
read_end left mid left' given old new so a =
    let g = gave old new mid left' (Ok (Some End)) (some_something End) a in
    let w : new.whole ≡ true = gives_end_whole g refl in
    let all = gave_all old new mid left' (Ok (Some End)) (some_something End) a [] (λ v. refl) in
    let s = read_first so (a.takes.taken ++ []) (End ∷ []) None (before_none old new mid left' (Ok (Some End)) (some_something End) a [] (λ v. refl)) (ends all) in (
      so.taken ++ a.takes.taken,
      Takes-Takes left mid left' so.taken a.takes.taken so.takes a.takes.takes,
      met_end old new mid left' (Ok (Some End)) (some_something End) a so.met w,
      subst (λ (bytes : List ℕ). IsScript (so.taken ++ bytes) (given ++ End ∷ []) None) (append-nil a.takes.taken) s,
    )

-- what the source still tells
told_rest : (left left' : Option (List ℕ)) (xs : List ℕ) (whole : Bool) → Takes left left' xs → (whole ≡ true → IsAtEnd left')
    → (more : List ℕ) × Tells left (xs ++ more) × (whole ≡ true → more ≡ [])
told_rest None None xs whole t met = ([], tt, λ w. refl)
told_rest None (Some ys) xs whole t met = absurd t
told_rest (Some old) None xs whole t met = absurd t
told_rest (Some old) (Some ys) xs whole t met = (ys, t, met)

-- what was given comes first
pub given_first : (script : List ℕ) (left' : Option (List ℕ)) (given ds : List Command) (now : Reading) (r : Option Refusal)
    → HasRead (Some script) left' given now → IsScript script ds r → (cs : List Command) × (ds ≡ given ++ cs)
given_first script left' given ds now r so h =
    let m = told_rest (Some script) left' so.taken now.whole so.takes so.met in
    let b = read_rest so m.0 ds r m.2 (subst (λ (bytes : List ℕ). IsScript bytes ds r) m.1 h) in
    (b.0, b.1)

-- a call refused a line
pub read_refused : (left mid left' : Option (List ℕ)) (given : List Command) (old new : Reading) (f : ScriptFault)
    → HasRead left mid given old → Advances old new mid left' (Err f) → f ≢ ReadFault
    → (script : List ℕ) × Tells left script × IsScript script given (Some (record { fault = f; line = new.line }))
read_refused left mid left' given old new f so a told =
    let met = met_end old new mid left' (Err f) (err_something f) a so.met in
    let m = told_rest left left' (so.taken ++ a.takes.taken) new.whole (Takes-Takes left mid left' so.taken a.takes.taken so.takes a.takes.takes) met in
    let g = gave_all old new mid left' (Err f) (err_something f) a m.0 m.2 in
    let s = read_first so (a.takes.taken ++ m.0) [] (Some (record { fault = f; line = new.line })) (before_none old new mid left' (Err f) (err_something f) a m.0 m.2) (refuses g told) in (
      (so.taken ++ a.takes.taken) ++ m.0,
      m.1,
      subst (λ (bytes : List ℕ). IsScript bytes given (Some (record { fault = f; line = new.line }))) (sym (append_assoc so.taken a.takes.taken m.0))
          (subst (λ (cs : List Command). IsScript (so.taken ++ (a.takes.taken ++ m.0)) cs (Some (record { fault = f; line = new.line }))) (append-nil given) s),
    )
