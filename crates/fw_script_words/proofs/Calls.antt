-- Call after call of the reader.
use Rattle.fw_script_words.proofs.Common.{◌≡◌, ◌≢◌, inl, inr, ℕ, ◌+◌, ◌≤◌, List, [], ◌∷◌, ◌++◌, length, true, Option, Some, None, Ok, Err, refl, ap, sym, ◌∙◌, subst, append_assoc, append-nil, Reading}
use Rattle.fw_script_words.proofs.Common.{Answer, GivesFirst, Advances, ScriptFault, Command, End}
use Rattle.std.proofs.Common.{◌⊎◌, drop, Bool}
use Rattle.std.proofs.Common.{false}
use Rattle.fw_outside.specs.Outside.{Takes, IsAtEnd}
use Rattle.fw_outside.proofs.Parts.{Takes-Takes, Takes-nothing}
use Rattle.fw_script.specs.Reader.{IsOpen, PassesOver, ReadsOn}
use Rattle.fw_script.specs.Reader.PassesOver.{nowhere, over_skipped, over_end as over_end_line}
use Rattle.fw_script.specs.Reading.{GivesNext, with_taken}
use Rattle.fw_script.specs.Script.{Tells, start_of}
use Rattle.fw_script.specs.Leading.{Leads, BeginsWith, TakesFrom, HasRead}
use Rattle.fw_script.specs.Leading.Leads.{nothing}
use Rattle.fw_script.specs.declared.stage.ReaderStage.{ReaderStage}
use Rattle.fw_script.specs.declared.stage.ReaderStage.TheVariants.{Commands, AfterEnd, Done, Failed}
use Rattle.fw_script.proofs.CallLaws.{next_open, gave_all, before_none, met_end, read_command, read_end}
use Rattle.fw_script.proofs.GivesLaws.{goes_whole}
use Rattle.fw_script.proofs.StepLaws.{advances_by, goes_in_turn, goes_passed, goes_taken}
use Rattle.fw_model_run.specs.Logs.{HasNoEnd}
use Rattle.fw_script_words.specs.Going.{HasEnded, HasReadTo, IsReading}
use Rattle.fw_script_words.proofs.Givings.{is_end, given_some, following_command, over_end, no_end_led}
use Rattle.fw_script_words.proofs.Takings.{left_following, all_held}

-- the answer is a command or a fault
abbrev pub IsSomething : Answer → Type 0
IsSomething r = r ≢ Ok None

-- a command or a fault that a call gave, after the line of the last command
pub record IsGiven (left mid left' : Option (List ℕ)) (given : List Command) (new : Reading) (r : Answer) : Type 0 where
  pub old : Reading
  pub so : HasRead left mid given old
  pub call : Advances old new mid left' r
  pub gives : GivesFirst call.known r new

passed_open : {p q : Reading} → PassesOver p q → IsOpen p.stage → IsOpen q.stage
passed_open nowhere o = o
passed_open (over_skipped t n a k h) o = passed_open h o
passed_open (over_end_line t n a k i f h) o = passed_open h tt

passed_done : {p q : Reading} → PassesOver p q → p.stage ≡ Done → q.stage ≡ Done
passed_done nowhere e = e
passed_done (over_skipped t n a k h) e = passed_done h e
passed_done (over_end_line t n a k i f h) e = let s = i in absurd cc

passed_failed : {p q : Reading} → PassesOver p q → q.stage ≡ Failed → p.stage ≡ Failed
passed_failed nowhere e = e
passed_failed (over_skipped t n a k h) e = passed_failed h e
passed_failed (over_end_line t n a k i f h) e = let wrong : AfterEnd ≡ Failed = passed_failed h e in absurd cc

-- a reader may be called
pub may_read : {left now : Option (List ℕ)} {given : List Command} {reader : Reading} → IsReading left now given reader → reader.stage ≢ Failed
may_read {left} {now} {given} {reader} h e = by_stage h.known.stage (passed_failed h.passed e) h.read
  where
    by_stage : (s : ReaderStage) → s ≡ Failed → HasReadTo s left now given h.known → ⊥
    by_stage Commands f so = cc
    by_stage AfterEnd f so = so
    by_stage Done f so = cc
    by_stage Failed f so = so

-- it is given only before the end
pub given_before : {left mid : Option (List ℕ)} {given : List Command} {reader : Reading} (left' : Option (List ℕ)) (new : Reading) (r : Answer) → IsSomething r → IsReading left mid given reader
    → Advances reader new mid left' r → IsGiven left mid left' given new r
given_before {left} {mid} {given} {reader} left' new r some h a = by_stage h.known.stage refl h.read
  where
    by_stage : (s : ReaderStage) → h.known.stage ≡ s → HasReadTo s left mid given h.known → IsGiven left mid left' given new r
    by_stage Commands e so =
        let gave : GivesFirst a.known r new = next_open reader.stage a.known new r some a.gives in
        let opened : IsOpen h.known.stage = subst (λ (x : ReaderStage). IsOpen x) (sym e) tt in
        let on : ReadsOn h.known a.known mid left' = goes_in_turn h.known reader a.known mid mid left' (goes_passed h.known reader mid h.passed) (goes_taken reader a.known mid left' a.takes) in
        let call = advances_by h.known a.known new mid left' r opened on gave in
        record { old = h.known; so = so; call = call; gives = next_open h.known.stage call.known new r some call.gives }
    by_stage AfterEnd e so = absurd so
    by_stage Done e so = let g = subst (λ (x : ReaderStage). GivesNext x a.known r new) (passed_done h.passed e) a.gives in absurd (some g.0)
    by_stage Failed e so = absurd so

-- nothing is given only after the end
pub ended_before : {left now : Option (List ℕ)} {given : List Command} {reader : Reading} (known new : Reading) → IsReading left now given reader
    → GivesNext reader.stage known (Ok None) new → HasEnded left now given reader
ended_before {left} {now} {given} {reader} known new h g = by_stage h.known.stage refl h.read
  where
    open_gives : (s : ReaderStage) → IsOpen s → GivesNext s known (Ok None) new → GivesFirst known (Ok None) new
    open_gives Commands o x = x
    open_gives AfterEnd o x = x
    open_gives Done o x = absurd o
    open_gives Failed o x = absurd o

    by_stage : (s : ReaderStage) → h.known.stage ≡ s → HasReadTo s left now given h.known → HasEnded left now given reader
    by_stage Commands e so =
        let opened : IsOpen reader.stage = passed_open h.passed (subst (λ (x : ReaderStage). IsOpen x) (sym e) tt) in
        absurd (given_some (open_gives reader.stage opened g) refl)
    by_stage AfterEnd e so = absurd so
    by_stage Done e so = record {
      script = so.script;
      takes = so.takes;
      end = so.end;
      says = so.says;
      whole = goes_whole h.passed ∙ so.whole;
      earlier = so.earlier;
      no_end = so.no_end;
      last = so.last;
    }
    by_stage Failed e so = absurd so

-- what the source still tells
pub told_following : (left now : Option (List ℕ)) (xs : List ℕ) (whole : Bool) → Takes left now xs → (whole ≡ true → IsAtEnd now)
    → (more : List ℕ) × Tells left (xs ++ more) × (whole ≡ true → more ≡ [])
told_following None None xs whole t met = ([], tt, λ w. refl)
told_following None (Some ys) xs whole t met = absurd t
told_following (Some old) None xs whole t met = absurd t
told_following (Some old) (Some ys) xs whole t met = (ys, t, met)

-- nothing was taken of what the source tells
pub takes_nothing : (left : Option (List ℕ)) → (script : List ℕ) × TakesFrom left left script
takes_nothing left =
    let m = told_following left left [] false (Takes-nothing left) (λ w. absurd cc) in
    (m.0, record { taken = []; following = m.0; parts = refl; takes = Takes-nothing left; told = m.1 })

pub begins_nothing : (script : List ℕ) → BeginsWith script []
begins_nothing script = record { following = start_of script; leads = nothing }

-- one call that gave a command or a fault, over all bytes that are left
module _ (left mid left' : Option (List ℕ)) (given : List Command) (old new : Reading) (r : Answer) (some : IsSomething r) (so : HasRead left mid given old) (a : Advances old new mid left' r) where
  abbrev pub all : List ℕ
  all = so.taken ++ a.takes.taken

  pub all_taken : Takes left left' all
  all_taken = Takes-Takes left mid left' so.taken a.takes.taken so.takes a.takes.takes

  abbrev pub following : (more : List ℕ) × Tells left (all ++ more) × (new.whole ≡ true → more ≡ [])
  following = told_following left left' all new.whole all_taken (met_end old new mid left' r some a so.met)

  -- the script
  abbrev pub whole_script : List ℕ
  whole_script = all ++ following.0

  abbrev pub whole_takes : TakesFrom left left' whole_script
  whole_takes = record { taken = all; following = following.0; parts = refl; takes = all_taken; told = following.1 }

  -- what was given before, and what the call gave
  lines : (more : List ℕ) → (new.whole ≡ true → more ≡ []) → (q : Reading) × Leads (start_of (all ++ more)) given q × GivesFirst q r (with_taken new more true)
  lines more none = (
    with_taken old (a.takes.taken ++ more) true,
    subst (λ (bytes : List ℕ). Leads (start_of bytes) given (with_taken old (a.takes.taken ++ more) true)) (sym (append_assoc so.taken a.takes.taken more))
        (so.leads (a.takes.taken ++ more) true (λ w. (before_none old new mid left' r some a more none w, refl))),
    gave_all old new mid left' r some a more none,
  )

  pub the_lines : (q : Reading) × Leads (start_of whole_script) given q × GivesFirst q r (with_taken new following.0 true)
  the_lines = lines following.0 following.2

  -- what was taken beyond the lines is held
  pub taken_held : length all ≤ new.before + length new.rest
  taken_held =
      let l = lines [] (λ w. refl) in
      let rest : new.rest ++ [] ≡ drop new.before (all ++ []) = left_following refl l.1 l.2 in
      all_held all new.rest new.before (sym (append-nil new.rest) ∙ (rest ∙ ap (λ (bytes : List ℕ). drop new.before bytes) (append-nil all)))

pub some_command : (c : Command) → IsSomething (Ok (Some c))
some_command c e = cc

pub some_fault : (f : ScriptFault) → IsSomething (Err f)
some_fault f e = cc

-- where what was given leads to has no end in it
pub given_no_end : {left now : Option (List ℕ)} {given : List Command} {reader : Reading} → HasRead left now given reader → HasNoEnd given
given_no_end so = no_end_led (so.leads [] true (λ w. (refl, refl)))

-- the call gave the end
given_end : (left mid left' : Option (List ℕ)) (given : List Command) (old new : Reading) → HasRead left mid given old
    → (a : Advances old new mid left' (Ok (Some End))) → GivesFirst a.known (Ok (Some End)) new → HasEnded left left' (given ++ End ∷ []) new × (new.stage ≡ Done)
given_end left mid left' given old new so a g =
    let e = read_end left mid left' given old new so a in
    let o = over_end g refl in
    (record { script = e.0; takes = e.1; end = e.2; says = e.3; whole = o.whole; earlier = given; no_end = given_no_end so; last = refl }, o.stage)

-- what was read before the next call
pub reads_on : (left mid left' : Option (List ℕ)) (given : List Command) (old new : Reading) (c : Command) → HasRead left mid given old
    → (a : Advances old new mid left' (Ok (Some c))) → GivesFirst a.known (Ok (Some c)) new → HasReadTo new.stage left left' (given ++ c ∷ []) new
reads_on left mid left' given old new c so a g = by_end (is_end c)
  where
    at_stage : (s : ReaderStage) → new.stage ≡ s → HasReadTo s left left' (given ++ c ∷ []) new → HasReadTo new.stage left left' (given ++ c ∷ []) new
    at_stage s e h = subst (λ (x : ReaderStage). HasReadTo x left left' (given ++ c ∷ []) new) (sym e) h

    by_end : (c ≡ End) ⊎ (c ≢ End) → HasReadTo new.stage left left' (given ++ c ∷ []) new
    by_end (inl e) =
        let over = subst (λ (x : Command). (b : Advances old new mid left' (Ok (Some x))) × GivesFirst b.known (Ok (Some x)) new) e (a, g) in
        let h = given_end left mid left' given old new so over.0 over.1 in
        at_stage Done h.1 (subst (λ (x : Command). HasEnded left left' (given ++ x ∷ []) new) (sym e) h.0)
    by_end (inr o) = at_stage Commands (following_command g c refl o).stage (read_command left mid left' given old new c so a o)

-- after the end nothing more was taken
pub still_ended : (left mid left' : Option (List ℕ)) (given : List Command) (old new : Reading) (h : HasEnded left mid given old)
    → Advances old new mid left' (Ok None) → Takes left left' h.script × IsAtEnd left'
still_ended left mid left' given old new h a =
    let none : Takes mid left' [] = subst (λ (xs : List ℕ). Takes mid left' xs) (a.takes.kept h.whole).0 a.takes.takes in (
      subst (λ (xs : List ℕ). Takes left left' xs) (append-nil h.script) (Takes-Takes left mid left' h.script [] h.takes none),
      at_end mid left' none h.end,
    )
  where
    at_end : (mid left' : Option (List ℕ)) → Takes mid left' [] → IsAtEnd mid → IsAtEnd left'
    at_end None None t e = tt
    at_end None (Some ys) t e = absurd t
    at_end (Some xs) None t e = tt
    at_end (Some xs) (Some ys) t e = sym t ∙ e
