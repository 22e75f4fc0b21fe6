-- What the next call of the reader gives if a line is held, or none stands next.
use Rattle.fw_trace.proofs.Common.{◌≡◌, refl, sym, ap, subst, ◌∙◌, ℕ, ◌+◌, List, [], ◌++◌, true, ◌⊎◌, inl, inr, Option, Some, None, Ok, Err, append-nil, Command, End, Reading, Advances, TakesMore}
use Rattle.fw_trace.proofs.Common.{following, ReaderStage, Commands, Done}
use Rattle.std.proofs.Common.{◌≢◌}
use Rattle.fw_script.specs.Reader.{PassesOver}
use Rattle.fw_script.specs.Reader.PassesOver.{nowhere, over_skipped, over_end}
use Rattle.fw_script.specs.Reading.{Answer, GivesFirst, GivesNext, IsHeld, IsAtEndOfInput, PassesLimit, at_stage, with_taken}
use Rattle.fw_script.specs.Reading.GivesFirst.{skipped, command, end_line, read_fault}
use Rattle.fw_script.specs.declared.ScriptFault.{ScriptFault}
use Rattle.fw_script.specs.declared.ScriptFault.TheVariants.{BadLine, LineTooLong, NoEnd, ReadFault, TooLong}
use Rattle.fw_script.specs.declared.stage.ReaderStage.TheVariants.{AfterEnd, Failed}
use Rattle.fw_script.proofs.CallLaws.{next_open}
use Rattle.fw_script.proofs.GivesLaws.{gives_once, gives_with, goes_answer, cut_gives}
use Rattle.fw_script.proofs.LineLaws.{limit_more}
use Rattle.fw_script.proofs.PassLaws.{held_answer}
use Rattle.fw_script_words.proofs.Givings.{given_some}
use Rattle.fw_trace.specs.Tracing.{IsNoCommand, HoldsNoCommand, GivesThis}

-- ---- an answer is held

-- it is not of the source
abbrev pub IsTold : Answer → Type 0
IsTold r = r ≢ Err ReadFault

-- the answer, and how far it reads
pub record Held (p : Reading) : Type 0 where
  pub answer : Answer
  pub next : Reading
  pub gives : GivesFirst p answer next
  pub told : IsTold answer
  pub limit : answer ≡ Err TooLong → PassesLimit p
  pub line : (answer ≡ Err TooLong) ⊎ ((answer ≡ Ok (Some End)) ⊎ (next.line ≡ p.line + 1))

held_none : (p : Reading) (r : Answer) (q : Reading) → GivesFirst p r q → IsNoCommand r p q → Held p
held_none p (Ok None) q g n = absurd n
held_none p (Ok (Some c)) q g n = record { answer = Ok (Some c); next = q; gives = g; told = λ e. cc; limit = λ e. absurd cc; line = inr (inl (ap (λ (d : Command). Ok (Some d)) n.0)) }
held_none p (Err BadLine) q g n = record { answer = Err BadLine; next = q; gives = g; told = λ e. cc; limit = λ e. absurd cc; line = inr (inr n) }
held_none p (Err LineTooLong) q g n = record { answer = Err LineTooLong; next = q; gives = g; told = λ e. cc; limit = λ e. absurd cc; line = inr (inr n) }
held_none p (Err NoEnd) q g n = record { answer = Err NoEnd; next = q; gives = g; told = λ e. cc; limit = λ e. absurd cc; line = inr (inr n) }
held_none p (Err ReadFault) q g n = absurd n
held_none p (Err TooLong) q g n = record { answer = Err TooLong; next = q; gives = g; told = λ e. cc; limit = λ e. n; line = inl refl }

pub held_of : (p : Reading) (line : Option (List ℕ)) (c : Command) → GivesThis p line c → (p.stage ≡ Done) ⊎ Held p
held_of p None c g = by g.1
  where
    by : (p.stage ≡ Done) ⊎ HoldsNoCommand p → (p.stage ≡ Done) ⊎ Held p
    by (inl d) = inl d
    by (inr h) = inr (held_none p h.answer h.next h.gives h.none)
held_of p (Some text) c g =
    let (size, l, said, stage, form, other) = g in
    inr (record { answer = Ok (Some c); next = following p text size; gives = command c text size l said stage form other; told = λ e. cc; limit = λ e. absurd cc; line = inr (inr refl) })

-- ---- the end was given

pub done_none : (p q : Reading) (left left' : Option (List ℕ)) (r : Answer) → p.stage ≡ Done → Advances p q left left' r → r ≡ Ok None
done_none p q left left' r e a = (subst (λ (s : ReaderStage). GivesNext s a.known r q) e a.gives).0

nothing_at : (s : ReaderStage) (p q : Reading) → GivesNext s p (Ok None) q → s ≡ Done
nothing_at Commands p q g = absurd (given_some g refl)
nothing_at AfterEnd p q g = absurd (given_some g refl)
nothing_at Done p q g = refl
nothing_at Failed p q g = absurd (given_some g refl)

pub none_done : (p q : Reading) (left left' : Option (List ℕ)) → Advances p q left left' (Ok None) → p.stage ≡ Done
none_done p q left left' a = nothing_at p.stage a.known q a.gives

-- nothing more is taken if the input's end was met
pub whole_known : (p known : Reading) (left left' : Option (List ℕ)) → p.whole ≡ true → TakesMore p known left left' → known ≡ p
whole_known p known left left' w m =
    let k = m.kept w in
    let rest : p.rest ++ m.taken ≡ p.rest = ap (λ (l : List ℕ). p.rest ++ l) k.0 ∙ append-nil p.rest in
    let whole : known.whole ≡ p.whole = k.1 ∙ sym w in
    m.now ∙ (λ i. record { rest = rest i; whole = whole i; before = p.before; line = p.line; stage = p.stage; text = p.text; end = p.end })

-- ---- what is given

-- the end was given, if nothing is left
pub record GivesEnd (p q : Reading) (c : Command) (taken : List ℕ) : Type 0 where
  pub is : c ≡ End
  pub none : taken ≡ []
  pub over : IsAtEndOfInput p
  pub now : q ≡ at_stage p Done

module _ (p q : Reading) (left left' : Option (List ℕ)) (other : Command) (a : Advances p q left left' (Ok (Some other))) where
  no_fault : {A : Type 0} (f : ScriptFault) (z : Reading) → IsTold (Err f) → GivesFirst p (Err f) z → A
  no_fault f z told g =
      let same = (held_answer p z q left left' (Err f) (Ok (Some other)) g told a (λ e. cc) (λ e. cc)).0 in
      absurd cc

  by_answer : (r : Answer) (z : Reading) → GivesFirst p r z → IsNoCommand r p z → GivesEnd p q other a.takes.taken
  by_answer (Ok None) z g n = absurd n
  by_answer (Ok (Some d)) z g n =
      let known = whole_known p a.known left left' n.1.1 a.takes in
      let gave : GivesFirst p (Ok (Some other)) q = subst (λ (k : Reading). GivesFirst k (Ok (Some other)) q) known (next_open p.stage a.known q (Ok (Some other)) (λ e. cc) a.gives) in
      let same = gives_once g gave (λ e. cc) (λ e. cc) in
      let is : d ≡ other = let s = same.0 in cc in
      record { is = sym is ∙ n.0; none = (a.takes.kept n.1.1).0; over = n.1; now = sym same.1 ∙ n.2 }
  by_answer (Err BadLine) z g n = no_fault BadLine z (λ e. cc) g
  by_answer (Err LineTooLong) z g n = no_fault LineTooLong z (λ e. cc) g
  by_answer (Err NoEnd) z g n = no_fault NoEnd z (λ e. cc) g
  by_answer (Err ReadFault) z g n = absurd n
  by_answer (Err TooLong) z g n = no_fault TooLong z (λ e. cc) g

  pub end_given : (c : Command) → GivesThis p None c → GivesEnd p q other a.takes.taken
  end_given c g = by g.1
    where
      by : (p.stage ≡ Done) ⊎ HoldsNoCommand p → GivesEnd p q other a.takes.taken
      by (inl d) = let none = done_none p q left left' (Ok (Some other)) d a in absurd cc
      by (inr h) = by_answer h.answer h.next h.gives h.none

-- a fault, or a command that is not the end, is on the next line
pub given_line : (p q : Reading) (left left' : Option (List ℕ)) (r : Answer) → (p.stage ≡ Done) ⊎ Held p → Advances p q left left' r
    → r ≢ Ok None → r ≢ Err ReadFault → r ≢ Err TooLong → r ≢ Ok (Some End) → q.line ≡ p.line + 1
given_line p q left left' r (inl d) a some told long last = absurd (some (done_none p q left left' r d a))
given_line p q left left' r (inr h) a some told long last =
    let same = held_answer p h.next q left left' h.answer r h.gives h.told a some told in
    ap (λ (z : Reading). z.line) same.2 ∙ by same.0 h.line
  where
    by : r ≡ h.answer → (h.answer ≡ Err TooLong) ⊎ ((h.answer ≡ Ok (Some End)) ⊎ (h.next.line ≡ p.line + 1)) → h.next.line ≡ p.line + 1
    by e (inl n) = absurd (long (e ∙ n))
    by e (inr (inl n)) = absurd (last (e ∙ n))
    by e (inr (inr n)) = n

-- the script's limit is passed
pub limit_given : (p q : Reading) (left left' : Option (List ℕ)) → (p.stage ≡ Done) ⊎ Held p → (a : Advances p q left left' (Err TooLong)) → PassesLimit a.known
limit_given p q left left' (inl d) a = let none = done_none p q left left' (Err TooLong) d a in absurd cc
limit_given p q left left' (inr h) a =
    let same = (held_answer p h.next q left left' h.answer (Err TooLong) h.gives h.told a (λ e. cc) (λ e. cc)).0 in
    subst (λ (k : Reading). PassesLimit k) (sym a.takes.now) (limit_more p a.takes.taken a.known.whole (h.limit (sym same)))

-- ---- the source is not asked

-- if the source failed lines were passed over, up to where it did
fault_passed : {p q : Reading} → GivesFirst p (Err ReadFault) q → (m : Reading) × PassesOver p m × (q ≡ at_stage m Failed)
fault_passed (skipped t n l s g) = let r = fault_passed g in (r.0, over_skipped t n l s r.1, r.2)
fault_passed (end_line t n l s i f g) = let r = fault_passed g in (r.0, over_end t n l s i f r.1, r.2)
fault_passed {p = p} read_fault = (p, nowhere, refl)

-- so it doesn't fail
pub no_read_fault : (p q : Reading) (left left' : Option (List ℕ)) → (p.stage ≡ Done) ⊎ Held p → Advances p q left left' (Err ReadFault) → IsHeld (Err ReadFault) q → ⊥
no_read_fault p q left left' (inl d) a cut = let none = done_none p q left left' (Err ReadFault) d a in cc
no_read_fault p q left left' (inr h) a cut =
    let r = fault_passed (next_open p.stage a.known q (Err ReadFault) (λ e. cc) a.gives) in
    let given = gives_with a.takes.taken a.known.whole a.takes.kept h.gives in
    let there = subst (λ (k : Reading). GivesFirst k h.answer (with_taken h.next a.takes.taken a.known.whole)) (sym a.takes.now) given in
    let here : IsHeld (Err ReadFault) (at_stage r.0 Failed) = subst (λ (z : Reading). IsHeld (Err ReadFault) z) r.2 cut in
    cut_gives (record { on = here.2; short = here.1; within = here.3; free = here.0 }) (goes_answer r.1 there h.told) h.told
