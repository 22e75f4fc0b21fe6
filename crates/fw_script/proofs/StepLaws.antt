-- How bytes are taken and lines passed over, step by step.
use Rattle.std.proofs.Common.{◌≡◌, ℕ, [], ◌++◌, List, Bool, true, false, Option, Some, None, Result, Ok, Err, refl, ap, sym, ◌∙◌, subst, append_assoc}
use Rattle.std.specs.Prelude.{OnErr}
use Rattle.fw_outside.specs.Outside.{Takes, IsAtEnd}
use Rattle.fw_outside.proofs.Parts.{Takes-Takes}
use Rattle.fw_script.specs.Passing.{FailsThere}
use Rattle.fw_script.specs.Reader.{PassesOver, ReadsOn, Steps, ReadsLine, Fills, IsCut, IsOpen, answer_of}
use Rattle.fw_script.specs.Reader.PassesOver.{nowhere}
use Rattle.fw_script.specs.Reading.{Reading, Answer, GivesFirst, TakesMore, Advances, with_taken, at_stage, HoldsAnswer}
use Rattle.fw_script.specs.Reading.GivesFirst.{read_fault}
use Rattle.fw_script.specs.declared.stage.ReaderStage.{ReaderStage}
use Rattle.fw_script.specs.declared.stage.ReaderStage.TheVariants.{Failed}
use Rattle.fw_script_command.specs.declared.command.Command.{Command}
use Rattle.fw_script.specs.declared.ScriptFault.{ScriptFault}
use Rattle.fw_script.specs.declared.ScriptFault.TheVariants.{ReadFault}
use Rattle.fw_script.proofs.LineLaws.{IsMore}
use Rattle.fw_script.proofs.GivesLaws.{gives_whole, cut_gives, goes_gives, goes_goes, goes_with, goes_whole, goes_answer}
use Rattle.fw_script.proofs.ReadingLaws.{gives_at, nothing_taken, gives_open}

-- taking in turn
pub with_with : (p : Reading) (xs ys : List ℕ) (w v : Bool) → with_taken (with_taken p xs w) ys v ≡ with_taken p (xs ++ ys) v
with_with p xs ys w v = ap (λ (l : List ℕ). record { rest = l; whole = v; before = p.before; line = p.line; stage = p.stage; text = p.text; end = p.end }) (append_assoc p.rest xs ys)

pub at_end_still : (left mid : Option (List ℕ)) → Takes left mid [] → IsAtEnd left → IsAtEnd mid
at_end_still None None h e = tt
at_end_still None (Some ys) h e = absurd h
at_end_still (Some xs) None h e = tt
at_end_still (Some xs) (Some ys) h e = sym h ∙ e

-- more bytes were taken, after some were
pub takes_takes : (p q z : Reading) (left mid left' : Option (List ℕ)) (a : TakesMore p q left mid) (b : TakesMore z z left' left') → (ys : List ℕ) (w : Bool) → Takes mid left' ys
    → (q.whole ≡ true → (ys ≡ []) × (w ≡ true)) → (q.whole ≡ false → w ≡ true → IsAtEnd left') → TakesMore p (with_taken q ys w) left left'
takes_takes p q z left mid left' a b ys w took kept met = record {
  taken = a.taken ++ ys;
  takes = Takes-Takes left mid left' a.taken ys a.takes took;
  kept = λ v. let k = a.kept v in let m = kept k.1 in (ap (λ (l : List ℕ). l ++ ys) k.0 ∙ m.0, m.1);
  met = λ v e. by_mid q.whole refl v e;
  now = ap (λ (x : Reading). with_taken x ys w) a.now ∙ with_with p a.taken ys q.whole w;
}
  where
    by_mid : (m : Bool) → q.whole ≡ m → p.whole ≡ false → w ≡ true → IsAtEnd left'
    by_mid true is v e = at_end_still mid left' (subst (λ (l : List ℕ). Takes mid left' l) (kept is).0 took) (a.met v is)
    by_mid false is v e = met is e

-- taking after taking
pub takes_then : (p q z : Reading) (left mid left' : Option (List ℕ)) → TakesMore p q left mid → TakesMore q z mid left' → TakesMore p z left left'
takes_then p q z left mid left' a b =
    subst (λ (x : Reading). TakesMore p x left left') (sym b.now)
    (takes_takes p q z left mid left' a (nothing_taken z left') b.taken z.whole b.takes (λ w. b.kept w) (λ v e. b.met v e))

pub goes_nowhere : (p : Reading) (left : Option (List ℕ)) → ReadsOn p p left left
goes_nowhere p left = record { known = p; takes = nothing_taken p left; goes = nowhere }

pub goes_passed : (p q : Reading) (left : Option (List ℕ)) → PassesOver p q → ReadsOn p q left left
goes_passed p q left g = record { known = p; takes = nothing_taken p left; goes = g }

pub goes_taken : (p q : Reading) (left left' : Option (List ℕ)) → TakesMore p q left left' → ReadsOn p q left left'
goes_taken p q left left' t = record { known = q; takes = t; goes = nowhere }

pub goes_in_turn : (p q z : Reading) (left mid left' : Option (List ℕ)) → ReadsOn p q left mid → ReadsOn q z mid left' → ReadsOn p z left left'
goes_in_turn p q z left mid left' a b =
    let more : IsMore a.known b.takes.taken b.known.whole = λ w. b.takes.kept (goes_whole a.goes ∙ w) in
    let far = goes_with b.takes.taken b.known.whole more a.goes in
    record {
      known = with_taken a.known b.takes.taken b.known.whole;
      takes = takes_takes p a.known z left mid left' a.takes (nothing_taken z left') b.takes.taken b.known.whole b.takes.takes more
          (λ v e. b.takes.met (goes_whole a.goes ∙ v) e);
      goes = goes_goes (subst (λ (x : Reading). PassesOver (with_taken a.known b.takes.taken b.known.whole) x) (sym b.takes.now) far) b.goes;
    }

-- a step after others
pub advances_by : (p q new : Reading) (left left' : Option (List ℕ)) (r : Answer) → IsOpen p.stage → ReadsOn p q left left' → GivesFirst q r new → Advances p new left left' r
advances_by p q new left left' r o a g = record { known = a.known; takes = a.takes; gives = gives_open p.stage a.known new r o (goes_gives a.goes g) }

-- an answer that is held is still held after what is passed over
pub holds_after : (p q : Reading) → PassesOver p q → HoldsAnswer p → HoldsAnswer q
holds_after p q g h = (h.0, h.1, goes_answer g h.2 h.3, h.3)

-- a line that was read is a step
pub step_read : (p new : Reading) (left : Option (List ℕ)) (r : Answer) → ReadsLine p r new → Steps p left left r new
step_read p new left (Ok None) h = (goes_passed p new left h.0, h.1, h.2)
step_read p new left (Ok (Some c)) h = (p, goes_nowhere p left, h)
step_read p new left (Err f) h = (p, goes_nowhere p left, h)

pub reads_whole : (p new : Reading) (r : Answer) → ReadsLine p r new → p.whole ≡ true → new.whole ≡ true
reads_whole p new (Ok None) h w = goes_whole h.0 ∙ w
reads_whole p new (Ok (Some c)) h w = gives_whole h ∙ w
reads_whole p new (Err f) h w = gives_whole h ∙ w

pub reads_holds : (p new : Reading) (r : Answer) → ReadsLine p r new → HoldsAnswer p → r ≡ Ok None → HoldsAnswer new
reads_holds p new (Ok None) h held e = holds_after p new h.0 held
reads_holds p new (Ok (Some c)) h held e = absurd cc
reads_holds p new (Err f) h held e = absurd cc

-- an answer without a line
pub step_gives : (p new : Reading) (left : Option (List ℕ)) (f : ScriptFault) → GivesFirst p (Err f) new → Steps p left left (Err f) new
step_gives p new left f g = (p, goes_nowhere p left, g)

-- bytes were taken, or the source failed
pub step_filled : (p new : Reading) (left left' : Option (List ℕ)) → IsOpen p.stage → Fills p left left' (Ok tt) new → Steps p left left' (Ok None) new
step_filled p new left left' o h = (goes_taken p new left left' h.0, subst (λ (s : ReaderStage). IsOpen s) (sym h.1) o, h.2)

pub step_failed : (p new : Reading) (left left' : Option (List ℕ)) (f : ScriptFault) → Fills p left left' (Err f) new → Steps p left left' (Err f) new
step_failed p new left left' f h =
    (p, goes_taken p p left left' h.1, subst (λ (e : ScriptFault). GivesFirst p (Err e) new) (sym h.0) (gives_at p (at_stage p Failed) new (Err ReadFault) h.2 read_fault))

-- an answer that is not held
pub cut_holds : (p : Reading) → IsCut p → HoldsAnswer p → ⊥
cut_holds p c h = cut_gives c h.2 h.3

-- what a step gave
pub nothing_given : (p new : Reading) (left left' : Option (List ℕ)) (b : Bool) (c : Command) → b ≡ false → Steps p left left' (answer_of (Ok b) c) new → Steps p left left' (Ok None) new
nothing_given p new left left' b c e h = subst (λ (x : Bool). Steps p left left' (answer_of (Ok x) c) new) e h

pub command_given : (p new : Reading) (left left' : Option (List ℕ)) (b : Bool) (c : Command) → b ≡ true → Steps p left left' (answer_of (Ok b) c) new → Steps p left left' (Ok (Some c)) new
command_given p new left left' b c e h = subst (λ (x : Bool). Steps p left left' (answer_of (Ok x) c) new) e h

-- the source failed after bytes were taken
pub take_failed : (p q new : Reading) (left mid left' : Option (List ℕ)) (f : ScriptFault) → IsOpen p.stage → TakesMore p q left mid → Fills q mid left' (Err f) new
    → Advances p new left left' (Err ReadFault)
take_failed p q new left mid left' f o t h =
    advances_by p q new left left' (Err ReadFault) o (goes_taken p q left left' (takes_then p q q left mid left' t h.1))
    (gives_at q (at_stage q Failed) new (Err ReadFault) h.2 read_fault)

pub fails_there : (p q new : Reading) (left mid left' : Option (List ℕ)) (f : ScriptFault) → TakesMore p q left mid → Fills q mid left' (Err f) new → FailsThere p new left left'
fails_there p q new left mid left' f t h = record { known = q; takes = takes_then p q q left mid left' t h.1; now = h.2 }

-- what holds anyhow
pub on_err : {A B : Type 0} (r : Result A B) (P : Type 0) → P → OnErr r P
on_err (Ok x) P p = tt
on_err (Err e) P p = p
