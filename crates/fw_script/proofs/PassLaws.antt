-- Lines that are looked at, and passed one by one.
use Rattle.std.proofs.Common.{◌≡◌, ◌≢◌, inl, inr, ℕ, ◌+◌, ◌<◌, [], ◌++◌, List, length, take, Bool, true, false, Option, Some, None, Ok, Err, refl, ap, sym, ◌∙◌, subst, append_assoc}
use Rattle.std.proofs.lemmas.List.{append-nil}
use Rattle.fw_outside.specs.Outside.{Takes, IsAtEnd}
use Rattle.fw_outside.proofs.Parts.{Takes-Takes}
use Rattle.fw_script.specs.Leading.{Leads, HasRead, IsReadOf}
use Rattle.fw_script.specs.Passing.{Passes}
use Rattle.fw_script.specs.Reader.{HoldsLine, PassesOver}
use Rattle.fw_script.specs.Reader.PassesOver.{nowhere, over_skipped, over_end}
use Rattle.fw_script.specs.Reading.{Reading, Answer, GivesFirst, TakesMore, Advances, following, at_stage, with_taken}
use Rattle.fw_script.specs.Reading.GivesFirst.{command, bad_line}
use Rattle.fw_script.specs.Script.{begun}
use Rattle.fw_script_command.specs.declared.command.Command.{Command}
use Rattle.fw_script.specs.declared.ScriptFault.TheVariants.{BadLine, ReadFault}
use Rattle.fw_script.specs.declared.reader.passing.Said.TheVariants.{Nothing, Command as ACommand, Refused}
use Rattle.fw_script.specs.declared.stage.ReaderStage.TheVariants.{Failed}
use Rattle.fw_script.proofs.CallLaws.{gave_by, known_whole, taken_more}
use Rattle.fw_script.proofs.GivesLaws.{gives_once, gives_with}
use Rattle.fw_script.proofs.StepLaws.{at_end_still, with_with}

-- bytes were taken after what was read
pub read_taken : (left mid left' : Option (List ℕ)) (given : List Command) (old new : Reading)
    → HasRead left mid given old → TakesMore old new mid left' → HasRead left left' given new
read_taken left mid left' given old new so t = record {
  taken = so.taken ++ t.taken;
  takes = Takes-Takes left mid left' so.taken t.taken so.takes t.takes;
  met = λ w. met_by old.whole refl w;
  read = subst (λ (p : Reading). IsReadOf (so.taken ++ t.taken) p) (sym t.now) (taken_more so.taken t.taken new.whole old so.read);
  leads = leads_more;
}
  where
    met_by : (b : Bool) → old.whole ≡ b → new.whole ≡ true → IsAtEnd left'
    met_by true e w = at_end_still mid left' (subst (λ (l : List ℕ). Takes mid left' l) (t.kept e).0 t.takes) (so.met e)
    met_by false e w = t.met e w

    same : (more : List ℕ) (whole : Bool) → with_taken new more whole ≡ with_taken old (t.taken ++ more) whole
    same more whole = ap (λ (p : Reading). with_taken p more whole) t.now ∙ with_with old t.taken more new.whole whole

    leads_more : (more : List ℕ) (whole : Bool) → (new.whole ≡ true → (more ≡ []) × (whole ≡ true)) → Leads (begun ((so.taken ++ t.taken) ++ more) whole) given (with_taken new more whole)
    leads_more more whole none =
        let kept : old.whole ≡ true → (t.taken ++ more ≡ []) × (whole ≡ true) = λ w. let k = t.kept w in let n = none k.1 in (ap (λ (l : List ℕ). l ++ more) k.0 ∙ n.0, n.1) in
        subst (λ (bytes : List ℕ). Leads (begun bytes whole) given (with_taken new more whole)) (sym (append_assoc so.taken t.taken more))
        (subst (λ (q : Reading). Leads (begun (so.taken ++ (t.taken ++ more)) whole) given q) (sym (same more whole)) (so.leads (t.taken ++ more) whole kept))

-- a line that says nothing was passed over
pub pass_over : (p q : Reading) (n size : ℕ) (c : Command) → HoldsLine p n size → Passes p n size Nothing c q → PassesOver p q
pass_over p q n size c h (inl s) = subst (λ (z : Reading). PassesOver p z) (sym s.now) (over_skipped (take n p.rest) size h.line s.skipped nowhere)
pass_over p q n size c h (inr e) = subst (λ (z : Reading). PassesOver p z) (sym e.now) (over_end (take n p.rest) size h.line e.said e.stage e.form nowhere)

pub next_gives : (p q : Reading) (n size : ℕ) (c : Command) → HoldsLine p n size → Passes p n size ACommand c q → GivesFirst p (Ok (Some c)) (following p (take n p.rest) size)
next_gives p q n size c h s = command c (take n p.rest) size h.line s.said s.stage s.form s.other

pub refused_gives : (p q : Reading) (n size : ℕ) (c : Command) → HoldsLine p n size → Passes p n size Refused c q → GivesFirst p (Err BadLine) (at_stage (following p (take n p.rest) size) Failed)
refused_gives p q n size c h s = bad_line (take n p.rest) size h.line s.said s.why

-- a call gave what was held
pub held_answer : (p q new : Reading) (left left' : Option (List ℕ)) (r s : Answer) → GivesFirst p r q → r ≢ Err ReadFault
    → Advances p new left left' s → s ≢ Ok None → s ≢ Err ReadFault → (s ≡ r) × (taken : List ℕ) × (new ≡ with_taken q taken new.whole)
held_answer p q new left left' r s g told a some other =
    let more = a.takes.taken ++ [] in
    let kept : p.whole ≡ true → (a.takes.taken ++ [] ≡ []) × (new.whole ≡ true) = λ w. let k = a.takes.kept w in (append-nil a.takes.taken ∙ k.0, known_whole p new left left' s some a ∙ k.1) in
    let here = gave_by p new left left' s some a [] new.whole (λ w. (refl, w)) in
    let there = gives_with more new.whole kept g in
    let same = gives_once here there other told in
    (same.0, more, at_all new ∙ same.1)
  where
    at_all : (z : Reading) → z ≡ with_taken z [] z.whole
    at_all z = ap (λ (xs : List ℕ). record { rest = xs; whole = z.whole; before = z.before; line = z.line; stage = z.stage; text = z.text; end = z.end }) (sym (append-nil z.rest))
