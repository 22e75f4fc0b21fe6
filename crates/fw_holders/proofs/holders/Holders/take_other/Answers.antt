use Rattle.fw_holders.proofs.Common.{◌≡◌, ◌++◌, Option, Some, None, ap, sym, subst, ◌∙◌, append-nil, Account, Entry, looked, told, line_of, HolderState, IsWithin, entry_judged, ShowsAnswer, StandsFor}
use Rattle.fw_holders.proofs.Common.{Answer, Tables}
use Rattle.fw_holders.specs.Deeds.{reset_text}
use Rattle.fw_holders.proofs.TakeLaws.{entry_answers, entry_quiet}
use Rattle.fw_holders.proofs.holders.Holders.take_other.Goals as goal

pub returns-in_ok-put_reset-in-Reset-default : goal.returns-in_ok-put_reset-in-Reset-default
returns-in_ok-put_reset-in-Reset-default c = λ l h.
    let stood = subst (λ (r : HolderState). StandsFor r.tables l) (sym c.self.view_is) h in
    let taken = c.in-Ok.ensures.judged l stood in
    let k : Account = taken.1.0 in
    let after = subst (λ (t : Tables). StandsFor t k) (sym c.tables.ensures.same) taken.1.2 in
    let told_is : told l c.args.t.now.what ≡ Some (reset_text c.get.result.now) = ap (λ (e : Entry). told l e) c.in-Reset-default.is-0 ∙ ap (λ r. Some (reset_text r)) (sym c.get.ensures) in
    record {
      clear = taken.0;
      account = k;
      follows = taken.1.1;
      stands = taken.1.2;
      judged = λ n more within. c.take.ensures l n more (subst (λ (r : HolderState). IsWithin n r.judged) (sym c.self.view_is) within) taken.2
          ∙ ap (λ (r : HolderState). entry_judged l c.args.t.now.what r.judged) c.self.view_is;
      text = c.in_ok-put_reset-in-Reset-default.ensures.text k after
          ∙ ap (λ o. c.self.inside.text.items ++ line_of c.args.t.now.cycle o (Some k)) (sym told_is)
          ∙ ap (λ (r : HolderState). r.text ++ line_of c.args.t.now.cycle (told l c.args.t.now.what) (Some k)) c.self.view_is;
    }

pub returns-in_ok-put_answer-in_default-Some : goal.returns-in_ok-put_answer-in_default-Some
returns-in_ok-put_answer-in_default-Some c = λ l h.
    let stood = subst (λ (r : HolderState). StandsFor r.tables l) (sym c.self.view_is) h in
    let taken = c.in-Ok.ensures.judged l stood in
    let k : Account = taken.1.0 in
    let shows = subst (λ (o : Option Answer). ShowsAnswer l (looked c.args.t.now.what) o) c.in_default-Some.is-1 taken.2 in
    let x = entry_answers l k c.args.t.now.what c.in_default-Some.answer shows taken.1.1 in
    record {
      clear = taken.0;
      account = k;
      follows = taken.1.1;
      stands = taken.1.2;
      judged = λ n more within. c.take.ensures l n more (subst (λ (r : HolderState). IsWithin n r.judged) (sym c.self.view_is) within) taken.2
          ∙ ap (λ (r : HolderState). entry_judged l c.args.t.now.what r.judged) c.self.view_is;
      text = c.in_ok-put_answer-in_default-Some.ensures.text l k x.response stood.sound taken.1.2 x.reply x.answered x.is
          ∙ ap (λ o. c.self.inside.text.items ++ line_of c.args.t.now.cycle o (Some k)) (sym x.told)
          ∙ ap (λ (r : HolderState). r.text ++ line_of c.args.t.now.cycle (told l c.args.t.now.what) (Some k)) c.self.view_is;
    }

pub returns-in_default : goal.returns-in_default
returns-in_default c = λ l h.
    let stood = subst (λ (r : HolderState). StandsFor r.tables l) (sym c.self.view_is) h in
    let taken = c.in-Ok.ensures.judged l stood in
    let k : Account = taken.1.0 in
    let shows = subst (λ (o : Option Answer). ShowsAnswer l (looked c.args.t.now.what) o) c.in_default.is-1 taken.2 in
    let quiet : told l c.args.t.now.what ≡ None = entry_quiet l c.args.t.now.what c.in_default.not-Reset-0 (c.requires.other l) shows in
    record {
      clear = taken.0;
      account = k;
      follows = taken.1.1;
      stands = taken.1.2;
      judged = λ n more within. c.take.ensures l n more (subst (λ (r : HolderState). IsWithin n r.judged) (sym c.self.view_is) within) taken.2
          ∙ ap (λ (r : HolderState). entry_judged l c.args.t.now.what r.judged) c.self.view_is;
      text = sym (append-nil c.self.inside.text.items)
          ∙ ap (λ o. c.self.inside.text.items ++ line_of c.args.t.now.cycle o (Some k)) (sym quiet)
          ∙ ap (λ (r : HolderState). r.text ++ line_of c.args.t.now.cycle (told l c.args.t.now.what) (Some k)) c.self.view_is;
    }
