use Rattle.fw_holders.proofs.Common.{
  ◌≡◌,
  ◌++◌,
  Some,
  ap,
  sym,
  subst,
  ◌∙◌,
  codes,
  decimal,
  length,
  arith,
  Account,
  Entry,
  entry_judged,
  told,
  right,
  line,
  line_of,
  rest_of_line,
  HolderState,
  StandsFor,
}
use Rattle.fw_holders.proofs.Common.{Tables}
use Rattle.fw_holders.specs.Deeds.{event_told}
use Rattle.fw_holders.proofs.TakeLaws.{cut_back, some_of}
use Rattle.fw_holders.proofs.TextLaws.{both_put}
use Rattle.fw_holders.proofs.holders.Holders.take_event.Goals as goal

pub returns-in-Err : goal.returns-in-Err
returns-in-Err c = λ l h.
    let size : length c.self.inside.text.items ≡ c.len-begins.result = omega (arith, c.self.inside.text.ok.0, c.len-begins.ensures) in
    let what = some_of (event_told l c.args.event.now) (c.requires.told l) in
    let stood = subst (λ (r : HolderState). StandsFor r.tables l) (sym c.self.view_is) h in
    let shown = subst (λ (t : Tables). StandsFor t l) (sym c.tables.ensures.same) stood in
    let begun : c.put_cycle.new.text.items ≡ c.self.inside.text.items ++ (right 8 (decimal c.args.t.now.cycle) ++ codes " ") = c.in_ok-put_cycle.ensures.text in
    let put : c.put_event.new.text.items ≡ c.put_cycle.new.text.items ++ what.0 = c.in_ok-put_event.ensures l what.0 shown what.1 in (
      c.in-Err.ensures.judged l stood,
      c.truncate.ensures.items
          ∙ cut_back c.len-begins.result c.self.inside.text.items c.put_cycle.new.text.items c.put_event.new.text.items (right 8 (decimal c.args.t.now.cycle) ++ codes " ") what.0 size begun put
          ∙ ap (λ (r : HolderState). r.text) c.self.view_is,
    )

pub returns : goal.returns
unfolding line
returns c = λ l h.
    let size : length c.put_cycle.new.text.items ≡ c.len-from.result = omega (arith, c.put_cycle.new.text.ok.0, c.len-from.ensures) in
    let what = some_of (event_told l c.args.event.now) (c.requires.told l) in
    let stood = subst (λ (r : HolderState). StandsFor r.tables l) (sym c.self.view_is) h in
    let shown = subst (λ (t : Tables). StandsFor t l) (sym c.tables.ensures.same) stood in
    let begun : c.put_cycle.new.text.items ≡ c.self.inside.text.items ++ (right 8 (decimal c.args.t.now.cycle) ++ codes " ") = c.in_ok-put_cycle.ensures.text in
    let put : c.put_event.new.text.items ≡ c.put_cycle.new.text.items ++ what.0 = c.in_ok-put_event.ensures l what.0 shown what.1 in
    let taken = c.in_default.ensures.judged l stood in
    let k : Account = taken.1.0 in
    let after = subst (λ (t : Tables). StandsFor t k) (sym c.tables-2.ensures.same) taken.1.2 in
    let rest : c.put_rest.new.text.items ≡ c.put_cycle.new.text.items ++ rest_of_line what.0 k = c.in_ok-put_rest.ensures.text c.put_cycle.new.text.items what.0 k put size after in
    let told_is : told l c.args.t.now.what ≡ Some what.0 = ap (λ (e : Entry). told l e) c.requires.event ∙ what.1 in
    record {
      clear = taken.0;
      account = k;
      follows = taken.1.1;
      stands = taken.1.2;
      judged = λ n more within. ap (λ (r : HolderState). r.judged) c.self.view_is ∙ sym (ap (λ (e : Entry). entry_judged l e c.args.self.now.judged) c.requires.event);
      text = both_put c.self.inside.text.items c.put_cycle.new.text.items c.put_rest.new.text.items (right 8 (decimal c.args.t.now.cycle) ++ codes " ") (rest_of_line what.0 k) begun rest
          ∙ ap (λ o. c.self.inside.text.items ++ line_of c.args.t.now.cycle o (Some k)) (sym told_is)
          ∙ ap (λ (r : HolderState). r.text ++ line_of c.args.t.now.cycle (told l c.args.t.now.what) (Some k)) c.self.view_is;
    }
