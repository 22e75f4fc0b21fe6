use Rattle.std.proofs.Common.{◌≡◌, ◌∙◌, ap, sym, subst, List, None}
use Rattle.std.specs.List.{position}
use Rattle.fw_log_requests.specs.declared.asked.Asked.{Asked}
use Rattle.fw_trace_requests.specs.Requests.{is_from, AreApart, with_latest}
use Rattle.fw_trace_requests.proofs.RequestLaws.{comes_new, apart_latest}
use Rattle.fw_trace_requests.proofs.requests.Requests.append.Goals as goal

pub invariant_of-self-2 : goal.invariant_of-self-2
invariant_of-self-2 c =
    let q = c.args.q in
    let list = c.self.inside.rows.items in
    let none = subst (λ (l : List Asked). position (is_from q.source q.label) l ≡ None) (sym c.self.view_is) c.requires in
    let is : c.push.new.self.items ≡ with_latest q list = c.in_ok-push.ensures.items ∙ comes_new q list none in
    (subst AreApart (sym is) (apart_latest q list c.self.invariant.0), c.self.invariant.1)

pub returns : goal.returns
returns c =
    let q = c.args.q in
    let list = c.self.inside.rows.items in
    let none = subst (λ (l : List Asked). position (is_from q.source q.label) l ≡ None) (sym c.self.view_is) c.requires in
    let is : c.push.new.self.items ≡ with_latest q list = c.in_ok-push.ensures.items ∙ comes_new q list none in
    c.remember.ensures ∙ is ∙ ap (with_latest q) c.self.view_is
