use Rattle.std.proofs.Common.{◌++◌, ◌∙◌, List, ℕ, ap}
use Rattle.std.proofs.lemmas.Result.{on_ok_weaker}
use Rattle.fw_async.specs.declared.packet.Packet.{Packet}
use Rattle.fw_log_entry.specs.declared.entry.Entry.TheVariants.{Async}
use Rattle.fw_log_explain.specs.Explained.{ExplainerState}
use Rattle.fw_log_explain.specs.Lines.{line}
use Rattle.fw_log_requests.specs.Requests.{standing_following}
use Rattle.fw_log_requests.specs.declared.asked.Asked.{Asked}
use Rattle.fw_log_explainer.proofs.explainer.Explainer.put_bytes.Goals as goal

pub returns-then-is_put-clause-line : goal.returns-then-is_put-clause-line
returns-then-is_put-clause-line c p s =
    let told = c.in_ok-is_put.ensures.told p (c.glance_at-glance.ensures p s) c.if-is_put.true in
    told.text ∙ ap (λ (q : List Asked). c.self.inside.lines ++ line q (record { cycle = c.args.cycle; what = Async p })) c.deref_mut.ensures.value
    ∙ ap (λ (r : ExplainerState). r.text ++ line r.requests (record { cycle = c.args.cycle; what = Async p })) c.self.view_is

pub returns-then-is_put-clause-requests : goal.returns-then-is_put-clause-requests
returns-then-is_put-clause-requests c p s =
    let told = c.in_ok-is_put.ensures.told p (c.glance_at-glance.ensures p s) c.if-is_put.true in
    told.requests ∙ ap (λ (q : List Asked). standing_following p q) c.deref_mut.ensures.value ∙ ap (λ (r : ExplainerState). standing_following p r.requests) c.self.view_is

pub returns-clause-line : goal.returns-clause-line
returns-clause-line c p s =
    let same = c.in_ok-is_put.ensures.other c.if-is_put.false in
    let w : Packet = c.whole_packet.result in
    on_ok_weaker c.put.result
    (λ e. e ∙ ap (λ (l : List ℕ). l ++ line c.put_usual.new.requests (record { cycle = c.args.cycle; what = Async w })) same.0
    ∙ ap (λ (q : List Asked). c.self.inside.lines ++ line q (record { cycle = c.args.cycle; what = Async w })) (same.1 ∙ c.deref_mut.ensures.value)
    ∙ ap (λ (v : Packet). c.self.inside.lines ++ line c.self.inside.requests.value (record { cycle = c.args.cycle; what = Async v })) (c.whole_packet.ensures.same p s)
    ∙ ap (λ (r : ExplainerState). r.text ++ line r.requests (record { cycle = c.args.cycle; what = Async p })) c.self.view_is)
    c.put.ensures.line

pub returns-clause-requests : goal.returns-clause-requests
returns-clause-requests c p s =
    let same = c.in_ok-is_put.ensures.other c.if-is_put.false in
    on_ok_weaker c.put.result
    (λ e. e ∙ ap (λ (q : List Asked). standing_following c.whole_packet.result q) (same.1 ∙ c.deref_mut.ensures.value)
    ∙ ap (λ (v : Packet). standing_following v c.self.inside.requests.value) (c.whole_packet.ensures.same p s)
    ∙ ap (λ (r : ExplainerState). standing_following p r.requests) c.self.view_is)
    c.put.ensures.requests
