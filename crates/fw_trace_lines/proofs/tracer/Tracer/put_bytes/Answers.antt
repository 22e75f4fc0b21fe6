use Rattle.std.proofs.Common.{subst}
use Rattle.fw_trace_lines.specs.declared.traffic.Traffic.{Traffic}
use Rattle.fw_trace_lines.specs.Replies.{IsTraffic}
use Rattle.fw_trace_lines.proofs.ReplyLaws.{reply_put, request_put, request_kept, response_kept}
use Rattle.fw_trace_lines.proofs.tracer.Tracer.put_bytes.Goals as goal

pub returns-in-Request-clause-text : goal.returns-in-Request-clause-text
returns-in-Request-clause-text c = λ p s.
    let G : Traffic → Type 0 = λ t. IsTraffic t p in
    let told = subst G c.in-Request.is (c.of.ensures p (c.glance_at.ensures p s)) in
    request_put c.put_request.result c.args.self.now c.put_request.new.self c.args.cycle p told.0 c.put_request.ensures.text

pub returns-in-Request-clause-kept : goal.returns-in-Request-clause-kept
returns-in-Request-clause-kept c = λ p s.
    let G : Traffic → Type 0 = λ t. IsTraffic t p in
    let told = subst G c.in-Request.is (c.of.ensures p (c.glance_at.ensures p s)) in
    request_kept c.put_request.result c.args.self.now c.put_request.new.self c.args.cycle p c.in-Request.q c.in-Request.carried told.1 told.2 c.put_request.ensures.kept

pub returns-in-Response-clause-text : goal.returns-in-Response-clause-text
returns-in-Response-clause-text c = λ p s.
    let G : Traffic → Type 0 = λ t. IsTraffic t p in
    let told = subst G c.in-Response.is (c.of.ensures p (c.glance_at.ensures p s)) in
    reply_put c.put_answer.result c.args.self.now c.put_answer.new.self c.args.cycle p c.in-Response.r told.0 c.put_answer.ensures.text

pub returns-in-Response-clause-kept : goal.returns-in-Response-clause-kept
returns-in-Response-clause-kept c = λ p s.
    let G : Traffic → Type 0 = λ t. IsTraffic t p in
    let told = subst G c.in-Response.is (c.of.ensures p (c.glance_at.ensures p s)) in
    response_kept c.put_answer.result c.args.self.now c.put_answer.new.self c.args.cycle p told.1 c.put_answer.ensures.kept

pub returns-in-Silent-clause-text : goal.returns-in-Silent-clause-text
returns-in-Silent-clause-text c = λ p s.
    let G : Traffic → Type 0 = λ t. IsTraffic t p in
    let told = subst G c.in-Silent.is (c.of.ensures p (c.glance_at.ensures p s)) in
    request_put c.put_silent.result c.args.self.now c.put_silent.new.self c.args.cycle p told.0 c.put_silent.ensures.text

pub returns-in-Silent-clause-kept : goal.returns-in-Silent-clause-kept
returns-in-Silent-clause-kept c = λ p s.
    let G : Traffic → Type 0 = λ t. IsTraffic t p in
    let told = subst G c.in-Silent.is (c.of.ensures p (c.glance_at.ensures p s)) in
    response_kept c.put_silent.result c.args.self.now c.put_silent.new.self c.args.cycle p told.1 c.put_silent.ensures.kept
