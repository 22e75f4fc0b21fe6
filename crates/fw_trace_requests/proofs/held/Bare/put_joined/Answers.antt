use Rattle.std.proofs.Common.{◌∙◌, ℕ, List, [], ◌∷◌}
use Rattle.std.proofs.lemmas.Result.{on_ok_weaker}
use Rattle.std.specs.Prelude.{codes}
use Rattle.fw_trace_names.specs.CausedLines.{at_cycle}
use Rattle.fw_trace_names.specs.Names.{id_text}
use Rattle.fw_trace_requests.specs.Answers.{asked_text}
use Rattle.fw_trace_requests.specs.Replies.{reply_text}
use Rattle.fw_trace_requests.specs.Carried.{frame_told}
use Rattle.fw_trace_requests.specs.Held.{joined_with}
use Rattle.fw_trace_requests.proofs.RowLaws.{line_whole}
use Rattle.fw_trace_requests.proofs.held.Bare.put_joined.Goals as goal

pub returns-in-Some : goal.returns-in-Some
unfolding joined_with
returns-in-Some c =
    let n = c.args.names.now in
    let h = c.args.self.now in
    let q = h.asked in
    let more : List ℕ = reply_text n q c.args.r.now in
    let told = c.in-Some.ensures in
    on_ok_weaker c.put_whole_line.result
    (λ e. e
    ∙ line_whole c.args.text.now.items (at_cycle h.cycle) (id_text n q.source) (codes " <-> ") (id_text n q.destination) (codes " ") (asked_text q) (frame_told h.carried) more _ (10 ∷ [])
    (told.1 n))
    c.put_whole_line.ensures
