use Rattle.std.proofs.Common.{◌++◌, ◌∙◌, ℕ, List, [], ◌∷◌, ap}
use Rattle.std.proofs.lemmas.Result.{on_ok_weaker}
use Rattle.std.specs.Prelude.{codes}
use Rattle.fw_trace_names.specs.CausedLines.{at_cycle}
use Rattle.fw_trace_names.specs.Names.{id_text}
use Rattle.fw_trace_requests.specs.Answers.{asked_text}
use Rattle.fw_trace_requests.specs.Replies.{reply_text}
use Rattle.fw_trace_requests.specs.Carried.{frame_told}
use Rattle.fw_trace_requests.specs.Held.{joined_with}
use Rattle.fw_trace_requests.proofs.RowLaws.{line_put}
use Rattle.fw_trace_requests.proofs.held.Bare.put_joined_pieces.Goals as goal

pub returns : goal.returns
unfolding joined_with
returns c =
    let n = c.args.names.now in
    let h = c.args.self.now in
    let q = h.asked in
    let more : List ℕ = reply_text n q c.args.r.now in
    let told : List ℕ = asked_text q ++ (frame_told h.carried ++ more) in
    on_ok_weaker c.put_word.result
    (λ e. e ∙ ap (λ (x : List ℕ). x ++ 10 ∷ []) (c.in_ok-put_replied.ensures ∙ ap (λ (x : List ℕ). x ++ told) c.in_ok-put_ends.ensures)
    ∙ line_put c.args.text.now.items (at_cycle h.cycle) (id_text n q.source) (codes " <-> ") (id_text n q.destination) (codes " ") (asked_text q) (frame_told h.carried) more (10 ∷ []))
    c.put_word.ensures
