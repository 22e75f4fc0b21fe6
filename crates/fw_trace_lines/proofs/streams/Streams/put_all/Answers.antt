use Rattle.std.proofs.Common.{◌++◌, List, ℕ, ap, sym, ◌∙◌, append-nil}
use Rattle.fw_trace_lines.proofs.LoopLaws.{silent_text}
use Rattle.fw_trace_lines.proofs.streams.Streams.put_all.Goals as goal

pub returns-then-not-self : goal.returns-then-not-self
returns-then-not-self c =
    let silent = sym c.self.view_is ∙ c.self.invariant.1 c.if-not-self.true in
    sym (ap (λ (t : List ℕ). c.args.text.now.items ++ t) (silent_text c.args.names.now c.args.cycle c.args.self.now silent) ∙ append-nil c.args.text.now.items)
