use Rattle.std.proofs.Common.{◌++◌, ◌+◌, ◌∙◌, ap, sym, append_assoc, slice_index, List, ℕ}
use Rattle.std.proofs.lemmas.List.{append-nil}
use Rattle.fw_log_explain.specs.Resets.{first_ports, port_text}
use Rattle.fw_log_explain.proofs.LoopLaws.{no_ports, next_port}
use Rattle.fw_log_explain.proofs.reset.put_ports.Goals as goal

pub loop-i-init : goal.loop-i-init
loop-i-init c = rw (no_ports c.args.first c.args.ports.now) (sym (append-nil c.args.text.now.items))

pub loop-i-preserved : goal.loop-i-preserved
loop-i-preserved c =
    let before : List ℕ = first_ports c.args.first c.args.ports.now c.loop-i.i in
    let one : List ℕ = port_text (c.args.first + c.loop-i.i) (slice_index c.args.ports.now c.loop-i.i) in
    c.in_ok-put_port.ensures ∙ ap (λ (x : List ℕ). x ++ one) c.loop-i.invariant ∙ append_assoc c.args.text.now.items before one
    ∙ ap (λ (x : List ℕ). c.args.text.now.items ++ x) (sym (next_port c.args.first c.args.ports.now c.loop-i.i))
