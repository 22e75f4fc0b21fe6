use Rattle.fw_holders.proofs.Common.{◌++◌, ◌∙◌, ap, sym, List, ℕ, append-nil, at_plug, output_line, lines_below}
use Rattle.fw_holders.proofs.TextLaws.{both_put}
use Rattle.fw_holders.proofs.PlugLaws.{no_plugs, next_plug}
use Rattle.fw_holders.proofs.plugs.put_outputs.Goals as goal

pub loop-plug-init : goal.loop-plug-init
loop-plug-init c = λ l h. rw (no_plugs c.args.device (output_line l)) (sym (append-nil c.args.text.now.items))

pub loop-plug-preserved : goal.loop-plug-preserved
loop-plug-preserved c = λ l h.
    let before : List ℕ = c.args.text.now.items in
    both_put before c.loop-plug.text.items _ (lines_below c.loop-plug.plug c.args.device (output_line l)) (output_line l (at_plug c.args.device c.loop-plug.plug))
    (c.loop-plug.invariant l h) (c.in_ok-put_output.ensures l h)
    ∙ ap (λ (x : List ℕ). before ++ x) (sym (next_plug c.loop-plug.plug c.args.device (output_line l)))
