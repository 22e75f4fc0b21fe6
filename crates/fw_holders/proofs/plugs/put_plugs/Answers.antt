use Rattle.fw_holders.proofs.Common.{◌++◌, ◌∙◌, ap, sym, List, ℕ, append-nil, output_line, input_line, lines_below, plug_lines}
use Rattle.fw_holders.proofs.TextLaws.{both_put}
use Rattle.fw_holders.proofs.PlugLaws.{no_devices, next_device}
use Rattle.fw_holders.proofs.plugs.put_plugs.Goals as goal

pub loop-device-init : goal.loop-device-init
loop-device-init c = λ l h. rw (no_devices l) (sym (append-nil c.args.text.now.items))

pub loop-device-preserved : goal.loop-device-preserved
loop-device-preserved c = λ l h.
    let before : List ℕ = c.args.text.now.items in
    let d : ℕ = c.loop-device.device in
    let outs = both_put before c.loop-device.text.items _ (plug_lines d l) (lines_below 31 d (output_line l)) (c.loop-device.invariant l h) (c.in_ok-put_outputs.ensures l h) in
    both_put before _ _ (plug_lines d l ++ lines_below 31 d (output_line l)) (lines_below 31 d (input_line l)) outs (c.in_ok-put_inputs.ensures l h)
    ∙ ap (λ (x : List ℕ). before ++ x) (sym (next_device d l))
