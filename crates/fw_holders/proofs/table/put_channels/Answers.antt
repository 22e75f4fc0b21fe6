use Rattle.fw_holders.proofs.Common.{◌++◌, ◌∙◌, ap, sym, List, ℕ, append-nil, nodes_of, channel_lines}
use Rattle.std.proofs.Common.{append_assoc}
use Rattle.fw_holders.specs.Table.{channel_line}
use Rattle.fw_holders.specs.Held.{holding}
use Rattle.fw_holders.proofs.HoldingLaws.{nodes_shown}
use Rattle.fw_holders.proofs.HeldLaws.{no_lines, next_line}
use Rattle.fw_holders.proofs.table.put_channels.Goals as goal

pub loop-channel-init : goal.loop-channel-init
loop-channel-init c = λ l h. rw (no_lines l) (sym (append-nil c.args.text.now.items))

pub loop-channel-preserved : goal.loop-channel-preserved
loop-channel-preserved c = λ l h.
    let before : List ℕ = c.args.text.now.items in
    let ch : ℕ = c.loop-channel.channel in
    let told : List ℕ = channel_lines ch l in
    c.in_ok-put_channel.ensures
    ∙ ap (λ nodes. c.loop-channel.text.items ++ channel_line nodes ch c.taken_on.result) (c.as_slice-nodes.ensures.value ∙ nodes_shown c.args.tables.now l h)
    ∙ ap (λ x. c.loop-channel.text.items ++ channel_line (nodes_of l.latest) ch x) (c.taken_on.ensures l h)
    ∙ ap (λ (x : List ℕ). x ++ channel_line (nodes_of l.latest) ch (holding l ch)) (c.loop-channel.invariant l h)
    ∙ append_assoc before told _
    ∙ ap (λ (x : List ℕ). before ++ x) (sym (next_line ch l))
