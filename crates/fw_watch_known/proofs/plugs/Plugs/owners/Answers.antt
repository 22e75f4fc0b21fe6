use Rattle.std.proofs.Common.{◌≡◌, ap, sym, ◌∙◌, ◌+◌, ℕ, arith}
use Rattle.fw_watch_known.specs.Channels.{has_output, node_bit, owners_to}
use Rattle.fw_watch_known.proofs.LoopLaws.{no_owners, owners_more, owners_fit}
use Rattle.fw_watch_known.proofs.plugs.Plugs.owners.Goals as goal

pub loop-node-init : goal.loop-node-init
loop-node-init c = sym (no_owners c.args.self.now c.args.channel)

pub overflow_add-owners : goal.overflow_add-owners
overflow_add-owners c =
    let n : ℕ = c.loop-node.node in
    let k : ℕ = c.args.channel in
    let before : c.loop-node.owners ≡ owners_to n c.args.self.now k = c.loop-node.invariant in
    let one : c.node_bit-owners.result ≡ node_bit n (has_output c.args.self.now k n) = c.node_bit-owners.ensures ∙ ap (node_bit n) c.has_output.ensures in
    omega (arith, before, one, owners_more n c.args.self.now k, owners_fit (n + 1) c.args.self.now k (omega arith))

pub loop-node-preserved : goal.loop-node-preserved
loop-node-preserved c =
    let n : ℕ = c.loop-node.node in
    ap (λ (k : ℕ). k + c.node_bit-owners.result) c.loop-node.invariant
    ∙ ap (λ (k : ℕ). owners_to n c.args.self.now c.args.channel + k) (c.node_bit-owners.ensures ∙ ap (node_bit n) c.has_output.ensures)
    ∙ sym (owners_more n c.args.self.now c.args.channel)
