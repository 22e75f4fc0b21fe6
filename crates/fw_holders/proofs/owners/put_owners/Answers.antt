use Rattle.fw_holders.proofs.Common.{◌≡◌, ◌++◌, OnOk, List, ℕ, length, slice_index, codes, subst, counts_below}
use Rattle.fw_holders.specs.Table.{with_count}
use Rattle.fw_holders.proofs.PlugLaws.{owners_same}
use Rattle.fw_holders.proofs.owners.put_owners.Goals as goal

pub returns : goal.returns
returns c = λ s h e.
    let before : List ℕ = c.args.text.now.items in
    let size : length before ≡ c.len-from.result = cc in
    let counts : List ℕ = counts_below 63 c.args.nodes.now (slice_index c.args.seats.now.counts) in
    let counted = c.in_ok-put_counts.ensures size in
    let dead = c.in_ok-put_dead.ensures before counts counted size in
    subst (λ (x : List ℕ). OnOk c.put_broadcast.result (c.put_broadcast.new.text.items ≡ before ++ x))
    (owners_same c.args.nodes.now c.args.seats.now s c.orphaned.result h (c.orphaned.ensures s h e))
    (c.put_broadcast.ensures before (with_count c.orphaned.result (codes "the dead") counts) dead size)
