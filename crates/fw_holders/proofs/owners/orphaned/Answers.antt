use Rattle.fw_holders.proofs.Common.{◌≡◌, ◌+◌, ◌≤◌, ◌<◌, ℕ, slice_index, arith, sum_to}
use Rattle.fw_holders.proofs.EndsLaws.{no_sum, next_sum}
use Rattle.fw_holders.proofs.PlugLaws.{sum_grows}
use Rattle.fw_holders.proofs.owners.orphaned.Goals as goal

pub loop-device-init : goal.loop-device-init
loop-device-init c = λ s h e. let none = no_sum s.counts in omega arith

pub loop-device-preserved : goal.loop-device-preserved
loop-device-preserved c = λ s h e.
    let d : ℕ = c.loop-device.device in
    let low : d < 63 = c.loop-device-test.true in
    let before = c.loop-device.invariant s h e in
    let here : slice_index c.args.seats.now.counts d ≡ s.counts d = h.counts d low in
    let next : sum_to (d + 1) s.counts ≡ sum_to d s.counts + s.counts d = next_sum d s.counts in
    let most : sum_to (d + 1) s.counts ≤ sum_to 63 s.counts = sum_grows s.counts (d + 1) 63 (omega arith) in
    omega (arith, c.saturating_sub-orphaned.ensures)
