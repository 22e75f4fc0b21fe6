use Rattle.std.proofs.Common.{ℕ, List, ◌≡◌, ◌++◌, sym, ap, ◌∙◌, arith, append-nil}
use Rattle.fw_explore_told.specs.Sayings.{said_of}
use Rattle.fw_explore_told.proofs.EndLaws.{all_told}
use Rattle.fw_explore_told.proofs.SayingLaws.{none_said, device_more}
use Rattle.fw_explore_told.proofs.telling.put_said.Goals as goal

pub loop-device-init : goal.loop-device-init
loop-device-init c = c.reserve.ensures.items ∙ sym (ap (λ (z : List ℕ). c.args.out.now.items ++ z) (none_said c.args.said.now) ∙ append-nil c.args.out.now.items)

pub loop-device-preserved : goal.loop-device-preserved
loop-device-preserved c = device_more c.args.said.now c.loop-device.device _ _ _ c.loop-device.invariant c.in_ok-put_device.ensures

pub returns : goal.returns
returns c =
    let last = c.loop-device-test.false in
    let end = c.end_of-device-end.result in
    let within = c.loop-device.auto.device-end in
    let here : c.loop-device.device ≡ end = omega (arith, last, within) in
    let before = c.loop-device.invariant ∙ ap (λ (d : ℕ). c.args.out.now.items ++ said_of d c.args.said.now) here in
    all_told c.put_whose-2.result c.args.said.now end c.args.out.now.items c.loop-device.out.items _ _ c.end_of-device-end.ensures.few c.end_of-device-end.ensures.others before
    c.in_ok-put_whose.ensures c.put_whose-2.ensures
