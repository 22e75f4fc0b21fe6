use Rattle.fw_devices.proofs.Common.{ℕ, List, Option, subst, sym, ◌∙◌}
use Rattle.fw_devices.specs.Streams.{AreTalkers}
use Rattle.fw_devices.proofs.TalkLaws.{talkers_none, talkers_skip, talkers_more, talkers_all}
use Rattle.fw_devices.proofs.devices.Devices.talkers.Goals as goal
use Rattle.fw_devices.proofs.devices.Devices.talkers.Goals.{in-Some, in_default}

pub loop-device-init : goal.loop-device-init
loop-device-init c = subst (λ (ts : List (Option ℕ)). AreTalkers 0 c.args.self.now.nodes ts) (sym c.new-talkers.ensures) (talkers_none c.args.self.now.nodes)

pub loop-device-preserved : goal.loop-device-preserved
loop-device-preserved c = elim c.match-talking_on.branch [
  | in-Some w ↦ rw (w.talkers-is, w.enter.ensures)
      (talkers_more _ _ _ _ (rw w.in-Some.is at c.talking_on.ensures.range) (sym c.talking_on.ensures.value ∙ w.in-Some.is) c.loop-device.invariant)
  | in_default w ↦ rw w.talkers-is (talkers_skip _ _ _ (sym c.talking_on.ensures.value ∙ w.in_default.is) c.loop-device.invariant)
]

pub returns : goal.returns
returns c = talkers_all _ _ _ (rw c.count-device-end.ensures.nodes at c.loop-device-test.false) (rw c.count-device-end.ensures.nodes at c.loop-device.auto.device-end) c.loop-device.invariant
