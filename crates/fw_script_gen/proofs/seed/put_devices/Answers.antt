use Rattle.std.proofs.Common.{◌∙◌, ◌++◌, ap, refl, string_bytes}
use Rattle.fw_script_gen.proofs.GenLaws.{devices_first, devices_more, drawn_is}
use Rattle.fw_script_gen.proofs.seed.put_devices.Goals as goal

pub loop-i-init : goal.loop-i-init
loop-i-init c seed at = (c.in_ok-put_device.ensures ∙ ap (λ t. string_bytes c.args.text.now ++ t) (devices_first seed), at)

pub loop-i-preserved : goal.loop-i-preserved
loop-i-preserved c seed at =
    let i = c.loop-i.invariant seed at in
    let state = c.below-kind.ensures.next seed c.loop-i.i i.1 in (
      devices_more seed c.loop-i.i c.below-kind.result (string_bytes c.args.text.now) (string_bytes c.loop-i.text) (string_bytes c.put_device-in-loop-i.new.text) (string_bytes c.put_cable.new.text)
          i.0 c.in_ok-put_device-2.ensures c.in_ok-put_cable.ensures
          (drawn_is seed c.loop-i.i _ 3 c.below-kind.result c.below-kind.new.self.state c.below-kind.ensures.number state refl),
      state,
    )
