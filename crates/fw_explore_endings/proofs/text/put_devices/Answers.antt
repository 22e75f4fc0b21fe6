use Rattle.std.proofs.Common.{◌≡◌, ◌++◌, ℕ, List, [], length, get_or, sym, ap, ◌∙◌, arith}
use Rattle.std.proofs.lemmas.List.{get_or_read}
use Rattle.fw_explore_endings.specs.Texts.{device_line, devices_text, names_device}
use Rattle.fw_explore_endings.proofs.GrowLaws.{no_device, device_named, device_unnamed}
use Rattle.fw_explore_endings.proofs.text.put_devices.Goals as goal
use Rattle.fw_explore_endings.proofs.text.put_devices.Goals.{then-names_device+in_ok-put_device, else-names_device}

pub loop-device-init : goal.loop-device-init
loop-device-init c = no_device c.args.movers.now c.args.names.now c.args.out.now.items

pub loop-device-preserved : goal.loop-device-preserved
loop-device-preserved c =
    let movers = c.args.movers.now in
    let names = c.args.names.now in
    let d = c.loop-device.device in
    let out = c.loop-device.out.items in
    let at : c.index-names-device.result ≡ get_or c.args.names.now c.loop-device.device [] = get_or_read c.args.names.now _ _ (omega arith) c.index-names-device.is [] in
    elim c.if-names_device.branch [
      | then-names_device+in_ok-put_device w ↦
          device_named movers names d c.args.out.now.items out c.if-names_device.out.items (ap (names_device movers) (sym at) ∙ sym w.if-names_device.ensures) c.loop-device.invariant
          (ap (λ v. v.items) w.out-is ∙ w.in_ok-put_device.ensures ∙ ap (λ (n : List ℕ). out ++ device_line d n) at)
      | else-names_device w ↦
          ap (λ v. v.items) w.out-is
          ∙ device_unnamed movers names d c.args.out.now.items out (ap (names_device movers) (sym at) ∙ sym w.if-names_device.ensures) c.loop-device.invariant
    ]

pub returns : goal.returns
returns c =
    let all : c.loop-device.device ≡ length c.args.names.now = omega arith in
    c.loop-device.invariant ∙ ap (λ (n : ℕ). c.args.out.now.items ++ devices_text c.args.movers.now c.args.names.now n) all
