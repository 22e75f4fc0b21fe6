use Rattle.std.proofs.Common.{◌∙◌, ap, string_bytes}
use Rattle.fw_script_gen.specs.Gen.{devices_text, connections_text}
use Rattle.fw_script_gen.proofs.GenLaws.{parts_are, state_first}
use Rattle.fw_script_gen.proofs.seed.gen_script.Goals as goal

pub returns : goal.returns
returns c =
    let seed = c.args.seed in
    let first = state_first seed in
    ap (λ v. v.items) c.into_bytes.ensures.value
    ∙ parts_are (devices_text seed 59) _ (connections_text seed 30) _ (string_bytes c.new-text.result) (string_bytes c.put_devices.new.text) (string_bytes c.push_str.new.self)
    (string_bytes c.put_connections.new.text) (string_bytes c.push_str-2.new.self)
    c.new-text.ensures.bytes (c.in_ok-put_devices.ensures.text seed first) c.in_ok-push_str.ensures.bytes
    (c.in_ok-put_connections.ensures seed (c.in_ok-put_devices.ensures.drawn seed first)) c.in_ok-push_str-2.ensures.bytes
