use Rattle.fw_explore.proofs.Common.{List, ℕ, ap, ◌∙◌}
use Rattle.std.proofs.Common.{is_some, rules, tests}
use Rattle.std.specs.List.{list_all}
use Rattle.std.proofs.lemmas.Iterator.{YieldsList-from_slice}
use Rattle.std.proofs.lemmas.Iterator.Search.{all_from_yields_List}
use Rattle.fw_devices.specs.Network.{device_named}
use Rattle.fw_explore.specs.Outcome.{is_device}
use Rattle.fw_explore.proofs.UnknownLaws.{all_devices}
use Rattle.fw_explore.proofs.unknown.is_known.Goals as goal

pub returns : goal.returns
returns c =
    let names = c.args.machine.now.devices.names in
    let ran = all_from_yields_List (is_device names) _ _ c.all.result c.all.ensures.ran (YieldsList-from_slice c.names_of.result cc) (λ x b q k. search (rules, tests)) in
    ran ∙ all_devices names c.names_of.result ∙ ap (λ (ns : List (List ℕ)). list_all (λ name. is_some (device_named names name)) ns) c.names_of.ensures
