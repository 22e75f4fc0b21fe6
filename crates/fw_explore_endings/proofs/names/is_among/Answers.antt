use Rattle.std.proofs.Common.{◌≡◌, ◌∙◌, rules, tests}
use Rattle.std.specs.List.{list_any}
use Rattle.std.proofs.lemmas.Iterator.{YieldsList-from_slice}
use Rattle.std.proofs.lemmas.Iterator.Search.{any_from_yields_List}
use Rattle.fw_explore_endings.specs.Texts.{is_name}
use Rattle.fw_explore_endings.proofs.NamesLaws.{any_name}
use Rattle.fw_explore_endings.proofs.names.is_among.Goals as goal

pub returns : goal.returns
returns c =
    let among : c.any.result ≡ list_any (is_name c.args.name.now) c.args.names.now =
    any_from_yields_List (is_name c.args.name.now) _ _ c.any.result c.any.ensures.ran (YieldsList-from_slice c.args.names.now cc) (λ x b q k. search (rules, tests)) in
    among ∙ any_name c.args.name.now c.args.names.now
