use Rattle.std.proofs.Common.{◌∙◌, ap, map, false}
use Rattle.fw_plug.specs.Plugs.{RowWords, words_of, lingering_of, plug_after_second}
use Rattle.fw_plug.proofs.Rows.{changed, words_after_second, lingering_after_second}
use Rattle.fw_plug.proofs.row.Row.second_over.Goals as goal

pub returns-clause-words : goal.returns-clause-words
returns-clause-words c =
    ap (λ xs. words_of xs) (changed plug_after_second c.self.inside.plugs.items c.as_mut_slice.result.now c.end_second_of_each.new.plugs c.as_mut_slice.ensures.value c.end_second_of_each.ensures)
    ∙ words_after_second c.self.inside.plugs.items ∙ ap (λ (v : RowWords). v.words) c.self.view_is

pub returns-clause-lingering : goal.returns-clause-lingering
returns-clause-lingering c =
    ap (λ xs. lingering_of xs) (changed plug_after_second c.self.inside.plugs.items c.as_mut_slice.result.now c.end_second_of_each.new.plugs c.as_mut_slice.ensures.value c.end_second_of_each.ensures)
    ∙ lingering_after_second c.self.inside.plugs.items ∙ ap (λ (v : RowWords). map (λ l. false) v.lingering) c.self.view_is
