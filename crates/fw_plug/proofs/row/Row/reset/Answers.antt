use Rattle.std.proofs.Common.{◌≡◌, ◌∙◌, ap, map, subst, sym}
use Rattle.fw_plug.specs.Kept.{AreReset}
use Rattle.fw_plug.specs.Plugs.{RowWords, words_of, lingering_of, active, disconnected, plug_after_reset}
use Rattle.fw_plug.proofs.Rows.{changed, words_after_reset, lingering_after_reset, reset_twice, words_kept, lingering_kept}
use Rattle.fw_plug.proofs.row.Row.reset.Goals as goal

pub returns-then-self-clause-words : goal.returns-then-self-clause-words
returns-then-self-clause-words c =
    let P : RowWords → Type 0 = λ v. v.words ≡ map disconnected v.words in
    subst P c.self.view_is (words_kept c.self.inside.plugs.items (c.self.invariant c.if-self.true))

pub returns-then-self-clause-lingering : goal.returns-then-self-clause-lingering
returns-then-self-clause-lingering c =
    let P : RowWords → Type 0 = λ v. v.lingering ≡ active v.words v.lingering in
    subst P c.self.view_is (lingering_kept c.self.inside.plugs.items (c.self.invariant c.if-self.true))

pub returns-clause-words : goal.returns-clause-words
returns-clause-words c =
    ap (λ xs. words_of xs) (changed plug_after_reset c.self.inside.plugs.items c.as_mut_slice.result.now c.reset_each.new.plugs c.as_mut_slice.ensures.value c.reset_each.ensures)
    ∙ words_after_reset c.self.inside.plugs.items ∙ ap (λ (v : RowWords). map disconnected v.words) c.self.view_is

pub returns-clause-lingering : goal.returns-clause-lingering
returns-clause-lingering c =
    ap (λ xs. lingering_of xs) (changed plug_after_reset c.self.inside.plugs.items c.as_mut_slice.result.now c.reset_each.new.plugs c.as_mut_slice.ensures.value c.reset_each.ensures)
    ∙ lingering_after_reset c.self.inside.plugs.items ∙ ap (λ (v : RowWords). active v.words v.lingering) c.self.view_is

pub invariant_of-self : goal.invariant_of-self
invariant_of-self c = λ _.
    subst AreReset (sym (changed plug_after_reset c.self.inside.plugs.items c.as_mut_slice.result.now c.reset_each.new.plugs c.as_mut_slice.ensures.value c.reset_each.ensures))
    (reset_twice c.self.inside.plugs.items)
