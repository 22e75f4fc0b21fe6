use Rattle.std.proofs.Common.{◌≡◌, ◌++◌, ◌∷◌, ◌∙◌, ℕ, List, [], length, take, drop, suc, arith, ap, refl, sym, add-one}
use Rattle.std.proofs.lemmas.List.{append-nil}
use Rattle.fw_page.specs.Marks.{marked}
use Rattle.fw_page.proofs.MarkLaws.{to_feed, no_feed, one_mark, all_of}
use Rattle.fw_page.proofs.marks.first_line.Goals as goal

pub returns-in-Some-clause-line : goal.returns-in-Some-clause-line
returns-in-Some-clause-line c m =
    let text = c.args.text.now in
    let place = c.in-Some.place in
    let found = c.in-Some.ensures in
    one_mark m text c.requires
    ∙ ap (λ (l : List ℕ). m ∷ l) (to_feed m text place found.0.high found.1 (λ j low. found.0.before j (omega arith) low)
    ∙ ap (λ (k : ℕ). take k text ++ marked m (drop k text)) (sym (add-one place)))

pub returns-in-None-clause-line : goal.returns-in-None-clause-line
returns-in-None-clause-line c m =
    let text = c.args.text.now in
    one_mark m text c.requires
    ∙ ap (λ (l : List ℕ). m ∷ l) (no_feed m text (λ j low. c.in-None.ensures j (omega arith) low) ∙ all_of m text)
