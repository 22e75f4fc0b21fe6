use Rattle.fw_devices.proofs.Common.{◌≡◌, ◌<◌, ◌∙◌, ℕ, [], length, get_or, true, arith, sym, ap, subst, same_bytes}
use Rattle.std.specs.List.{position_or_len}
use Rattle.std.proofs.lemmas.List.{get_or_default}
use Rattle.fw_devices.proofs.NameLaws.{found}
use Rattle.fw_devices.proofs.names.Names.find.Goals as goal

pub returns-then-same_name-clause-value : goal.returns-then-same_name-clause-value
returns-then-same_name-clause-value c =
    let names = c.self.inside.list.items in
    let place = c.seen-place.result in
    let low : place < length names = omega arith in
    let read : c.index.result.now ≡ get_or names place [] = c.index.ensures ∙ get_or_default names place c.index.result.now [] low in
    let same : same_bytes c.args.name.now (get_or names place []) ≡ true = ap (same_bytes c.args.name.now) (sym read) ∙ sym c.same_name.ensures ∙ c.if-same_name.true in
    let P : ℕ → Type 0 = λ p. p < length names → position_or_len (same_bytes (get_or names p [])) names ≡ p in
    let first : P place = subst P (sym c.seen-place.ensures) (c.self.invariant.first c.key_of.result) in
    rw (← c.self.view_is) (found c.args.name.now names place same low (first low))
